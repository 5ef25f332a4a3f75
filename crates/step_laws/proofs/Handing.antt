-- A turn hands on exactly the decisions for which there is room, from where it left off.
use Rattle.std.proofs.Common.{◌≡◌, ℕ, zero, suc, Bool, true, false, not, List, [], ◌∷◌, ◌++◌, Option, Some, None, refl, sym, ap, ◌∙◌, append-nil, append_assoc}
use Rattle.std.specs.Option.{option_map_or}
use Rattle.jp_types.specs.declared.message.Message.{Message}
use Rattle.jp_types.specs.Instances.{Batch}
use Rattle.paxos_world.specs.declared.step.Step.{Step}
use Rattle.paxos_world.specs.Replica.{handed_by}
use Rattle.paxos_world.specs.World.{Deed}
use Rattle.paxos_world.specs.Stage.{Snapshot, Stage, Item, Came, Closed, Tick, Suspect, Snapped, Decision, Act, Show, Send, Hand, Save, Turned}
use Rattle.paxos_world.specs.Writing.{◌▹◌, when, when_some, with_stage, shows, hands, others, sends_to_all}
use Rattle.paxos_world.specs.Logs.{is_known}
use Rattle.paxos_world.specs.Retransmitting.{arms_propose}
use Rattle.paxos_world.specs.Learning.{notes, votes_for, propose_of, launches}
use Rattle.paxos_world.specs.Messages.{on_kind}
use Rattle.paxos_world.specs.Settling.{settles_rejoin, settles_prepared, open_place, launches_waiting, settles_waiting, install_above, handing_of, Handing, next_handing, hands_on}
use Rattle.paxos_world.specs.Turn.{on_item, untouched, turn}
use Rattle.step_laws.specs.Installed.{handings}
use Rattle.step_laws.specs.Laws.{HandsOnExactly}
use Rattle.step_laws.proofs.Launching.{each-leaves}
use Rattle.step_laws.proofs.Installing.{Plain, Joins, k-on_prepare, k-on_prepare_ok, k-on_propose, k-on_accept, k-on_recovery, k-on_recovery_answer, k-on_query, k-on_batches, k-on_part, k-on_alive, k-on_message, k-on_batch, k-on_tick, k-suspect, k-on_snapshot, k-settles}

-- the decisions that acts hand on are those of the first acts and those of the rest
pub handed_by-append : (xs ys : List Act) → handed_by (xs ++ ys) ≡ handed_by xs ++ handed_by ys
handed_by-append [] ys = refl
handed_by-append (Show step ∷ xs) ys = handed_by-append xs ys
handed_by-append (Send to m ∷ xs) ys = handed_by-append xs ys
handed_by-append (Hand d ∷ xs) ys = ap (λ (zs : List Decision). d ∷ zs) (handed_by-append xs ys)
handed_by-append (Save k ∷ xs) ys = handed_by-append xs ys

-- one more act that hands nothing on changes nothing
pub hands-none : (a : Act) (xs : List Act) → handed_by (a ∷ []) ≡ [] → handed_by (xs ++ a ∷ []) ≡ handed_by xs
hands-none a xs e = handed_by-append xs (a ∷ []) ∙ ap (λ (zs : List Decision). handed_by xs ++ zs) e ∙ append-nil (handed_by xs)

-- ---- Up to handing on

-- nothing is handed on yet, and all below this was before
pub record Unhanded (handed : ℕ) (t : Turned) : Type 0 where
  pub none : handed_by t.acts ≡ []
  pub same : t.stage.handed ≡ handed

-- that is kept by each word but those that hand on
pub unhanded-plain : (handed : ℕ) → Plain (Unhanded handed)
unhanded-plain handed =
    record {
      shown = λ step t e h. record { none = hands-none (Show step) t.acts refl ∙ h.none; same = h.same };
      sent = λ to m t h. record { none = hands-none (Send to m) t.acts refl ∙ h.none; same = h.same };
      saved = λ n t h. record { none = hands-none (Save n) t.acts refl ∙ h.none; same = h.same };
      same = λ t u e f h. record { none = ap handed_by e ∙ h.none; same = f ∙ h.same };
    }

-- installing keeps it
pub unhanded-joins : (handed : ℕ) → Joins (Unhanded handed) (unhanded-plain handed)
unhanded-joins handed upto bytes state t h = record { none = hands-none (Show (Step.Install t.stage.config.me upto)) t.acts refl ∙ h.none; same = h.same }

-- what a message's kind asks for keeps it
pub unhanded-kind : (handed : ℕ) (p : ℕ) (m : Message) (t : Turned) → Unhanded handed t → Unhanded handed (on_kind p m t)
unhanded-kind handed p (Message.Prepare m) t h = k-on_prepare (Unhanded handed) (unhanded-plain handed) p m t h
unhanded-kind handed p (Message.PrepareOk m) t h = k-on_prepare_ok (Unhanded handed) (unhanded-plain handed) m t h
unhanded-kind handed p (Message.Propose m) t h = k-on_propose (Unhanded handed) (unhanded-plain handed) p m t h
unhanded-kind handed p (Message.Accept m) t h = k-on_accept (Unhanded handed) (unhanded-plain handed) p m.view m.instance t h
unhanded-kind handed p (Message.Recovery m) t h = k-on_recovery (Unhanded handed) (unhanded-plain handed) p m.mark t h
unhanded-kind handed p (Message.RecoveryAnswer m) t h = k-on_recovery_answer (Unhanded handed) (unhanded-plain handed) m t h
unhanded-kind handed p (Message.CatchUpQuery m) t h = k-on_query (Unhanded handed) (unhanded-plain handed) p m.first t h
unhanded-kind handed p (Message.CatchUpReply m) t h = k-on_batches (Unhanded handed) (unhanded-plain handed) m.first m.batches t h
unhanded-kind handed p (Message.SnapshotPart m) t h = k-on_part (Unhanded handed) (unhanded-plain handed) (unhanded-joins handed) m t h
unhanded-kind handed p (Message.Alive m) t h = k-on_alive (Unhanded handed) (unhanded-plain handed) p m t h

-- what is done with an item keeps it
pub unhanded-item : (handed : ℕ) (item : Item) (t : Turned) → Unhanded handed t → Unhanded handed (on_item item t)
unhanded-item handed (Came from m) t h = k-on_message (Unhanded handed) (unhanded-plain handed) from m (unhanded-kind handed from.replica m) t h
unhanded-item handed (Closed batch) t h = k-on_batch (Unhanded handed) (unhanded-plain handed) batch t h
unhanded-item handed Tick t h = k-on_tick (Unhanded handed) (unhanded-plain handed) t h
unhanded-item handed Suspect t h = k-suspect (Unhanded handed) (unhanded-plain handed) t h
unhanded-item handed (Snapped upto bytes) t h = k-on_snapshot (Unhanded handed) (unhanded-plain handed) upto bytes t h

-- ---- What launches leave

-- the newest snapshot and what is known are as they were
pub record Held (s u : Stage) : Type 0 where
  pub newest : u.newest ≡ s.newest
  pub known : u.life.known ≡ s.life.known

-- a launch leaves them
pub launch-held : (i : ℕ) (batch : Batch) (t : Turned) → Held t.stage (launches i batch t).stage
launch-held i batch t =
    let s = t.stage in
    let view = s.life.view in
    let c = t ▹ shows (Step.Launch s.config.me view i batch) (Deed.Launch view i batch) ▹ votes_for view i batch ▹ notes i view s.config.me (Some batch) in
    let e = each-leaves (others c.stage.config) (propose_of view i batch) c in
    go (not (is_known s i)) (c ▹ sends_to_all (propose_of view i batch)) (ap (λ (x : Stage). x.newest) e) (ap (λ (x : Stage). x.life.known) e)
  where
    go : (b : Bool) (u : Turned) → u.stage.newest ≡ t.stage.newest → u.stage.life.known ≡ t.stage.life.known
        → Held t.stage (when b (arms_propose i (propose_of t.stage.life.view i batch)) u).stage
    go true u e f = record { newest = e; known = f }
    go false u e f = record { newest = e; known = f }

-- launching what waits leaves them
pub waiting-held : (batches : List Batch) (t : Turned) → Held t.stage (launches_waiting batches t).stage
waiting-held [] t = record { newest = refl; known = refl }
waiting-held (batch ∷ batches) t = go (open_place t.stage) (waiting-held batches)
  where
    go : (o : Option ℕ) → ((u : Turned) → Held u.stage (launches_waiting batches u).stage)
        → Held t.stage (when_some o (λ i t. launches_waiting batches (t ▹ with_stage (λ s. record s { waiting = batches }) ▹ launches i batch)) t).stage
    go None rest = record { newest = refl; known = refl }
    go (Some i) rest =
        let u = t ▹ with_stage (λ s. record s { waiting = batches }) in
        let a = launch-held i batch u in
        let b = rest (launches i batch u) in
        record { newest = b.newest ∙ a.newest; known = b.known ∙ a.known }

-- ---- Handing on

-- the next decision is that of the newest snapshot, of what is known and of `handed`
pub next-same : (s u : Stage) → Held s u → next_handing u ≡ next_handing (record s { handed = u.handed })
next-same s u h =
    let newest = h.newest in
    let known = h.known in
    ap (λ (o : Option Snapshot). handing_of (install_above o u.handed) u) newest ∙ go (install_above s.newest u.handed)
  where
    go : (o : Option Snapshot) → handing_of o u ≡ handing_of o (record s { handed = u.handed })
    go None = ap (λ (f : ℕ → Option Batch). handing_of None (record s { life = record s.life { known = f }; handed = u.handed })) h.known
    go (Some snapshot) = refl

-- at most `room` decisions are handed on, from `handed` on
pub hands-adds : (s : Stage) (room : ℕ) (t : Turned) → Held s t.stage → handed_by (hands_on room t).acts ≡ handed_by t.acts ++ handings room s t.stage.handed
hands-adds s zero t h = sym (append-nil (handed_by t.acts))
hands-adds s (suc room) t h =
    ap (λ (o : Option Handing). handed_by (when_some o (λ handing t. hands_on room (t ▹ with_stage (λ s. record s { handed = handing.1 }) ▹ hands handing.0)) t).acts) (next-same s t.stage h)
    ∙ go (next_handing (record s { handed = t.stage.handed })) (hands-adds s room)
  where
    go : (o : Option Handing) → ((u : Turned) → Held s u.stage → handed_by (hands_on room u).acts ≡ handed_by u.acts ++ handings room s u.stage.handed)
        → handed_by (when_some o (λ handing t. hands_on room (t ▹ with_stage (λ s. record s { handed = handing.1 }) ▹ hands handing.0)) t).acts
        ≡ handed_by t.acts ++ option_map_or (λ handing. handing.0 ∷ handings room s handing.1) o []
    go None rest = sym (append-nil (handed_by t.acts))
    go (Some handing) rest =
        let u = t ▹ with_stage (λ s. record s { handed = handing.1 }) ▹ hands handing.0 in
        rest u (record { newest = h.newest; known = h.known })
        ∙ ap (λ (zs : List Decision). zs ++ handings room s handing.1) (handed_by-append t.acts (Hand handing.0 ∷ []))
        ∙ append_assoc (handed_by t.acts) (handing.0 ∷ []) (handings room s handing.1)

-- a turn hands on exactly the decisions for which there is room, from where it left off
pub hands_on_exactly : HandsOnExactly
unfolding turn
hands_on_exactly s item room =
    let t1 = untouched s ▹ on_item item in
    let t3 = t1 ▹ settles_rejoin ▹ settles_prepared in
    let t4 = t3 ▹ settles_waiting in
    let a = unhanded-item s.handed item (untouched s) (record { none = refl; same = refl }) in
    let b = k-settles (Unhanded s.handed) (unhanded-plain s.handed) t1 a in
    hands-adds t3.stage room t4 (waiting-held t3.stage.waiting t3)
    ∙ ap (λ (xs : List Decision). xs ++ handings room t3.stage t4.stage.handed) b.none
    ∙ ap (λ (handed : ℕ). handings room t3.stage handed) b.same

-- A turn sends exactly what its item makes it send, and then the proposal of each launch; and the Retransmitter sends exactly the claimed message.
use Rattle.std.proofs.Common.{◌≡◌, ℕ, zero, suc, ◌-◌, max, Bool, true, false, ◌&&◌, not, List, [], ◌∷◌, ◌++◌, length, nat_lt, nat_le, ◌==◌, Option, Some, None, if◌then◌else◌, refl, sym, ap, ◌∙◌, arith, append-nil, append_assoc}
use Rattle.std.proofs.lemmas.Bool.Decides.{nat_tests}
use Rattle.std.specs.Option.{option_map}
use Rattle.jp_types.specs.declared.message.Message.{Message}
use Rattle.jp_types.specs.Instances.{Batch}
use Rattle.jp_types.specs.Reports.{decided_below}
use Rattle.jp_types.specs.Views.{next_led}
use Rattle.paxos_world.specs.declared.step.Step.{Step}
use Rattle.paxos_world.specs.Counting.{is_recovering}
use Rattle.paxos_world.specs.Life.{LifeId, Taken, Lead, Leading, No, Preparing, Leads}
use Rattle.paxos_world.specs.World.{Deed, lead_of}
use Rattle.paxos_world.specs.Stage.{Config, setup_of, Stage, Item, Came, Closed, Tick, Suspect, Snapped, Outgoing, Turned}
use Rattle.paxos_world.specs.Writing.{◌▹◌, when, when_some, for_range, with_stage, does, shows, others, sends_to_all, says_to_all}
use Rattle.paxos_world.specs.Logs.{first_undecided, is_known}
use Rattle.paxos_world.specs.Retransmitting.{claim, cursor_after, arms_propose, cancels_prepare}
use Rattle.paxos_world.specs.Leading.{works, leads, leads_own, is_leading, suspect}
use Rattle.paxos_world.specs.Learning.{horizon_to, notes, learns, votes_for, propose_of, launches}
use Rattle.paxos_world.specs.CatchingUp.{place_of}
use Rattle.paxos_world.specs.Messages.{prepares, on_kind, on_message}
use Rattle.paxos_world.specs.Settling.{settles_rejoin, is_prepared, adoption_end, adopts, becomes_prepared, settles_leading, settles_prepared, open_place, launches_waiting, settles_waiting, hands_on}
use Rattle.paxos_world.specs.Turn.{quiet_limit, waiting_limit, alive_of, counts_quiet, on_tick_working, on_tick, on_item, untouched, repeats, retransmit, turn}
use Rattle.step_laws.specs.Kinds.{shown_where, is_launch, sent_in}
use Rattle.step_laws.specs.Sent.{to_each, phase_1_sends, message_sends, query_sends, sent_by, proposals_of}
use Rattle.step_laws.specs.Laws.{SendsExactly, RepeatsExactly}
use Rattle.step_laws.specs.Views.{entered_view}
use Rattle.step_laws.proofs.Launching.{launch-calm, launches-adds}
use Rattle.step_laws.proofs.Quieting.{Calmly, calm-shows}
use Rattle.step_laws.proofs.QuietItems.{calm-item, calm-rejoin, calm-adopted, calm-hands_on}
use Rattle.step_laws.proofs.Raising.{says_to_all-stage}
use Rattle.step_laws.proofs.SendingWords.{silent-shows, silent-when, silent-some, silent-learns, silent-learn_check, silent-on_batches, silent-on_part, silent-hands_on, silent-rejoin, adds-says_each, adds-says_to_all, adds-sends_to_all, told, ok_to, ok-told, due_query, due-told, suspect-sends, phase-same, no-phase}
use Rattle.step_laws.proofs.SentItems.{prepare-sends, recovery-sends, alive-sends, propose-sends, query-sends, query-same, due-sends, suspect-told}

-- ---- The Retransmitter

-- the Retransmitter sends exactly the message of the first live slot from the cursor on
pub repeats_exactly : RepeatsExactly
unfolding retransmit
repeats_exactly s cursor = go (claim s.slots cursor)
  where
    go : (o : Option (ℕ × Outgoing))
        → option_map {U = ℕ × List (ℕ × Message)} (λ found. (found.0, sent_in found.1.acts)) (option_map {U = ℕ × Turned} (λ found. (cursor_after found.0, untouched s ▹ repeats found.1)) o)
        ≡ option_map (λ found. (cursor_after found.0, to_each found.1.to found.1.message)) o
    go None = refl
    go (Some found) = ap (λ (xs : List (ℕ × Message)). Some (cursor_after found.0, xs)) (adds-says_each found.1.to found.1.message (untouched s))

-- ---- A tick

-- a counted tick leaves what the messages tell
pub counts-told : (t : Turned) → told (counts_quiet t).stage ≡ told t.stage
counts-told t = go (suc t.stage.quiet == quiet_limit)
  where
    u : Turned
    u = with_stage (λ s. record s { quiet = suc t.stage.quiet }) t

    go : (b : Bool) → told (when b suspect u).stage ≡ told t.stage
    go true = suspect-told u
    go false = refl

-- what a tick makes a Working stage do leaves it
pub working-told : (t : Turned) → told (on_tick_working t).stage ≡ told t.stage
working-told t = go (leads_own t.stage) (nat_lt t.stage.quiet quiet_limit)
  where
    go : (own lt : Bool) → told (t ▹ when own (says_to_all (alive_of t.stage)) ▹ when (not own && lt) counts_quiet).stage ≡ told t.stage
    go true lt = ap told (says_to_all-stage (others t.stage.config) (alive_of t.stage) t)
    go false true = counts-told t
    go false false = refl

-- what a tick makes any stage do up to the query leaves it
pub ticked-told : (t : Turned) → told (when (works t.stage) on_tick_working t).stage ≡ told t.stage
ticked-told t = go (works t.stage)
  where
    go : (w : Bool) → told (when w on_tick_working t).stage ≡ told t.stage
    go true = working-told t
    go false = refl

-- a counted tick at a Working stage sends the Prepare, where it is the last that the stage waits for its leader
pub counts-sends : (t : Turned) → works t.stage ≡ true → sent_in (when (nat_lt t.stage.quiet quiet_limit) counts_quiet t).acts
    ≡ sent_in t.acts ++ phase_1_sends t.stage (if suc t.stage.quiet == quiet_limit then next_led t.stage.config.n t.stage.config.me t.stage.life.view else None)
counts-sends t w = go (nat_lt t.stage.quiet quiet_limit) (suc t.stage.quiet == quiet_limit) refl refl
  where
    next : Option ℕ
    next = next_led t.stage.config.n t.stage.config.me t.stage.life.view

    u : Turned
    u = with_stage (λ s. record s { quiet = suc t.stage.quiet }) t

    go : (lt eq : Bool) → nat_lt t.stage.quiet quiet_limit ≡ lt → (suc t.stage.quiet == quiet_limit) ≡ eq → sent_in (when lt counts_quiet t).acts
        ≡ sent_in t.acts ++ phase_1_sends t.stage (if eq then next else None)
    go true true e f =
        ap (λ (b : Bool). sent_in (when b suspect u).acts) f ∙ suspect-sends u ∙ ap (λ (b : Bool). sent_in t.acts ++ phase_1_sends u.stage (if b then next else None)) w
        ∙ ap (λ (zs : List (ℕ × Message)). sent_in t.acts ++ zs) (phase-same t.stage u.stage next refl refl refl refl)
    go true false e f = ap (λ (b : Bool). sent_in (when b suspect u).acts) f ∙ sym (append-nil (sent_in t.acts))
    go false true e f = absurd (grind (arith, nat_tests))
    go false false e f = sym (append-nil (sent_in t.acts))

-- the Alive of a leader
abbrev pub alives : Stage → List (ℕ × Message)
alives s = if works s && leads_own s then to_each (others s.config) (alive_of s) else []

-- up to the query, a tick makes a leader send Alive, and another the Prepare of a view that it enters
pub ticked-sends : (t : Turned) → sent_in (when (works t.stage) on_tick_working t).acts ≡ sent_in t.acts ++ (alives t.stage ++ phase_1_sends t.stage (entered_view t.stage Tick))
ticked-sends t = go (works t.stage) refl
  where
    next : Option ℕ
    next = next_led t.stage.config.n t.stage.config.me t.stage.life.view

    alive : List (ℕ × Message)
    alive = to_each (others t.stage.config) (alive_of t.stage)

    working : (own : Bool) → works t.stage ≡ true → sent_in (t ▹ when own (says_to_all (alive_of t.stage)) ▹ when (not own && nat_lt t.stage.quiet quiet_limit) counts_quiet).acts
        ≡ sent_in t.acts ++ ((if own then alive else []) ++ phase_1_sends t.stage (if not own && (suc t.stage.quiet == quiet_limit) then next else None))
    working true w = adds-says_to_all (alive_of t.stage) t ∙ ap (λ (zs : List (ℕ × Message)). sent_in t.acts ++ zs) (sym (append-nil alive))
    working false w = counts-sends t w

    go : (w : Bool) → works t.stage ≡ w → sent_in (when w on_tick_working t).acts
        ≡ sent_in t.acts
        ++ ((if w && leads_own t.stage then alive else []) ++ phase_1_sends t.stage (if w then (if not (leads_own t.stage) && (suc t.stage.quiet == quiet_limit) then next else None) else None))
    go true e = working (leads_own t.stage) e
    go false e = sym (append-nil (sent_in t.acts))

-- what a tick makes the stage send
pub tick-sends : (s : Stage) → sent_in (on_tick (untouched s)).acts ≡ sent_by s Tick
tick-sends s =
    let t : Turned = untouched s in
    let u : Turned = when (works s) on_tick_working t in
    let before = alives s ++ phase_1_sends s (entered_view s Tick) in
    due-sends u ∙ ap (λ (zs : List (ℕ × Message)). zs ++ due_query u.stage) (ticked-sends t) ∙ ap (λ (zs : List (ℕ × Message)). before ++ zs) (due-told s u.stage (ticked-told t))
    ∙ append_assoc (alives s) (phase_1_sends s (entered_view s Tick)) (due_query s)

-- ---- Messages and items

-- no view is entered, and nothing else is sent
pub none-sent : (s : Stage) → [] ≡ phase_1_sends s (if works s then None else None) ++ []
none-sent s = no-phase s (works s) ∙ sym (append-nil (phase_1_sends s (if works s then None else None)))

-- a stage that took these messages
abbrev pub holding : Stage → List Taken → Stage
holding s taken = record s { life = record s.life { taken = taken } }

-- its turn so far, with this number of quiet ticks and these steps of the world, and with no act
abbrev pub taking : Stage → List Taken → ℕ → List Deed → Turned
taking s taken quiet deeds = record { stage = record (holding s taken) { quiet = quiet }; acts = []; deeds = deeds }

-- what a message makes a stage send that just took it
pub kind-sends : (s : Stage) (taken : List Taken) (quiet : ℕ) (deeds : List Deed) (from : LifeId) (m : Message) → sent_in (on_kind from.replica m (taking s taken quiet deeds)).acts
    ≡ phase_1_sends s (entered_view s (Came from m)) ++ message_sends (holding s taken) from m (entered_view s (Came from m))
kind-sends s taken quiet deeds from (Message.Prepare m) =
    let t = taking s taken quiet deeds in
    let held = holding s taken in
    let entered = entered_view s (Came from (Message.Prepare m)) in
    let promised : Message → List (ℕ × Message) = λ x. if works s && leads s from.replica m.view && nat_le s.life.view m.view then (from.replica, x) ∷ [] else [] in
    prepare-sends from.replica m t
    ∙ ap (λ (x : Message). phase_1_sends t.stage entered ++ promised x) (ok-told held t.stage m refl)
    ∙ ap (λ (zs : List (ℕ × Message)). zs ++ promised (ok_to held m)) (phase-same s t.stage entered refl refl refl refl)
kind-sends s taken quiet deeds from (Message.PrepareOk m) =
    let t = taking s taken quiet deeds in
    silent-when (prepares t.stage m.view m.mark) (horizon_to m.low) (λ u. refl) t ∙ none-sent s
kind-sends s taken quiet deeds from (Message.Propose m) =
    let t = taking s taken quiet deeds in
    let entered = entered_view s (Came from (Message.Propose m)) in
    propose-sends from.replica m t
    ∙ ap (λ (zs : List (ℕ × Message)). zs ++ message_sends (holding s taken) from (Message.Propose m) entered) (phase-same s t.stage entered refl refl refl refl)
kind-sends s taken quiet deeds from (Message.Accept m) =
    silent-learn_check m.instance (notes m.instance m.view from.replica None (horizon_to (suc m.instance) (taking s taken quiet deeds))) ∙ none-sent s
kind-sends s taken quiet deeds from (Message.Recovery m) =
    let t = taking s taken quiet deeds in
    let entered = entered_view s (Came from (Message.Recovery m)) in
    recovery-sends from.replica m.mark t
    ∙ ap (λ (zs : List (ℕ × Message)). zs ++ message_sends (holding s taken) from (Message.Recovery m) entered) (phase-same s t.stage entered refl refl refl refl)
kind-sends s taken quiet deeds from (Message.RecoveryAnswer m) =
    let t = taking s taken quiet deeds in
    silent-when (is_recovering t.stage.life.phase && (t.stage.life.mark == m.mark)) (when_some m.next horizon_to) (silent-some m.next horizon_to (λ x u. refl)) t ∙ none-sent s
kind-sends s taken quiet deeds from (Message.CatchUpQuery m) =
    let t = taking s taken quiet deeds in
    let held = holding s taken in
    query-sends from.replica m.first t ∙ query-same held t.stage from.replica m.first refl refl refl
    ∙ ap (λ (zs : List (ℕ × Message)). zs ++ query_sends held from.replica m.first) (no-phase s (works s))
kind-sends s taken quiet deeds from (Message.CatchUpReply m) = silent-on_batches m.first m.batches (taking s taken quiet deeds) ∙ none-sent s
kind-sends s taken quiet deeds from (Message.SnapshotPart m) = silent-on_part m (taking s taken quiet deeds) ∙ none-sent s
kind-sends s taken quiet deeds from (Message.Alive m) =
    let t = taking s taken quiet deeds in
    let entered = entered_view s (Came from (Message.Alive m)) in
    alive-sends from.replica m t ∙ phase-same s t.stage entered refl refl refl refl ∙ sym (append-nil (phase_1_sends s entered))

-- what a message makes a stage send
pub came-sends : (s : Stage) (from : LifeId) (m : Message) → sent_in (on_message from m (untouched s)).acts ≡ sent_by s (Came from m)
came-sends s from m = go (leads s from.replica s.life.view)
  where
    t : Turned
    t = does (Deed.Take from m) (untouched s)

    go : (b : Bool) → sent_in (on_kind from.replica m (when b (with_stage (λ s. record s { quiet = 0 })) t)).acts ≡ sent_by s (Came from m)
    go true = kind-sends s t.stage.life.taken 0 t.deeds from m
    go false = kind-sends s t.stage.life.taken s.quiet t.deeds from m

-- what an item makes a stage send
pub item-sends : (s : Stage) (item : Item) → sent_in (on_item item (untouched s)).acts ≡ sent_by s item
item-sends s (Came from m) = came-sends s from m
item-sends s (Closed batch) =
    silent-when (works s && is_leading s.life.leading && nat_lt (length s.waiting) waiting_limit) (with_stage (λ s. record s { waiting = s.waiting ++ batch ∷ [] })) (λ u. refl) (untouched s)
item-sends s Tick = tick-sends s
item-sends s Suspect = suspect-sends (untouched s)
item-sends s (Snapped upto bytes) =
    silent-when (nat_lt (place_of s.newest) upto && nat_le upto (first_undecided s))
    (with_stage (λ s. record s { base = place_of s.newest; newest = Some (record { place = upto; bytes = bytes; installed = false }) })) (λ u. refl) (untouched s)

-- ---- Settling

-- a turn so far has these constants, and sent these messages and then the proposals of its launches
pub record Proposes (c : Config) (v : List (ℕ × Message)) (t : Turned) : Type 0 where
  pub sent : sent_in t.acts ≡ v ++ proposals_of c (shown_where is_launch t.acts)
  pub config : t.stage.config ≡ c

-- one launch more is one proposal more, to all others
pub proposals_of-more : (c : Config) (me view i : ℕ) (batch : Batch) (steps : List Step)
    → proposals_of c (steps ++ Step.Launch me view i batch ∷ []) ≡ proposals_of c steps ++ to_each (others c) (propose_of view i batch)
proposals_of-more c me view i batch [] = append-nil (to_each (others c) (propose_of view i batch))
proposals_of-more c me view i batch (Step.First r ∷ steps) = proposals_of-more c me view i batch steps
proposals_of-more c me view i batch (Step.Return r mark ∷ steps) = proposals_of-more c me view i batch steps
proposals_of-more c me view i batch (Step.Crash r ∷ steps) = proposals_of-more c me view i batch steps
proposals_of-more c me view i batch (Step.Enter r v ∷ steps) = proposals_of-more c me view i batch steps
proposals_of-more c me view i batch (Step.Promise r v ∷ steps) = proposals_of-more c me view i batch steps
proposals_of-more c me view i batch (Step.Prepared r v next ∷ steps) = proposals_of-more c me view i batch steps
proposals_of-more c me view i batch (Step.Launch r v j b ∷ steps) =
    let first = to_each (others c) (propose_of v j b) in
    ap (λ (zs : List (ℕ × Message)). first ++ zs) (proposals_of-more c me view i batch steps) ∙ sym (append_assoc first (proposals_of c steps) (to_each (others c) (propose_of view i batch)))
proposals_of-more c me view i batch (Step.Vote r v j ∷ steps) = proposals_of-more c me view i batch steps
proposals_of-more c me view i batch (Step.Learn r j ∷ steps) = proposals_of-more c me view i batch steps
proposals_of-more c me view i batch (Step.Answer r to v next ∷ steps) = proposals_of-more c me view i batch steps
proposals_of-more c me view i batch (Step.Rejoin r v ∷ steps) = proposals_of-more c me view i batch steps
proposals_of-more c me view i batch (Step.Install r upto ∷ steps) = proposals_of-more c me view i batch steps
proposals_of-more c me view i batch (Step.Execute r j outcomes ∷ steps) = proposals_of-more c me view i batch steps
proposals_of-more c me view i batch (Step.Restore r upto ∷ steps) = proposals_of-more c me view i batch steps
proposals_of-more c me view i batch (Step.Send number to kind ∷ steps) = proposals_of-more c me view i batch steps

-- a launch sends its proposal to all others
pub launch-sends : (i : ℕ) (batch : Batch) (t : Turned) → sent_in (launches i batch t).acts ≡ sent_in t.acts ++ to_each (others t.stage.config) (propose_of t.stage.life.view i batch)
launch-sends i batch t =
    let s = t.stage in
    let view = s.life.view in
    let m = propose_of view i batch in
    let a : Turned = shows (Step.Launch s.config.me view i batch) (Deed.Launch view i batch) t in
    let b : Turned = notes i view s.config.me (Some batch) (votes_for view i batch a) in
    silent-when (not (is_known s i)) (arms_propose i m) (λ u. refl) (sends_to_all m b)
    ∙ adds-sends_to_all m b
    ∙ ap (λ (zs : List (ℕ × Message)). zs ++ to_each (others s.config) m)
    (silent-shows (Step.Vote s.config.me view i) (Deed.Vote view i batch) a ∙ silent-shows (Step.Launch s.config.me view i batch) (Deed.Launch view i batch) t)

module _ (c : Config) (v : List (ℕ × Message)) where
  -- what sends none and shows no launch keeps this
  pub keeps : (t u : Turned) → Proposes c v t → sent_in u.acts ≡ sent_in t.acts → Calmly is_launch t u → Proposes c v u
  keeps t u h e k = record { sent = e ∙ h.sent ∙ ap (λ (xs : List Step). v ++ proposals_of c xs) (sym k.shown); config = k.config ∙ h.config }

  -- a launch keeps this
  pub launches-proposes : (i : ℕ) (batch : Batch) (t : Turned) → Proposes c v t → Proposes c v (launches i batch t)
  launches-proposes i batch t h =
      let m = propose_of t.stage.life.view i batch in
      let ls = shown_where is_launch t.acts in
      let k = launches-adds i batch t in
      record {
        sent = launch-sends i batch t
            ∙ ap (λ (x : Config). sent_in t.acts ++ to_each (others x) m) h.config
            ∙ ap (λ (zs : List (ℕ × Message)). zs ++ to_each (others c) m) h.sent
            ∙ append_assoc v (proposals_of c ls) (to_each (others c) m)
            ∙ ap (λ (zs : List (ℕ × Message)). v ++ zs) (sym (proposals_of-more c t.stage.config.me t.stage.life.view i batch ls))
            ∙ ap (λ (xs : List Step). v ++ proposals_of c xs) (sym k.shown);
        config = k.config ∙ h.config;
      }

  -- launching a range of adopted batches keeps this
  pub adopts-proposes : (lead : Lead) (k i : ℕ) (t : Turned) → Proposes c v t → Proposes c v (for_range k i (adopts lead) t)
  adopts-proposes lead zero i t h = h
  adopts-proposes lead (suc k) i t h =
      let known = is_known t.stage i in
      let decided = decided_below t.stage.config.n lead.reports i in
      let a : Turned = when (not known) (when_some decided (learns i)) t in
      adopts-proposes lead k (suc i) (launches i (lead.adopted i) a)
      (launches-proposes i (lead.adopted i) a
      (keeps t a h (silent-when (not known) (when_some decided (learns i)) (silent-some decided (learns i) (silent-learns i)) t) (calm-adopted is_launch launch-calm lead i t)))

  -- becoming Prepared keeps this
  pub prepared-proposes : (l : Leading) (t : Turned) → Proposes c v t → Proposes c v (settles_leading l t)
  prepared-proposes No t h = h
  prepared-proposes (Leads lead) t h = h
  prepared-proposes (Preparing first) t h = go (is_prepared t.stage first)
    where
      s : Stage
      s = t.stage

      next : ℕ
      next = max (adoption_end s first) (first_undecided s)

      a : Turned
      a = t ▹ cancels_prepare ▹ shows (Step.Prepared s.config.me s.life.view next) (Deed.Prepared s.life.view next)

      begun : Proposes c v a
      begun =
          keeps t a h (silent-shows (Step.Prepared s.config.me s.life.view next) (Deed.Prepared s.life.view next) (cancels_prepare t))
          (let k = calm-shows is_launch (Step.Prepared s.config.me s.life.view next) (Deed.Prepared s.life.view next) (cancels_prepare t) refl in record { shown = k.shown; config = k.config })

      go : (b : Bool) → Proposes c v (when b (becomes_prepared first) t)
      go true = adopts-proposes (lead_of (setup_of s.config) s.config.me s.life next) (adoption_end s first - max first s.base) (max first s.base) a begun
      go false = h

  -- launching the waiting batches keeps this
  pub waiting-proposes : (batches : List Batch) (t : Turned) → Proposes c v t → Proposes c v (launches_waiting batches t)
  waiting-proposes [] t h = h
  waiting-proposes (batch ∷ batches) t h = go (waiting-proposes batches) (open_place t.stage)
    where
      a : Turned
      a = with_stage (λ s. record s { waiting = batches }) t

      go : ((u : Turned) → Proposes c v u → Proposes c v (launches_waiting batches u))
          → (o : Option ℕ) → Proposes c v (when_some o (λ i t. launches_waiting batches (t ▹ with_stage (λ s. record s { waiting = batches }) ▹ launches i batch)) t)
      go on None = h
      go on (Some i) = on (launches i batch a) (launches-proposes i batch a (record { sent = h.sent; config = h.config }))

-- a turn sends exactly what its item makes it send, and then the proposal of each launch
pub sends_exactly : SendsExactly
unfolding turn
sends_exactly s item room =
    let t1 = untouched s ▹ on_item item in
    let t2 = t1 ▹ settles_rejoin in
    let t3 = t2 ▹ settles_prepared in
    let t4 = t3 ▹ settles_waiting in
    let v = sent_by s item in
    let a = calm-item is_launch launch-calm item (untouched s) in
    let h1 : Proposes s.config v t1 =
    record { sent = item-sends s item ∙ sym (append-nil v) ∙ ap (λ (xs : List Step). v ++ proposals_of s.config xs) (sym a.shown); config = a.config } in
    let h2 = keeps s.config v t1 t2 h1 (silent-rejoin t1) (calm-rejoin is_launch launch-calm (λ r w. refl) t1) in
    let h3 = prepared-proposes s.config v t2.stage.life.leading t2 h2 in
    let h4 = waiting-proposes s.config v t3.stage.waiting t3 h3 in
    (keeps s.config v t4 (hands_on room t4) h4 (silent-hands_on room t4) (calm-hands_on is_launch launch-calm room t4)).sent

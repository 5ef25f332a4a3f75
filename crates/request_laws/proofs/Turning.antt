-- What holds of the waiting batches, of the item's batch and of what would be adopted, holds of each batch that a turn proposes and of each that waits after it.
use Rattle.std.proofs.Common.{◌≡◌, ℕ, zero, suc, Bool, true, false, ◌&&◌, List, [], ◌∷◌, ◌++◌, drop, length, nat_lt, if◌then◌else◌, Option, Some, None, inr, ⊎_elim, refl, sym, ap, subst, ◌∙◌}
use Rattle.jp_types.specs.declared.message.Message.{Message}
use Rattle.jp_types.specs.declared.message.Propose.{Propose}
use Rattle.jp_types.specs.Instances.{Batch}
use Rattle.paxos_world.specs.declared.step.Step.{Step}
use Rattle.paxos_world.specs.Leading.{works, is_leading, leads, leads_own, begin_phase_1, prepare_of}
use Rattle.paxos_world.specs.Life.{LifeId, new_life}
use Rattle.paxos_world.specs.Logs.{first_undecided}
use Rattle.paxos_world.specs.Retransmitting.{arms_recovery}
use Rattle.jp_types.specs.Lists.{In}
use Rattle.paxos_world.specs.Settling.{settles_rejoin}
use Rattle.paxos_world.specs.Stage.{Config, setup_of, Slot, Stage, Item, Came, Closed, Tick, Suspect, Snapped, Turned}
use Rattle.paxos_world.specs.Turn.{waiting_limit, on_item, untouched, turn, Opened, begun, recovery_of, first_start, later_start, opening}
use Rattle.jp_types.specs.Marks.{first_mark, return_mark, view_at_return}
use Rattle.jp_types.specs.declared.mode.Phase.TheVariants.{Recovering, Working}
use Rattle.std.specs.Option.{option_map}
use Rattle.paxos_world.specs.World.{World, Sent, Deed}
use Rattle.paxos_world.specs.Writing.{when, shows, others, says_to_all}
use Rattle.paxos_world.proofs.Basics.{In-append}
use Rattle.schedules.specs.Cluster as cluster
use Rattle.step_laws.specs.Kept.{waiting_in, waiting_after}
use Rattle.step_laws.specs.Kinds.{shown_where, is_launch, sent_in}
use Rattle.step_laws.specs.Sent.{to_each, sent_by, proposals_of}
use Rattle.step_laws.specs.Settled.{after_rejoin, after_prepared, launches_at_prepared, launches_of_waiting}
use Rattle.step_laws.specs.Views.{entered_view}
use Rattle.step_laws.proofs.Counting.{prepared-kept, waits_exactly}
use Rattle.step_laws.proofs.Keeping.{Kept, leaves-says_to_all}
use Rattle.step_laws.proofs.Sending.{item-sends, sends_exactly}
use Rattle.step_laws.proofs.SendingWords.{silent-rejoin, adds-says_to_all, begin-sends}
use Rattle.step_laws.proofs.Settling.{launches_exactly}
use Rattle.turn_laws.proofs.Fitting.{Good}
use Rattle.turn_laws.proofs.Going.{turned_to, In-snoc}
use Rattle.turn_laws.proofs.Sane.{Sane}
use Rattle.turn_laws.proofs.Settling.{in_phase, goes-settles_rejoin}
use Rattle.turn_laws.proofs.Sitting.{Sits, Placed, Over, frame_of, goes-untouched, over-of, goes-on_item}
use Rattle.turn_laws.specs.Nodes.{ItemComes}
use Rattle.request_laws.proofs.Messages.{IsOther, NonePropose, none-nil, none-append, none-each, none-sent, sent-of, LaunchesMeet, AllMeet, launches-append, proposal-meets, AdoptedMeet, prepared-meet, waiting-meet}

-- it holds of the batch that this item brings, if it brings one
abbrev pub ItemMeets : (Batch → Type 0) → Item → Type 0
ItemMeets Q (Closed batch) = Q batch
ItemMeets Q _ = Unit {0}

-- ---- The stage after it rejoined

-- a turn that is over at that stage
pub over-rejoined : (c : Config) (number : ℕ) (w : World) (s : Stage) (item : Item) → Placed c → Sits c number w s → Good (setup_of c) w → Sane w → ItemComes w c.me s.life item
    → Over c number w s.life (settles_rejoin (on_item item (untouched s)))
unfolding goes-untouched
over-rejoined c number w s item place h good sane is =
    let f = frame_of w s in
    let a = goes-untouched c number w s place h good sane in
    let b = goes-on_item f (untouched s) item a (subst (λ (k : Config). ItemComes w k.me s.life item) (sym h.config) is) in
    let g = turned_to f b.0 f.phase true None in
    let d = goes-settles_rejoin g (on_item item (untouched s)) b.1 in
    over-of c number w s (in_phase g d.0) d.0 (settles_rejoin (on_item item (untouched s))) h.config h.number_is refl refl refl refl refl d.1

-- it sends no Propose up to there
pub rejoined-sends : (s : Stage) (item : Item) → NonePropose (sent_in (settles_rejoin (on_item item (untouched s))).acts)
rejoined-sends s item =
    subst (λ (xs : List (ℕ × Message)). NonePropose xs) (sym (silent-rejoin (on_item item (untouched s)) ∙ item-sends s item)) (none-sent s item)

-- ---- A turn

drop-in : (k : ℕ) (xs : List Batch) (x : Batch) → In x (drop k xs) → In x xs
drop-in zero xs x n = n
drop-in (suc k) [] x n = absurd n
drop-in (suc k) (y ∷ ys) x n = inr (drop-in k ys x n)

module _ (Q : Batch → Type 0) where
  waiting_in-meets : (s : Stage) (o : Option ℕ) → AllMeet Q s.waiting → AllMeet Q (waiting_in s o)
  waiting_in-meets s None h = h
  waiting_in-meets s (Some view) h = go (leads s s.config.me view)
    where
      go : (b : Bool) → AllMeet Q (if b then s.waiting else [])
      go true = h
      go false = λ batch n. absurd n

  pub waiting_after-meets : (s : Stage) (item : Item) → AllMeet Q s.waiting → ItemMeets Q item → AllMeet Q (waiting_after s item)
  waiting_after-meets s (Closed batch) h is = go (works s && is_leading s.life.leading && nat_lt (length s.waiting) waiting_limit)
    where
      go : (b : Bool) → AllMeet Q (if b then s.waiting ++ batch ∷ [] else s.waiting)
      go true = λ x n. In-snoc x batch s.waiting n (λ m. h x m) (λ e. subst Q (sym e) is)
      go false = h
  waiting_after-meets s (Came from m) h is = waiting_in-meets s (entered_view s (Came from m)) h
  waiting_after-meets s Tick h is = waiting_in-meets s (entered_view s Tick) h
  waiting_after-meets s Suspect h is = waiting_in-meets s (entered_view s Suspect) h
  waiting_after-meets s (Snapped upto bytes) h is = waiting_in-meets s (entered_view s (Snapped upto bytes)) h

  -- what waits after a turn
  pub turn-waits : (s : Stage) (item : Item) (room : ℕ) → AllMeet Q s.waiting → ItemMeets Q item → AllMeet Q (turn s item room).stage.waiting
  turn-waits s item room h is batch n =
      let k = length (launches_of_waiting (after_prepared s item).life.leading (after_prepared s item)) in
      waiting_after-meets s item h is batch (drop-in k (waiting_after s item) batch (subst (λ (xs : List Batch). In batch xs) (waits_exactly s item room) n))

  -- what a turn launches
  pub turn-launches : (s : Stage) (item : Item) (room : ℕ) → AllMeet Q s.waiting → ItemMeets Q item → AdoptedMeet Q (after_rejoin s item) → LaunchesMeet Q (shown_where is_launch (turn s item room).acts)
  turn-launches s item room h is adopts =
      let u = after_rejoin s item in
      let v = after_prepared s item in
      let waits : AllMeet Q v.waiting
      = subst (λ (xs : List Batch). AllMeet Q xs) (sym (ap (λ (k : Kept). k.waiting) (prepared-kept s item))) (waiting_after-meets s item h is) in
      subst (λ (xs : List Step). LaunchesMeet Q xs) (sym (launches_exactly s item room))
      (launches-append Q (launches_at_prepared u.life.leading u) (launches_of_waiting v.life.leading v) (prepared-meet Q u.life.leading u adopts) (waiting-meet Q v.life.leading v waits))

  -- what a turn sends
  pub turn-sends : (s : Stage) (item : Item) (room : ℕ) → AllMeet Q s.waiting → ItemMeets Q item → AdoptedMeet Q (after_rejoin s item) → (from : LifeId) (x : Sent) (m : Propose)
      → In x (cluster.sent_by from (turn s item room).acts) → x.message ≡ Message.Propose m → Q m.batch
  turn-sends s item room h is adopts from x m n e =
      let acts = (turn s item room).acts in
      let launched = shown_where is_launch acts in
      let y : ℕ × Message = (x.to, x.message) in
      let there : In y (sent_by s item ++ proposals_of s.config launched)
      = subst (λ (xs : List (ℕ × Message)). In y xs) (sends_exactly s item room) (sent-of from acts x n) in
      ⊎_elim (λ a. absurd (subst IsOther e ((none-sent s item).each y a))) (λ a. proposal-meets Q s.config launched (turn-launches s item room h is adopts) y m a e)
      (In-append y (sent_by s item) (proposals_of s.config launched) there)

-- ---- A start

-- a new life sends no Propose, and nothing waits
pub record Begins (t : Turned) : Type 0 where
  pub sends : NonePropose (sent_in t.acts)
  pub waits : t.stage.waiting ≡ []

-- phase 1 begins in a stage in which nothing waits
begins-phase : (t : Turned) → NonePropose (sent_in t.acts) → t.stage.waiting ≡ [] → Begins (begin_phase_1 t)
begins-phase t none waits =
    let m = prepare_of t.stage (first_undecided t.stage) in
    let a = shows (Step.Promise t.stage.config.me t.stage.life.view) (Deed.Open t.stage.life.view (first_undecided t.stage)) t in
    record {
      sends = subst (λ (xs : List (ℕ × Message)). NonePropose xs) (sym (begin-sends t)) (none-append (sent_in t.acts) (to_each (others t.stage.config) m) none (none-each (others t.stage.config) m tt));
      waits = ap (λ (k : Kept). k.waiting) (leaves-says_to_all m a) ∙ waits;
    }

-- the Recovery of a new life goes out
begins-recovery : (t : Turned) (mark : ℕ) → NonePropose (sent_in t.acts) → t.stage.waiting ≡ [] → Begins (arms_recovery (recovery_of mark) (says_to_all (recovery_of mark) t))
begins-recovery t mark none waits =
    let m = recovery_of mark in
    record {
      sends = subst (λ (xs : List (ℕ × Message)). NonePropose xs) (sym (adds-says_to_all m t)) (none-append (sent_in t.acts) (to_each (others t.stage.config) m) none (none-each (others t.stage.config) m tt));
      waits = ap (λ (k : Kept). k.waiting) (leaves-says_to_all m t) ∙ waits;
    }

begins-first : (c : Config) (slots : List Slot) (number : ℕ) → Begins (first_start c slots number).turned
begins-first c slots number = go (leads_own t.stage)
  where
    t : Turned
    t = begun c slots (new_life number (first_mark c.mode) Working 0) (Step.First c.me)

    go : (b : Bool) → Begins (when b begin_phase_1 t)
    go true = begins-phase t none-nil refl
    go false = record { sends = none-nil; waits = refl }

begins-later : (c : Config) (slots : List Slot) (number mark : ℕ) → Begins (later_start c slots number mark).turned
begins-later c slots number mark = begins-recovery (begun c slots (new_life number mark Recovering (view_at_return c.mode mark)) (Step.Return c.me mark)) mark none-nil refl

-- the start of a life
pub begins-opened : (c : Config) (slots : List Slot) (number : ℕ) (stable : Option ℕ) (o : Opened) → opening c slots number stable ≡ Some o → Begins o.turned
unfolding opening
begins-opened c slots number None o e = let f : first_start c slots number ≡ o = cc in subst (λ (x : Opened). Begins x.turned) f (begins-first c slots number)
begins-opened c slots number (Some s) o e = go (return_mark c.mode c.n c.me s) e
  where
    go : (x : Option ℕ) → option_map (later_start c slots number) x ≡ Some o → Begins o.turned
    go None f = absurd cc
    go (Some mark) f = let k : later_start c slots number mark ≡ o = cc in subst (λ (y : Opened). Begins y.turned) k (begins-later c slots number mark)

-- A turn learns exactly what its item makes it learn, and what the counted reports have as decided as it becomes Prepared.
use Rattle.std.proofs.Common.{◌≡◌, ℕ, zero, suc, ◌-◌, max, Bool, true, false, not, List, [], ◌++◌, Option, Some, None, if◌then◌else◌, refl, sym, ap, ◌∙◌, append-nil, append_assoc}
use Rattle.jp_types.specs.Instances.{Batch}
use Rattle.jp_types.specs.Reports.{decided_below}
use Rattle.paxos_world.specs.declared.step.Step.{Step}
use Rattle.paxos_world.specs.Life.{Leading, No, Preparing, Leads}
use Rattle.paxos_world.specs.World.{Deed, lead_of}
use Rattle.paxos_world.specs.Stage.{Config, setup_of, Stage, Turned}
use Rattle.paxos_world.specs.Writing.{◌▹◌, when, when_some, for_range, shows}
use Rattle.paxos_world.specs.Logs.{first_undecided, is_known}
use Rattle.paxos_world.specs.Retransmitting.{cancels_prepare}
use Rattle.paxos_world.specs.Learning.{learns, launches}
use Rattle.paxos_world.specs.Settling.{is_prepared, adoption_end, adopts, becomes_prepared, settles_leading, settles_rejoin, settles_prepared, settles_waiting}
use Rattle.paxos_world.specs.Turn.{on_item, untouched, turn}
use Rattle.step_laws.specs.Kinds.{shown_where, is_learn}
use Rattle.step_laws.specs.Learned.{learned_if, adopted_learns, learns_at_prepared}
use Rattle.step_laws.specs.Laws.{LearnsExactly}
use Rattle.step_laws.proofs.Viewing.{quiet-show}
use Rattle.step_laws.proofs.Launching.{launches-adds}
use Rattle.step_laws.proofs.LearningWords.{learnless-rejoin, learnless-launches, learnless-waiting, learnless-hands_on}
use Rattle.step_laws.proofs.LearnedItems.{learns_if-adds, Ahead, ahead-known, ahead-next, ahead-learns, learned-item}

-- ---- Becoming Prepared

-- the stage after an instance is learned where it is not known and there is a batch
abbrev pub learned_at : Bool → Option Batch → ℕ → Turned → Turned
learned_at known o i t = t ▹ when (not known) (when_some o (learns i))

-- it shows the step of learning, where it does so
pub learned_at-adds : (known : Bool) (o : Option Batch) (i : ℕ) (t : Turned) → shown_where is_learn (learned_at known o i t).acts
    ≡ shown_where is_learn t.acts ++ (if known then [] else learned_if t.stage.config.me i o)
learned_at-adds true o i t = sym (append-nil (shown_where is_learn t.acts))
learned_at-adds false o i t = learns_if-adds i o t

-- the instances behind it are left
pub learned_at-ahead : (known : Bool) (o : Option Batch) (i : ℕ) (s : Stage) (t : Turned) → Ahead i s t.stage → Ahead (suc i) s (learned_at known o i t).stage
learned_at-ahead true o i s t h = ahead-next i s t.stage h
learned_at-ahead false None i s t h = ahead-next i s t.stage h
learned_at-ahead false (Some batch) i s t h = ahead-learns i batch s t h

-- a launch leaves what is known
pub launches-ahead : (i : ℕ) (batch : Batch) (k : ℕ) (s : Stage) (t : Turned) → Ahead k s t.stage → Ahead k s (launches i batch t).stage
launches-ahead i batch k s t h =
    let l = launches-adds i batch t in
    record { config = l.config ∙ h.config; base = l.base ∙ h.base; known = λ j le. ap (λ (f : ℕ → Option Batch). f j) l.known ∙ h.known j le }

-- of a range of instances those are learned that the stage before learns
pub adopts-learns : (s : Stage) (x k i : ℕ) (t : Turned) → Ahead i s t.stage
    → shown_where is_learn (for_range k i (adopts (lead_of (setup_of s.config) s.config.me s.life x)) t).acts ≡ shown_where is_learn t.acts ++ adopted_learns k s i
adopts-learns s x zero i t h = sym (append-nil (shown_where is_learn t.acts))
adopts-learns s x (suc k) i t h =
    let lead = lead_of (setup_of s.config) s.config.me s.life x in
    let o = decided_below t.stage.config.n lead.reports i in
    let a = learned_at (is_known t.stage i) o i t in
    let u = launches i (lead.adopted i) a in
    let rest = adopted_learns k s (suc i) in
    let front = if is_known s i then [] else learned_if s.config.me i (decided_below s.config.n lead.reports i) in
    adopts-learns s x k (suc i) u (launches-ahead i (lead.adopted i) (suc i) s a (learned_at-ahead (is_known t.stage i) o i s t h))
    ∙ ap (λ (xs : List Step). xs ++ rest)
    (learnless-launches i (lead.adopted i) a
    ∙ learned_at-adds (is_known t.stage i) o i t
    ∙ ap (λ (b : Bool). shown_where is_learn t.acts ++ (if b then [] else learned_if t.stage.config.me i o)) (ahead-known i s t.stage h)
    ∙ ap (λ (c : Config). shown_where is_learn t.acts ++ (if is_known s i then [] else learned_if c.me i (decided_below c.n lead.reports i))) h.config)
    ∙ append_assoc (shown_where is_learn t.acts) front rest

-- what a stage learns as it becomes Prepared
pub prepared-learns : (l : Leading) (t : Turned) → shown_where is_learn (settles_leading l t).acts ≡ shown_where is_learn t.acts ++ learns_at_prepared l t.stage
prepared-learns No t = sym (append-nil (shown_where is_learn t.acts))
prepared-learns (Leads lead) t = sym (append-nil (shown_where is_learn t.acts))
prepared-learns (Preparing first) t = go (is_prepared t.stage first)
  where
    go : (b : Bool) → shown_where is_learn (when b (becomes_prepared first) t).acts
        ≡ shown_where is_learn t.acts ++ (if b then adopted_learns (adoption_end t.stage first - max first t.stage.base) t.stage (max first t.stage.base) else [])
    go false = sym (append-nil (shown_where is_learn t.acts))
    go true =
        let s = t.stage in
        let end = adoption_end s first in
        let next = max end (first_undecided s) in
        let step = Step.Prepared s.config.me s.life.view next in
        let a = t ▹ cancels_prepare ▹ shows step (Deed.Prepared s.life.view next) in
        adopts-learns s next (end - max first s.base) (max first s.base) a (record { config = refl; base = refl; known = λ j le. refl })
        ∙ ap (λ (xs : List Step). xs ++ adopted_learns (end - max first s.base) s (max first s.base)) (quiet-show is_learn step t.acts refl)

-- ---- The turn

-- a turn learns exactly what its item makes it learn, and then what the counted reports have as decided as it becomes Prepared
pub learns_exactly : LearnsExactly
unfolding turn
learns_exactly s item room =
    let t1 = untouched s ▹ on_item item in
    let t2 = t1 ▹ settles_rejoin in
    let t3 = t2 ▹ settles_prepared in
    let t4 = t3 ▹ settles_waiting in
    learnless-hands_on room t4 ∙ learnless-waiting t3.stage.waiting t3 ∙ prepared-learns t2.stage.life.leading t2
    ∙ ap (λ (xs : List Step). xs ++ learns_at_prepared t2.stage.life.leading t2.stage) (learnless-rejoin t1 ∙ learned-item s item)

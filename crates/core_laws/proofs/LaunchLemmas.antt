-- The launches of a leader that becomes Prepared are what the turn of the model does then.
use Rattle.std.proofs.Common.{◌≡◌, ℕ, zero, suc, ◌<◌, Bool, true, false, ◌&&◌, not, Option, Some, None, is_some, refl, sym, ap, subst, ◌∙◌, arith}
use Rattle.jp_types.specs.declared.message.Message.{Message}
use Rattle.jp_types.specs.Instances.{Batch}
use Rattle.jp_types.specs.Reports.{decided_below}
use Rattle.paxos_world.specs.Life.{Lead}
use Rattle.paxos_world.specs.Adoption.{counted_report, adopted_by}
use Rattle.paxos_world.specs.World.{lead_of}
use Rattle.paxos_world.specs.Stage.{setup_of, Stage, Turned}
use Rattle.paxos_world.specs.declared.step.Step.{Step}
use Rattle.paxos_world.specs.World.{Deed}
use Rattle.paxos_world.specs.Writing.{◌▹◌, when, when_some, for_each, for_range, shows, sends_to_all}
use Rattle.paxos_world.specs.Logs as logs
use Rattle.paxos_world.specs.Learning.{learns, launches, votes_for, notes, propose_of}
use Rattle.paxos_world.specs.Retransmitting.{arms_propose}
use Rattle.paxos_world.specs.Settling.{adopts}
use Rattle.paxos_world.proofs.Basics.{with_at-other}
use Rattle.proposer_core.specs.declared.adoption.Launch.{Launch}
use Rattle.core_laws.specs.LaunchLaws.{made, GoesOnFrom, LaunchesAsTheModel}
use Rattle.core_laws.specs.PrepareLaws.{launches_of}
use Rattle.core_laws.proofs.AcceptLemmas.{all-sent}
use Rattle.core_laws.proofs.LogLemmas.{unknown}

-- what of a stage is looked at: its configuration, its base and what it knows
record SameBut (i : ℕ) (s t : Stage) : Type 0 where
  config : t.config ≡ s.config
  base : t.base ≡ s.base
  known : (j : ℕ) → i < j → t.life.known j ≡ s.life.known j

learns-but : (i : ℕ) (batch : Batch) (t : Turned) → SameBut i t.stage (learns i batch t).stage
learns-but i batch t = record { config = refl; base = refl; known = λ j lt. with_at-other t.stage.life.known i (Some batch) j (λ e. absurd (omega arith)) }

-- a launch without its sends changes none of it
shown-but : (i : ℕ) (s t : Stage) → t ≡ s → SameBut i s t
shown-but i s t e = subst (SameBut i s) (sym e) (record { config = refl; base = refl; known = λ j lt. refl })

arms-but : (i : ℕ) (b : Bool) (m : Message) (s : Stage) (t : Turned) → SameBut i s t.stage → SameBut i s (when b (arms_propose i m) t).stage
arms-but i true m s t h = record { config = h.config; base = h.base; known = h.known }
arms-but i false m s t h = h

-- the turn before a launch's sends
abbrev unsent : ℕ → Batch → Turned → Turned
unsent i batch t =
    let s = t.stage in
    t ▹ shows (Step.Launch s.config.me s.life.view i batch) (Deed.Launch s.life.view i batch)
    ▹ votes_for s.life.view i batch
    ▹ notes i s.life.view s.config.me (Some batch)

launches-but : (i : ℕ) (batch : Batch) (t : Turned) → SameBut i t.stage (launches i batch t).stage
launches-but i batch t =
    let m = propose_of t.stage.life.view i batch in
    arms-but i (not (logs.is_known t.stage i)) m t.stage (sends_to_all m (unsent i batch t))
    (subst (SameBut i t.stage) (sym (all-sent m (unsent i batch t))) (record { config = refl; base = refl; known = λ j lt. refl }))

-- one launch

made-but : (l : Launch) (t : Turned) → SameBut l.instance t.stage (made l t).stage
made-but l t = by l.decided
  where
    by : (b : Bool) → SameBut l.instance t.stage (launches l.instance l.batch (when b (learns l.instance l.batch) t)).stage
    by true =
        let a = learns-but l.instance l.batch t in
        let b = launches-but l.instance l.batch (learns l.instance l.batch t) in
        record { config = b.config ∙ a.config; base = b.base ∙ a.base; known = λ j lt. b.known j lt ∙ a.known j lt }
    by false = launches-but l.instance l.batch t

module _ (s : Stage) (x : ℕ) where
  abbrev lead : Lead
  lead = lead_of (setup_of s.config) s.config.me s.life x

  abbrev launch-at : ℕ → Launch
  launch-at i =
      let reports = counted_report (setup_of s.config) s.config.me s.life in
      record { instance = i; batch = adopted_by s.config.n reports s.life i; decided = not (logs.is_known s i) && is_some (decided_below s.config.n reports i) }

  -- the decided batch of i in the counted reports
  abbrev told-of : ℕ → Option Batch
  told-of i = decided_below s.config.n (counted_report (setup_of s.config) s.config.me s.life) i

  adopts-one : (i : ℕ) (t : Turned) → GoesOnFrom s i t → adopts lead i t ≡ made (launch-at i) t
  adopts-one i t h = ap (launches i (adopted_by s.config.n (counted_report (setup_of s.config) s.config.me s.life) s.life i)) learned
    where
      known-is : logs.is_known t.stage i ≡ logs.is_known s i
      known-is = let b = h.base in let k = h.known i (omega arith) in cc

      n-is : decided_below t.stage.config.n lead.reports i ≡ told-of i
      n-is = let c = h.config in cc

      by : (k : Bool) (o : Option Batch) → logs.is_known s i ≡ k → told-of i ≡ o
          → when (not k) (when_some o (learns i)) t ≡ when (not k && is_some o) (learns i (adopted_by s.config.n (counted_report (setup_of s.config) s.config.me s.life) s.life i)) t
      by true o e f = refl
      by false None e f = refl
      by false (Some batch) e f = ap (λ (b : Batch). learns i b t) (sym (adopted-is batch e f))
        where
          adopted-is : (batch : Batch) → logs.is_known s i ≡ false → told-of i ≡ Some batch → adopted_by s.config.n (counted_report (setup_of s.config) s.config.me s.life) s.life i ≡ batch
          adopted-is batch e f = let none = (unknown s i e).1 in rw (none, f) refl

      learned : when (not (logs.is_known t.stage i)) (when_some (decided_below t.stage.config.n lead.reports i) (learns i)) t ≡ when (launch-at i).decided (learns i (launch-at i).batch) t
      learned = ap (λ (k : Bool). when (not k) (when_some (decided_below t.stage.config.n lead.reports i) (learns i)) t) known-is ∙ ap (λ (o : Option Batch). when (not (logs.is_known s i)) (when_some o (learns i)) t) n-is ∙ by (logs.is_known s i) (told-of i) refl refl

  goes : (i : ℕ) (t : Turned) → GoesOnFrom s i t → GoesOnFrom s (suc i) (made (launch-at i) t)
  goes i t h =
      let b = made-but (launch-at i) t in
      record { config = b.config ∙ h.config; base = b.base ∙ h.base; known = λ j le. b.known j (omega arith) ∙ h.known j (omega arith) }

  all : (k i : ℕ) (t : Turned) → GoesOnFrom s i t → for_range k i (adopts lead) t ≡ for_each (launches_of k s i) made t
  all zero i t h = refl
  all (suc k) i t h =
      ap (for_range k (suc i) (adopts lead)) (adopts-one i t h)
      ∙ all k (suc i) (made (launch-at i) t) (goes i t h)

pub launches_as_the_model : LaunchesAsTheModel
launches_as_the_model s x k i t h = all s x k i t h

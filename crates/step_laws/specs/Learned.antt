-- Which instances a turn learns: by votes, by known batches that came, and as it becomes Prepared.
use Rattle.std.specs.Prelude.{ℕ, zero, suc, ◌-◌, max, ◌&&◌, not, List, [], ◌∷◌, ◌++◌, if◌then◌else◌, Option, Some, None}
use Rattle.jp_types.specs.declared.message.Message.{Message}
use Rattle.jp_types.specs.declared.message.Propose.{Propose}
use Rattle.jp_types.specs.Instances.{Batch}
use Rattle.jp_types.specs.Reports.{decided_below}
use Rattle.paxos_world.specs.declared.step.Step.{Step}
use Rattle.paxos_world.specs.Adoption.{counted_report}
use Rattle.paxos_world.specs.Leading.{leads}
use Rattle.paxos_world.specs.Life.{Leading, No, Preparing, Leads}
use Rattle.paxos_world.specs.Logs.{is_in_span, is_known, tallied, with_note}
use Rattle.paxos_world.specs.Settling.{is_prepared, adoption_end}
use Rattle.paxos_world.specs.Stage.{setup_of, Stage, Item, Came}
use Rattle.step_laws.specs.Views.{may_vote}

-- the stage with an acceptance of p noted
abbrev pub with_acceptance : Stage → ℕ → ℕ → ℕ → Option Batch → Stage
with_acceptance s i view p batch = with_note (record { instance = i; view = view; replica = p; batch = batch }) s

-- the stage with the acceptances noted that a proposal of p brings: that of p, with the batch, and the own one where the stage votes
abbrev pub with_proposal : Stage → ℕ → Propose → Stage
with_proposal s p m =
    let proposed = with_acceptance s m.instance m.view p (Some m.batch) in
    if may_vote s p m then with_acceptance proposed m.instance m.view s.config.me None else proposed

-- the step of learning an instance, where there is a batch with which it is learned
abbrev pub learned_if : ℕ → ℕ → Option Batch → List Step
learned_if me i None = []
learned_if me i (Some batch) = Step.Learn me i ∷ []

-- known batches from an instance on: each instance of them is learned that is in span and not known
abbrev pub learned_from : Stage → ℕ → List Batch → List Step
learned_from s i [] = []
learned_from s i (batch ∷ batches) = let rest = learned_from s (suc i) batches in if is_in_span s i && not (is_known s i) then Step.Learn s.config.me i ∷ rest else rest

-- what an item makes a stage learn: a proposal of the leader of its view, or an acceptance, with which the instance's tally has a batch and a majority; or known batches
abbrev pub learned_by : Stage → Item → List Step
learned_by s (Came from (Message.Propose m)) = if leads s from.replica m.view then learned_if s.config.me m.instance (tallied (with_proposal s from.replica m) m.instance) else []
learned_by s (Came from (Message.Accept m)) = learned_if s.config.me m.instance (tallied (with_acceptance s m.instance m.view from.replica None) m.instance)
learned_by s (Came from (Message.CatchUpReply m)) = learned_from s m.first m.batches
learned_by s _ = []

-- of k instances from i on, those are learned that are not known and that a counted report has as decided
abbrev pub adopted_learns : ℕ → Stage → ℕ → List Step
adopted_learns zero s i = []
adopted_learns (suc k) s i =
    (if is_known s i then [] else learned_if s.config.me i (decided_below s.config.n (counted_report (setup_of s.config) s.config.me s.life) i)) ++ adopted_learns k s (suc i)

-- what a stage learns as it becomes Prepared: of the instances that it launches
abbrev pub learns_at_prepared : Leading → Stage → List Step
learns_at_prepared No s = []
learns_at_prepared (Preparing first) s = if is_prepared s first then adopted_learns (adoption_end s first - max first s.base) s (max first s.base) else []
learns_at_prepared (Leads lead) s = []

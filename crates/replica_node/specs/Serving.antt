-- A step of the Service stage.
use Rattle.std.specs.Prelude.{ℕ, Bool, false, ◌&&◌, List, [], ◌∷◌, ◌++◌, drop, if◌then◌else◌, Option, Some, None}
use Rattle.std.specs.List.{slice_get}
use Rattle.kv_service.specs.Dues.{is_due}
use Rattle.kv_service.specs.Service.{State, outcomes}
use Rattle.paxos_world.specs.declared.step.Step.{Step}
use Rattle.protocol_core.specs.declared.act.Act.{Act}
use Rattle.protocol_core.specs.declared.item.Item.{Item}
use Rattle.service_manager.specs.Serving.{makes_snapshot, restores, snapshot_of, state_after}
use Rattle.service_manager.specs.declared.decision.Decision.{Decision}
use Rattle.replica_node.specs.Lane.{is_full}
use Rattle.replica_node.specs.Stepping.{Stepping, done, refused}
use Rattle.replica_node.specs.declared.stages.Stages.{Stages}
use Rattle.replica_node.specs.declared.stages.Taken.{Taken}

-- whether the front decision, if there is one, makes a snapshot
abbrev pub front_makes_snapshot : State → Option Decision → Bool
front_makes_snapshot state None = false
front_makes_snapshot state (Some d) = makes_snapshot state d

-- whether the front decision makes a snapshot for which the dispatcher lane has no place
abbrev pub is_service_blocked : Stages → Bool
is_service_blocked s = front_makes_snapshot s.service (slice_get s.decisions 0) && is_full s.dispatcher

-- the dispatcher lane with a snapshot at its end, if one was taken, of a service that executed so many instances
abbrev pub with_snapshot : List Item → ℕ → Option (List ℕ) → List Item
with_snapshot lane upto None = lane
with_snapshot lane upto (Some bytes) = lane ++ Item.Snapshot upto bytes ∷ []

-- what the Service stage of replica `me` shows of a decision: the execution of the batch of an instance that is due, and the restoring of a state that is ahead
abbrev pub served_acts : ℕ → State → Decision → List Act
served_acts me state (Decision.Decided i batch) = if is_due state i then Act.Step (Step.Execute me i (outcomes state batch)) ∷ [] else []
served_acts me state (Decision.Install upto other) = if restores state (Decision.Install upto other) then Act.Step (Step.Restore me upto) ∷ [] else []

-- the stages after the Service stage takes a decision
abbrev pub decision_taken : Stages → Decision → Stages
decision_taken s d =
    let state = state_after s.service d in
    record s { service = state; dispatcher = with_snapshot s.dispatcher state.executed (snapshot_of s.service d) }

-- the Service stage takes the front decision, if there is one
abbrev pub served : Stages → Option Decision → Stepping
served s None = refused Taken.Empty s
served s (Some d) = done (served_acts s.me s.service d) (decision_taken (record s { decisions = drop 1 s.decisions }) d)

-- a step of the Service stage: nothing is taken where the front decision makes a snapshot for which there is no place
abbrev pub service_step : Stages → Stepping
service_step s = if is_service_blocked s then refused Taken.Full s else served s (slice_get s.decisions 0)

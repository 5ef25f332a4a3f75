-- What the Service stage does with a decision.
use Rattle.std.specs.Prelude.{ℕ, suc, ◌%◌, Bool, false, ◌&&◌, nat_lt, ◌==◌, List, [], ◌∷◌, if◌then◌else◌, Option, Some, None}
use Rattle.kv_service.specs.declared.outcome.Outcome.{Outcome}
use Rattle.kv_service.specs.Service.{State, execute, outcomes}
use Rattle.kv_service.specs.StateBytes.{state_bytes}
use Rattle.service_manager.specs.declared.decision.Decision.{Decision}
use Rattle.service_manager.specs.declared.decision.Decision.TheVariants.{Decided, Install}
use Rattle.kv_service.specs.Dues.{snapshot_step, is_due}

-- whether a decision makes the executed number one at which a snapshot is taken
abbrev pub makes_snapshot : State → Decision → Bool
makes_snapshot s (Decided i batch) = is_due s i && (suc s.executed % snapshot_step == 0)
makes_snapshot s (Install upto state) = false

-- whether a decision replaces the state: it installs one that is ahead
abbrev pub restores : State → Decision → Bool
restores s (Decided i batch) = false
restores s (Install upto state) = nat_lt s.executed upto

-- the state after a decision
abbrev pub state_after : State → Decision → State
state_after s (Decided i batch) = if is_due s i then execute s batch else s
state_after s (Install upto state) = if nat_lt s.executed upto then state else s

-- the outcomes of a decision
abbrev pub outcomes_of : State → Decision → List Outcome
outcomes_of s (Decided i batch) = if is_due s i then outcomes s batch else []
outcomes_of s (Install upto state) = []

-- the snapshot that a decision gives: the bytes of the state after it
abbrev pub snapshot_of : State → Decision → Option (List ℕ)
snapshot_of s d = if makes_snapshot s d then Some (state_bytes (state_after s d)) else None

-- the state after these decisions, one after another
abbrev pub state_after_all : State → List Decision → State
state_after_all s [] = s
state_after_all s (d ∷ ds) = state_after_all (state_after s d) ds

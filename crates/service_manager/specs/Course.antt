-- The batches that the Service stage executes, and that the sequential service comes to the same.
use Rattle.std.specs.Prelude.{◌≡◌, ℕ, ◌+◌, nat_lt, List, [], ◌∷◌, ◌++◌, length, if◌then◌else◌}
use Rattle.std.specs.List.{range_with_len}
use Rattle.jp_types.specs.Instances.{Batch}
use Rattle.kv_service.specs.Service.{State, start, execute_all, serve}
use Rattle.service_manager.specs.declared.decision.Decision.{Decision}
use Rattle.service_manager.specs.declared.decision.Decision.TheVariants.{Decided, Install}
use Rattle.service_manager.specs.Serving.{state_after_all}
use Rattle.kv_service.specs.Dues.{is_due}

-- the last state that was restored, or the first one of all, and the batches that were executed since, in order
pub record Course : Type 0 where
  pub from : State
  pub batches : List Batch
  -- the instance of each
  pub instances : List ℕ

-- before any decision
abbrev pub new_course : Course
new_course = record { from = start; batches = []; instances = [] }

-- what the sequential service comes to
abbrev pub state_of : Course → State
state_of c = execute_all c.from c.batches

-- a course with what a decision adds: a batch that is due, or a new beginning
abbrev pub course_after : Course → Decision → Course
course_after c (Decided i batch) = if is_due (state_of c) i then record c { batches = c.batches ++ batch ∷ []; instances = c.instances ++ i ∷ [] } else c
course_after c (Install upto state) = if nat_lt (state_of c).executed upto then record { from = state; batches = []; instances = [] } else c

-- a course with what these decisions add, in order
abbrev pub course_after_all : Course → List Decision → Course
course_after_all c [] = c
course_after_all c (d ∷ ds) = course_after_all (course_after c d) ds

-- the course of a service that took these decisions
abbrev pub course_of : List Decision → Course
course_of ds = course_after_all new_course ds

-- whatever the decisions, the state is the sequential service's after the batches executed since the last restored state, from that state
abbrev pub IsSequential : Type 0
IsSequential = (ds : List Decision) → state_after_all start ds ≡ state_of (course_of ds)

-- where no state was restored, it is that after all batches executed
abbrev pub IsServed : Type 0
IsServed = (ds : List Decision) → (course_of ds).from ≡ start → state_after_all start ds ≡ serve (course_of ds).batches

-- the instances of a course are as many as its batches, one after another from the first state's executed number on
abbrev pub IsInOrder : Course → Type 0
IsInOrder c = c.instances ≡ range_with_len c.from.executed (length c.batches)

-- each of these batches was executed in the instance of its place, counted from the restored state's executed number, and each is counted
abbrev pub ExecutesInOrder : Type 0
ExecutesInOrder = (ds : List Decision) → IsInOrder (course_of ds) × ((state_after_all start ds).executed ≡ (course_of ds).from.executed + length (course_of ds).batches)

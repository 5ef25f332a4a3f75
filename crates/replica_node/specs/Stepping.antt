-- What a step of a stage answers, and what it leaves.
use Rattle.std.specs.Prelude.{◌≡◌, List}
use Rattle.protocol_core.specs.declared.act.Act.{Act}
use Rattle.replica_node.specs.declared.stages.Stages.{Stages}
use Rattle.replica_node.specs.declared.stages.Taken.{Taken}

-- the answer to a step that does not fail, and the stages after it
pub record Stepping : Type 0 where
  pub answer : Taken
  pub stages : Stages

-- a step that answers so, and leaves the stages as they were
abbrev pub refused : Taken → Stages → Stepping
refused answer s = record { answer = answer; stages = s }

-- a step that does this, and leaves the stages so
abbrev pub done : List Act → Stages → Stepping
done acts s = record { answer = Taken.Done acts; stages = s }

-- these are the answer and the stages after a step
abbrev pub Is : Stepping → Taken → Stages → Type 0
Is step taken new = (taken ≡ step.answer) × (new ≡ step.stages)

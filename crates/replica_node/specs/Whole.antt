-- A replica as contracts see it.
use Rattle.std.specs.Prelude.{Bool}
use Rattle.replica_node.specs.declared.stages.Stages.{Stages}

-- a replica: its stages with their lanes, and whether a step has failed
pub record Whole : Type 0 where
  pub stages : Stages
  pub down : Bool

-- When the Protocol stage of a replica stands for a stage of the model: its life and what it computed from the items that it took.
use Rattle.std.specs.Prelude.{◌≡◌, false}
use Rattle.paxos_world.specs.Stage as model
use Rattle.protocol_laws.specs.Arming.{arming_of}
use Rattle.protocol_laws.specs.Keeping.{KeepsLife}
use Rattle.protocol_stage.specs.Arming.{arming_in, IsTight, RepeatsFitly}
use Rattle.protocol_stage.specs.Running.{Running}

-- it works, its life is that of the stage, and what it repeats may be sent by that life
pub record Lives (s : model.Stage) (p : Running) : Type 0 where
  pub keeps : KeepsLife s p.life
  pub fitly : RepeatsFitly s.config p.repeating.slots
  pub up : p.down ≡ false

-- the same, and what it repeats is what the stage has armed, slot by slot
pub record Stands (s : model.Stage) (p : Running) : Type 0 where
  pub keeps : KeepsLife s p.life
  pub arming : arming_of s ≡ arming_in p.repeating
  pub tight : IsTight p.repeating
  pub fitly : RepeatsFitly s.config p.repeating.slots
  pub up : p.down ≡ false

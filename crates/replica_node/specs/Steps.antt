-- The steps of a replica.
use Rattle.std.specs.Prelude.{◌≡◌, true, false}
use Rattle.std.specs.List.{slice_get}
use Rattle.replica_node.specs.Batching.{batch_step}
use Rattle.replica_node.specs.Repeating.{retransmit_step}
use Rattle.replica_node.specs.Serving.{service_step}
use Rattle.replica_node.specs.Stepping.{Is}
use Rattle.replica_node.specs.Taking.{TakesFront}
use Rattle.replica_node.specs.Whole.{Whole}
use Rattle.replica_node.specs.declared.stage.Stage.{Stage}
use Rattle.replica_node.specs.declared.stage.Stage.TheVariants as stage
use Rattle.replica_node.specs.declared.stage.Stepped.{Stepped}
use Rattle.replica_node.specs.declared.stage.Stepped.TheVariants as answer
use Rattle.replica_node.specs.declared.stages.Stages.{Stages}
use Rattle.replica_node.specs.declared.stages.Taken.{Taken}

-- a step of a stage that does not fail
abbrev pub StepsAt : Stage → Stages → Taken → Stages → Type 0
StepsAt stage.Batch old taken new = Is (batch_step old) taken new
StepsAt stage.Protocol old taken new = TakesFront (slice_get old.dispatcher 0) old taken new
StepsAt stage.Service old taken new = Is (service_step old) taken new
StepsAt stage.Retransmit old taken new = Is (retransmit_step old) taken new

-- a replica that is up is up after a step of a stage that does not fail
pub record StaysUp (s : Stage) (old : Whole) (taken : Taken) (new : Whole) : Type 0 where
  pub before : old.down ≡ false
  pub after : new.down ≡ false
  pub step : StepsAt s old.stages taken new.stages

-- a replica that is up is down after a step that fails
pub record Fails (old new : Whole) : Type 0 where
  pub before : old.down ≡ false
  pub after : new.down ≡ true

-- a step of a stage that answers so. Of a replica that is down nothing changes; only the Protocol stage finds a fault of the disk
abbrev pub Steps : Stage → Whole → Stepped → Whole → Type 0
Steps s old (answer.Done acts) new = StaysUp s old (Taken.Done acts) new
Steps s old answer.Empty new = StaysUp s old Taken.Empty new
Steps s old answer.Full new = StaysUp s old Taken.Full new
Steps s old answer.Down new = (old.down ≡ true) × (new ≡ old)
Steps s old answer.StoreFault new = Fails old new × (s ≡ stage.Protocol)
Steps s old answer.NoMemory new = Fails old new

-- The answers to a step.
use Rattle.protocol_stage.specs.declared.protocol.TurnFault.{TurnFault}
use Rattle.replica_node.specs.declared.stage.Stepped.{Stepped}
use Rattle.replica_node.specs.declared.stages.Taken.{Taken}

-- the answer to a step that does not fail
abbrev pub answer_of : Taken → Stepped
answer_of (Taken.Done acts) = Stepped.Done acts
answer_of Taken.Empty = Stepped.Empty
answer_of Taken.Full = Stepped.Full

-- the answer to a step that fails
abbrev pub answer_to : TurnFault → Stepped
answer_to TurnFault.NoMemory = Stepped.NoMemory
answer_to TurnFault.StoreFault = Stepped.StoreFault
answer_to TurnFault.Down = Stepped.Down

-- What a life takes and does, in the words of the model.
use Rattle.std.specs.Prelude.{List, [], ◌∷◌, ◌++◌}
use Rattle.paxos_world.specs.Stage as model
use Rattle.paxos_world.specs.Stage.{Came, Closed, Tick, Suspect, Snapped}
use Rattle.service_manager.specs.declared.decision.Decision.{Decision}
use Rattle.protocol_core.specs.declared.act.Act.{Act}
use Rattle.protocol_core.specs.declared.item.Item.{Item}

-- the item of a life, which sees of a message only the replica that it came from
abbrev pub item_of : model.Item → Item
item_of (Came from message) = Item.Message from.replica message
item_of (Closed batch) = Item.Batch batch
item_of Tick = Item.Tick
item_of Suspect = Item.Suspect
item_of (Snapped upto bytes) = Item.Snapshot upto bytes

-- the model's decision
abbrev pub model_decision : Decision → model.Decision
model_decision (Decision.Decided i batch) = model.Decided i batch
model_decision (Decision.Install upto state) = model.Installed upto state

-- an act as the model has it, where it is one of the model's
abbrev pub model_act : Act → List model.Act
model_act (Act.Step step) = model.Show step ∷ []
model_act (Act.Send to message) = model.Send to message ∷ []
model_act (Act.Hand decision) = model.Hand (model_decision decision) ∷ []
model_act (Act.Save number) = model.Save number ∷ []
model_act (Act.Arm topic outgoing) = []
model_act (Act.Cancel topic) = []
model_act Act.CancelProposes = []

-- acts as the model has them, in order
abbrev pub model_acts : List Act → List model.Act
model_acts [] = []
model_acts (act ∷ acts) = model_act act ++ model_acts acts

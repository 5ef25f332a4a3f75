-- A step of the Protocol stage.
use Rattle.std.specs.Prelude.{◌≡◌, ℕ, ◌-◌, false, List, [], ◌∷◌, ◌++◌, drop, length, Option, Some, None}
use Rattle.protocol_core.specs.declared.act.Act.{Act}
use Rattle.protocol_core.specs.declared.item.Item.{Item}
use Rattle.protocol_stage.specs.Arming.{takes_least}
use Rattle.protocol_stage.specs.Performing.{Repeats, outward}
use Rattle.protocol_core.specs.Turned.{Turned}
use Rattle.protocol_core.specs.Turning.{turn}
use Rattle.service_manager.specs.declared.decision.Decision.{Decision}
use Rattle.replica_node.specs.Lane.{places}
use Rattle.replica_node.specs.declared.stages.Stages.{Stages}
use Rattle.replica_node.specs.declared.stages.Taken.{Taken}

-- the decision that an act hands on
abbrev pub handed_by : Act → List Decision
handed_by (Act.Step step) = []
handed_by (Act.Send to message) = []
handed_by (Act.Hand decision) = decision ∷ []
handed_by (Act.Save number) = []
handed_by (Act.Arm topic outgoing) = []
handed_by (Act.Cancel topic) = []
handed_by Act.CancelProposes = []

-- the decisions that acts hand on, in order
abbrev pub handed_of : List Act → List Decision
handed_of [] = []
handed_of (act ∷ acts) = handed_by act ++ handed_of acts

-- an act, unless it hands a decision on
abbrev pub kept_by : Act → List Act
kept_by (Act.Step step) = Act.Step step ∷ []
kept_by (Act.Send to message) = Act.Send to message ∷ []
kept_by (Act.Hand decision) = []
kept_by (Act.Save number) = Act.Save number ∷ []
kept_by (Act.Arm topic outgoing) = Act.Arm topic outgoing ∷ []
kept_by (Act.Cancel topic) = Act.Cancel topic ∷ []
kept_by Act.CancelProposes = Act.CancelProposes ∷ []

-- those of these acts that hand no decision on, in order
abbrev pub kept_of : List Act → List Act
kept_of [] = []
kept_of (act ∷ acts) = kept_by act ++ kept_of acts

-- for how many decisions the decision lane has places
abbrev pub room_in : Stages → ℕ
room_in s = places - length s.decisions

-- the turn that the life takes with an item
abbrev pub turned : Stages → Item → Turned
turned s item = turn s.protocol.life item (room_in s)

-- the Protocol stage took an item: its life took the turn, and its decisions went into the decision lane, in order; these are the other acts that go out, in order
pub record TakesItem (old : Stages) (item : Item) (acts : List Act) (new : Stages) : Type 0 where
  pub life : new.protocol.life ≡ (turned old item).life
  pub repeating : Repeats takes_least (turned old item).acts old.protocol.repeating new.protocol.repeating
  pub up : new.protocol.down ≡ false
  pub acts_are : acts ≡ kept_of (outward (turned old item).acts)
  pub rest : new ≡ record old { protocol = new.protocol; decisions = old.decisions ++ handed_of (turned old item).acts }

-- the Protocol stage took the front item, if there is one
abbrev pub TakesFront : Option Item → Stages → Taken → Stages → Type 0
TakesFront None old taken new = (taken ≡ Taken.Empty) × (new ≡ old)
TakesFront (Some item) old taken new = (acts : List Act) × (taken ≡ Taken.Done acts) × TakesItem (record old { dispatcher = drop 1 old.dispatcher }) item acts new

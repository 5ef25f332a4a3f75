-- When what a Protocol stage does is the turn of the model.
use Rattle.std.specs.Prelude.{◌≡◌, ◌⊎◌, ℕ, false, List, [], ◌∷◌, map, Option, Some}
use Rattle.paxos_world.specs.Stage as model
use Rattle.paxos_world.specs.Turn as model_turn
use Rattle.retransmitter.specs.Slots.{least_free}
use Rattle.retransmitter.specs.declared.slots.Slot.{Slot}
use Rattle.stable_store.specs.Slots.{Loads}
use Rattle.protocol_core.specs.declared.act.Act.{Act}
use Rattle.protocol_core.specs.declared.config.Config.{Config}
use Rattle.protocol_core.specs.declared.item.Item.{Item}
use Rattle.protocol_laws.specs.Acting.{item_of, model_acts}
use Rattle.protocol_laws.specs.Coming.{Comes, SendsFitly}
use Rattle.protocol_laws.specs.Keeping.{KeepsLife}
use Rattle.protocol_stage.specs.Arming.{RepeatsFitly, model_slot}
use Rattle.protocol_stage.specs.Running.{Running}
use Rattle.protocol_stage.specs.Standing.{Lives, Stands}

-- the acts of the model that go out: all but what is saved
abbrev pub going_out : List model.Act → List model.Act
going_out [] = []
going_out (model.Show step ∷ acts) = model.Show step ∷ going_out acts
going_out (model.Send to m ∷ acts) = model.Send to m ∷ going_out acts
going_out (model.Hand decision ∷ acts) = model.Hand decision ∷ going_out acts
going_out (model.Save number ∷ acts) = going_out acts

-- what repeats messages takes the least slot that is free
abbrev pub TakesLeast : (List Slot → Option ℕ → Type 0) → Type 0
TakesLeast may_take = (slots : List Slot) (k : Option ℕ) → may_take slots k → k ≡ least_free slots

-- ---- Turns

-- a stage that stood for one of the model took an item, and stands for that after the model's turn; these are the acts that go out
pub record Took (may_take : List Slot → Option ℕ → Type 0) (s : model.Stage) (item : model.Item) (room : ℕ) (old : Running) (out : List Act) (new : Running) : Type 0 where
  pub acts : model_acts out ≡ going_out (model_turn.turn s item room).acts
  pub sends : SendsFitly s.config out
  pub lives : Lives (model_turn.turn s item room).stage new
  -- where the least free slot is taken, the slots are those of the model
  pub stands : TakesLeast may_take → Stands s old → Stands (model_turn.turn s item room).stage new

-- for each stage of the model for which it stood, and to which the item may come
abbrev pub FollowsTurn : (List Slot → Option ℕ → Type 0) → Item → ℕ → Running → List Act → Running → Type 0
FollowsTurn may_take item room old out new =
    (s : model.Stage) (i : model.Item) → Lives s old → Comes s i → item_of i ≡ item → Took may_take s i room old out new

-- an image loads the number before a turn of the model or the one after it
abbrev pub LoadsAtTurn : model.Stage → model.Item → ℕ → List ℕ → Type 0
LoadsAtTurn s item room image = Loads image (Some s.stable) ⊎ Loads image (Some (model_turn.turn s item room).stage.stable)

-- ---- Starts

-- the constants of a replica, as the model has them
abbrev pub model_config : Config → model.Config
model_config c = record { n = c.n; me = c.me; mode = c.mode; window = c.window }

-- the slots of a retransmitter, as the model has them
abbrev pub model_slots : List Slot → List model.Slot
model_slots slots = map model_slot slots

-- a stage that began, as life `number` of its replica, stands for that with which the model's life begins; these are the acts that go out
pub record Began (may_take : List Slot → Option ℕ → Type 0) (slots : List Slot) (config : Config) (stored : Option ℕ) (number : ℕ) (made : Running) (out : List Act) : Type 0 where
  pub opened : model_turn.Opened
  pub opening_is : model_turn.opening (model_config config) (model_slots slots) number stored ≡ Some opened
  pub acts : model_acts out ≡ going_out opened.turned.acts
  pub sends : SendsFitly (model_config config) out
  pub keeps : KeepsLife opened.turned.stage made.life
  pub up : made.down ≡ false
  -- where what the slots repeat from before may be sent
  pub lives : RepeatsFitly (model_config config) slots → Lives opened.turned.stage made
  pub stands : TakesLeast may_take → RepeatsFitly (model_config config) slots → Stands opened.turned.stage made

-- whichever life of its replica it is
abbrev pub FollowsOpening : (List Slot → Option ℕ → Type 0) → List Slot → Config → Option ℕ → Running → List Act → Type 0
FollowsOpening may_take slots config stored made out = (number : ℕ) → Began may_take slots config stored number made out

-- an image loads the number from which a life of the model begins, or, where one does, the number that it saves first
abbrev pub LoadsAtStart : model.Config → List model.Slot → ℕ → Option ℕ → List ℕ → Type 0
LoadsAtStart c slots number stored image =
    Loads image stored ⊎ ((opened : model_turn.Opened) × (model_turn.opening c slots number stored ≡ Some opened) × Loads image (Some opened.turned.stage.stable))

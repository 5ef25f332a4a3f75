-- The turn of a life, and how it begins, are those of the model.
use Rattle.std.specs.Prelude.{◌≡◌, ℕ, List, [], Option, Some, None}
use Rattle.kv_service.specs.Service.{start}
use Rattle.paxos_world.specs.Stage.{Slot, Stage, Item, new_stage}
use Rattle.paxos_world.specs.Stage as model
use Rattle.paxos_world.specs.Turn as model_turn
use Rattle.protocol_core.specs.declared.life.Life.{Life}
use Rattle.protocol_core.specs.Starting.{opening}
use Rattle.protocol_core.specs.Turning.{turn}
use Rattle.protocol_core.specs.Turned.{Turned}
use Rattle.protocol_laws.specs.Acting.{item_of, model_acts}
use Rattle.protocol_laws.specs.Arming.{Arming, arming_of, armed_after}
use Rattle.protocol_laws.specs.Keeping.{IsWithin, config_of, KeepsLife}
use Rattle.protocol_laws.specs.Following.{Follows}
use Rattle.protocol_laws.specs.Coming.{Comes, SendsFitly}

-- where a life is that of a stage, to which an item may come, its turn is that of the stage
abbrev pub TurnsAlike : Type 0
TurnsAlike = (s : Stage) (life : Life) (item : Item) (room : ℕ) → KeepsLife s life → Comes s item
    → Follows (model_turn.untouched s) (model_turn.turn s item room) (turn life (item_of item) room)

-- nothing is armed in these slots
abbrev pub unarmed : List Slot → Arming
unarmed slots = record { slots = slots; prepare = None; recovery = None; query = None; proposes = [] }

-- how a life of these constants began is how a stage began
pub record BeginsAlike (c : model.Config) (slots : List Slot) (made : model_turn.Opened) (did : Turned) : Type 0 where
  pub config : made.turned.stage.config ≡ c
  pub keeps : KeepsLife made.turned.stage did.life
  pub acts : made.turned.acts ≡ model_acts did.acts
  pub arming : arming_of made.turned.stage ≡ armed_after (unarmed slots) did.acts
  pub sends : SendsFitly c did.acts
  pub service : made.turned.stage.life.service ≡ start

-- what both openings give, if they give anything, is alike
abbrev pub AreAlike : model.Config → List Slot → Option model_turn.Opened → Option Turned → Type 0
AreAlike c slots None None = Unit {0}
AreAlike c slots (Some made) (Some did) = BeginsAlike c slots made did
AreAlike c slots None (Some did) = ⊥
AreAlike c slots (Some made) None = ⊥

-- a life begins where a stage does, and as it does
abbrev pub OpeningsAlike : Type 0
OpeningsAlike = (c : model.Config) (within : IsWithin c) (slots : List Slot) (number : ℕ) (stored : Option ℕ)
    → AreAlike c slots (model_turn.opening c slots number stored) (opening (config_of c within) stored)

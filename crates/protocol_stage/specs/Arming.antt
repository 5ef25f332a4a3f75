-- When the messages that are repeated for a life are those that a stage of the model has armed.
use Rattle.std.specs.Prelude.{◌≡◌, ◌≢◌, ℕ, ◌<◌, true, List, [], ◌∷◌, ◌++◌, length, map, Option, Some, None, is_some}
use Rattle.std.specs.Option.{option_map}
use Rattle.jp_types.specs.Lists.{In}
use Rattle.paxos_world.specs.Stage as model
use Rattle.retransmitter.specs.Armed.{Armed}
use Rattle.retransmitter.specs.Slots.{generation_at, least_free, live_at}
use Rattle.retransmitter.specs.declared.slots.Slot.{Slot}
use Rattle.protocol_stage.specs.Repeating.{Repeating, Tokens}
use Rattle.retransmitter.specs.declared.outgoing.Outgoing.{Outgoing}
use Rattle.protocol_laws.specs.Arming.{Arming, model_outgoing}
use Rattle.protocol_laws.specs.Coming.{IsRepeatable}

-- a message is repeated in the least slot that is free
abbrev pub takes_least : List Slot → Option ℕ → Type 0
takes_least slots k = k ≡ least_free slots

-- a slot, as the model has it
abbrev pub model_slot : Slot → model.Slot
model_slot slot = record { generation = slot.generation; live = option_map model_outgoing slot.live }

-- by what a message is cancelled, as the model has it
abbrev pub model_armed : Armed → model.Armed
model_armed a = record { slot = a.slot; generation = a.generation }

-- an armed proposal, as the model has it
abbrev pub model_propose : ℕ × Armed → ℕ × model.Armed
model_propose a = (a.0, model_armed a.1)

-- what is repeated, as the model has it
abbrev pub arming_in : Repeating → Arming
arming_in r =
    record {
      slots = map model_slot r.slots;
      prepare = option_map model_armed r.tokens.prepare;
      recovery = option_map model_armed r.tokens.recovery;
      query = option_map model_armed r.tokens.query;
      proposes = map model_propose r.tokens.proposes;
    }

-- the list of what there is, if there is anything
abbrev pub list_of : Option Armed → List Armed
list_of None = []
list_of (Some a) = a ∷ []

-- all that is armed
abbrev pub all_armed : Tokens → List Armed
all_armed t = list_of t.prepare ++ (list_of t.recovery ++ (list_of t.query ++ map (λ a. a.1) t.proposes))

-- a message is repeated in this slot, since it was armed by this
pub record IsRepeated (slots : List Slot) (a : Armed) : Type 0 where
  pub inside : a.slot < length slots
  pub generation : generation_at slots a.slot ≡ a.generation
  pub live : is_some (live_at slots a.slot) ≡ true

-- no two of these are armed in one slot
abbrev pub AreApart : List Armed → Type 0
AreApart [] = Unit {0}
AreApart (a ∷ more) = ((b : Armed) → In b more → a.slot ≢ b.slot) × AreApart more

-- each message that is to be cancelled is repeated, in a slot of its own
pub record IsTight (r : Repeating) : Type 0 where
  pub repeated : (a : Armed) → In a (all_armed r.tokens) → IsRepeated r.slots a
  pub apart : AreApart (all_armed r.tokens)

-- what is repeated may be sent, and goes to others
abbrev pub RepeatsFitly : model.Config → List Slot → Type 0
RepeatsFitly c slots = (k : ℕ) (o : Outgoing) → live_at slots k ≡ Some o → IsRepeatable c o

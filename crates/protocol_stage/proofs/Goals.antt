-- What is shown of what is repeated.
use Rattle.std.specs.Prelude.{◌≡◌, ℕ, false, List, Option}
use Rattle.paxos_world.specs.Stage.{free_slots}
use Rattle.paxos_world.specs.Stage as model
use Rattle.paxos_world.specs.Turn as model_turn
use Rattle.retransmitter.specs.Slots as slots
use Rattle.retransmitter.specs.declared.slots.Slot.{Slot}
use Rattle.protocol_core.specs.declared.act.Act.{Act}
use Rattle.protocol_core.specs.declared.config.Config.{Config}
use Rattle.protocol_core.specs.declared.item.Item.{Item}
use Rattle.protocol_core.specs.Turning.{turn}
use Rattle.protocol_laws.specs.Acting.{item_of}
use Rattle.protocol_laws.specs.Arming.{armed_after}
use Rattle.protocol_laws.specs.Coming.{Comes, SendsFitly}
use Rattle.protocol_laws.specs.Laws as laws
use Rattle.protocol_stage.specs.Arming.{arming_in, IsTight, RepeatsFitly, takes_least}
use Rattle.protocol_stage.specs.Following.{FollowsOpening, FollowsTurn}
use Rattle.protocol_stage.specs.Performing.{Repeats, outward}
use Rattle.protocol_stage.specs.Repeating as repeating
use Rattle.protocol_stage.specs.Repeating.{Repeating}
use Rattle.protocol_stage.specs.Running.{IsOpened, Running}
use Rattle.protocol_stage.specs.Standing.{Lives}

-- after acts what is repeated is what the stage has armed
abbrev pub ArmsAlike : Type 0
ArmsAlike =
    (r after : Repeating) (acts : List Act) → IsTight r → Repeats takes_least acts r after → (armed_after (arming_in r) acts ≡ arming_in after) × IsTight after

-- and it may still be sent, whichever slots are taken
abbrev pub RepeatsAreFit : Type 1
RepeatsAreFit =
    (may_take : List Slot → Option ℕ → Type 0) (c : model.Config) (r after : Repeating) (acts : List Act) → SendsFitly c acts → RepeatsFitly c r.slots → Repeats may_take acts r after → RepeatsFitly c after.slots

-- nothing is repeated at first
pub record NoneIsRepeated : Type 0 where
  pub arming : laws.unarmed free_slots ≡ arming_in (repeating.unarmed slots.free_slots)
  pub tight : IsTight (repeating.unarmed slots.free_slots)
  pub fitly : (c : model.Config) → RepeatsFitly c slots.free_slots

-- ---- Turns and starts

-- a stage whose life took a turn, and that performed its acts, follows the model's turn
abbrev pub TurnsFollow : Type 1
TurnsFollow =
    (may_take : List Slot → Option ℕ → Type 0) (item : Item) (room : ℕ) (old new : Running) (out : List Act)
    → new.life ≡ (turn old.life item room).life → out ≡ outward (turn old.life item room).acts → Repeats may_take (turn old.life item room).acts old.repeating new.repeating → new.down ≡ false
    → FollowsTurn may_take item room old out new

-- the stable number of its life after a turn is that of the model
abbrev pub TurnsStable : Type 0
TurnsStable = (s : model.Stage) (item : model.Item) (room : ℕ) (old : Running) → Lives s old → Comes s item → (turn old.life (item_of item) room).life.stable ≡ (model_turn.turn s item room).stage.stable

-- a stage that began follows the model's opening
abbrev pub OpensFollow : Type 1
OpensFollow =
    (may_take : List Slot → Option ℕ → Type 0) (slots : List Slot) (config : Config) (stored : Option ℕ) (made : Running) (out : List Act) → IsOpened may_take slots config stored made out
    → FollowsOpening may_take slots config stored made out

-- The Protocol stage of a replica: a life over a disk, and over what repeats its messages.
use Rattle.std.specs.Prelude.{◌≡◌, ◌⊎◌, ◌≤◌, ℕ, Bool, true, false, List, Option, Some}
use Rattle.retransmitter.specs.declared.slots.Slot.{Slot}
use Rattle.paxos_world.specs.Counting.{is_recovering}
use Rattle.stable_store.specs.declared.cell.CellFault.{CellFault}
use Rattle.stable_store.specs.Slots.{Loads, Slots, held}
use Rattle.protocol_core.specs.declared.act.Act.{Act}
use Rattle.protocol_stage.specs.declared.protocol.StartFault.{StartFault}
use Rattle.protocol_core.specs.declared.starting.StartFault.{StartFault as LifeFault}
use Rattle.protocol_core.specs.declared.config.Config.{Config}
use Rattle.protocol_core.specs.declared.life.Life.{Life}
use Rattle.protocol_stage.specs.Performing.{Repeats, outward}
use Rattle.protocol_stage.specs.Repeating.{Repeating, unarmed}
use Rattle.protocol_core.specs.Starting.{opening}
use Rattle.protocol_core.specs.Turned.{Turned}

-- the stage: its life, the slots of the cell that holds its stable number, what is repeated for it, and whether a turn has failed
pub record Running : Type 0 where
  pub life : Life
  pub cell : Slots
  pub repeating : Repeating
  pub down : Bool

-- the stable number of a life that is Recovering is not above its mark
abbrev pub IsSteady : Life → Type 0
IsSteady life = is_recovering life.phase ≡ true → life.stable ≤ life.mark

-- the cell holds the life's stable number
pub record HoldsStable (life : Life) (cell : Slots) : Type 0 where
  pub holds : held cell ≡ Some life.stable
  pub steady : IsSteady life

-- the number that a disk holds, where its bytes are known
abbrev pub IsHeld : Option (List ℕ) → Option ℕ → Type 0
IsHeld seen stored = (bytes : List ℕ) → seen ≡ Some bytes → Loads bytes stored

-- a life begins so from the number that the disk holds
abbrev pub Opens : Config → Option ℕ → Turned → Type 0
Opens config stored opened = opening config stored ≡ Some opened

-- a stage of this life, whose first acts were performed over these messages, and what went out of them
pub record HasBegun (may_take : List Slot → Option ℕ → Type 0) (before : Repeating) (life : Life) (acts : List Act) (made : Running) (out : List Act) : Type 0 where
  pub life_is : made.life ≡ life
  pub gone_out : out ≡ outward acts
  pub repeated : Repeats may_take acts before made.repeating
  pub up : made.down ≡ false

-- a stage that began over these slots, from the number that the disk holds, and what its life does first that goes out
pub record IsOpened (may_take : List Slot → Option ℕ → Type 0) (slots : List Slot) (config : Config) (stored : Option ℕ) (made : Running) (out : List Act) : Type 0 where
  pub opened : Turned
  pub opening_is : Opens config stored opened
  pub life : made.life ≡ opened.life
  pub gone_out : out ≡ outward opened.acts
  pub repeated : Repeats may_take opened.acts (unarmed slots) made.repeating
  pub up : made.down ≡ false

-- an image that loads the number from which a life begins, or, where one does, the number that it saves first
pub record LoadsAtOpening (config : Config) (stored : Option ℕ) (image : List ℕ) : Type 0 where
  pub one : Loads image stored ⊎ ((opened : Turned) × Opens config stored opened × Loads image (Some opened.life.stable))

-- why a stage does not start where the number is not loaded
abbrev pub fault_of_cell : CellFault → StartFault
fault_of_cell CellFault.Disk = StartFault.StoreFault
fault_of_cell (CellFault.Damaged length) = StartFault.Damaged length

-- why a stage does not start where no life begins
abbrev pub fault_of_life : LifeFault → StartFault
fault_of_life (LifeFault.Spent number) = StartFault.Spent number
fault_of_life LifeFault.NoMemory = StartFault.NoMemory

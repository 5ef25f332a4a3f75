-- Two slots of nine bytes, each of a number and a gate, and the number for which they stand.
use Rattle.std.specs.Prelude.{◌≡◌, ◌≢◌, ◌⊎◌, ◌∷◌, [], Bool, ℕ, ◌+◌, ◌*◌, ◌==◌, nat_le, max, is_some, if◌then◌else◌, List, length, take, drop, slice_index, Option, Some, None}
use Rattle.std.specs.Int.{w64, from_be_bytes, to_be_bytes}
use Rattle.stable_store.specs.Disks.{IsSettled, overwritten}

-- the byte of an open gate; any other is closed
abbrev pub OPEN : ℕ
OPEN = 0xA5

-- the number of a slot: eight bytes, the greatest first
unfoldable pub number_in : ℕ → List ℕ → ℕ
number_in slot image = from_be_bytes w64 (take 8 (drop (9 * slot) image))

-- the byte behind it
unfoldable pub gate_in : ℕ → List ℕ → ℕ
gate_in slot image = slice_index image (9 * slot + 8)

-- the number of a slot that is open
abbrev pub open_in : ℕ → List ℕ → Option ℕ
open_in slot image = if gate_in slot image == OPEN then Some (number_in slot image) else None

-- the numbers of the open slots
pub record Slots : Type 0 where
  pub first : Option ℕ
  pub second : Option ℕ

abbrev pub slots_in : List ℕ → Slots
slots_in image = record { first = open_in 0 image; second = open_in 1 image }

abbrev pub greater_of : Option ℕ → Option ℕ → Option ℕ
greater_of None other = other
greater_of (Some a) None = Some a
greater_of (Some a) (Some b) = Some (max a b)

-- the greatest number of an open slot
abbrev pub held : Slots → Option ℕ
held slots = greater_of slots.first slots.second

-- the number of a slot, where it is open
abbrev pub number_of : ℕ → Slots → Option ℕ
number_of slot slots = if slot == 0 then slots.first else slots.second

abbrev pub with_number : ℕ → ℕ → Slots → Slots
with_number slot number slots = if slot == 0 then record slots { first = Some number } else record slots { second = Some number }

abbrev pub lesser_of : Option ℕ → Option ℕ → ℕ
lesser_of None second = 0
lesser_of (Some a) None = 1
lesser_of (Some a) (Some b) = if nat_le a b then 0 else 1

-- the slot that the next save takes: the first where no slot is open, the closed one where one is, else that of the lesser number
abbrev pub next_slot : Slots → ℕ
next_slot slots = lesser_of slots.first slots.second

-- the slots after a save
abbrev pub saved : ℕ → Slots → Slots
saved number slots = with_number (next_slot slots) number slots

-- an image of 18 bytes whose greatest open slot has this number, or that has no open slot
abbrev pub Loads : List ℕ → Option ℕ → Type 0
Loads image number = (length image ≡ 18) × (held (slots_in image) ≡ number)

-- the bytes where a gate was open and is closed
abbrev pub shut_in : Bool → ℕ → List ℕ → List ℕ
shut_in is_open gate bytes = if is_open then overwritten gate (0 ∷ []) bytes else bytes

-- the bytes after a number was saved in a slot: its gate was closed, the number written, and the gate opened
abbrev pub written_in : ℕ → Option ℕ → ℕ → List ℕ → List ℕ
written_in slot kept number bytes =
    overwritten (9 * slot + 8) (OPEN ∷ []) (overwritten (9 * slot) (to_be_bytes w64 number) (shut_in (is_some kept) (9 * slot + 8) bytes))

-- While a number is saved in a slot, the other slot is as it was, and that slot too, or it is closed, or it has the number.
pub record Between (slot number : ℕ) (seen : Option (List ℕ)) (image : List ℕ) : Type 0 where
  pub bytes : List ℕ
  pub began : seen ≡ Some bytes
  pub size : length image ≡ length bytes
  pub others : (other : ℕ) → other ≢ slot → open_in other image ≡ open_in other bytes
  pub own : (open_in slot image ≡ open_in slot bytes) ⊎ ((open_in slot image ≡ None) ⊎ (open_in slot image ≡ Some number))

-- the bytes after a save
abbrev pub stored : ℕ → Slots → List ℕ → List ℕ
stored number slots bytes = written_in (next_slot slots) (number_of (next_slot slots) slots) number bytes

-- These slots stand on a device of 18 bytes, where a crash leaves what a read gives.
pub record Stands (slots : Slots) (size : ℕ) (seen : Option (List ℕ)) (images : List ℕ → Type 0) : Type 0 where
  pub fits : size ≡ 18
  pub read : (bytes : List ℕ) → seen ≡ Some bytes → slots_in bytes ≡ slots
  pub settled : IsSettled seen images

-- Sets of slots, with one bit of a word for each slot.
use Rattle.std.specs.Prelude.{◌≡◌, ℕ, ◌*◌, ◌/◌, ◌%◌, ◌^◌, ◌<◌, Bool, true, false, ◌==◌, if◌then◌else◌, List, slice_index, Option, MatchOption, bit_and, bit_or}
use Rattle.std.specs.Int.{bit_at, bit_not, w64}
use Rattle.retransmitter.specs.declared.slots.Slot.{Slot}
use Rattle.retransmitter.specs.Slots.{is_free, slot_at}

-- whether a slot is in the set
abbrev pub has : List ℕ → ℕ → Bool
has words slot = bit_at (slice_index words (slot / 64)) (slot % 64) == 1

-- a word with this bit set, or cleared
abbrev pub with_bit : ℕ → ℕ → Bool → ℕ
with_bit word bit there = if there then bit_or word (1 * 2 ^ bit % 2 ^ 64) else bit_and word (bit_not w64 (1 * 2 ^ bit % 2 ^ 64))

-- a slot of the set, below which there is none
pub record IsLeastOf (words : List ℕ) (slot : ℕ) : Type 0 where
  pub within : slot < 256
  pub there : has words slot ≡ true
  pub first : (other : ℕ) → other < slot → has words other ≡ false

-- the least slot of the set, or none where the set is empty
abbrev pub IsLeast : List ℕ → Option ℕ → Type 0
IsLeast words least = MatchOption least ((slot : ℕ) → slot < 256 → has words slot ≡ false) (λ slot. IsLeastOf words slot)

-- the set has the slots that are free
abbrev pub HasFree : List ℕ → List Slot → Type 0
HasFree words slots = (slot : ℕ) → slot < 256 → has words slot ≡ is_free (slot_at slots slot)

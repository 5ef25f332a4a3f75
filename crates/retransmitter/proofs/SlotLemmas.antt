-- One look at a slot, and what the least free slot is.
use Rattle.std.proofs.Common.{◌≡◌, ℕ, suc, ◌+◌, ◌%◌, ◌<◌, true, false, List, length, Some, None, is_some, refl, ap}
use Rattle.std.proofs.lemmas.List.Quantifiers.{position-Some}
use Rattle.retransmitter.specs.declared.slots.Slot.{Slot}
use Rattle.retransmitter.specs.Slots.{is_free, least_free, live_at, live_from, new_slot, next_live, slot_at}

-- before the first look
pub live_first : (slots : List Slot) (cursor k : ℕ) → k ≡ 256 → live_from k slots cursor ≡ next_live slots cursor
unfolding next_live
live_first slots cursor k e = ap (λ n. live_from n slots cursor) e

-- a slot that is not live is passed over
pub live_passed : (n : ℕ) (slots : List Slot) (k : ℕ) → is_some (live_at slots k) ≡ false → live_from (suc n) slots k ≡ live_from n slots ((k + 1) % 256)
unfolding live_from
live_passed n slots k h = rw h refl

-- a live slot is the one
pub live_found : (n : ℕ) (slots : List Slot) (k : ℕ) → is_some (live_at slots k) ≡ true → live_from (suc n) slots k ≡ Some k
unfolding live_from
live_found n slots k h = rw h refl

-- after the last look
pub live_none : (slots : List Slot) (k : ℕ) → live_from 0 slots k ≡ None
unfolding live_from
live_none slots k = refl

-- the least free slot is one, and it is free
pub free_least : (slots : List Slot) (k : ℕ) → least_free slots ≡ Some k → is_free (slot_at slots k) ≡ true
free_least slots k e = let h = position-Some is_free slots k new_slot e in h.1

pub inside_least : (slots : List Slot) (k : ℕ) → least_free slots ≡ Some k → k < length slots
inside_least slots k e = let h = position-Some is_free slots k new_slot e in h.0

-- Slots of messages that are repeated: arming, cancelling and claiming.
use Rattle.std.specs.Prelude.{◌≡◌, ℕ, zero, suc, ◌+◌, ◌-◌, ◌%◌, ◌^◌, ◌<◌, Bool, true, ◌&&◌, not, List, length, replicate, nat_lt, ◌==◌, if◌then◌else◌, slice_index_or, slice_set, position, Option, Some, None, is_some, Result, Ok, Err}
use Rattle.retransmitter.specs.declared.outgoing.Outgoing.{Outgoing}
use Rattle.retransmitter.specs.declared.outgoing.Full.{Full}
use Rattle.retransmitter.specs.declared.slots.Slot.{Slot}
use Rattle.retransmitter.specs.declared.slots.Lent.{Lent}
use Rattle.retransmitter.specs.Armed.{Armed}

-- how many slots there are
abbrev pub slot_count : ℕ
slot_count = 256

-- a slot that was never armed
abbrev pub new_slot : Slot
new_slot = record { generation = 0; live = None }

-- the slots of a new retransmitter, all free
unfoldable pub free_slots : List Slot
free_slots = replicate slot_count new_slot

-- slot k
abbrev pub slot_at : List Slot → ℕ → Slot
slot_at slots k = slice_index_or slots k new_slot

-- how often slot k was armed
abbrev pub generation_at : List Slot → ℕ → ℕ
generation_at slots k = (slot_at slots k).generation

-- the message of slot k, if it is live
abbrev pub live_at : List Slot → ℕ → Option Outgoing
live_at slots k = (slot_at slots k).live

-- a slot whose generation has come to this is not armed again
abbrev pub generation_limit : ℕ
generation_limit = 2 ^ 62 - 1

-- whether a slot may be armed: it is not live, and its generation may rise
abbrev pub is_free : Slot → Bool
is_free slot = not (is_some slot.live) && nat_lt slot.generation generation_limit

-- the least slot that is free, if there is one
abbrev pub least_free : List Slot → Option ℕ
least_free slots = position is_free slots

-- slots after a message is armed in slot k
abbrev pub armed_at : List Slot → ℕ → Outgoing → List Slot
armed_at slots k m = slice_set slots k (record { generation = suc (generation_at slots k); live = Some m })

-- a message was armed: in a slot that was free, whose generation rose by one
pub record IsArmed (before : List Slot) (m : Outgoing) (a : Armed) (after : List Slot) : Type 0 where
  pub inside : a.slot < length before
  pub free : is_free (slot_at before a.slot) ≡ true
  pub generation : a.generation ≡ suc (generation_at before a.slot)
  pub after_is : after ≡ armed_at before a.slot m

-- the slot that an arming took, if it took one
abbrev pub slot_of : Result Armed Full → Option ℕ
slot_of (Ok a) = Some a.slot
slot_of (Err full) = None

-- what arming a message answers, where this slot is taken for it, or none
abbrev pub answer_in : List Slot → Outgoing → Option ℕ → Result Armed Full
answer_in slots m None = Err (record { 0 = m })
answer_in slots m (Some k) = Ok (record { slot = k; generation = suc (generation_at slots k) })

-- slots after a message is armed in this slot, or in none
abbrev pub slots_in : List Slot → Outgoing → Option ℕ → List Slot
slots_in slots m None = slots
slots_in slots m (Some k) = armed_at slots k m

-- what arming a message answers: by the least free slot
abbrev pub arm_answer : List Slot → Outgoing → Result Armed Full
arm_answer slots m = answer_in slots m (least_free slots)

-- slots after a message is armed
abbrev pub slots_armed : List Slot → Outgoing → List Slot
slots_armed slots m = slots_in slots m (least_free slots)

-- slots after what is armed is cancelled: its slot is not live, where it has that generation
abbrev pub cancelled : List Slot → Armed → List Slot
cancelled slots a =
    if generation_at slots a.slot == a.generation then slice_set slots a.slot (record { generation = a.generation; live = None }) else slots

-- a generation with a message, if there is one
abbrev pub under : ℕ → Option Outgoing → Option (ℕ × Outgoing)
under generation None = None
under generation (Some m) = Some (generation, m)

-- what a claim of slot k gives: its generation and its message, if it is live
abbrev pub claim_of : List Slot → ℕ → Option (ℕ × Outgoing)
claim_of slots k = under (generation_at slots k) (live_at slots k)

-- what a claim shows
abbrev pub lent_of : Option Lent → Option (ℕ × Outgoing)
lent_of None = None
lent_of (Some lent) = Some (lent.generation, lent.outgoing.now)

-- the first live slot among k from the cursor on, cyclically
unfoldable pub live_from : ℕ → List Slot → ℕ → Option ℕ
live_from zero slots cursor = None
live_from (suc k) slots cursor = if is_some (live_at slots cursor) then Some cursor else live_from k slots ((cursor + 1) % slot_count)

-- the first live slot from the cursor on, cyclically over all slots
unfoldable pub next_live : List Slot → ℕ → Option ℕ
next_live slots cursor = live_from slot_count slots cursor

-- Parts of the turn at their limits.
use Rattle.std.specs.Prelude.{◌≡◌, ℕ, ◌^◌, ◌-◌, true, false, List, [], ◌∷◌, length, map, replicate, Some, None, refl}
use Rattle.jp_types.specs.declared.message.Message.{Message}
use Rattle.jp_types.specs.declared.message.SnapshotPart.{SnapshotPart}
use Rattle.jp_types.specs.declared.mode.Mode.TheVariants.{ViewSs, EpochSs}
use Rattle.paxos_world.specs.Stage.{Slot, Outgoing, free_slots}
use Rattle.kv_service.specs.Parts.{Joiner}
use Rattle.paxos_world.specs.Retransmitting.{arm_from, free_at, claim}
use Rattle.paxos_world.specs.CatchingUp.{parts_of, joiner_for}
use Rattle.kv_service.specs.Parts.{takes_part, with_part, is_joined, joined_bytes}
use Rattle.jp_types.specs.Instances.{peer}
use Rattle.jp_types.specs.Views.{next_led, next_not_led}
use Rattle.jp_types.specs.Marks.{return_mark}

-- ---- Snapshots in parts

-- the place and the length of a part
abbrev shape : Message → ℕ × ℕ × ℕ
shape (Message.SnapshotPart m) = (m.total, m.at, length m.bytes)
shape _ = (0, 0, 0)

pub two_parts : map shape (parts_of (record { place = 512; bytes = replicate 80133 7; installed = false })) ≡ (80133, 0, 65536) ∷ (80133, 65536, 14597) ∷ []
two_parts = refl

abbrev part : ℕ → ℕ → ℕ → ℕ → SnapshotPart
part total at n byte = record { upto = 5; total = total; at = at; bytes = replicate n byte }

-- a joiner that has the second of two parts
abbrev with_second : Joiner
with_second = with_part (joiner_for None 5 70000) (part 70000 65536 4464 1)

pub takes_second : takes_part (joiner_for None 5 70000) (part 70000 65536 4464 1) ≡ true
takes_second = refl

pub not_joined : is_joined with_second ≡ false
not_joined = refl

pub takes_again : takes_part with_second (part 70000 65536 4464 1) ≡ true
takes_again = refl

pub not_joined_again : is_joined (with_part with_second (part 70000 65536 4464 1)) ≡ false
not_joined_again = refl

pub other_byte : takes_part with_second (part 70000 65536 4464 2) ≡ false
other_byte = refl

pub other_total : takes_part with_second (part 70001 0 65536 1) ≡ false
other_total = refl

pub other_cut : takes_part with_second (part 70000 100 65536 1) ≡ false
other_cut = refl

pub joins : is_joined (with_part with_second (part 70000 0 65536 1)) ≡ true
joins = refl

pub joins_whole : length (joined_bytes (with_part with_second (part 70000 0 65536 1))) ≡ 70000
joins_whole = refl

-- ---- Views and marks

pub past_the_limit : return_mark ViewSs 3 2 (2 ^ 48) ≡ None
past_the_limit = refl

pub up_to_the_limit : return_mark EpochSs 3 2 (2 ^ 48 - 1) ≡ Some (2 ^ 48)
up_to_the_limit = refl

pub skips_own : next_not_led 3 2 1 ≡ Some 3
skips_own = refl

pub leads_later : next_led 5 2 2 ≡ Some 7
leads_later = refl

pub peers : map (peer 1 3) (0 ∷ 1 ∷ 2 ∷ []) ≡ 2 ∷ 0 ∷ 2 ∷ []
peers = refl

-- ---- The retransmitter

abbrev first_message : Outgoing
first_message = record { message = Message.Recovery (record { mark = 1 }); to = 0 ∷ [] }

abbrev second_message : Outgoing
second_message = record { message = Message.Recovery (record { mark = 2 }); to = 0 ∷ [] }

abbrev slots_1 : List Slot
slots_1 = (arm_from 0 free_slots first_message).0

-- after a cancel, and after arming anew
abbrev slots_2 : List Slot
slots_2 = free_at slots_1 0

pub first_armed : (arm_from 0 free_slots first_message).1 ≡ Some (record { slot = 0; generation = 1 })
unfolding free_slots
first_armed = refl

pub first_claimed : claim slots_1 0 ≡ Some (0, first_message)
unfolding free_slots claim
first_claimed = refl

pub none_claimed : claim slots_2 0 ≡ None
unfolding free_slots claim
none_claimed = refl

pub second_armed : (arm_from 0 slots_2 second_message).1 ≡ Some (record { slot = 0; generation = 2 })
unfolding free_slots
second_armed = refl

-- slots after arming k times
abbrev armed_times : ℕ → List Slot → List Slot
armed_times ℕ.zero slots = slots
armed_times (ℕ.suc k) slots = armed_times k (arm_from 0 slots first_message).0

pub full : (arm_from 0 (armed_times 256 free_slots) first_message).1 ≡ None
unfolding free_slots
full = refl

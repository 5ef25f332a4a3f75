-- One slot armed or cancelled: in the model as in the code, and what that leaves of the others.
use Rattle.std.proofs.Common.{◌≡◌, ◌≢◌, ◌∙◌, ℕ, zero, suc, ◌+◌, ◌<◌, ◌≤◌, Bool, true, false, ◌&&◌, ◌||◌, not, List, [], ◌∷◌, length, map, nat_lt, nat_le, ◌==◌, if◌then◌else◌, slice_set, Option, Some, None, is_some, refl, sym, ap, arith}
use Rattle.std.specs.Option.{option_map}
use Rattle.std.proofs.lemmas.Bool.Decides.{nat_tests}
use Rattle.std.proofs.lemmas.List.Quantifiers.{position-Some}
use Rattle.std.specs.List.{position_or_len}
use Rattle.std.proofs.lemmas.List.Sums.{fails_before_first}
use Rattle.std.proofs.lemmas.List.{get_or-set_other, length-set}
use Rattle.paxos_world.specs.Stage as model
use Rattle.paxos_world.specs.Retransmitting as retransmitting
use Rattle.paxos_world.specs.Retransmitting.{arm_from, is_taken, free_at}
use Rattle.retransmitter.specs.Armed.{Armed}
use Rattle.retransmitter.specs.Slots.{armed_at, cancelled, generation_at, generation_limit, is_free, least_free, new_slot, slot_at, slots_in}
use Rattle.retransmitter.specs.declared.outgoing.Outgoing.{Outgoing}
use Rattle.retransmitter.specs.declared.slots.Slot.{Slot}
use Rattle.protocol_stage.specs.Repeating.{armed_in}
use Rattle.protocol_laws.specs.Arming.{model_outgoing}
use Rattle.protocol_stage.specs.Arming.{model_slot, model_armed, IsRepeated}

-- ---- Which slot is taken

-- the model's test is the opposite of the code's
taken-or-free : (o : Option Outgoing) (g : ℕ) → (is_some (option_map model_outgoing o) || nat_le generation_limit g) ≡ not (not (is_some o) && nat_lt g generation_limit)
taken-or-free None g = grind (arith, nat_tests)
taken-or-free (Some m) g = refl

-- a slot that may be armed is not passed over
untaken : (s : Slot) → is_free s ≡ true → is_taken (model_slot s) ≡ false
untaken s e = taken-or-free s.live s.generation ∙ ap not e

-- a slot that may not be armed is passed over
taken : (s : Slot) → is_free s ≡ false → is_taken (model_slot s) ≡ true
taken s e = taken-or-free s.live s.generation ∙ ap not e

-- what the model arms, and its slots after it
abbrev pub Arms : ℕ → List Slot → Outgoing → List Slot → Option Armed → Type 0
Arms at slots m after a = arm_from at (map model_slot slots) (model_outgoing m) ≡ (map model_slot after, option_map model_armed a)

-- slots, and what is armed in this one of them
abbrev armed-as : List model.Slot → ℕ → ℕ → List model.Slot × Option model.Armed
armed-as slots place generation = (slots, Some (record { slot = place; generation = generation }))

-- the model arms a message in the first free slot
arm-first : (at : ℕ) (slots : List Slot) (m : Outgoing) (k place : ℕ) → at + k ≡ place → k < length slots → is_free (slot_at slots k) ≡ true → ((j : ℕ) → j < k → is_free (slot_at slots j) ≡ false)
    → Arms at slots m (armed_at slots k m) (Some (record { slot = place; generation = suc (generation_at slots k) }))
arm-first at [] m k place is lt free below = absurd (omega arith)
arm-first at (s ∷ slots) m zero place is lt free below =
    let same : at ≡ place = omega arith in
    let new : model.Slot = record { generation = suc s.generation; live = Some (model_outgoing m) } in
    rw (untaken s free) (ap (λ (n : ℕ). armed-as (new ∷ map model_slot slots) n (suc s.generation)) same)
arm-first at (s ∷ slots) m (suc k) place is lt free below =
    let next : suc at + k ≡ place = omega arith in
    let within : k < length slots = omega arith in
    let rest = arm-first (suc at) slots m k place next within free (λ j less. below (suc j) (omega arith)) in
    rw (taken s (below 0 (omega arith))) (ap (retransmitting.behind (model_slot s)) rest)

-- the model arms nothing where no slot is free
arm-none : (at : ℕ) (slots : List Slot) (m : Outgoing) → ((j : ℕ) → j < length slots → is_free (slot_at slots j) ≡ false) → Arms at slots m slots None
arm-none at [] m below = refl
arm-none at (s ∷ slots) m below =
    let rest = arm-none (suc at) slots m (λ j less. below (suc j) (omega arith)) in
    rw (taken s (below 0 (omega arith))) (ap (retransmitting.behind (model_slot s)) rest)

-- where no slot is the least free one, none is free
none-free : (slots : List Slot) → least_free slots ≡ None → (j : ℕ) → j < length slots → is_free (slot_at slots j) ≡ false
none-free slots e j lt = go (nat_lt (position_or_len is_free slots) (length slots)) refl
  where
    n : ℕ
    n = position_or_len is_free slots

    go : (b : Bool) → nat_lt n (length slots) ≡ b → is_free (slot_at slots j) ≡ false
    go true t = let some : least_free slots ≡ Some n = rw t refl in absurd cc
    go false t = let le : length slots ≤ n = grind (arith, nat_tests) in fails_before_first is_free slots j new_slot (omega arith)

-- the model arms a message in the slot that the code takes, if it takes one
pub arm-alike : (slots : List Slot) (m : Outgoing) → Arms 0 slots m (slots_in slots m (least_free slots)) (armed_in slots (least_free slots))
arm-alike slots m = go (least_free slots) refl
  where
    go : (o : Option ℕ) → least_free slots ≡ o → Arms 0 slots m (slots_in slots m o) (armed_in slots o)
    go None e = arm-none 0 slots m (none-free slots e)
    go (Some k) e = let h = position-Some is_free slots k new_slot e in arm-first 0 slots m k k (omega arith) h.0 h.1 h.2

-- ---- What is cancelled

-- a slot that is cancelled in the model is free there
free-alike : (slots : List Slot) (k : ℕ) → free_at (map model_slot slots) k ≡ map model_slot (slice_set slots k (record { generation = generation_at slots k; live = None }))
free-alike [] k = refl
free-alike (s ∷ slots) zero = refl
free-alike (s ∷ slots) (suc k) = ap (λ x. model_slot s ∷ x) (free-alike slots k)

-- the code cancels what is repeated
cancelled-is : (slots : List Slot) (a : Armed) → IsRepeated slots a → cancelled slots a ≡ slice_set slots a.slot (record { generation = generation_at slots a.slot; live = None })
cancelled-is slots a h =
    let same = h.generation in
    let test : (generation_at slots a.slot == a.generation) ≡ true = grind (arith, nat_tests) in
    rw test (ap (λ (g : ℕ). slice_set slots a.slot (record { generation = g; live = None })) (sym same))

-- what is repeated is cancelled in the model as in the code
pub cancelled-alike : (slots : List Slot) (a : Armed) → IsRepeated slots a → free_at (map model_slot slots) a.slot ≡ map model_slot (cancelled slots a)
cancelled-alike slots a h = free-alike slots a.slot ∙ sym (ap (map model_slot) (cancelled-is slots a h))

-- ---- What is left

-- what holds of a new slot and of an old one holds after the change
pub set-cases : (P : Slot → Type 0) (slots : List Slot) (k : ℕ) (s : Slot) (j : ℕ) → P s → P (slot_at slots j) → P (slot_at (slice_set slots k s) j)
set-cases P [] k s j new old = old
set-cases P (x ∷ slots) zero s zero new old = new
set-cases P (x ∷ slots) zero s (suc j) new old = old
set-cases P (x ∷ slots) (suc k) s zero new old = old
set-cases P (x ∷ slots) (suc k) s (suc j) new old = set-cases P slots k s j new old

-- what is repeated in another slot is repeated still
pub repeated-still : (slots : List Slot) (k : ℕ) (s : Slot) (b : Armed) → b.slot ≢ k → IsRepeated slots b → IsRepeated (slice_set slots k s) b
repeated-still slots k s b other h =
    let same : slot_at (slice_set slots k s) b.slot ≡ slot_at slots b.slot = get_or-set_other slots k b.slot s new_slot other in
    let long : length (slice_set slots k s) ≡ length slots = length-set slots k s in
    let inside = h.inside in
    record {
      inside = omega arith;
      generation = ap (λ (x : Slot). x.generation) same ∙ h.generation;
      live = ap (λ (x : Slot). is_some x.live) same ∙ h.live;
    }

-- what is repeated in another slot is repeated after a cancel
pub left-repeated : (slots : List Slot) (a b : Armed) → b.slot ≢ a.slot → IsRepeated slots b → IsRepeated (cancelled slots a) b
left-repeated slots a b other h = go (generation_at slots a.slot == a.generation)
  where
    go : (test : Bool) → IsRepeated (if test then slice_set slots a.slot (record { generation = a.generation; live = None }) else slots) b
    go true = repeated-still slots a.slot (record { generation = a.generation; live = None }) b other h
    go false = h

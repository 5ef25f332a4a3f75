-- Which slots a set has after a change, and which is the least.
use Rattle.std.proofs.Common.{◌≡◌, ◌≢◌, ℕ, ◌+◌, ◌*◌, ◌/◌, ◌%◌, ◌^◌, ◌<◌, ◌≤◌, ◌⊎◌, inl, inr, Bool, true, false, not, ◌-◌, cond, nat_lt, ◌==◌, List, length, get_or, set, replicate, position, Option, Some, None, IfSome, w64, refl, sym, ap, ◌∙◌, arith, length-set, get_or-set_same, get_or-set_other}
use Rattle.std.specs.Int.{bit_at, trailing_zeros}
use Rattle.std.proofs.lemmas.Bool.{cases_eq}
use Rattle.std.proofs.lemmas.Bool.Decides.{nat_tests}
use Rattle.std.proofs.lemmas.List.{get_or-replicate}
use Rattle.std.proofs.lemmas.List.Sums.{prefix_len_is}
use Rattle.std.proofs.lemmas.Nat.Bits.{bit_at-zero, bit_at-trailing_zeros, bit_at_set_same, bit_at_set_other, bit_at_clear_same, bit_at_clear_other, bit_at_ones}
use Rattle.retransmitter.specs.declared.slots.Slot.{Slot}
use Rattle.retransmitter.specs.Slots.{is_free, least_free, new_slot, slot_at}
use Rattle.retransmitter.specs.SlotSets.{has, with_bit, IsLeast, IsLeastOf, HasFree}
use Rattle.retransmitter.proofs.SlotLemmas.{free_least}

-- the bit that is written
bit_written : (word k : ℕ) (b : Bool) → k < 64 → (bit_at (with_bit word k b) k == 1) ≡ b
bit_written word k true lt = rw (bit_at_set_same w64 word k lt) refl
bit_written word k false lt = rw (bit_at_clear_same w64 word k lt) refl

-- each other bit
bit_kept : (word k : ℕ) (b : Bool) (i : ℕ) → k < 64 → i < 64 → i ≢ k → bit_at (with_bit word k b) i ≡ bit_at word i
bit_kept word k true i lt below differs = bit_at_set_other w64 word k lt i differs
bit_kept word k false i lt below differs = bit_at_clear_other w64 word k lt i below differs

module _ (words : List ℕ) (slot : ℕ) (b : Bool) (within : slot / 64 < length words) where
  abbrev word : ℕ
  word = with_bit (get_or words (slot / 64) 0) (slot % 64) b

  pub has_written : has (set words (slot / 64) word) slot ≡ b
  has_written =
      let low : slot % 64 < 64 = omega arith in
      ap (λ n. bit_at n (slot % 64) == 1) (get_or-set_same words (slot / 64) word 0 within) ∙ bit_written (get_or words (slot / 64) 0) (slot % 64) b low

  pub has_kept : (other : ℕ) → other ≢ slot → has (set words (slot / 64) word) other ≡ has words other
  has_kept other differs =
      let low : slot % 64 < 64 = omega arith in
      elim (cases_eq (other / 64) (slot / 64)) [
        | inl same ↦
            ap (λ n. n == 1)
            (rw (same, get_or-set_same words (slot / 64) word 0 within) (bit_kept (get_or words (slot / 64) 0) (slot % 64) b (other % 64) low (omega arith) (λ index. differs (omega arith))))
        | inr apart ↦ ap (λ n. bit_at n (other % 64) == 1) (get_or-set_other words (slot / 64) (other / 64) word 0 apart)
      ]

-- the set follows a write to a slot
pub free_written : (words : List ℕ) (slots : List Slot) (k : ℕ) (s : Slot) → length words ≡ 4 → length slots ≡ 256 → k < 256 → HasFree words slots
    → HasFree (set words (k / 64) (with_bit (get_or words (k / 64) 0) (k % 64) (is_free s))) (set slots k s)
free_written words slots k s four all lt held j below =
    let within : k / 64 < length words = omega (arith, four, lt) in
    elim (cases_eq j k) [
      | inl same ↦ rw same (has_written words k (is_free s) within ∙ sym (ap is_free (get_or-set_same slots k s new_slot (omega (arith, all, lt)))))
      | inr differs ↦ has_kept words k (is_free s) within j differs ∙ held j below ∙ sym (ap is_free (get_or-set_other slots k j s new_slot differs))
    ]

-- all slots
pub has_all : (k : ℕ) → k < 256 → has (replicate 4 (2 ^ 64 - 1)) k ≡ true
has_all k lt =
    let at : k / 64 < 4 = omega (arith, lt) in
    let low : k % 64 < 64 = omega arith in
    rw (get_or-replicate 4 (k / 64) (2 ^ 64 - 1) 0 at, bit_at_ones 64 (k % 64) low) refl

below_or : (j n : ℕ) → (j < n) ⊎ (n ≤ j)
below_or j n = grind arith

-- a word of no bits
pub none_in_word : (words : List ℕ) (w : ℕ) → get_or words w 0 ≡ 0 → ((j : ℕ) → j < w * 64 → has words j ≡ false) → (j : ℕ) → j < (w + 1) * 64 → has words j ≡ false
none_in_word words w empty before j lt = by (below_or j (w * 64))
  where
    by : (j < w * 64) ⊎ (w * 64 ≤ j) → has words j ≡ false
    by (inl less) = before j less
    by (inr le) = let same : j / 64 ≡ w = omega (arith, le, lt) in rw (same, empty, bit_at-zero (j % 64)) refl

-- the lowest bit of the first word that has one
pub least_in_word : (words : List ℕ) (w n : ℕ) → w < 4 → get_or words w 0 ≡ n → n ≢ 0 → n < 2 ^ 64 → ((j : ℕ) → j < w * 64 → has words j ≡ false) → IsLeastOf words (w * 64 + trailing_zeros w64 n)
least_in_word words w n small is some fits before =
    let low = lowest.0 in
    let at = lowest.1 in
    record {
      within = omega (arith, small, low);
      there = let q : (w * 64 + t) / 64 ≡ w = omega (arith, low) in let r : (w * 64 + t) % 64 ≡ t = omega (arith, low) in rw (q, r, is, at) refl;
      first = λ j lt. by j lt (below_or j (w * 64));
    }
  where
    t : ℕ
    t = trailing_zeros w64 n

    lowest : (t < 64) × (bit_at n t ≡ 1) × ((i : ℕ) → i < t → bit_at n i ≡ 0)
    lowest = bit_at-trailing_zeros w64 n (grind (arith, some)) fits

    by : (j : ℕ) → j < w * 64 + t → (j < w * 64) ⊎ (w * 64 ≤ j) → has words j ≡ false
    by j lt (inl less) = before j less
    by j lt (inr le) =
        let low = lowest.0 in
        let same : j / 64 ≡ w = omega (arith, le, lt, low) in
        let none = lowest.2 (j % 64) (omega (arith, le, lt, low)) in
        rw (same, is, none) refl

lt-nat_lt : (a b : ℕ) → a < b → nat_lt a b ≡ true
lt-nat_lt a b h = grind (arith, nat_tests)

le-nat_lt : (a b : ℕ) → b ≤ a → nat_lt a b ≡ false
le-nat_lt a b h = grind (arith, nat_tests)

-- the first of a list that passes
position_found : {X : Type 0} (p : X → Bool) (xs : List X) (k : ℕ) (d : X) → k < length xs → p (get_or xs k d) ≡ true → ((j : ℕ) → j < k → p (get_or xs j d) ≡ false) → position p xs ≡ Some k
position_found p xs k d lt at before =
    let n = prefix_len_is (λ x. not (p x)) xs k d (omega (arith, lt)) (λ j less. ap not (before j less)) (λ less. ap not at) in
    ap (λ n. cond (nat_lt n (length xs)) (Some n) None) n ∙ ap (λ b. cond b (Some k) None) (lt-nat_lt k (length xs) lt)

position_none : {X : Type 0} (p : X → Bool) (xs : List X) (d : X) → ((j : ℕ) → j < length xs → p (get_or xs j d) ≡ false) → position p xs ≡ None
position_none p xs d none =
    let n = prefix_len_is (λ x. not (p x)) xs (length xs) d (omega arith) (λ j less. ap not (none j less)) (λ less. absurd (omega (arith, less))) in
    ap (λ n. cond (nat_lt n (length xs)) (Some n) None) n ∙ ap (λ b. cond b (Some (length xs)) None) (le-nat_lt (length xs) (length xs) (omega arith))

-- the least slot that is free
pub least_is : (words : List ℕ) (slots : List Slot) (k : ℕ) → length slots ≡ 256 → HasFree words slots → IsLeastOf words k → least_free slots ≡ Some k
least_is words slots k all held least =
    let within = least.within in
    position_found is_free slots k new_slot (omega (arith, all, within)) (sym (held k within) ∙ least.there)
    (λ j less. sym (held j (omega (arith, within, less))) ∙ least.first j less)

pub none_is : (words : List ℕ) (slots : List Slot) → length slots ≡ 256 → HasFree words slots → ((k : ℕ) → k < 256 → has words k ≡ false) → least_free slots ≡ None
none_is words slots all held none = position_none is_free slots new_slot (λ j less. let below : j < 256 = omega (arith, all, less) in sym (held j below) ∙ none j below)

pub least_of : (words : List ℕ) (slots : List Slot) (r : Option ℕ) → length slots ≡ 256 → HasFree words slots → IsLeast words r → r ≡ least_free slots
least_of words slots None all held none = sym (none_is words slots all held none)
least_of words slots (Some k) all held least = sym (least_is words slots k all held least)

pub free_of : (slots : List Slot) (r : Option ℕ) → r ≡ least_free slots → IfSome r (λ slot. is_free (slot_at slots slot) ≡ true)
free_of slots None e = tt
free_of slots (Some k) e = free_least slots k (sym e)

-- the set and the slots after a write to a slot, where the slot is put in or taken out as it is free
pub still_free : (words after : List ℕ) (slots : List Slot) (k : ℕ) (s : Slot) (b : Bool) → length words ≡ 4 → (length slots ≡ 256) × HasFree words slots → k < length slots → b ≡ is_free s
    → after ≡ set words (k / 64) (with_bit (get_or words (k / 64) 0) (k % 64) b) → (length (set slots k s) ≡ 256) × HasFree after (set slots k s)
still_free words after slots k s b four held lt same is =
    let all = held.0 in
    let written = free_written words slots k s four all (omega (arith, all, lt)) held.1 in
    (length-set slots k s ∙ all, rw (is, same) written)

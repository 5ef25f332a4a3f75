-- What each part of a save leaves in the two slots.
use Rattle.std.proofs.Common.{◌≡◌, ◌++◌, ◌≢◌, ◌⊎◌, inl, inr, ℕ, ◌+◌, ◌*◌, ◌<◌, ◌≤◌, ◌==◌, Bool, true, false, List, drop, Option, Some, None, option_map, refl, sym, ◌∙◌, ap, arith, if◌then◌else◌, take-append-drop}
use Rattle.std.specs.Int.{w64, from_be_bytes}
use Rattle.std.proofs.lemmas.Bool.{cases_order}
use Rattle.stable_store.specs.Disks.{Torn}
use Rattle.stable_store.specs.Slots.{OPEN, number_in, gate_in, open_in}
use Rattle.stable_store.proofs.DiskLemmas.{apart_stays, byte_stays}

pub number_stays : (at n : ℕ) (old new : List ℕ) → Torn at n old new → (slot : ℕ) → (9 * slot + 8 ≤ at) ⊎ (at + n ≤ 9 * slot) → number_in slot new ≡ number_in slot old
unfolding number_in
number_stays at n old new torn slot apart = ap (λ (l : List ℕ). from_be_bytes w64 l) (apart_stays at n old new torn (9 * slot) 8 apart)

pub gate_stays : (at n : ℕ) (old new : List ℕ) → Torn at n old new → (slot : ℕ) → (9 * slot + 8 < at) ⊎ (at + n ≤ 9 * slot + 8) → gate_in slot new ≡ gate_in slot old
unfolding gate_in
gate_stays at n old new torn slot apart = byte_stays at n old new torn (9 * slot + 8) apart

pub open_same : (slot : ℕ) (old new : List ℕ) → gate_in slot new ≡ gate_in slot old → number_in slot new ≡ number_in slot old → open_in slot new ≡ open_in slot old
open_same slot old new gate number =
    ap (λ (g : ℕ). if g == OPEN then Some (number_in slot new) else None) gate ∙ ap (λ (m : ℕ). if gate_in slot old == OPEN then Some m else None) number

pub open_cases : (slot : ℕ) (image : List ℕ) → (open_in slot image ≡ None) ⊎ (open_in slot image ≡ Some (number_in slot image))
open_cases slot image = by (gate_in slot image == OPEN) where
  by : (b : Bool) → ((if b then Some (number_in slot image) else None) ≡ None) ⊎ ((if b then Some (number_in slot image) else None) ≡ Some (number_in slot image))
  by false = inl refl
  by true = inr refl

-- a slot that was shut, and whose gate is the same, is shut
pub stays_shut : (slot : ℕ) (old new : List ℕ) → gate_in slot new ≡ gate_in slot old → open_in slot old ≡ None → open_in slot new ≡ None
stays_shut slot old new gate shut = ap (λ (g : ℕ). if g == OPEN then Some (number_in slot new) else None) gate ∙ by (gate_in slot old == OPEN) shut where
  by : (b : Bool) → (if b then Some (number_in slot old) else None) ≡ None → (if b then Some (number_in slot new) else None) ≡ None
  by false none = refl
  by true none = cc

-- nothing of a slot changes outside of its nine bytes
pub other_stays : (at n : ℕ) (old new : List ℕ) → Torn at n old new → (slot : ℕ) → 9 * slot ≤ at → at + n ≤ 9 * slot + 9 → (other : ℕ) → other ≢ slot → open_in other new ≡ open_in other old
other_stays at n old new torn slot low high other apart = elim (cases_order other slot) [
  | inl same ↦ absurd (apart same)
  | inr order ↦ elim order [
    | inl below ↦ open_same other old new (gate_stays at n old new torn other (inl (omega arith))) (number_stays at n old new torn other (inl (omega arith)))
    | inr above ↦ open_same other old new (gate_stays at n old new torn other (inr (omega arith))) (number_stays at n old new torn other (inr (omega arith)))
  ]
]

-- nothing is torn in a range of no bytes
pub torn_nowhere : (at : ℕ) (old new : List ℕ) → Torn at 0 old new → new ≡ old
torn_nowhere at old new torn =
    let rest : drop at new ≡ drop at old = let is : at + 0 ≡ at = omega arith in ap (λ (k : ℕ). drop k new) (sym is) ∙ torn.after ∙ ap (λ (k : ℕ). drop k old) is in
    sym (take-append-drop at new) ∙ (λ i. torn.before i ++ rest i) ∙ take-append-drop at old

-- where a mapped option has a value
pub mapped : (f : List ℕ → List ℕ) (o : Option (List ℕ)) (image : List ℕ) → option_map f o ≡ Some image → (bytes : List ℕ) × (o ≡ Some bytes) × (f bytes ≡ image)
mapped f None image is = absurd (cc)
mapped f (Some bytes) image is = (bytes, refl, cc)

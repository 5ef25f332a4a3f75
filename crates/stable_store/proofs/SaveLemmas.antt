-- What a crash leaves in each of the three parts of a save.
use Rattle.std.proofs.Common.{◌≡◌, ◌≢◌, ◌⊎◌, inl, inr, ⊎_elim, ℕ, ◌+◌, ◌*◌, ◌<◌, ◌≤◌, ◌^◌, ◌==◌, Bool, List, [], ◌∷◌, length, get_or, take, drop, append_assoc, Option, Some, None, is_some, option_map, refl, sym, ◌∙◌, ap, subst, arith, if◌then◌else◌}
use Rattle.std.specs.Int.{w64, from_be_bytes, to_be_bytes}
use Rattle.std.proofs.lemmas.List.{get_or_at, length-take-le}
use Rattle.std.proofs.lemmas.Nat.{from_be_bytes-to_be_bytes_8}
use Rattle.stable_store.specs.Disks.{overwritten, Torn, TornFrom, IsSettled}
use Rattle.stable_store.specs.Slots.{OPEN, number_in, gate_in, open_in, shut_in, Between}
use Rattle.stable_store.proofs.DiskLemmas.{torn_by, stands_at}
use Rattle.stable_store.proofs.SlotLemmas.{number_stays, gate_stays, open_cases, stays_shut, other_stays, torn_nowhere, mapped}

gate_there : (slot gate : ℕ) (bytes : List ℕ) → 9 * slot + 9 ≤ length bytes → gate_in slot (overwritten (9 * slot + 8) (gate ∷ []) bytes) ≡ gate
unfolding gate_in
gate_there slot gate bytes fits =
    let at = 9 * slot + 8 in
    ap (λ (l : List ℕ). get_or l at 0) (append_assoc (take at bytes) (gate ∷ []) (drop (at + 1) bytes)) ∙ get_or_at (take at bytes) gate (drop (at + 1) bytes) 0 at (length-take-le at bytes (omega arith))

number_there : (slot number : ℕ) (bytes : List ℕ) → 9 * slot + 8 ≤ length bytes → number < 2 ^ 64 → number_in slot (overwritten (9 * slot) (to_be_bytes w64 number) bytes) ≡ number
unfolding number_in
number_there slot number bytes fits below = ap (λ (l : List ℕ). from_be_bytes w64 l) (stands_at (9 * slot) (to_be_bytes w64 number) bytes fits) ∙ from_be_bytes-to_be_bytes_8 number below

-- what is known as a save begins
module _ (slot number : ℕ) (kept : Option ℕ) (bytes : List ℕ) (low : slot ≤ 1) (below : number < 2 ^ 64) (long : length bytes ≡ 18) (is_kept : open_in slot bytes ≡ kept) where
  abbrev gate : ℕ
  gate = 9 * slot + 8

  own_first : (k : Option ℕ) → open_in slot bytes ≡ k → (image : List ℕ) → Torn gate (if is_some k then 1 else 0) bytes image
      → (open_in slot image ≡ open_in slot bytes) ⊎ (open_in slot image ≡ None)
  own_first None is image torn = inl (ap (open_in slot) (torn_nowhere gate bytes image torn))
  own_first (Some k) is image torn = elim (open_cases slot bytes) [
    | inl none ↦ absurd (cc)
    | inr was ↦ elim (open_cases slot image) [
      | inl shut ↦ inr shut
      | inr still ↦ inl (still ∙ ap (λ (m : ℕ). Some m) (number_stays gate 1 bytes image torn slot (inl (omega arith))) ∙ sym was)
    ]
  ]

  others_first : (image : List ℕ) → Torn gate (if is_some kept then 1 else 0) bytes image → (other : ℕ) → other ≢ slot → open_in other image ≡ open_in other bytes
  others_first image torn other apart = by kept torn where
    by : (k : Option ℕ) → Torn gate (if is_some k then 1 else 0) bytes image → open_in other image ≡ open_in other bytes
    by None torn = ap (open_in other) (torn_nowhere gate bytes image torn)
    by (Some k) torn = other_stays gate 1 bytes image torn slot (omega arith) (omega arith) other apart

  abbrev closed : List ℕ
  closed = shut_in (is_some kept) gate bytes

  closed_long : length closed ≡ 18
  closed_long = by kept where
    by : (k : Option ℕ) → length (shut_in (is_some k) gate bytes) ≡ 18
    by None = long
    by (Some k) = (torn_by gate (0 ∷ []) bytes (omega arith)).size ∙ long

  closed_others : (other : ℕ) → other ≢ slot → open_in other closed ≡ open_in other bytes
  closed_others other apart = by kept where
    by : (k : Option ℕ) → open_in other (shut_in (is_some k) gate bytes) ≡ open_in other bytes
    by None = refl
    by (Some k) = other_stays gate 1 bytes (overwritten gate (0 ∷ []) bytes) (torn_by gate (0 ∷ []) bytes (omega arith)) slot (omega arith) (omega arith) other apart

  closed_own : open_in slot closed ≡ None
  closed_own = by kept is_kept where
    by : (k : Option ℕ) → open_in slot bytes ≡ k → open_in slot (shut_in (is_some k) gate bytes) ≡ None
    by None is = is
    by (Some k) is = ap (λ (g : ℕ). if g == OPEN then Some (number_in slot (overwritten gate (0 ∷ []) bytes)) else None) (gate_there slot 0 bytes (omega arith))

  abbrev piece : List ℕ
  piece = to_be_bytes w64 number

  second : (image : List ℕ) → Torn (9 * slot) 8 closed image → open_in slot image ≡ None
  second image torn = stays_shut slot closed image (gate_stays (9 * slot) 8 closed image torn slot (inr (omega arith))) closed_own

  second_others : (image : List ℕ) → Torn (9 * slot) 8 closed image → (other : ℕ) → other ≢ slot → open_in other image ≡ open_in other bytes
  second_others image torn other apart = other_stays (9 * slot) 8 closed image torn slot (omega arith) (omega arith) other apart ∙ closed_others other apart

  abbrev numbered : List ℕ
  numbered = overwritten (9 * slot) piece closed

  numbered_torn : Torn (9 * slot) 8 closed numbered
  numbered_torn = torn_by (9 * slot) piece closed (omega (arith, closed_long))

  third : (image : List ℕ) → Torn gate 1 numbered image → (open_in slot image ≡ None) ⊎ (open_in slot image ≡ Some number)
  third image torn = elim (open_cases slot image) [
    | inl shut ↦ inl shut
    | inr is_open ↦ inr (is_open ∙ ap (λ (m : ℕ). Some m) (number_stays gate 1 numbered image torn slot (inl (omega arith)) ∙ number_there slot number closed (omega (arith, closed_long)) below))
  ]

  third_others : (image : List ℕ) → Torn gate 1 numbered image → (other : ℕ) → other ≢ slot → open_in other image ≡ open_in other bytes
  third_others image torn other apart = other_stays gate 1 numbered image torn slot (omega arith) (omega arith) other apart ∙ second_others numbered numbered_torn other apart

  abbrev saved : List ℕ
  saved = overwritten gate (OPEN ∷ []) numbered

  numbered_long : length numbered ≡ 18
  numbered_long = numbered_torn.size ∙ closed_long

  saved_torn : Torn gate 1 numbered saved
  saved_torn = torn_by gate (OPEN ∷ []) numbered (omega (arith, numbered_long))

  pub saved_own : open_in slot saved ≡ Some number
  saved_own = ap (λ (g : ℕ). if g == OPEN then Some (number_in slot saved) else None) (gate_there slot OPEN numbered (omega (arith, numbered_long)))
      ∙ ap (λ (m : ℕ). Some m) (number_stays gate 1 numbered saved saved_torn slot (inl (omega arith)) ∙ number_there slot number closed (omega (arith, closed_long)) below)

  pub saved_others : (other : ℕ) → other ≢ slot → open_in other saved ≡ open_in other bytes
  saved_others other apart = third_others saved saved_torn other apart

  pub saved_long : length saved ≡ 18
  saved_long = saved_torn.size ∙ numbered_long

  -- the three parts, at any image
  pub between_first : (seen : Option (List ℕ)) → seen ≡ Some bytes → (image : List ℕ) → Torn gate (if is_some kept then 1 else 0) bytes image → Between slot number seen image
  between_first seen is image torn = record {
    bytes = bytes;
    began = is;
    size = torn.size;
    others = others_first image torn;
    own = ⊎_elim (λ same. inl same) (λ shut. inr (inl shut)) (own_first kept is_kept image torn);
  }

  pub between_second : (seen : Option (List ℕ)) → seen ≡ Some bytes → (image : List ℕ) → Torn (9 * slot) 8 closed image → Between slot number seen image
  between_second seen is image torn = record {
    bytes = bytes;
    began = is;
    size = torn.size ∙ closed_long ∙ sym long;
    others = second_others image torn;
    own = inr (inl (second image torn));
  }

  pub between_third : (seen : Option (List ℕ)) → seen ≡ Some bytes → (image : List ℕ) → Torn gate 1 numbered image → Between slot number seen image
  between_third seen is image torn = record {
    bytes = bytes;
    began = is;
    size = torn.size ∙ numbered_long ∙ sym long;
    others = third_others image torn;
    own = inr (third image torn);
  }

-- the same, where what a read gives is known or not
module _ (slot number : ℕ) (kept : Option ℕ) (is_open : Bool) (open_is : is_open ≡ is_some kept) (low : slot ≤ 1) (below : number < 2 ^ 64) (seen : Option (List ℕ))
    (long : (bytes : List ℕ) → seen ≡ Some bytes → length bytes ≡ 18) (is_kept : (bytes : List ℕ) → seen ≡ Some bytes → open_in slot bytes ≡ kept) where
  pub at_first : (images : List ℕ → Type 0) → IsSettled seen images → (image : List ℕ) → TornFrom (9 * slot + 8) (if is_open then 1 else 0) images image → Between slot number seen image
  at_first images settled image from =
      let is = settled from.0 from.1 in
      let torn = subst (λ (b : Bool). Torn (9 * slot + 8) (if b then 1 else 0) from.0 image) open_is from.2 in
      between_first slot number kept from.0 low below (long from.0 is) (is_kept from.0 is) seen is image torn

  -- what the gate's closing left
  closed_from : (mid : Option (List ℕ)) → mid ≡ option_map (shut_in is_open (9 * slot + 8)) seen → (bytes : List ℕ) → mid ≡ Some bytes
      → (was : List ℕ) × (seen ≡ Some was) × (shut_in (is_some kept) (9 * slot + 8) was ≡ bytes)
  closed_from mid mid_is bytes is =
      mapped (shut_in (is_some kept) (9 * slot + 8)) seen bytes (ap (λ (b : Bool). option_map (shut_in b (9 * slot + 8)) seen) (sym open_is) ∙ sym mid_is ∙ is)

  -- the number's bytes
  module _ (piece : List ℕ) (piece_is : piece ≡ to_be_bytes w64 number) where
    pub at_second : (mid : Option (List ℕ)) → mid ≡ option_map (shut_in is_open (9 * slot + 8)) seen → (images : List ℕ → Type 0) → IsSettled mid images
        → (image : List ℕ) → TornFrom (9 * slot) (length piece) images image → Between slot number seen image
    at_second mid mid_is images settled image from =
        let was = closed_from mid mid_is from.0 (settled from.0 from.1) in
        let torn = subst (λ (l : List ℕ). Torn (9 * slot) (length l) from.0 image) piece_is from.2 in
        between_second slot number kept was.0 low below (long was.0 was.1) (is_kept was.0 was.1) seen was.1 image (subst (λ (l : List ℕ). Torn (9 * slot) 8 l image) (sym was.2) torn)

    pub at_third : (mid later : Option (List ℕ)) → mid ≡ option_map (shut_in is_open (9 * slot + 8)) seen → later ≡ option_map (overwritten (9 * slot) piece) mid
        → (images : List ℕ → Type 0) → IsSettled later images → (image : List ℕ) → TornFrom (9 * slot + 8) 1 images image → Between slot number seen image
    at_third mid later mid_is later_is images settled image from =
        let last = mapped (overwritten (9 * slot) piece) mid from.0 (sym later_is ∙ settled from.0 from.1) in
        let was = closed_from mid mid_is last.0 last.1 in
        let is : overwritten (9 * slot) (to_be_bytes w64 number) (shut_in (is_some kept) (9 * slot + 8) was.0) ≡ from.0 =
        ap (overwritten (9 * slot) (to_be_bytes w64 number)) was.2 ∙ ap (λ (l : List ℕ). overwritten (9 * slot) l last.0) (sym piece_is) ∙ last.2 in
        between_third slot number kept was.0 low below (long was.0 was.1) (is_kept was.0 was.1) seen was.1 image (subst (λ (l : List ℕ). Torn (9 * slot + 8) 1 l image) (sym is) from.2)

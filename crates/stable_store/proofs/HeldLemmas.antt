-- Which number the slots stand for, during a save and after it.
use Rattle.std.proofs.Common.{◌≡◌, ◌⊎◌, inl, inr, ⊎_elim, ℕ, ◌<◌, ◌≤◌, ◌^◌, Bool, true, false, List, length, Option, Some, None, IfSome, option_map, refl, sym, ◌∙◌, ap, subst, arith, if◌then◌else◌}
use Rattle.std.specs.Prelude.{nat_le}
use Rattle.std.proofs.lemmas.Bool.Decides.{nat_tests}
use Rattle.stable_store.specs.Slots.{Slots, open_in, slots_in, number_of, with_number, greater_of, lesser_of, held, next_slot, written_in, Loads, Between}
use Rattle.stable_store.proofs.SlotLemmas.{mapped}
use Rattle.stable_store.proofs.SaveLemmas.{saved_own, saved_others}

either : (f s : Option ℕ) → (lesser_of f s ≡ 0) ⊎ (lesser_of f s ≡ 1)
either None s = inl refl
either (Some a) None = inr refl
either (Some a) (Some b) = by (nat_le a b) where
  by : (t : Bool) → ◌≡◌ {A = ℕ} (if t then 0 else 1) 0 ⊎ ◌≡◌ {A = ℕ} (if t then 0 else 1) 1
  by true = inl refl
  by false = inr refl

-- the other slot's number stands for both
first_lesser : (f s : Option ℕ) → lesser_of f s ≡ 0 → greater_of f s ≡ s
first_lesser None s is = refl
first_lesser (Some a) None is = absurd (omega arith)
first_lesser (Some a) (Some b) is = let le : a ≤ b = grind (arith, nat_tests) in ap (λ (m : ℕ). Some m) (omega arith)

second_lesser : (f s : Option ℕ) → lesser_of f s ≡ 1 → greater_of f s ≡ f
second_lesser None s is = absurd (omega arith)
second_lesser (Some a) None is = refl
second_lesser (Some a) (Some b) is = let le : b ≤ a = grind (arith, nat_tests) in ap (λ (m : ℕ). Some m) (omega arith)

-- a number above both
above_second : (f s : Option ℕ) (x : ℕ) → IfSome (greater_of f s) (λ k. k < x) → greater_of (Some x) s ≡ Some x
above_second f None x above = refl
above_second None (Some b) x above = ap (λ (m : ℕ). Some m) (omega arith)
above_second (Some a) (Some b) x above = ap (λ (m : ℕ). Some m) (omega arith)

above_first : (f s : Option ℕ) (x : ℕ) → IfSome (greater_of f s) (λ k. k < x) → greater_of f (Some x) ≡ Some x
above_first None s x above = refl
above_first (Some a) None x above = ap (λ (m : ℕ). Some m) (omega arith)
above_first (Some a) (Some b) x above = ap (λ (m : ℕ). Some m) (omega arith)

-- a save of a number above the one held
module _ (slots : Slots) (x : ℕ) (above : IfSome (held slots) (λ k. k < x)) (seen : Option (List ℕ)) (long : (bytes : List ℕ) → seen ≡ Some bytes → length bytes ≡ 18) (read : (bytes : List ℕ) → seen ≡ Some bytes → slots_in bytes ≡ slots) where
  at_zero : next_slot slots ≡ 0 → (image : List ℕ) → Between 0 x seen image → (held (slots_in image) ≡ held slots) ⊎ (held (slots_in image) ≡ Some x)
  at_zero zero image b =
      let was = read b.bytes b.began in
      let second : open_in 1 image ≡ slots.second = b.others 1 (omega arith) ∙ ap (λ (s : Slots). s.second) was in
      elim b.own [
        | inl same ↦ inl ((λ i. greater_of ((same ∙ ap (λ (s : Slots). s.first) was) i) (second i)))
        | inr other ↦ elim other [
          | inl shut ↦ inl ((λ i. greater_of (shut i) (second i)) ∙ sym (first_lesser slots.first slots.second zero))
          | inr new ↦ inr ((λ i. greater_of (new i) (second i)) ∙ above_second slots.first slots.second x above)
        ]
      ]

  at_one : next_slot slots ≡ 1 → (image : List ℕ) → Between 1 x seen image → (held (slots_in image) ≡ held slots) ⊎ (held (slots_in image) ≡ Some x)
  at_one one image b =
      let was = read b.bytes b.began in
      let first : open_in 0 image ≡ slots.first = b.others 0 (omega arith) ∙ ap (λ (s : Slots). s.first) was in
      elim b.own [
        | inl same ↦ inl (λ i. greater_of (first i) ((same ∙ ap (λ (s : Slots). s.second) was) i))
        | inr other ↦ elim other [
          | inl shut ↦ inl ((λ i. greater_of (first i) (shut i)) ∙ none_last slots.first ∙ sym (second_lesser slots.first slots.second one))
          | inr new ↦ inr ((λ i. greater_of (first i) (new i)) ∙ above_first slots.first slots.second x above)
        ]
      ]
    where
      none_last : (f : Option ℕ) → greater_of f None ≡ f
      none_last None = refl
      none_last (Some a) = refl

  -- while it is saved
  pub between_loads : (slot : ℕ) → slot ≡ next_slot slots → (image : List ℕ) → Between slot x seen image → Loads image (held slots) ⊎ Loads image (Some x)
  between_loads slot is image b =
      let size : length image ≡ 18 = b.size ∙ long b.bytes b.began in
      ⊎_elim (λ was. inl (size, was)) (λ new. inr (size, new)) (elim (either slots.first slots.second) [
        | inl zero ↦ at_zero zero image (subst (λ (s : ℕ). Between s x seen image) (is ∙ zero) b)
        | inr one ↦ at_one one image (subst (λ (s : ℕ). Between s x seen image) (is ∙ one) b)
      ])

  held_after : held (with_number (next_slot slots) x slots) ≡ Some x
  held_after = elim (either slots.first slots.second) [
    | inl zero ↦ ap (λ (s : ℕ). held (with_number s x slots)) zero ∙ above_second slots.first slots.second x above
    | inr one ↦ ap (λ (s : ℕ). held (with_number s x slots)) one ∙ above_first slots.first slots.second x above
  ]

  -- when it is saved
  module _ (below : x < 2 ^ 64) where
    at_zero_after : (bytes : List ℕ) → seen ≡ Some bytes → (kept : Option ℕ) → kept ≡ slots.first → slots_in (written_in 0 kept x bytes) ≡ with_number 0 x slots
    at_zero_after bytes began kept kept_is =
        let is_kept : open_in 0 bytes ≡ kept = ap (λ (s : Slots). s.first) (read bytes began) ∙ sym kept_is in
        let own = saved_own 0 x kept bytes (omega arith) below (long bytes began) is_kept in
        let other : open_in 1 (written_in 0 kept x bytes) ≡ slots.second =
        saved_others 0 x kept bytes (omega arith) below (long bytes began) is_kept 1 (omega arith) ∙ ap (λ (s : Slots). s.second) (read bytes began) in
        λ i. record { first = own i; second = other i }

    at_one_after : (bytes : List ℕ) → seen ≡ Some bytes → (kept : Option ℕ) → kept ≡ slots.second → slots_in (written_in 1 kept x bytes) ≡ with_number 1 x slots
    at_one_after bytes began kept kept_is =
        let is_kept : open_in 1 bytes ≡ kept = ap (λ (s : Slots). s.second) (read bytes began) ∙ sym kept_is in
        let own = saved_own 1 x kept bytes (omega arith) below (long bytes began) is_kept in
        let other : open_in 0 (written_in 1 kept x bytes) ≡ slots.first =
        saved_others 1 x kept bytes (omega arith) below (long bytes began) is_kept 0 (omega arith) ∙ ap (λ (s : Slots). s.first) (read bytes began) in
        λ i. record { first = other i; second = own i }

    slots_after_at : (slot : ℕ) → (slot ≡ 0) ⊎ (slot ≡ 1) → (kept : Option ℕ) → kept ≡ number_of slot slots → (bytes : List ℕ) → seen ≡ Some bytes → slots_in (written_in slot kept x bytes) ≡ with_number slot x slots
    slots_after_at slot (inl zero) kept kept_is bytes began =
        ap (λ (s : ℕ). slots_in (written_in s kept x bytes)) zero ∙ at_zero_after bytes began kept (kept_is ∙ ap (λ (s : ℕ). number_of s slots) zero) ∙ ap (λ (s : ℕ). with_number s x slots) (sym zero)
    slots_after_at slot (inr one) kept kept_is bytes began =
        ap (λ (s : ℕ). slots_in (written_in s kept x bytes)) one ∙ at_one_after bytes began kept (kept_is ∙ ap (λ (s : ℕ). number_of s slots) one) ∙ ap (λ (s : ℕ). with_number s x slots) (sym one)

    -- what is read then
    pub slots_after : (slot : ℕ) → slot ≡ next_slot slots → (kept : Option ℕ) → kept ≡ number_of slot slots → (new : Option (List ℕ)) → new ≡ option_map (written_in slot kept x) seen
        → (image : List ℕ) → new ≡ Some image → slots_in image ≡ with_number slot x slots
    slots_after slot is kept kept_is new new_is image now =
        let from = mapped (written_in slot kept x) seen image (sym new_is ∙ now) in
        let low : (slot ≡ 0) ⊎ (slot ≡ 1) = ⊎_elim (λ zero. inl (is ∙ zero)) (λ one. inr (is ∙ one)) (either slots.first slots.second) in
        ap slots_in (sym from.2) ∙ slots_after_at slot low kept kept_is from.0 from.1

    pub loads_after : (slot : ℕ) → slot ≡ next_slot slots → (kept : Option ℕ) → kept ≡ number_of slot slots → (new : Option (List ℕ)) → new ≡ option_map (written_in slot kept x) seen
        → (image : List ℕ) → new ≡ Some image → held (slots_in image) ≡ Some x
    loads_after slot is kept kept_is new new_is image now =
        ap held (slots_after slot is kept kept_is new new_is image now) ∙ ap (λ (s : ℕ). held (with_number s x slots)) is ∙ held_after

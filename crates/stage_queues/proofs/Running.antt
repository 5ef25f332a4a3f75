-- What one more element says of the items that were taken, and of the producers that are still running.
use Rattle.std.proofs.Common.{◌≡◌, ◌≢◌, ◌⊎◌, ℕ, zero, suc, ◌-◌, ◌≤◌, ◌<◌, Bool, true, false, cond, List, [], ◌∷◌, ◌++◌, map, refl, sym, ap, ◌∙◌, subst, inl, inr, ⊎_elim, arith}
use Rattle.std.specs.Prelude.{◌||◌, ◌==◌, ◌↔◌}
use Rattle.std.proofs.lemmas.Bool.{eqb-true, eq-eqb}
use Rattle.std.proofs.lemmas.Bool.Decides.{eqb_tells}
use Rattle.std.proofs.lemmas.List.{map-append}
use Rattle.stage_queues.specs.declared.taken.Taken.{Taken}
use Rattle.stage_queues.specs.declared.taken.Taken.TheVariants.{Item, End}
use Rattle.stage_queues.specs.Lanes.{Element, IsFinished, IsOutletPass, OutletSeen, PassSeen, TakesItemOf, all_items, count_running, ends, ends_in, from_producer, items_in, items_of, outlet_pass, taken_of}
use Rattle.stage_queues.proofs.Elements.{from_producer-append, from_producer-mine, from_producer-other, items_in-append}

or-false : (b : Bool) → (b || false) ≡ b
or-false true = refl
or-false false = refl

below_or_last : (p n : ℕ) → p < suc n → (p ≡ n) ⊎ (p < n)
below_or_last p n lt = grind arith

same_or_other : (p q : ℕ) → (p ≡ q) ⊎ (p ≢ q)
same_or_other p q = elim (eqb_tells p q) [
  | inl h ↦ inl h.1
  | inr h ↦ inr h.1
]

-- at first all are running
pub count_running-new : (T : Type 0) (n : ℕ) → count_running {T = T} n [] ≡ n
count_running-new T zero = refl
count_running-new T (suc n) = ap suc (count_running-new T n)

module _ {T : Type 0} where
  pub all_items-append : (a b : List (Element T)) → all_items (a ++ b) ≡ all_items a ++ all_items b
  all_items-append a b = ap items_in (map-append (λ (e : Element T). e.1) a b) ∙ items_in-append (map (λ (e : Element T). e.1) a) (map (λ (e : Element T). e.1) b)

  pub items_of-append : (p : ℕ) (a b : List (Element T)) → items_of p (a ++ b) ≡ items_of p a ++ items_of p b
  items_of-append p a b = ap items_in (from_producer-append p a b) ∙ items_in-append (from_producer p a) (from_producer p b)

  ends_in-append : (a b : List (Taken T)) → ends_in (a ++ b) ≡ (ends_in a || ends_in b)
  ends_in-append [] b = refl
  ends_in-append (Item x ∷ a) b = ends_in-append a b
  ends_in-append (End ∷ a) b = refl

  pub ends-append : (p : ℕ) (a b : List (Element T)) → ends p (a ++ b) ≡ (ends p a || ends p b)
  ends-append p a b = ap ends_in (from_producer-append p a b) ∙ ends_in-append (from_producer p a) (from_producer p b)

  -- an element changes nothing for the other producers, and an item nothing for its own
  ends-other : (p : ℕ) (a : List (Element T)) (e : Element T) → p ≢ e.0 → ends p (a ++ e ∷ []) ≡ ends p a
  ends-other p a e ne = ends-append p a (e ∷ []) ∙ ap (λ b. ends p a || b) (ap ends_in (from_producer-other p e ne)) ∙ or-false (ends p a)

  ends-mine : (p : ℕ) (a : List (Element T)) (e : Element T) → p ≡ e.0 → ends p a ≡ false → ends p (a ++ e ∷ []) ≡ ends_in (e.1 ∷ [])
  ends-mine p a e is none = ends-append p a (e ∷ []) ∙ ap (λ b. b || ends p (e ∷ [])) none ∙ ap ends_in (from_producer-mine p e is)

  one_more : (n : ℕ) (a : List (Element T)) (b : Bool) → ends n a ≡ b → count_running (suc n) a ≡ cond b (count_running n a) (suc (count_running n a))
  one_more n a b is = ap (λ (c : Bool). cond c (count_running n a) (suc (count_running n a))) is

  counts_same : (n : ℕ) (a : List (Element T)) (e : Element T) → ((p : ℕ) → p < n → ends p (a ++ e ∷ []) ≡ ends p a) → count_running n (a ++ e ∷ []) ≡ count_running n a
  counts_same zero a e same = refl
  counts_same (suc n) a e same = λ i. cond (same n (omega arith) i) (counts_same n a e (λ p lt. same p (omega arith)) i) (suc (counts_same n a e (λ p lt. same p (omega arith)) i))

  counts_one_less : (n : ℕ) (a : List (Element T)) (e : Element T) → e.0 < n → ends e.0 a ≡ false → ends_in (e.1 ∷ []) ≡ true → suc (count_running n (a ++ e ∷ [])) ≡ count_running n a
  counts_one_less zero a e lt none end = absurd (omega arith)
  counts_one_less (suc n) a e lt none end = ⊎_elim
      (λ (is : e.0 ≡ n).
      let now : ends n (a ++ e ∷ []) ≡ true = ends-mine n a e (sym is) (ap (λ (k : ℕ). ends k a) (sym is) ∙ none) ∙ end in
      let same : count_running n (a ++ e ∷ []) ≡ count_running n a = counts_same n a e (λ p less. ends-other p a e (λ h. absurd (omega arith))) in
      ap suc (one_more n (a ++ e ∷ []) true now ∙ same) ∙ sym (one_more n a false (ap (λ (k : ℕ). ends k a) (sym is) ∙ none)))
      (λ (less : e.0 < n).
      let same : ends n (a ++ e ∷ []) ≡ ends n a = ends-other n a e (λ h. absurd (omega arith)) in
      by_case (ends n a) same refl (counts_one_less n a e less none end))
      (below_or_last e.0 n lt) where
        by_case : (b : Bool) → ends n (a ++ e ∷ []) ≡ b → ends n a ≡ b → suc (count_running n (a ++ e ∷ [])) ≡ count_running n a → suc (count_running (suc n) (a ++ e ∷ [])) ≡ count_running (suc n) a
        by_case true new old h = ap suc (one_more n (a ++ e ∷ []) true new) ∙ h ∙ sym (one_more n a true old)
        by_case false new old h = ap suc (one_more n (a ++ e ∷ []) false new) ∙ ap suc h ∙ sym (one_more n a false old)

  -- how many are running after one more element
  pub some_running : (n : ℕ) (a : List (Element T)) (e : Element T) → e.0 < n → ends e.0 a ≡ false → ends_in (e.1 ∷ []) ≡ true → 1 ≤ count_running n a
  some_running n a e lt none end = let h = counts_one_less n a e lt none end in omega arith

  pub count_running-after : (n : ℕ) (a : List (Element T)) (e : Element T) → e.0 < n → ends e.0 a ≡ false
      → cond (ends_in (e.1 ∷ [])) (count_running n a - 1) (count_running n a) ≡ count_running n (a ++ e ∷ [])
  count_running-after n a e lt none = by_case (ends_in (e.1 ∷ [])) refl where
    by_case : (b : Bool) → ends_in (e.1 ∷ []) ≡ b → cond b (count_running n a - 1) (count_running n a) ≡ count_running n (a ++ e ∷ [])
    by_case true is = let h = counts_one_less n a e lt none is in omega arith
    by_case false is = sym (counts_same n a e (λ p less. ⊎_elim
        (λ (h : p ≡ e.0). ends-mine p a e h (ap (λ (k : ℕ). ends k a) h ∙ none) ∙ is ∙ sym (ap (λ (k : ℕ). ends k a) h ∙ none))
        (λ (h : p ≢ e.0). ends-other p a e h)
        (same_or_other p e.0)))

  -- none is running exactly where each has ended
  pub none_running : (n : ℕ) (a : List (Element T)) → count_running n a ≡ 0 → (p : ℕ) → p < n → ends p a ≡ true
  none_running zero a is p lt = absurd (omega arith)
  none_running (suc n) a is p lt = by_case (ends n a) refl (λ none less. none_running n a none p less) where
    by_case : (b : Bool) → ends n a ≡ b → (count_running n a ≡ 0 → p < n → ends p a ≡ true) → ends p a ≡ true
    by_case true h below = ⊎_elim
        (λ (e : p ≡ n). ap (λ (k : ℕ). ends k a) e ∙ h)
        (λ (less : p < n). below (sym (one_more n a true h) ∙ is) less)
        (below_or_last p n lt)
    by_case false h below = let more : suc (count_running n a) ≡ 0 = sym (one_more n a false h) ∙ is in absurd (omega arith)

  pub all_ended : (n : ℕ) (a : List (Element T)) → ((p : ℕ) → p < n → ends p a ≡ true) → count_running n a ≡ 0
  all_ended zero a each = refl
  all_ended (suc n) a each = one_more n a true (each n (omega arith)) ∙ all_ended n a (λ p lt. each p (omega arith))

  -- an outlet's pass and its count after one more element
  pub after_one : (p new : PassSeen T) (e : Element T) (running left : ℕ) → new ≡ outlet_pass p.lane (taken_of p ++ e ∷ []) → e.0 < p.lane.producers → ends e.0 (taken_of p) ≡ false
      → running ≡ count_running p.lane.producers (taken_of p) → left ≡ cond (ends_in (e.1 ∷ [])) (running - 1) running
      → IsOutletPass new × (left ≡ count_running new.lane.producers (taken_of new))
  after_one p new e running left is lt none was now = subst (λ (q : PassSeen T). IsOutletPass q × (left ≡ count_running q.lane.producers (taken_of q))) (sym is) (
    refl,
    now ∙ ap (λ (r : ℕ). cond (ends_in (e.1 ∷ [])) (r - 1) r) was ∙ count_running-after p.lane.producers (taken_of p) e lt none,
  )

  pub may_end : (p : PassSeen T) (e : Element T) (running : ℕ) → e.0 < p.lane.producers → ends e.0 (taken_of p) ≡ false → running ≡ count_running p.lane.producers (taken_of p) → ends_in (e.1 ∷ []) ≡ true → 1 ≤ running
  may_end p e running lt none was end = let h = some_running p.lane.producers (taken_of p) e lt none end in omega arith

  pub items_after : (p new : PassSeen T) (e : Element T) → new ≡ outlet_pass p.lane (taken_of p ++ e ∷ []) → all_items (taken_of new) ≡ all_items (taken_of p) ++ items_in (e.1 ∷ [])
  items_after p new e is = ap (λ (q : PassSeen T). all_items (taken_of q)) is ∙ all_items-append (taken_of p) (e ∷ [])

  pub items_of_after : (p new : PassSeen T) (e : Element T) → new ≡ outlet_pass p.lane (taken_of p ++ e ∷ []) → TakesItemOf (taken_of p) e (taken_of new)
  items_of_after p new e is q = ap (λ (r : PassSeen T). items_of q (taken_of r)) is ∙ items_of-append q (taken_of p) (e ∷ [])

  -- an outlet is finished exactly where it counts none that is running
  pub finished_exactly : (p : PassSeen T) (o : OutletSeen T) (running : ℕ) → record { lane = p.lane; taken = taken_of p } ≡ o → running ≡ count_running p.lane.producers (taken_of p) → ((running == 0) ≡ true) ↔ IsFinished o
  finished_exactly p o running is count = subst (λ (x : OutletSeen T). ((running == 0) ≡ true) ↔ IsFinished x) is (
    λ zero. none_running p.lane.producers (taken_of p) (sym count ∙ eqb-true running 0 zero),
    λ each. eq-eqb running 0 (count ∙ all_ended p.lane.producers (taken_of p) each),
  )

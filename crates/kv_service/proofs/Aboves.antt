-- The first item above a bound is where a partition of ascending items ends.
use Rattle.std.proofs.Common.{◌≡◌, ℕ, zero, suc, ◌<◌, ◌≤◌, Bool, true, false, List, [], ◌∷◌, length, get_or, map, Some, None, slice_get, refl, ap, arith}
use Rattle.std.specs.declared.cmp.Ordering.{Ordering}
use Rattle.std.specs.declared.cmp.Ordering.TheVariants.{Less, Equal, Greater}
use Rattle.std.specs.Ordering.{is_gt, is_le, nat_cmp}
use Rattle.std.specs.Cmp.{IsTotalOrder, upto, nat_cmp_total, on_total, then_total}
use Rattle.std.specs.Map.{keys_of}
use Rattle.std.specs.List.{AllByRecursion, AllWithin}
use Rattle.std.specs.List.Sorted.{IsStrictlySortedBy, IsPartitionedBy, IsPartitionPoint}
use Rattle.kv_service.specs.Above.{first_above, pair_cmp}
use Rattle.kv_service.specs.Ascending.{IsAscending}

le_not_gt : (r : Ordering) → is_le r ≡ true → is_gt r ≡ false
le_not_gt Less h = refl
le_not_gt Equal h = refl
le_not_gt Greater h = absurd cc

not_gt_le : (r : Ordering) → is_gt r ≡ false → is_le r ≡ true
not_gt_le Less h = refl
not_gt_le Equal h = refl
not_gt_le Greater h = absurd cc

not_le_gt : (r : Ordering) → is_le r ≡ false → is_gt r ≡ true
not_le_gt Less h = absurd cc
not_le_gt Equal h = absurd cc
not_le_gt Greater h = refl

module _ {A K : Type 0} (cmp : K → K → Ordering) (key : A → K) (bound : K) where
  -- the test that a partition at the bound is by
  abbrev pub is_up_to : A → Bool
  is_up_to x = is_le (cmp (key x) bound)

  from_parts : (xs : List A) (i : ℕ) → i ≤ length xs → AllWithin (λ x. is_up_to x ≡ true) xs 0 i → AllWithin (λ x. is_up_to x ≡ false) xs i (length xs)
      → slice_get xs i ≡ first_above cmp key (Some bound) xs
  from_parts [] i le low high = refl
  from_parts (x ∷ xs) zero le low high = rw (not_le_gt _ (high 0 x (omega arith) (omega arith))) refl
  from_parts (x ∷ xs) (suc i) le low high =
      rw (le_not_gt _ (low 0 x (omega arith) (omega arith)))
      (from_parts xs i (omega arith) (λ j d l h. low (suc j) d (omega arith) (omega arith)) (λ j d l h. high (suc j) d (omega arith) (omega arith)))

  module _ (total : IsTotalOrder cmp) where
    first_passes : (x : A) (xs : List A) (j : ℕ) (d : A) → AllByRecursion (λ y. cmp (key x) y ≡ Less) (map key xs) → j < length xs → is_up_to (get_or xs j d) ≡ true → is_up_to x ≡ true
    first_passes x [] j d a lt h = absurd (omega arith)
    first_passes x (y ∷ ys) zero d a lt h = not_gt_le _ (upto total (key x) (key y) bound (ap is_gt a.0) (le_not_gt _ h))
    first_passes x (y ∷ ys) (suc j) d a lt h = first_passes x ys j d a.1 (omega arith) h

    partitioned : (xs : List A) → IsStrictlySortedBy cmp (map key xs) → IsPartitionedBy is_up_to xs
    unfolding IsStrictlySortedBy
    partitioned [] s i j d le lt h = absurd (omega arith)
    partitioned (x ∷ xs) s zero zero d le lt h = h
    partitioned (x ∷ xs) s zero (suc j) d le lt h = first_passes x xs j d s.0 (omega arith) h
    partitioned (x ∷ xs) s (suc i) zero d le lt h = absurd (omega arith)
    partitioned (x ∷ xs) s (suc i) (suc j) d le lt h = partitioned xs s.1 i j d (omega arith) (omega arith) h

    pub first_above_at : (xs : List A) (i : ℕ) → IsStrictlySortedBy cmp (map key xs) → i ≤ length xs
        → (IsPartitionedBy is_up_to xs → IsPartitionPoint (λ x. is_up_to x ≡ true) (λ x. is_up_to x ≡ false) xs i) → slice_get xs i ≡ first_above cmp key (Some bound) xs
    first_above_at xs i s le at = let parts = at (partitioned xs s) in from_parts xs i le parts.0 parts.1

-- without a bound it is the first item
pub first_above_none : {A K : Type 0} (cmp : K → K → Ordering) (key : A → K) (xs : List A) → slice_get xs 0 ≡ first_above cmp key None xs
first_above_none cmp key [] = refl
first_above_none cmp key (x ∷ xs) = refl

module _ {X : Type 0} where
  below_pairs : (e : ℕ × (ℕ × X)) (es : List (ℕ × (ℕ × X))) → AllByRecursion (λ y. nat_cmp e.0 y ≡ Less) (keys_of es)
      → AllByRecursion (λ y. pair_cmp (e.0, e.1.0) y ≡ Less) (map (λ f. (f.0, f.1.0)) es)
  below_pairs e [] h = tt
  below_pairs e (f ∷ es) h = (rw h.0 refl, below_pairs e es h.1)

  -- entries that ascend by client ascend by client and number
  pub ascending_pairs : (es : List (ℕ × (ℕ × X))) → IsAscending nat_cmp es → IsStrictlySortedBy pair_cmp (map (λ e. (e.0, e.1.0)) es)
  unfolding IsStrictlySortedBy
  ascending_pairs [] h = tt
  ascending_pairs (e ∷ es) h = (below_pairs e es h.0, ascending_pairs es h.1)

-- pairs of numbers are in a total order
pub pair_cmp_total : IsTotalOrder pair_cmp
pair_cmp_total = then_total (on_total (λ p. p.0) nat_cmp_total) (on_total (λ p. p.1) nat_cmp_total)

-- What a look-up, an insert and a removal come to at the place of a key.
use Rattle.std.proofs.Common.{◌≡◌, ℕ, zero, suc, ◌<◌, ◌≤◌, List, [], ◌∷◌, length, get_or, set, Some, None, refl, ap, ◌∙◌, arith}
use Rattle.std.specs.declared.cmp.Ordering.{Ordering}
use Rattle.std.specs.declared.cmp.Ordering.TheVariants.{Less, Equal, Greater}
use Rattle.std.specs.Ordering.{match_ordering, ordering_reverse}
use Rattle.std.specs.Cmp.{IsTotalOrder}
use Rattle.std.specs.BTreeMap.{is_at, insert_entry}
use Rattle.std.specs.Map.{keys_of, lookup, remove_entry}
use Rattle.std.specs.List.{insert, remove, AllByRecursion}
use Rattle.std.specs.List.Sorted.{IsStrictlySortedBy}
use Rattle.kv_service.specs.Ascending.{IsAscending, IsFoundAt, IsMissingAt}

module _ {K X : Type 0} (compare : K → Ordering) where
  pub found_lt : (es : List (K × X)) (i : ℕ) → IsFoundAt compare es i → i < length es
  found_lt [] i h = absurd h
  found_lt (e ∷ es) zero h = omega arith
  found_lt (e ∷ es) (suc i) h = let rest = found_lt es i h.1 in omega arith

  pub missing_le : (es : List (K × X)) (i : ℕ) → IsMissingAt compare es i → i ≤ length es
  missing_le [] zero h = omega arith
  missing_le [] (suc i) h = absurd h
  missing_le (e ∷ es) zero h = omega arith
  missing_le (e ∷ es) (suc i) h = let rest = missing_le es i h.1 in omega arith

  pub lookup_found : (es : List (K × X)) (i : ℕ) (d : K × X) → IsFoundAt compare es i → lookup (is_at compare) es ≡ Some (get_or es i d).1
  lookup_found [] i d h = absurd h
  lookup_found (e ∷ es) zero d h = rw h refl
  lookup_found (e ∷ es) (suc i) d h = rw h.0 (lookup_found es i d h.1)

  pub remove_found : (es : List (K × X)) (i : ℕ) → IsFoundAt compare es i → remove_entry (is_at compare) es ≡ remove es i
  remove_found [] i h = absurd h
  remove_found (e ∷ es) zero h = rw h refl
  remove_found (e ∷ es) (suc i) h = rw h.0 (ap (λ l. e ∷ l) (remove_found es i h.1))

module _ {K X : Type 0} (cmp : K → K → Ordering) (k : K) (v : X) where
  pub insert_found : (es : List (K × X)) (i : ℕ) (d : K × X) → IsFoundAt (cmp k) es i → insert_entry cmp es k v ≡ set es i ((get_or es i d).0, v)
  insert_found [] i d h = absurd h
  insert_found (e ∷ es) zero d h = rw h refl
  insert_found (e ∷ es) (suc i) d h = rw h.0 (ap (λ l. e ∷ l) (insert_found es i d h.1))

  pub insert_missing : (es : List (K × X)) (i : ℕ) → IsMissingAt (cmp k) es i → insert_entry cmp es k v ≡ insert es i (k, v)
  insert_missing [] zero h = refl
  insert_missing [] (suc i) h = absurd h
  insert_missing (e ∷ es) zero h = rw h refl
  insert_missing (e ∷ es) (suc i) h = rw h.0 (ap (λ l. e ∷ l) (insert_missing es i h.1))

pub ascending_none : {K : Type 0} (X : Type 0) (cmp : K → K → Ordering) → IsAscending {X = X} cmp []
unfolding IsStrictlySortedBy
ascending_none X cmp = tt

module _ {K X : Type 0} (cmp : K → K → Ordering) where
  all_but : (P : K → Type 0) (es : List (K × X)) (i : ℕ) → AllByRecursion P (keys_of es) → AllByRecursion P (keys_of (remove es i))
  all_but P [] zero h = h
  all_but P [] (suc i) h = h
  all_but P (e ∷ es) zero h = h.1
  all_but P (e ∷ es) (suc i) h = (h.0, all_but P es i h.1)

  pub ascending_remove : (es : List (K × X)) (i : ℕ) → IsAscending cmp es → IsAscending cmp (remove es i)
  unfolding IsStrictlySortedBy
  ascending_remove [] zero h = h
  ascending_remove [] (suc i) h = h
  ascending_remove (e ∷ es) zero h = h.1
  ascending_remove (e ∷ es) (suc i) h = (all_but (λ y. cmp e.0 y ≡ Less) es i h.0, ascending_remove es i h.1)

module _ {K : Type 0} {cmp : K → K → Ordering} (total : IsTotalOrder cmp) where
  -- what is below a key is below those after it
  below_all : (k x : K) (ks : List K) → cmp k x ≡ Less → AllByRecursion (λ y. cmp x y ≡ Less) ks → AllByRecursion (λ y. cmp k y ≡ Less) ks
  below_all k x [] h a = tt
  below_all k x (y ∷ ks) h a = (total.trans k x y h a.0, below_all k x ks h a.1)

  above : (k x : K) → cmp k x ≡ Greater → cmp x k ≡ Less
  above k x h = total.antisymm x k ∙ ap ordering_reverse h

module _ {K X : Type 0} {cmp : K → K → Ordering} (total : IsTotalOrder cmp) where
  -- an insert in front of, at or behind the first entry
  all_step : (P : K → Type 0) (k : K) (v : X) (e : K × X) (es : List (K × X)) → P k → AllByRecursion P (keys_of (e ∷ es)) → AllByRecursion P (keys_of (insert_entry cmp es k v))
      → (r : Ordering) → AllByRecursion P (keys_of (match_ordering r ((k, v) ∷ e ∷ es) ((e.0, v) ∷ es) (e ∷ insert_entry cmp es k v)))
  all_step P k v e es p h rest Less = (p, h)
  all_step P k v e es p h rest Equal = h
  all_step P k v e es p h rest Greater = (h.0, rest)

  all_and : (P : K → Type 0) (k : K) (v : X) (es : List (K × X)) → P k → AllByRecursion P (keys_of es) → AllByRecursion P (keys_of (insert_entry cmp es k v))
  all_and P k v [] p h = (p, tt)
  all_and P k v (e ∷ es) p h = all_step P k v e es p h (all_and P k v es p h.1) (cmp k e.0)

  ascending_step : (k : K) (v : X) (e : K × X) (es : List (K × X)) → IsAscending cmp (e ∷ es) → IsAscending cmp (insert_entry cmp es k v)
      → (r : Ordering) → cmp k e.0 ≡ r → IsAscending cmp (match_ordering r ((k, v) ∷ e ∷ es) ((e.0, v) ∷ es) (e ∷ insert_entry cmp es k v))
  unfolding IsStrictlySortedBy
  ascending_step k v e es h rest Less at = ((at, below_all total k e.0 (keys_of es) at h.0), h)
  ascending_step k v e es h rest Equal at = h
  ascending_step k v e es h rest Greater at = (all_and (λ y. cmp e.0 y ≡ Less) k v es (above total k e.0 at) h.0, rest)

  pub ascending_insert : (k : K) (v : X) (es : List (K × X)) → IsAscending cmp es → IsAscending cmp (insert_entry cmp es k v)
  unfolding IsStrictlySortedBy
  ascending_insert k v [] h = (tt, tt)
  ascending_insert k v (e ∷ es) h = ascending_step k v e es h (ascending_insert k v es h.1) (cmp k e.0) refl

  none_below : (k : K) (es : List (K × X)) → AllByRecursion (λ y. cmp k y ≡ Less) (keys_of es) → lookup (is_at (cmp k)) es ≡ None
  none_below k [] h = refl
  none_below k (e ∷ es) h = rw h.0 (none_below k es h.1)

  pub lookup_missing : (k : K) (es : List (K × X)) (i : ℕ) → IsMissingAt (cmp k) es i → IsAscending cmp es → lookup (is_at (cmp k)) es ≡ None
  unfolding IsStrictlySortedBy
  lookup_missing k [] i m h = refl
  lookup_missing k (e ∷ es) zero m h = rw m (none_below k es (below_all total k e.0 (keys_of es) m h.0))
  lookup_missing k (e ∷ es) (suc i) m h = rw m.0 (lookup_missing k es i m.1 h.1)

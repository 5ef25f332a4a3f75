-- What a binary search among ascending entries finds.
use Rattle.std.proofs.Common.{◌≡◌, ℕ, zero, suc, ◌<◌, ◌≤◌, false, List, [], ◌∷◌, length, get_or, Result, Ok, Err, IfOk, IfErr, sym, ap, ◌∙◌, add-one, arith}
use Rattle.std.specs.declared.cmp.Ordering.{Ordering}
use Rattle.std.specs.declared.cmp.Ordering.TheVariants.{Less, Equal, Greater}
use Rattle.std.specs.Ordering.{is_lt, ordering_reverse}
use Rattle.std.specs.Cmp.{IsTotalOrder, alike_right}
use Rattle.std.specs.Map.{keys_of}
use Rattle.std.specs.List.{AllByRecursion}
use Rattle.std.specs.List.Sorted.{IsStrictlySortedBy, IsSortedBy, IsSearchInRange, IsBinarySearchResult}
use Rattle.std.proofs.lemmas.List.Sorted.{searchable_from_sorted}
use Rattle.kv_service.specs.Ascending.{IsAscending, IsFoundAt, IsMissingAt}

-- what holds of each key holds of the one at a place
key_at : {K X : Type 0} (P : K → Type 0) (es : List (K × X)) (i : ℕ) (d : K × X) → i < length es → AllByRecursion P (keys_of es) → P (get_or es i d).0
key_at P [] i d lt h = absurd (omega arith)
key_at P (e ∷ es) zero d lt h = h.0
key_at P (e ∷ es) (suc i) d lt h = key_at P es i d (omega arith) h.1

turned : {K : Type 0} {cmp : K → K → Ordering} (total : IsTotalOrder cmp) (x y : K) (r : Ordering) → cmp x y ≡ r → cmp y x ≡ ordering_reverse r
turned total x y r h = total.antisymm y x ∙ ap ordering_reverse h

module _ {K X : Type 0} {cmp : K → K → Ordering} (total : IsTotalOrder cmp) where
  next_is_higher : (es : List (K × X)) → IsAscending cmp es → (j : ℕ) (d : K × X) → suc j < length es → is_lt (cmp (get_or es (suc j) d).0 (get_or es j d).0) ≡ false
  unfolding IsStrictlySortedBy
  next_is_higher [] h j d lt = absurd (omega arith)
  next_is_higher (e ∷ []) h j d lt = absurd (omega arith)
  next_is_higher (e ∷ f ∷ es) h zero d lt = ap is_lt (turned total e.0 f.0 Less h.0.0)
  next_is_higher (e ∷ f ∷ es) h (suc j) d lt = next_is_higher (f ∷ es) h.1 j d (omega arith)

  sorted : (es : List (K × X)) → IsAscending cmp es → IsSortedBy (λ a b. is_lt (cmp a.0 b.0)) es
  sorted es h j d low lt = rw (add-one j) (next_is_higher es h j d (omega arith))

  found : (k : K) (es : List (K × X)) (i : ℕ) → IsAscending cmp es → i < length es → ((d : K × X) → cmp (get_or es i d).0 k ≡ Equal) → IsFoundAt (cmp k) es i
  unfolding IsStrictlySortedBy
  found k [] i h lt at = absurd (omega arith)
  found k (e ∷ es) zero h lt at = turned total e.0 k Equal (at e)
  found k (e ∷ es) (suc i) h lt at =
      let x = (get_or es i e).0 in
      let below : cmp e.0 x ≡ Less = key_at (λ y. cmp e.0 y ≡ Less) es i e (omega arith) h.0 in
      (turned total e.0 k Less (sym (alike_right total x k e.0 (at e)) ∙ below), found k es i h.1 (omega arith) (λ d. at d))

  missing : (k : K) (es : List (K × X)) (i : ℕ) → i ≤ length es → ((j : ℕ) (d : K × X) → j < i → cmp (get_or es j d).0 k ≡ Less)
      → ((j : ℕ) (d : K × X) → i ≤ j → j < length es → cmp (get_or es j d).0 k ≡ Greater) → IsMissingAt (cmp k) es i
  missing k [] zero le before from = tt
  missing k [] (suc i) le before from = absurd (omega arith)
  missing k (e ∷ es) zero le before from = turned total e.0 k Greater (from 0 e (omega arith) (omega arith))
  missing k (e ∷ es) (suc i) le before from = (
    turned total e.0 k Less (before 0 e (omega arith)),
    missing k es i (omega arith) (λ j d lt. before (suc j) d (omega arith)) (λ j d low lt. from (suc j) d (omega arith) (omega arith)),
  )

  pub record IsSearched (k : K) (es : List (K × X)) (r : Result ℕ ℕ) : Type 0 where
    pub found : IfOk r (IsFoundAt (cmp k) es)
    pub missing : IfErr r (IsMissingAt (cmp k) es)

  pub searched : (k : K) (es : List (K × X)) (r : Result ℕ ℕ) → IsAscending cmp es → IsSearchInRange r (length es)
      → IsBinarySearchResult (λ e. cmp e.0 k) es r → IsSearched k es r
  searched k es (Ok i) h range at = record { found = found k es i h range at; missing = tt }
  searched k es (Err i) h range at =
      let parts = at (searchable_from_sorted total (λ e. e.0) es k (sorted es h)) in
      record { found = tt; missing = missing k es i range (λ j d lt. parts.0 j d (omega arith) lt) (λ j d low lt. parts.1 j d low lt) }

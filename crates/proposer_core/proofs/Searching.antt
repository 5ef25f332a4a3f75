-- What a binary search finds in a report that ascends.
use Rattle.std.proofs.Common.{◌≡◌, ℕ, zero, suc, ◌<◌, ◌≤◌, Bool, true, false, List, [], ◌∷◌, length, get_or, Option, Some, None, nat_lt, slice_get, if◌then◌else◌, ◌==◌, refl, arith}
use Rattle.std.specs.Option.{option_or}
use Rattle.std.specs.List.{AllWithin}
use Rattle.std.specs.List.Sorted.{IsPartitionedBy, IsPartitionPoint}
use Rattle.std.proofs.lemmas.Bool.Decides.{nat_tests}
use borrow.Author.Tests.{ltb-true}
use Rattle.jp_types.specs.declared.message.Entry.{Entry}
use Rattle.jp_types.specs.Instances.{Batch}
use Rattle.jp_types.specs.Reports.{decided_of, decided_in, vote_of, vote_in}
use Rattle.proposer_core.specs.Ascending.{is_above, ascends_above, found_at}

-- whether an entry is of an instance below i
abbrev pub is_before : ℕ → Entry → Bool
is_before i e = nat_lt e.instance i

-- the first entry of a report that ascends is above the last instance before it
head_above : (last : ℕ) (e : Entry) (es : List Entry) → ascends_above (Some last) (e ∷ es) ≡ true → last < e.instance
head_above last e es h = by (nat_lt last e.instance) refl h where
  by : (b : Bool) → nat_lt last e.instance ≡ b → (if b then ascends_above (Some e.instance) es else false) ≡ true → last < e.instance
  by true above h = ltb-true last e.instance above
  by false above h = absurd cc

-- and those behind it ascend above it
tail_ascends : (last : Option ℕ) (e : Entry) (es : List Entry) → ascends_above last (e ∷ es) ≡ true → ascends_above (Some e.instance) es ≡ true
tail_ascends last e es h = by (is_above last e.instance) h where
  by : (b : Bool) → (if b then ascends_above (Some e.instance) es else false) ≡ true → ascends_above (Some e.instance) es ≡ true
  by true h = h
  by false h = absurd cc

-- an entry of a report that ascends above an instance is above it
all_above : (last : ℕ) (es : List Entry) (j : ℕ) (d : Entry) → ascends_above (Some last) es ≡ true → j < length es → last < (get_or es j d).instance
all_above last [] j d h lt = absurd (omega arith)
all_above last (e ∷ es) zero d h lt = head_above last e es h
all_above last (e ∷ es) (suc j) d h lt =
    let first = head_above last e es h in
    let later = all_above e.instance es j d (tail_ascends (Some last) e es h) (omega arith) in
    omega arith

-- the entries of instances below i come first
partitioned : (i : ℕ) (last : Option ℕ) (es : List Entry) → ascends_above last es ≡ true → IsPartitionedBy (is_before i) es
partitioned i last [] s j k d le lt h = absurd (omega arith)
partitioned i last (e ∷ es) s zero zero d le lt h = h
partitioned i last (e ∷ es) s zero (suc k) d le lt h =
    let later = all_above e.instance es k d (tail_ascends last e es s) (omega arith) in
    let before = ltb-true (get_or es k d).instance i h in
    grind (arith, nat_tests)
partitioned i last (e ∷ es) s (suc j) zero d le lt h = absurd (omega arith)
partitioned i last (e ∷ es) s (suc j) (suc k) d le lt h = partitioned i (Some e.instance) es (tail_ascends last e es s) j k d (omega arith) (omega arith) h

module _ {A : Type 0} (f : Option ℕ → Batch → Option A) (i : ℕ) where
  -- what f finds first in the entries of i
  abbrev pub found_in : List Entry → Option A
  found_in [] = None
  found_in (e ∷ es) = option_or (found_at f i (Some e)) (found_in es)

  or_none : (found : Option A) → option_or found None ≡ found
  or_none None = refl
  or_none (Some x) = refl

  -- nothing is found above i
  none_above : (last : ℕ) (es : List Entry) → ascends_above (Some last) es ≡ true → i ≤ last → found_in es ≡ None
  none_above last [] h le = refl
  none_above last (e ∷ es) h le =
      let first = head_above last e es h in
      let other : (e.instance == i) ≡ false = grind (arith, nat_tests) in
      rw (other, none_above e.instance es (tail_ascends (Some last) e es h) (omega arith)) refl

  from_parts : (last : Option ℕ) (es : List Entry) (at : ℕ) → ascends_above last es ≡ true → at ≤ length es → AllWithin (λ e. is_before i e ≡ true) es 0 at
      → AllWithin (λ e. is_before i e ≡ false) es at (length es) → found_in es ≡ found_at f i (slice_get es at)
  from_parts last [] at s le low high = refl
  from_parts last (e ∷ es) zero s le low high =
      let from : i ≤ e.instance = let not_before = high 0 e (omega arith) (omega arith) in grind (arith, nat_tests) in
      rw (none_above e.instance es (tail_ascends last e es s) from) (or_none (found_at f i (Some e)))
  from_parts last (e ∷ es) (suc at) s le low high =
      let before = ltb-true e.instance i (low 0 e (omega arith) (omega arith)) in
      let other : (e.instance == i) ≡ false = grind (arith, nat_tests) in
      rw other (from_parts (Some e.instance) es at (tail_ascends last e es s) (omega arith) (λ j d l h. low (suc j) d (omega arith) (omega arith)) (λ j d l h. high (suc j) d (omega arith) (omega arith)))

  pub found_by_search : (es : List Entry) (at : ℕ) → ascends_above None es ≡ true → at ≤ length es
      → (IsPartitionedBy (is_before i) es → IsPartitionPoint (λ e. is_before i e ≡ true) (λ e. is_before i e ≡ false) es at) → found_in es ≡ found_at f i (slice_get es at)
  found_by_search es at s le point = let parts = point (partitioned i None es s) in from_parts None es at s le parts.0 parts.1

pub decided_found : (i : ℕ) (es : List Entry) → decided_in i es ≡ found_in decided_of i es
decided_found i [] = refl
decided_found i (e ∷ es) = rw (decided_found i es) refl

pub vote_found : (i : ℕ) (es : List Entry) → vote_in i es ≡ found_in vote_of i es
vote_found i [] = refl
vote_found i (e ∷ es) = rw (vote_found i es) refl

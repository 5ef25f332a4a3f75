-- The least of ascending items that is above a bound.
use Rattle.std.specs.Prelude.{ℕ, Bool, true, List, [], ◌∷◌, if◌then◌else◌, Option, Some, None}
use Rattle.std.specs.declared.cmp.Ordering.{Ordering}
use Rattle.std.specs.Ordering.{nat_cmp, is_gt, ordering_then}
use denote.Ref.{Bor}
use Rattle.jp_types.specs.declared.command.Reply.{Reply}

-- whether a key is above the bound; each key is, where there is no bound
abbrev pub is_above : {K : Type 0} → (K → K → Ordering) → Option K → K → Bool
is_above cmp None key = true
is_above cmp (Some bound) key = is_gt (cmp key bound)

-- the first item whose key is above the bound: the least such item, where the keys ascend
abbrev pub first_above : {A K : Type 0} → (K → K → Ordering) → (A → K) → Option K → List A → Option A
first_above cmp key bound [] = None
first_above cmp key bound (x ∷ xs) = if is_above cmp bound (key x) then Some x else first_above cmp key bound xs

-- what two references point to
abbrev pub pair_of : {A B : Type 0} → Option (Bor A × Bor B) → Option (A × B)
pair_of None = None
pair_of (Some p) = Some (p.0.now, p.1.now)

-- pairs of numbers in order: by the first number, and by the second where it is the same
abbrev pub pair_cmp : ℕ × ℕ → ℕ × ℕ → Ordering
pair_cmp a b = ordering_then (nat_cmp a.0 b.0) (nat_cmp a.1 b.1)

-- a client, its number and the reply that a reference points to, as they are kept
abbrev pub kept_of : Option (ℕ × ℕ × Bor Reply) → Option (ℕ × (ℕ × Reply))
kept_of None = None
kept_of (Some p) = Some (p.0, (p.1, p.2.now))

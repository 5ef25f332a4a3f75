-- Entries in ascending order of their keys, and where a key is among them.
use Rattle.std.specs.Prelude.{◌≡◌, ℕ, zero, suc, List, [], ◌∷◌}
use Rattle.std.specs.declared.cmp.Ordering.{Ordering}
use Rattle.std.specs.declared.cmp.Ordering.TheVariants.{Less, Equal, Greater}
use Rattle.std.specs.Map.{keys_of}
use Rattle.std.specs.List.Sorted.{IsStrictlySortedBy}

-- each key is below those after it
abbrev pub IsAscending : {K X : Type 0} → (K → K → Ordering) → List (K × X) → Type 0
IsAscending cmp entries = IsStrictlySortedBy cmp (keys_of entries)

-- a key is at this place, and above the keys before it; `compare` compares it to another
abbrev pub IsFoundAt : {K X : Type 0} → (K → Ordering) → List (K × X) → ℕ → Type 0
IsFoundAt compare [] i = ⊥
IsFoundAt compare (e ∷ es) zero = compare e.0 ≡ Equal
IsFoundAt compare (e ∷ es) (suc i) = (compare e.0 ≡ Greater) × IsFoundAt compare es i

-- a key is above the keys before this place, and below the one there, if there is one
abbrev pub IsMissingAt : {K X : Type 0} → (K → Ordering) → List (K × X) → ℕ → Type 0
IsMissingAt compare [] zero = Unit {0}
IsMissingAt compare [] (suc i) = ⊥
IsMissingAt compare (e ∷ es) zero = compare e.0 ≡ Less
IsMissingAt compare (e ∷ es) (suc i) = (compare e.0 ≡ Greater) × IsMissingAt compare es i

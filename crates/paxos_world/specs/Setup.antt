-- The constants of a run, majorities, and a word on functions.
use Rattle.std.specs.Prelude.{◌≡◌, ℕ, ◌≤◌, Bool, List, [], ◌∷◌, if◌then◌else◌, ◌==◌, ◌⊎◌}
use Rattle.jp_types.specs.Views.{majority, count_below}
use Rattle.jp_types.specs.declared.mode.Mode.{Mode}
use Rattle.kv_service.specs.Service.{State}

-- the constants of a run: how many replicas, the recovery mode, and the bytes of a service's state
pub record Setup : Type 0 where
  pub n : ℕ
  pub mode : Mode
  pub encode : State → List ℕ

-- the replicas that pass the test are a majority
abbrev pub IsQuorum : ℕ → (ℕ → Bool) → Type 0
IsQuorum n test = majority n ≤ count_below n test

-- the function that is x at k and f elsewhere
abbrev pub with_at : {X : Type 0} → (ℕ → X) → ℕ → X → ℕ → X
with_at f k x q = if q == k then x else f q

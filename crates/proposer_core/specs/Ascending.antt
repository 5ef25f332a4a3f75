-- Whether the instances in a report ascend, and what a search in it finds.
use Rattle.std.specs.Prelude.{ℕ, Bool, true, false, List, [], ◌∷◌, Option, Some, None, if◌then◌else◌, ◌==◌, nat_lt}
use Rattle.jp_types.specs.Instances.{Batch}
use Rattle.jp_types.specs.declared.message.Entry.{Entry}

-- whether an instance is above the last one, if there is one
abbrev pub is_above : Option ℕ → ℕ → Bool
is_above None i = true
is_above (Some last) i = nat_lt last i

-- whether the instances in a report ascend, the first of them above the last one before it, if there is one
abbrev pub ascends_above : Option ℕ → List Entry → Bool
ascends_above last [] = true
ascends_above last (e ∷ es) = if is_above last e.instance then ascends_above (Some e.instance) es else false

-- what f finds in an entry that is of instance i
abbrev pub found_at : {A : Type 0} → (Option ℕ → Batch → Option A) → ℕ → Option Entry → Option A
found_at f i None = None
found_at f i (Some e) = if e.instance == i then f e.vote e.batch else None

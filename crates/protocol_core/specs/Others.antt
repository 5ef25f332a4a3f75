-- The other replicas.
use Rattle.std.specs.Prelude.{ℕ, zero, suc, ◌+◌, ◌-◌, ◌%◌, Bool, List, if◌then◌else◌, ◌==◌}
use Rattle.jp_types.specs.ReplicaSets.{no_members, with_member}

-- the set of the replicas below k but me
abbrev pub others_below : ℕ → ℕ → List Bool
others_below zero me = no_members
others_below (suc k) me = let others = others_below k me in if k == me then others else with_member others k

-- how many queries went out after one more, modulo the count of the other replicas
abbrev pub queries_after : ℕ → ℕ → ℕ
queries_after n queries = (queries + 1) % (n - 1)

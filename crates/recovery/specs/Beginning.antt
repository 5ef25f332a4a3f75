-- How a life begins, from the number that its replica's disk holds.
use Rattle.std.specs.Prelude.{ℕ, List, if◌then◌else◌, ◌==◌, Option, Some, None}
use Rattle.std.specs.Option.{option_map}
use Rattle.jp_types.specs.declared.mode.Mode.{Mode}
use Rattle.jp_types.specs.declared.mode.Mode.TheVariants.{ViewSs, EpochSs}
use Rattle.jp_types.specs.declared.mode.Phase.{Phase}
use Rattle.jp_types.specs.declared.mode.Phase.TheVariants.{Recovering, Working}
use Rattle.jp_types.specs.Marks.{first_mark, view_at_return, return_mark}
use Rattle.jp_types.specs.Vectors.{table}
use Rattle.recovery.specs.declared.begin.Started.{Started}

-- the vector with which a life of replica me begins: in EpochSS the mark at its own place, and 0 elsewhere
abbrev pub first_vector : Mode → ℕ → ℕ → List ℕ
first_vector ViewSs me mark = table (λ p. 0)
first_vector EpochSs me mark = table (λ p. if p == me then mark else 0)

-- a life of replica me that begins with this mark
abbrev pub started : Mode → ℕ → ℕ → Phase → ℕ → Started
started mode me mark phase view = record { mark = mark; phase = phase; view = view; vector = first_vector mode me mark }

-- a life of replica me among n that finds this stable number, if any; None where the number to save passes the limit
abbrev pub begun : Mode → ℕ → ℕ → Option ℕ → Option Started
begun mode me n None = Some (started mode me (first_mark mode) Working 0)
begun mode me n (Some stored) = option_map (λ mark. started mode me mark Recovering (view_at_return mode mark)) (return_mark mode n me stored)

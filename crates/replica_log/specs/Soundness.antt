-- What holds of every log.
use Rattle.std.specs.Prelude.{◌≡◌, ℕ, ◌≤◌, true, false, Option, None, is_some}
use Rattle.std.specs.FinMap as map
use Rattle.jp_types.specs.Views.{number_limit}
use Rattle.replica_log.specs.Log.{Log, first_undecided, is_in_span}

-- nothing is there for an instance that is not in span
abbrev pub IsInSpan : {A : Type 0} → Log → (ℕ → Option A) → Type 0
IsInSpan log at = (i : ℕ) → is_in_span log i ≡ false → at i ≡ None

-- the bounds, that all lies in span, that no known instance has a tally, and which is the first undecided one
pub record IsSound (log : Log) (first : ℕ) : Type 0 where
  pub least : 3 ≤ log.n
  pub most : log.n ≤ 9
  pub base : log.base ≤ number_limit
  pub votes : IsInSpan log (map.get log.votes)
  pub known : IsInSpan log (map.get log.known)
  pub tallies : IsInSpan log (map.get log.tallies)
  pub clear : (i : ℕ) → is_some (map.get log.known i) ≡ true → map.get log.tallies i ≡ None
  pub undecided : first ≡ first_undecided log

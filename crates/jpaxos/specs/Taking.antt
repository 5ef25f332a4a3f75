-- How much of a source a call takes.
use Rattle.std.specs.Prelude.{ℕ, ◌≤◌, List, length, Option}
use Rattle.std.specs.Io.KnownBytes.{Consumes}

-- at most so many bytes were taken of what was left
pub record TakesAtMost (limit : ℕ) (left left_after : Option (List ℕ)) : Type 0 where
  pub taken : List ℕ
  pub consumed : Consumes left left_after taken
  pub few : length taken ≤ limit

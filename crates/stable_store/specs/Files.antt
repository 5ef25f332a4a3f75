-- What contracts see of a disk over a file.
use Rattle.std.specs.Prelude.{ℕ}

-- how many bytes the file had when it was opened, and how many calls have failed
pub record Opened : Type 0 where
  pub size : ℕ
  pub faults : ℕ

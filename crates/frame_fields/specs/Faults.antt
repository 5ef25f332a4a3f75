-- Why bytes are no frame.
use Rattle.std.specs.Prelude.{ℕ, ◌-◌, ◌^◌, min}

-- `at` is the place of the field that is wrong, as it is told
pub data Fault : Type 0 where
  BadKind BadLength BadField TooLong : (at : ℕ) → Fault
  -- the frame names another cluster, this one
  OtherCluster : (at got : ℕ) → Fault

-- a place, counted from the start of the stream, as it is told: one that no u64 holds is told as the greatest u64
abbrev pub told : ℕ → ℕ
told place = min place (2 ^ 64 - 1)

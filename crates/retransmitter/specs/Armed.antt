-- By what an armed message is cancelled.
use Rattle.std.specs.Prelude.{ℕ}

-- the slot, and the slot's generation as it was armed
pub record Armed : Type 0 where
  pub slot : ℕ
  pub generation : ℕ

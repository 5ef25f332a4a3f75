-- What the calls of a disk do to its bytes, and which images a crash may leave.
use Rattle.std.specs.Prelude.{◌≡◌, ◌⊎◌, ℕ, ◌+◌, ◌≤◌, Bool, IsTrue, List, ◌++◌, length, take, drop, Option, Some, None}

-- these bytes at this place, and all else as it was
abbrev pub overwritten : ℕ → List ℕ → List ℕ → List ℕ
overwritten at piece bytes = take at bytes ++ piece ++ drop (at + length piece) bytes

-- any n bytes from this place on, and all else as it was
pub record Torn (at n : ℕ) (old new : List ℕ) : Type 0 where
  pub before : take at new ≡ take at old
  pub after : drop (at + n) new ≡ drop (at + n) old
  pub size : length new ≡ length old

-- one of these images, torn in this range
abbrev pub TornFrom : ℕ → ℕ → (List ℕ → Type 0) → List ℕ → Type 0
TornFrom at n images image = (old : List ℕ) × images old × Torn at n old image

-- what a read gives, where it is told, was torn in this range
abbrev pub Tears : ℕ → ℕ → Option (List ℕ) → Option (List ℕ) → Type 0
Tears at n None new = new ≡ None
Tears at n (Some old) new = (bytes : List ℕ) × (new ≡ Some bytes) × Torn at n old bytes

-- a crash leaves what a read gives, and nothing else
abbrev pub IsSettled : Option (List ℕ) → (List ℕ → Type 0) → Type 0
IsSettled seen images = (image : List ℕ) → images image → seen ≡ Some image

-- Time goes on over a call: a crash since t might have left what it might have left before, or what it may leave now.
-- A disk that remembers forgets none of it.
pub record Elapses (remembers : Bool) (before now : ℕ) (past since : ℕ → List ℕ → Type 0) (images : List ℕ → Type 0) : Type 0 where
  pub later : before ≤ now
  pub nothing_else : (t : ℕ) (image : List ℕ) → t ≤ before → since t image → past t image ⊎ images image
  pub keeps : IsTrue remembers → (t : ℕ) (image : List ℕ) → t ≤ before → past t image → since t image

-- a crash at any moment from the old disk to the new one leaves an image that has P
pub record LeavesOnly {D : Type 0} (moment : D → ℕ) (left_since : D → ℕ → List ℕ → Type 0) (old new : D) (P : List ℕ → Type 0) : Type 0 where
  pub later : moment old ≤ moment new
  pub each : (image : List ℕ) → left_since new (moment old) image → P image
  -- for a stretch of time that began earlier
  pub before : (t : ℕ) (image : List ℕ) → t ≤ moment old → left_since new t image → left_since old t image ⊎ P image

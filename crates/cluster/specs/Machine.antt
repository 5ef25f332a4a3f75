-- A machine as contracts see it.
use Rattle.std.specs.Prelude.{◌≡◌, ℕ, false, List, length, Option, Some, None}
use Rattle.replica_node.specs.Keeping.{Keeps}
use Rattle.replica_node.specs.Whole.{Whole}

-- a machine: the bytes of its disk, and the replica that is up on it, if one is
pub record Machine : Type 0 where
  pub disk : List ℕ
  pub running : Option Whole

-- the disk is as the last step of the replica that is up left it, where none of its steps failed
abbrev pub IsKept : List ℕ → Option Whole → Type 0
IsKept disk None = Unit {0}
IsKept disk (Some a) = a.down ≡ false → Keeps a.stages.protocol (length disk) (Some disk) (λ image. image ≡ disk)

-- a disk has 18 bytes, and is as what is up left it
abbrev pub IsSound : List ℕ → Option Whole → Type 0
IsSound disk up = (length disk ≡ 18) × IsKept disk up

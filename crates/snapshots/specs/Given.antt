-- A joiner that is given parts in turn, and what comes of the parts of certain bytes.
use Rattle.std.specs.Prelude.{◌≡◌, ℕ, Bool, true, List, [], ◌∷◌, length, ◌==◌, if◌then◌else◌, Option, Some, None}
use Rattle.std.specs.List.{All, Contains, list_all, list_any}
use Rattle.jp_types.specs.declared.message.SnapshotPart.{SnapshotPart}
use Rattle.kv_service.specs.Parts.{Joiner, is_joined, joined_bytes, takes_part, with_part}
use Rattle.snapshots.specs.Cutting.{parts_of}
use Rattle.snapshots.specs.Joining.{empty_joiner}

-- the joiner after it was given these parts, one after another; None where it refuses one of them
abbrev pub after_parts : Joiner → List SnapshotPart → Option Joiner
after_parts j [] = Some j
after_parts j (m ∷ ms) = if takes_part j m then after_parts (with_part j m) ms else None

-- whether one of these parts is at an offset
abbrev pub is_given : List SnapshotPart → ℕ → Bool
is_given given at = list_any (λ part. at == part.at) given

-- each of these is a part of the bytes
abbrev pub ArePartsOf : ℕ → List ℕ → List SnapshotPart → Type 0
ArePartsOf upto bytes given = All (Contains (parts_of upto bytes)) given

-- what a joiner of the bytes' length is after it was given these parts of them: it refused none, it holds all parts exactly where each was given, and then it has the bytes
pub record Joins (upto : ℕ) (bytes : List ℕ) (given : List SnapshotPart) (j : Joiner) : Type 0 where
  pub taken : after_parts (empty_joiner upto (length bytes)) given ≡ Some j
  pub joined : is_joined j ≡ list_all (λ part. is_given given part.at) (parts_of upto bytes)
  pub whole : is_joined j ≡ true → joined_bytes j ≡ bytes

-- parts of the bytes come together, in whatever order and however often they are given
abbrev pub JoinsInAnyOrder : ℕ → List ℕ → List SnapshotPart → Type 0
JoinsInAnyOrder upto bytes given = ArePartsOf upto bytes given → (j : Joiner) × Joins upto bytes given j

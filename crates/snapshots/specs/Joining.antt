-- Which parts a joiner refuses, and why; what it answers to the others.
use Rattle.std.specs.Prelude.{◌≡◌, ◌≢◌, ◌≤◌, ◌<◌, take, slice_get, true, ℕ, ◌+◌, ◌-◌, ◌%◌, min, Bool, ◌&&◌, not, List, [], length, bytes_eq, nat_eq, nat_lt, ◌==◌, if◌then◌else◌, Option, Some, None}
use Rattle.std.specs.List.{All, common_prefix_len}
use Rattle.std.specs.Option.{option_map}
use Rattle.std.specs.Ordering.{nat_cmp}
use Rattle.jp_types.specs.declared.message.SnapshotPart.{SnapshotPart}
use Rattle.kv_service.specs.Ascending.{IsAscending}
use Rattle.kv_service.specs.Entries
use Rattle.kv_service.specs.Parts.{Joiner, is_joined, joined_bytes, part_size}
use Rattle.snapshots.specs.declared.joiner.PartFault.{PartFault}
use Rattle.snapshots.specs.declared.joiner.PartFault.TheVariants.{WrongTotal, BadCut, Differs}

-- a joiner that holds no part
abbrev pub empty_joiner : ℕ → ℕ → Joiner
empty_joiner upto total = record { upto = upto; total = total; parts = [] }

-- whether so many bytes at an offset are one of the parts of this total: the offset is a multiple of the part size, below the total, and they end at the next multiple or at the total
abbrev pub is_cut : ℕ → ℕ → ℕ → Bool
is_cut total at count = (at % part_size == 0) && nat_lt at total && (count == min part_size (total - at))

-- what holds of the parts that a joiner holds
pub record HoldsCuts (total : ℕ) (parts : List (ℕ × List ℕ)) : Type 0 where
  pub ascending : IsAscending nat_cmp parts
  pub cut : All (λ part. is_cut total part.0 (length part.1) ≡ true) parts

-- the place in the whole of the first byte at which a part differs from the bytes that are held at its offset
abbrev pub first_difference : Option (List ℕ) → SnapshotPart → Option ℕ
first_difference None m = None
first_difference (Some held) m = if bytes_eq held m.bytes then None else Some (m.at + common_prefix_len nat_eq held m.bytes)

-- why a joiner refuses a part; None where it takes it
abbrev pub part_fault : Joiner → SnapshotPart → Option PartFault
part_fault j m =
    if not (m.total == j.total) then Some (WrongTotal j.total m.total)
    else if not (is_cut j.total m.at (length m.bytes)) then Some (BadCut m.at)
    else option_map Differs (first_difference (Entries.get nat_cmp j.parts m.at) m)

-- the whole bytes, where all parts are held
abbrev pub whole_of : Joiner → Option (List ℕ)
whole_of j = if is_joined j then Some (joined_bytes j) else None

-- a place in the whole at which a part has another byte than the bytes held at its offset, while those before it are the same
pub record IsFirstDifference (j : Joiner) (m : SnapshotPart) (place : ℕ) : Type 0 where
  pub held : List ℕ
  pub found : Entries.get nat_cmp j.parts m.at ≡ Some held
  pub from : m.at ≤ place
  pub within : place < m.at + length m.bytes
  pub same : take (place - m.at) held ≡ take (place - m.at) m.bytes
  pub differs : slice_get held (place - m.at) ≢ slice_get m.bytes (place - m.at)

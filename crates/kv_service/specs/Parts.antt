-- The bytes of a state in parts: how they are cut, and how parts that came are joined.
use Rattle.std.specs.Prelude.{ℕ, zero, suc, ◌+◌, ◌-◌, ◌/◌, ◌%◌, min, Bool, true, ◌&&◌, List, [], ◌∷◌, length, take, drop, flat_map, bytes_eq, nat_lt, ◌==◌, Option, Some, None}
use Rattle.std.specs.Ordering.{nat_cmp}
use Rattle.jp_types.specs.declared.message.Message.{Message}
use Rattle.jp_types.specs.declared.message.SnapshotPart.{SnapshotPart}
use Rattle.kv_service.specs.Entries

-- how many bytes a part of a snapshot has, but for the last
abbrev pub part_size : ℕ
part_size = 65536

-- a snapshot of which parts came: its place, the length of its bytes, and the parts held, each with its offset in the bytes, ascending
pub record Joiner : Type 0 where
  pub upto : ℕ
  pub total : ℕ
  pub parts : List (ℕ × List ℕ)

-- how many parts bytes of this length have
abbrev pub part_count : ℕ → ℕ
part_count total = (total + (part_size - 1)) / part_size

-- the k parts of the bytes from the offset `at` on
abbrev pub parts_from : ℕ → ℕ → ℕ → List ℕ → ℕ → List Message
parts_from zero upto total bytes at = []
parts_from (suc k) upto total bytes at =
    Message.SnapshotPart (record { upto = upto; total = total; at = at; bytes = take part_size (drop at bytes) }) ∷ parts_from k upto total bytes (at + part_size)

-- whether the part that is held at an offset, if there is one, has these bytes
abbrev pub is_alike : Option (List ℕ) → List ℕ → Bool
is_alike None bytes = true
is_alike (Some held) bytes = bytes_eq held bytes

-- whether a joiner takes a part: its total is the joiner's, its offset and its length are those of a part, and no other bytes are held at that offset
abbrev pub takes_part : Joiner → SnapshotPart → Bool
takes_part j m =
    (m.total == j.total)
    && ((m.at % part_size == 0) && nat_lt m.at j.total && (length m.bytes == min part_size (j.total - m.at)))
    && is_alike (Entries.get nat_cmp j.parts m.at) m.bytes

-- the joiner with a part that it takes
abbrev pub with_part : Joiner → SnapshotPart → Joiner
with_part j m = record j { parts = Entries.insert nat_cmp j.parts m.at m.bytes }

-- whether all parts are held
abbrev pub is_joined : Joiner → Bool
is_joined j = length j.parts == part_count j.total

-- the bytes of the parts, joined in order
abbrev pub joined_bytes : Joiner → List ℕ
joined_bytes j = flat_map (λ part. part.1) j.parts

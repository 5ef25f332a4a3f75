-- How the bytes of a state are cut into parts.
use Rattle.std.specs.Prelude.{ℕ, zero, suc, ◌+◌, List, [], ◌∷◌, length, take, drop}
use Rattle.jp_types.specs.declared.message.SnapshotPart.{SnapshotPart}
use Rattle.kv_service.specs.Parts.{part_count, part_size}

-- the part of the bytes at an offset
abbrev pub part_at : ℕ → List ℕ → ℕ → SnapshotPart
part_at upto bytes at = record { upto = upto; total = length bytes; at = at; bytes = take part_size (drop at bytes) }

-- k parts of the bytes, one behind the other, from an offset on
abbrev pub cut_from : ℕ → ℕ → List ℕ → ℕ → List SnapshotPart
cut_from zero upto bytes at = []
cut_from (suc k) upto bytes at = part_at upto bytes at ∷ cut_from k upto bytes (at + part_size)

-- all parts of the bytes, in order
abbrev pub parts_of : ℕ → List ℕ → List SnapshotPart
parts_of upto bytes = cut_from (part_count (length bytes)) upto bytes 0

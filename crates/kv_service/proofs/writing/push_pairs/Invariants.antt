use Rattle.std.proofs.Common.{◌≡◌, ◌++◌, length, take}
use Rattle.std.specs.Int.{w32, to_be_bytes}
use Rattle.std.specs.List.{flat_map}
use Rattle.kv_service.specs.StateBytes.{pair_bytes}
use Rattle.kv_service.proofs.writing.push_pairs.Given as goal

-- the count and the pairs so far
abbrev pub invariant-loop-pair : goal.invariant-loop-pair
invariant-loop-pair l = l.out.items ≡ l.fn.out.items ++ to_be_bytes w32 (length l.pairs) ++ flat_map pair_bytes (take l.pair-index l.pairs)

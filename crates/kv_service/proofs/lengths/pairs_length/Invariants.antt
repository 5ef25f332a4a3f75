use Rattle.std.proofs.Common.{◌≡◌, ◌+◌, ◌-◌, ◌^◌, length, take, min}
use Rattle.std.specs.List.{flat_map}
use Rattle.kv_service.specs.StateBytes.{pair_bytes}
use Rattle.kv_service.proofs.lengths.pairs_length.Given as goal

-- the count and the pairs so far
abbrev pub invariant-loop-pair : goal.invariant-loop-pair
invariant-loop-pair l = l.total ≡ min (4 + length (flat_map pair_bytes (take l.pair-index l.pairs))) (2 ^ 64 - 1)

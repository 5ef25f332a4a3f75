use Rattle.std.proofs.Common.{◌≡◌, ◌+◌, ◌-◌, ◌^◌, length, take, min}
use Rattle.std.specs.List.{flat_map}
use Rattle.kv_service.specs.StateBytes.{client_bytes}
use Rattle.kv_service.proofs.lengths.clients_length.Given as goal

-- the count and the clients so far
abbrev pub invariant-loop-last : goal.invariant-loop-last
invariant-loop-last l = l.total ≡ min (4 + length (flat_map client_bytes (take l.last-index l.clients))) (2 ^ 64 - 1)

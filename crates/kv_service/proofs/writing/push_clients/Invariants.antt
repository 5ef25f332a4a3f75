use Rattle.std.proofs.Common.{◌≡◌, ◌++◌, length, take}
use Rattle.std.specs.Int.{w32, to_be_bytes}
use Rattle.std.specs.List.{flat_map}
use Rattle.kv_service.specs.StateBytes.{client_bytes}
use Rattle.kv_service.proofs.writing.push_clients.Given as goal

-- the count and the clients so far
abbrev pub invariant-loop-last : goal.invariant-loop-last
invariant-loop-last l = l.out.items ≡ l.fn.out.items ++ to_be_bytes w32 (length l.clients) ++ flat_map client_bytes (take l.last-index l.clients)

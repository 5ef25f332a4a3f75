use Rattle.std.proofs.Common.{◌≡◌, ◌-◌, None}
use Rattle.kv_service.specs.StateReading.{clients}
use Rattle.kv_service.proofs.ReadingLoops.{with_front}
use Rattle.kv_service.proofs.reading.Cursor.clients.Given as goal

-- the clients so far and those that are left are all that are read
abbrev pub invariant-loop : goal.invariant-loop
invariant-loop l = with_front l.clients.items (clients (l.count - l.counter) l.before l.self) ≡ clients l.count None l.fn.self

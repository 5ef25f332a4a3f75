use Rattle.std.proofs.Common.{◌≡◌, ◌-◌, None}
use Rattle.std.specs.Option.{option_copied}
use Rattle.kv_service.specs.StateReading.{pairs}
use Rattle.kv_service.proofs.ReadingLoops.{with_front}
use Rattle.kv_service.proofs.reading.Cursor.pairs.Given as goal

-- the pairs so far and those that are left are all that are read
abbrev pub invariant-loop : goal.invariant-loop
invariant-loop l = with_front l.pairs.items (pairs (l.count - l.counter) (option_copied l.before) l.self) ≡ pairs l.count None l.fn.self

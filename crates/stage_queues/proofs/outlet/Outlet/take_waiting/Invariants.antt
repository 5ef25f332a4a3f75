use Rattle.std.proofs.Common.{◌≡◌}
use Rattle.stage_queues.proofs.outlet.Outlet.take_waiting.Given as goal

abbrev pub invariant-loop : goal.invariant-loop
invariant-loop g l = l.self ≡ l.initial.self

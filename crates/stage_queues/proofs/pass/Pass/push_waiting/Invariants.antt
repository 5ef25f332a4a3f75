use Rattle.std.proofs.Common.{◌≡◌}
use Rattle.stage_queues.proofs.pass.Pass.push_waiting.Given as goal

abbrev pub invariant-loop : goal.invariant-loop
invariant-loop g l = (l.self ≡ l.initial.self) × (l.element ≡ l.initial.element)

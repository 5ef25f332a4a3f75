use Rattle.std.proofs.Common.{◌≡◌}
use Rattle.protocol_core.specs.Others.{others_below}
use Rattle.protocol_core.proofs.config.Config.others.Given as goal

abbrev pub invariant-loop-replica : goal.invariant-loop-replica
invariant-loop-replica l = l.set ≡ others_below l.replica l.self.me

use Rattle.std.proofs.Common.{◌≡◌}
use Rattle.recovery.specs.Rejoining.{highest_answered}
use Rattle.recovery.proofs.rejoiner.Rejoiner.highest_answered.Given as goal

-- the highest view of the replicas so far
abbrev pub invariant-loop-replica : goal.invariant-loop-replica
invariant-loop-replica l = l.highest ≡ highest_answered l.replica l.own l.self

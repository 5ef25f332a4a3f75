use Rattle.std.proofs.Common.{◌≡◌}
use Rattle.proposer_core.specs.Counting.{greatest_low}
use Rattle.proposer_core.proofs.counting.greatest_low.Given as goal

-- the greatest of those so far
abbrev pub invariant-loop-replica : goal.invariant-loop-replica
invariant-loop-replica l = l.greatest ≡ greatest_low l.replica l.counted l.held

use Rattle.std.proofs.Common.{◌≡◌, ◌-◌, ◌^◌, min}
use Rattle.proposer_core.specs.Counting.{reported_end}
use Rattle.proposer_core.proofs.counting.reported_end.Given as goal

-- the end of those so far
abbrev pub invariant-loop-replica : goal.invariant-loop-replica
invariant-loop-replica l = l.end ≡ min (reported_end l.replica l.counted l.held) (2 ^ 64 - 1)

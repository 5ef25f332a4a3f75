use Rattle.std.proofs.Common.{◌≡◌, None}
use Rattle.proposer_core.specs.Counting.{report_in}
use Rattle.jp_types.specs.Reports.{decided_below}
use Rattle.proposer_core.proofs.counting.decided_below.Given as goal

-- those so far report nothing as decided
abbrev pub invariant-loop-replica : goal.invariant-loop-replica
invariant-loop-replica l = decided_below l.replica (report_in l.counted l.held) l.instance ≡ None

use Rattle.std.proofs.Common.{◌≡◌}
use Rattle.replica_log.specs.Log as log
use Rattle.proposer_core.specs.Counting.{report_in}
use Rattle.jp_types.specs.Reports.{highest_below}
use Rattle.proposer_core.proofs.counting.highest_below.Given as goal

-- the highest of the own one and those so far
abbrev pub invariant-loop-replica : goal.invariant-loop-replica
invariant-loop-replica l = log.vote_behind l.highest ≡ highest_below l.replica (report_in l.counted l.held) (log.vote_behind l.fn.own) l.instance

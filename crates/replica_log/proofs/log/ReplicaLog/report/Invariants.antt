use Rattle.std.proofs.Common.{◌≡◌, ◌+◌, ◌-◌, ◌++◌, filter, nat_le}
use Rattle.jp_types.specs.Instances.{span}
use Rattle.replica_log.specs.Log.{entries_from, report_from}
use Rattle.replica_log.proofs.log.ReplicaLog.report.Given as goal

-- what is reported and what is left to look at come to the whole report
abbrev pub invariant-loop-offset : goal.invariant-loop-offset
invariant-loop-offset l = l.report ++ filter (λ e. nat_le l.first e.instance) (entries_from (span - l.offset) l.self (l.self.base + l.offset)) ≡ report_from l.self l.first

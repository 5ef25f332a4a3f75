use Rattle.std.proofs.Common.{◌≡◌, ◌++◌, drop}
use Rattle.schedules.specs.Generator.{replica_summaries}
use Rattle.schedules.proofs.summary.push_replicas.Given as goal

-- what is written so far and what is left is all
abbrev pub invariant-loop-replica : goal.invariant-loop-replica
invariant-loop-replica l = l.out.items ++ replica_summaries l.replica (drop l.replica l.all) ≡ l.fn.out.items ++ replica_summaries 0 l.all

use Rattle.std.proofs.Common.{◌≡◌, ◌++◌, drop}
use Rattle.schedules.specs.Text.{show_replicas}
use Rattle.schedules.proofs.text.push_replicas.Given as goal

-- what is written so far and what is left is all
abbrev pub invariant-loop-replica : goal.invariant-loop-replica
invariant-loop-replica l = l.out.items ++ show_replicas l.replica (drop l.replica l.all) ≡ l.fn.out.items ++ show_replicas 0 l.all

use Rattle.std.proofs.Common.{◌≡◌, ◌≤◌, ◌<◌, ◌-◌, ℕ, true}
use Rattle.std.specs.FinMap.{contains_key}
use Rattle.replica_log.proofs.log.first_unknown.Given as goal

abbrev pub invariant-loop-instance : goal.invariant-loop-instance
invariant-loop-instance l =
    record {
      low : l.first ≤ l.instance;
      high : l.instance ≤ l.end;
      known : (i : ℕ) → l.first ≤ i → i < l.instance → contains_key l.known i ≡ true;
    }

abbrev pub decreases-loop-instance : goal.decreases-loop-instance
decreases-loop-instance l = l.end - l.instance

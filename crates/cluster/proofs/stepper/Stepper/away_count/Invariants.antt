use Rattle.std.proofs.Common.{◌≡◌, ◌≤◌, count_by, take}
use Rattle.cluster.specs.Machine.{Machine}
use Rattle.cluster.specs.Machines.{is_away_by}
use Rattle.cluster.proofs.stepper.Stepper.away_count.Given as goal

-- so many of the machines so far have a replica that is down or Recovering
abbrev pub invariant-loop-machine : goal.invariant-loop-machine
invariant-loop-machine l = record {
  so_far : l.count ≡ count_by (λ m. is_away_by m.running) (take l.machine-index l.self.machines);
  bound : l.count ≤ l.machine-index;
}

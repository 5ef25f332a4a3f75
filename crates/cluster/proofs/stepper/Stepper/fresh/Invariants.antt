use Rattle.std.proofs.Common.{◌≡◌, replicate}
use Rattle.cluster.specs.Machines.{fresh_machine}
use Rattle.cluster.proofs.stepper.Stepper.fresh.Given as goal

-- as many fresh machines as turns
abbrev pub invariant-loop : goal.invariant-loop
invariant-loop l = l.machines.items ≡ replicate l.counter fresh_machine

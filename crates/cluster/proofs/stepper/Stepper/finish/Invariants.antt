use Rattle.std.proofs.Common.{◌≡◌, ◌++◌, length}
use Rattle.std.specs.Vec.Iter.{into_iter_items, into_iter_len}
use Rattle.cluster.specs.Stepping.{lasts_of}
use Rattle.cluster.proofs.stepper.Stepper.finish.Given as goal

-- what the machines so far end with, and those that are left, is all
abbrev pub invariant-loop-machine : goal.invariant-loop-machine
invariant-loop-machine l =
    record {
      last : l.last ++ lasts_of (into_iter_items l.machine-iterator) ≡ lasts_of l.fn.self.machines;
      left : into_iter_len l.machine-iterator ≡ length (into_iter_items l.machine-iterator);
    }

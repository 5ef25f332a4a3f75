use Rattle.std.proofs.Common.{◌≡◌, ◌++◌, length}
use Rattle.std.specs.Vec.Iter.{into_iter_items, into_iter_len}
use Rattle.cluster.proofs.stepper.append.Given as goal

-- what is appended so far and what is left is all
abbrev pub invariant-loop-step : goal.invariant-loop-step
invariant-loop-step l =
    record {
      steps : l.steps ++ into_iter_items l.step-iterator ≡ l.fn.steps ++ l.fn.more;
      left : into_iter_len l.step-iterator ≡ length (into_iter_items l.step-iterator);
    }

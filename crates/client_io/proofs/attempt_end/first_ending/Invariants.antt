use Rattle.std.proofs.Common.{◌≡◌}
use Rattle.client_io.specs.Ends.{first_ending}
use Rattle.client_io.proofs.attempt_end.first_ending.Given as goal

abbrev pub invariant-loop-frame : goal.invariant-loop-frame
invariant-loop-frame l = l.found ≡ first_ending l.number l.yielded

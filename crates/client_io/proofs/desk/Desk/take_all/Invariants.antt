use Rattle.std.proofs.Common.{◌≡◌}
use Rattle.client_io.specs.Taking.{all_taken, gathered, nothing_taken}
use Rattle.client_io.proofs.desk.Desk.take_all.Given as goal

abbrev pub invariant-loop-frame : goal.invariant-loop-frame
invariant-loop-frame l = gathered l.self l.queued.items l.taken ≡ all_taken l.session l.yielded (gathered l.fn.self l.fn.queued.items nothing_taken)

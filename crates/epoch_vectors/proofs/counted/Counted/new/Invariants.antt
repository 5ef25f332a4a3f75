use Rattle.std.proofs.Common.{◌≡◌}
use Rattle.epoch_vectors.specs.Replies.{no_replies}
use Rattle.epoch_vectors.proofs.counted.Counted.new.Given as goal

abbrev pub invariant-loop : goal.invariant-loop
invariant-loop g l = l.held.items ≡ no_replies l.counter

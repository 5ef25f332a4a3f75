use Rattle.std.proofs.Common.{◌≡◌}
use Rattle.replica_node.specs.Repeating.{sends_below}
use Rattle.replica_node.proofs.repeating.send_copies.Given as goal

abbrev pub invariant-loop-to : goal.invariant-loop-to
invariant-loop-to l = l.acts ≡ sends_below l.to l.outgoing.to l.outgoing.message

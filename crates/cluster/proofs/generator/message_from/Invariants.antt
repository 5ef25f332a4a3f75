use Rattle.std.proofs.Common.{◌≡◌, ◌+◌, drop}
use Rattle.cluster.specs.Drawing.{message_from, message_to}
use Rattle.cluster.proofs.generator.message_from.Given as goal

-- the messages so far do not go to the replica
abbrev pub invariant-loop-message : goal.invariant-loop-message
invariant-loop-message l =
    record {
      number : l.number ≡ l.from + l.message-index;
      found : message_to l.replica l.number (drop l.number l.sent) ≡ message_from l.replica l.from l.sent;
    }

use Rattle.std.proofs.Common.{◌≡◌, ◌++◌, length}
use Rattle.std.specs.Vec.Iter.{into_iter_items, into_iter_len}
use Rattle.protocol_core.specs.CatchingUp.{each_sent}
use Rattle.protocol_core.proofs.catching_up.send_each.Given as goal

-- what is sent so far and what is left is all
abbrev pub invariant-loop-part : goal.invariant-loop-part
invariant-loop-part l =
    record {
      acts : l.acts ++ each_sent l.to (into_iter_items l.part-iterator) ≡ l.fn.acts ++ each_sent l.to l.fn.parts.items;
      left : into_iter_len l.part-iterator ≡ length (into_iter_items l.part-iterator);
    }

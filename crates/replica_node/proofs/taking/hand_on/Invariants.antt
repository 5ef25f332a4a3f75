use Rattle.std.proofs.Common.{◌≡◌, ◌++◌, length}
use Rattle.std.specs.Vec.Iter.{into_iter_items, into_iter_len}
use Rattle.replica_node.specs.Taking.{handed_of, kept_of}
use Rattle.replica_node.proofs.taking.hand_on.Given as goal

-- what is in the lane and what is left is all that is handed on, and what was kept and what is left is all that is kept
abbrev pub invariant-loop-act : goal.invariant-loop-act
invariant-loop-act l =
    record {
      lane : l.lane ++ handed_of (into_iter_items l.act-iterator) ≡ l.fn.lane ++ handed_of l.fn.acts;
      kept : l.kept ++ kept_of (into_iter_items l.act-iterator) ≡ kept_of l.fn.acts;
      left : into_iter_len l.act-iterator ≡ length (into_iter_items l.act-iterator);
    }

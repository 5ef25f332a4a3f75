use Rattle.std.proofs.Common.{◌≡◌, ◌++◌, length}
use Rattle.std.specs.Vec.Iter.{into_iter_items, into_iter_len}
use Rattle.protocol_stage.specs.Performing.{Repeats, outward}
use Rattle.protocol_stage.specs.Repeating.{Repeating}
use Rattle.protocol_stage.proofs.performing.Repeating.perform_all.Given as goal

-- what went out so far and what is left is all, and what the others leave repeated is what all leave
abbrev pub invariant-loop-act : goal.invariant-loop-act
invariant-loop-act g l =
    record {
      out : l.out ++ outward (into_iter_items l.act-iterator) ≡ outward l.fn.acts;
      repeated : (after : Repeating) → Repeats g.A.Arms.may_take (into_iter_items l.act-iterator) l.self after → Repeats g.A.Arms.may_take l.fn.acts l.fn.self after;
      left : into_iter_len l.act-iterator ≡ length (into_iter_items l.act-iterator);
    }

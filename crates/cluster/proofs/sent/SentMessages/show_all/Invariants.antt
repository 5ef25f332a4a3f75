use Rattle.std.proofs.Common.{◌≡◌, ◌++◌, length}
use Rattle.std.specs.Vec.Iter.{into_iter_items, into_iter_len}
use Rattle.cluster.specs.Frames.{sent_by, shown_by}
use Rattle.cluster.proofs.sent.SentMessages.show_all.Given as goal

-- what is sent and shown so far and what is left is all
abbrev pub invariant-loop-act : goal.invariant-loop-act
invariant-loop-act l =
    record {
      sent : l.self ++ sent_by l.from (into_iter_items l.act-iterator) ≡ l.fn.self ++ sent_by l.from l.fn.acts;
      shown : l.steps ++ shown_by (length l.self) (into_iter_items l.act-iterator) ≡ shown_by (length l.fn.self) l.fn.acts;
      left : into_iter_len l.act-iterator ≡ length (into_iter_items l.act-iterator);
    }

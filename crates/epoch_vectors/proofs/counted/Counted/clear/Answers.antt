use Rattle.std.proofs.Common.{◌∙◌, length, ap, arith}
use Rattle.epoch_vectors.specs.Replies.{no_replies}
use Rattle.epoch_vectors.proofs.Counting.{is_none}
use Rattle.epoch_vectors.proofs.counted.Counted.clear.Goals as goal

pub returns : goal.returns
returns g c =
    let long = ap length c.self.view_is in
    let kept = c.loop-replica.invariant.same in
    is_none c.loop-replica.self-inside.held.items (λ p h. c.loop-replica.invariant.cleared p (omega arith)) ∙ ap no_replies kept

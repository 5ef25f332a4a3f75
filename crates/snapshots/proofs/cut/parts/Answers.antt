use Rattle.snapshots.proofs.Cuts.{cut-next}
use Rattle.snapshots.proofs.cut.parts.Goals as goal

pub loop-at-preserved : goal.loop-at-preserved
loop-at-preserved c =
    cut-next c.args.upto c.args.bytes.now c.loop-at.at c.loop-at.made.items c.push.new.self.items c.in_ok-part_at.field-0 c.loop-at-test.true c.in_ok-part_at.ensures c.in_ok-push.ensures.items c.loop-at.invariant

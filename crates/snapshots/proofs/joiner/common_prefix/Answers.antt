use Rattle.std.proofs.Common.{arith}
use Rattle.snapshots.proofs.Differences.{common-end}
use Rattle.snapshots.proofs.joiner.common_prefix.Goals as goal

-- the shorter one ends here
pub returns-after-loop-same : goal.returns-after-loop-same
returns-after-loop-same c =
    let most = c.min-most.ensures in
    let within = c.loop-same.invariant.within in
    let end = c.loop-same-test.false in
    let none = common-end c.args.held.now c.args.bytes.now c.loop-same.same (omega arith) in
    let so_far = c.loop-same.invariant.so_far in
    record { same = omega arith; within = omega arith }

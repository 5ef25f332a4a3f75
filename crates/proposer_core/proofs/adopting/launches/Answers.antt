use Rattle.proposer_core.specs.Counting.{report_in}
use Rattle.proposer_core.proofs.Launches.{more_launches}
use Rattle.proposer_core.proofs.adopting.launches.Goals as goal

-- the launch of this instance joins those before it
pub loop-instance-preserved : goal.loop-instance-preserved
loop-instance-preserved c =
    rw c.in_ok-push_launch.ensures
    (more_launches c.args.n (report_in c.args.counted c.args.held.now) c.args.log.now c.args.end c.loop-instance.instance c.loop-instance.launches _ c.loop-instance-test.true c.loop-instance.invariant)

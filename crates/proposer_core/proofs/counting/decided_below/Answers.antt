use Rattle.std.proofs.Common.{sym}
use Rattle.proposer_core.specs.Counting.{report_in}
use Rattle.proposer_core.proofs.FirstReports.{decided_first}
use Rattle.proposer_core.proofs.counting.decided_below.Goals as goal

-- the replicas before this one report nothing as decided
pub returns-in-Some : goal.returns-in-Some
returns-in-Some c =
    sym (decided_first c.args.n c.loop-replica.replica (report_in c.args.counted c.args.held.now) c.args.instance c.in-Some.batch.now
    c.loop-replica.invariant (sym c.in-Some.ensures) c.loop-replica-test.true)

use Rattle.std.proofs.Common.{◌≡◌, ◌+◌, ap, arith}
use Rattle.replica_log.specs.Log.{report_from}
use Rattle.replica_log.proofs.Reporting.{report_begins, report_ends, report_goes_on}
use Rattle.replica_log.proofs.log.ReplicaLog.report.Goals as goal

pub loop-offset-init : goal.loop-offset-init
loop-offset-init c = rw c.empty-report.ensures (report_begins c.args.self.now c.args.first)

pub loop-offset-preserved : goal.loop-offset-preserved
loop-offset-preserved c =
    let log = c.args.self.now in
    let at = c.loop-offset in
    let lt = c.loop-offset-test.true in
    let base : c.self.inside.base ≡ log.base = ap (λ l. l.base) c.self.view_is in
    let added = rw base at c.in_ok-report_at.ensures in
    report_goes_on log c.args.first at.offset (log.base + at.offset) (log.base + (at.offset + 1)) at.report c.report_at.new.report (report_from log c.args.first) (omega arith) (omega arith) at.invariant added

pub returns : goal.returns
returns c =
    let log = c.args.self.now in
    let at = c.loop-offset in
    let f = c.loop-offset-test.false in
    let end = at.auto.offset-end in
    report_ends log c.args.first at.offset (log.base + at.offset) at.report (report_from log c.args.first) (omega arith) at.invariant

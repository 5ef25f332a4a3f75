use Rattle.std.proofs.Common.{[]}
use Rattle.replica_io.proofs.Bringing.{quiet-received, end-received, fault-received}
use Rattle.replica_io.proofs.receive.receive_over.Goals as goal

pub returns-in-Ok-Quiet-clause-receives : goal.returns-in-Ok-Quiet-clause-receives
returns-in-Ok-Quiet-clause-receives g c =
    let came = c.in-Ok-Quiet in
    quiet-received _ _ _ _ _ _ _ _ came.field-0-is came.ensures.bytes came.ensures.sent came.ensures.quiets came.ensures.given

pub returns-in-Ok-Ended-clause-receives : goal.returns-in-Ok-Ended-clause-receives
returns-in-Ok-Ended-clause-receives g c =
    let came = c.in-Ok-Ended in
    end-received _ _ _ _ _ _ _ _ came.field-0-is came.ensures.bytes came.ensures.sent came.ensures.endings came.ensures.given

pub returns-in-Err-clause-receives : goal.returns-in-Err-clause-receives
returns-in-Err-clause-receives g c =
    let failed = c.in-Err.ensures in
    fault-received _ _ _ _ _ _ [] failed.bytes failed.sent failed.given failed.cause.failed

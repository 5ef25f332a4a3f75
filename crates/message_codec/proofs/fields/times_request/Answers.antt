use Rattle.std.proofs.lemmas.Result.{err_from_is_err_and}
use Rattle.frame_fields.specs.Reading.{request, times}
use Rattle.frame_fields.specs.Telling.{fault_of}
use Rattle.message_codec.proofs.Loops.{one_of, times_of, times_one_by_one, ends, goes_on}
use Rattle.message_codec.proofs.fields.times_request.Goals as goal

pub returns-in_err-request : goal.returns-in_err-request
returns-in_err-request c =
    let p = err_from_is_err_and c.from_residual.result c.from_residual.ensures.1 in
    rw (p.1, p.2)
    (ends (λ x. tt) (one_of request) (times_of request) (times_one_by_one request) (fault_of c.in_err-request.field-0.0) c.loop.batch c.args.count c.loop.counter tt c.loop.fields (times c.args.count request c.args.fields.now) c.loop-test.true
    c.in_err-request.ensures c.loop.invariant)

pub loop-preserved : goal.loop-preserved
loop-preserved c =
    rw c.in_ok-push.ensures.ok
    (goes_on (λ x. tt) (one_of request) (times_of request) (times_one_by_one request) c.loop.batch c.args.count c.loop.counter tt c.loop.fields c.in_ok-request.field-0 c.request.new.self (times c.args.count request c.args.fields.now) c.loop-test.true
    c.in_ok-request.ensures c.loop.invariant)

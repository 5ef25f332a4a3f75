use Rattle.std.proofs.lemmas.Result.{err_from_is_err_and}
use Rattle.frame_fields.specs.Reading.{times}
use Rattle.frame_fields.specs.Telling.{fault_of}
use Rattle.message_codec.specs.Messages.{batch}
use Rattle.message_codec.proofs.Loops.{one_of, times_of, times_one_by_one, ends, goes_on}
use Rattle.message_codec.proofs.fields.times_batch.Goals as goal

pub returns-in_err-batch : goal.returns-in_err-batch
returns-in_err-batch c =
    let p = err_from_is_err_and c.from_residual-in_err-batch.result c.from_residual-in_err-batch.ensures.1 in
    rw (p.1, p.2)
    (ends (λ x. tt) (one_of batch) (times_of batch) (times_one_by_one batch) (fault_of c.in_err-batch.field-0.0) c.loop.batches.items c.args.count c.loop.counter tt c.loop.fields (times c.args.count batch c.args.fields.now) c.loop-test.true
    c.in_err-batch.ensures c.loop.invariant)

pub loop-preserved : goal.loop-preserved
loop-preserved c =
    rw c.in_ok-push.ensures.items
    (goes_on (λ x. tt) (one_of batch) (times_of batch) (times_one_by_one batch) c.loop.batches.items c.args.count c.loop.counter tt c.loop.fields c.in_ok-batch.field-0 c.batch.new.fields (times c.args.count batch c.args.fields.now) c.loop-test.true
    c.in_ok-batch.ensures c.loop.invariant)

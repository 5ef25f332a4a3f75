use Rattle.std.proofs.lemmas.Result.{err_from_is_err_and}
use Rattle.frame_fields.specs.Telling.{fault_of}
use Rattle.message_codec.specs.Messages.{entry, entries}
use Rattle.message_codec.proofs.Loops.{least_after, entries_one_by_one, ends, goes_on}
use Rattle.message_codec.proofs.fields.entries.Goals as goal

pub returns-in_err-entry : goal.returns-in_err-entry
returns-in_err-entry c =
    let p = err_from_is_err_and c.from_residual-in_err-entry.result c.from_residual-in_err-entry.ensures.1 in
    rw (p.1, p.2)
    (ends least_after entry entries entries_one_by_one (fault_of c.in_err-entry.field-0.0) c.loop.entries.items c.args.count c.loop.counter c.loop.least c.loop.fields (entries c.args.count 0 c.args.fields.now) c.loop-test.true
    c.in_err-entry.ensures.read c.loop.invariant)

pub loop-preserved : goal.loop-preserved
loop-preserved c =
    rw c.in_ok-push.ensures.items
    (goes_on least_after entry entries entries_one_by_one c.loop.entries.items c.args.count c.loop.counter c.loop.least c.loop.fields c.in_ok-entry.entry c.entry.new.fields (entries c.args.count 0 c.args.fields.now) c.loop-test.true
    c.in_ok-entry.ensures.read c.loop.invariant)

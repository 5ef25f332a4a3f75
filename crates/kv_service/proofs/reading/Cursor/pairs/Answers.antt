use Rattle.std.proofs.Common.{None}
use Rattle.std.specs.Option.{option_copied}
use Rattle.std.proofs.lemmas.Result.{err_from_is_err_and}
use Rattle.kv_service.specs.StateReading.{pairs}
use Rattle.kv_service.specs.StateTelling.{fault_of, pair}
use Rattle.kv_service.proofs.ReadingLoops.{pairs_one_by_one, ends, goes_on}
use Rattle.kv_service.proofs.reading.Cursor.pairs.Goals as goal

pub returns-in_err-key : goal.returns-in_err-key
returns-in_err-key c =
    let p = err_from_is_err_and c.from_residual-in_err-key.result c.from_residual-in_err-key.ensures.1 in
    rw (p.1, p.2)
    (ends (λ e. e.0) pair pairs pairs_one_by_one (fault_of c.in_err-key.field-0.0) c.loop.pairs.items c.args.count c.loop.counter (option_copied c.loop.before) c.loop.self (pairs c.args.count None c.args.self.now) c.loop-test.true
    c.in_err-key.ensures c.loop.invariant)

pub loop-preserved : goal.loop-preserved
loop-preserved c =
    rw (c.in_ok-push.ensures.items, c.in_ok-from_slice.ensures, c.in_ok-from_slice-2.ensures)
    (goes_on (λ e. e.0) pair pairs pairs_one_by_one c.loop.pairs.items c.args.count c.loop.counter (option_copied c.loop.before) c.loop.self (c.in_ok-key.key.now, c.in_ok-key.value.now) c.pair.new.self (pairs c.args.count None c.args.self.now) c.loop-test.true
    c.in_ok-key.ensures c.loop.invariant)

use Rattle.std.proofs.Common.{None}
use Rattle.std.proofs.lemmas.Result.{err_from_is_err_and}
use Rattle.kv_service.specs.StateReading.{clients}
use Rattle.kv_service.specs.StateTelling.{fault_of, client}
use Rattle.kv_service.proofs.ReadingLoops.{clients_one_by_one, ends, goes_on}
use Rattle.kv_service.proofs.reading.Cursor.clients.Goals as goal

pub returns-in_err-last : goal.returns-in_err-last
returns-in_err-last c =
    let p = err_from_is_err_and c.from_residual-in_err-last.result c.from_residual-in_err-last.ensures.1 in
    rw (p.1, p.2)
    (ends (λ e. e.0) client clients clients_one_by_one (fault_of c.in_err-last.field-0.0) c.loop.clients.items c.args.count c.loop.counter c.loop.before c.loop.self (clients c.args.count None c.args.self.now) c.loop-test.true
    c.in_err-last.ensures c.loop.invariant)

pub loop-preserved : goal.loop-preserved
loop-preserved c =
    rw c.in_ok-push.ensures.items
    (goes_on (λ e. e.0) client clients clients_one_by_one c.loop.clients.items c.args.count c.loop.counter c.loop.before c.loop.self c.in_ok-last.last c.client.new.self (clients c.args.count None c.args.self.now) c.loop-test.true
    c.in_ok-last.ensures c.loop.invariant)

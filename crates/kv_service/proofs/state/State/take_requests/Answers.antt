use Rattle.std.proofs.Common.{◌+◌, arith}
use Rattle.std.proofs.lemmas.Result.{err_from_is_err_and}
use Rattle.kv_service.proofs.Requests.{after_more, outcomes_more}
use Rattle.kv_service.proofs.state.State.take_requests.Goals as goal

pub loop-request-preserved : goal.loop-request-preserved
loop-request-preserved c =
    let s = c.args.self.now in
    let rs = c.args.requests.now in
    let before = c.loop-request in
    let r = c.request-item.result in
    let outcome = c.in_ok-take_request.field-0 in
    record {
      told = outcomes_more s before.self c.take_request.new.self rs before.request-index r (omega arith) c.request-item.is before.invariant.now
          before.made.items c.push.new.self.items outcome before.invariant.told c.in_ok-take_request.ensures.outcome c.in_ok-push.ensures.items;
      now = after_more s before.self c.take_request.new.self rs before.request-index r (omega arith) c.request-item.is before.invariant.now c.in_ok-take_request.ensures.ok;
    }

-- the request has taken effect, though its outcome is not told
pub returns-in_err-push-clause-err : goal.returns-in_err-push-clause-err
returns-in_err-push-clause-err c =
    let before = c.loop-request in
    let after = after_more c.args.self.now before.self c.take_request.new.self c.args.requests.now before.request-index c.request-item.result (omega arith) c.request-item.is before.invariant.now c.in_ok-take_request.ensures.ok in
    let p = err_from_is_err_and c.from_residual-in_err-push.result c.from_residual-in_err-push.ensures.1 in
    rw p.1 (before.request-index + 1, omega arith, after)

use Rattle.std.proofs.Common.{◌≡◌, take, ap, ◌∙◌, arith}
use Rattle.std.proofs.lemmas.Result.{err_from_is_err_and}
use Rattle.kv_service.proofs.Requests.{executed-take_requests}
use Rattle.kv_service.proofs.state.State.execute.Goals as goal

pub returns-in_err-made-clause-executed : goal.returns-in_err-made-clause-executed
returns-in_err-made-clause-executed c =
    let p = err_from_is_err_and c.from_residual.result c.from_residual.ensures.1 in
    let prefix = c.in_err-made.ensures.err in
    rw p.1 (ap (λ s. s.executed) prefix.2 ∙ executed-take_requests c.args.self.now (take prefix.0 c.requests.result.now))

pub overflow_add-self : goal.overflow_add-self
overflow_add-self c =
    let same : c.self.inside.executed ≡ c.args.self.now.executed = ap (λ s. s.executed) (c.self.view_is ∙ c.in_ok-made.ensures.ok) ∙ executed-take_requests c.args.self.now c.requests.result.now in
    omega (arith, same, c.requires)

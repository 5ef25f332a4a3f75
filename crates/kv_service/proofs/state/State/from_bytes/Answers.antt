use Rattle.std.proofs.Common.{Ok, Err, ap, inl, inr, arith}
use Rattle.std.proofs.lemmas.Result.{err_from_is_err_and}
use Rattle.kv_service.specs.declared.fault.StateFault.{StateFault}
use Rattle.kv_service.specs.Service.{State}
use Rattle.kv_service.specs.StateTelling.{of_parts}
use Rattle.kv_service.proofs.StateBack.{read-back}
use Rattle.kv_service.proofs.StateForth.{is-state, is-want}
use Rattle.kv_service.proofs.state.State.from_bytes.Goals as goal

pub from_pairs-requires : goal.from_pairs-requires
from_pairs-requires c = (read-back c.args.bytes.now (of_parts c.in_ok-parts.parts) (λ i. omega (arith, c.type_inv.bytes i)) c.in_ok-parts.ensures).within.ascending_keys

pub invariant_of-result : goal.invariant_of-result
invariant_of-result c = (read-back c.args.bytes.now (of_parts c.in_ok-parts.parts) (λ i. omega (arith, c.type_inv.bytes i)) c.in_ok-parts.ensures).within.ascending_clients

pub returns-clause-only : goal.returns-clause-only
returns-clause-only c =
    let read = read-back c.args.bytes.now (of_parts c.in_ok-parts.parts) (λ i. omega (arith, c.type_inv.bytes i)) c.in_ok-parts.ensures in
    rw c.from_pairs.ensures (read.within, read.spelled)

pub returns-clause-each : goal.returns-clause-each
returns-clause-each c =
    rw c.from_pairs.ensures (λ s within spelled. inl (ap (λ (x : State). Ok x) (is-state c.args.bytes.now (of_parts c.in_ok-parts.parts) s c.in_ok-parts.ensures within spelled)))

pub returns-in_err-parts-clause-each : goal.returns-in_err-parts-clause-each
returns-in_err-parts-clause-each c =
    let p = err_from_is_err_and c.from_residual.result c.from_residual.ensures.1 in
    rw (p.1, p.2) (λ s within spelled. inr (ap (λ (e : StateFault). Err e) (is-want c.in_err-parts.field-0.0 c.args.bytes.now s c.in_err-parts.ensures within spelled)))

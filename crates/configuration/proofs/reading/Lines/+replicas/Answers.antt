use Rattle.std.proofs.Common.{◌≡◌, ◌≢◌, ◌∙◌, ap, ◌++◌, ◌∷◌, [], ◌-◌, ◌+◌, Option, Result, Ok}
use Rattle.configuration.specs.declared.address.Address.{Address}
use Rattle.text_lines.specs.Lines.{Bad}
use Rattle.std.proofs.lemmas.Result.{err_from_is_err_and}
use Rattle.configuration.specs.Configuration.{Place, replicas}
use Rattle.configuration.proofs.Lines_of_replicas.{no_more, first_fails, first_read, none_read}
use Rattle.configuration.proofs.reading.Lines.+replicas.Goals as goal

pub returns-then-more-eq0 : goal.returns-then-more-eq0
returns-then-more-eq0 t c = rw c.if-more-eq0.true (no_more c.args.out.now c.args.index c.args.self.now)

pub returns-in_err-address : goal.returns-in_err-address
returns-in_err-address t c =
    let p = err_from_is_err_and c.from_residual.result c.from_residual.ensures.1 in
    rw (p.1, p.2)
    (first_fails c.args.more c.args.out.now c.args.index c.args.self.now c.in_err-address.field-0.0 c.if-more-eq0.false c.in_err-address.ensures)

pub returns-in_ok-push-in-Some : goal.returns-in_ok-push-in-Some
returns-in_ok-push-in-Some t c =
    let found : Option Address → Result (Option Address × Place) Bad = λ o. Ok (o, c.next_replica.new.self) in
    let read = c.in_ok-address.ensures ∙ ap found c.in-Some.is in
    rw (← first_read c.args.more c.args.out.now c.args.index c.args.self.now c.next_replica.new.self c.in-Some.address c.if-more-eq0.false read, ← c.in_ok-push-in-Some.ensures.ok)
    c.replicas.ensures

pub returns-in-None : goal.returns-in-None
returns-in-None t c =
    let found : Option Address → Result (Option Address × Place) Bad = λ o. Ok (o, c.next_replica.new.self) in
    none_read c.args.more c.args.out.now c.args.index c.args.self.now c.next_replica.new.self c.if-more-eq0.false (c.in_ok-address.ensures ∙ ap found c.in-None.is)

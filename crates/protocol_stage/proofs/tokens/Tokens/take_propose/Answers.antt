use Rattle.std.proofs.Common.{ℕ, List, get_or, sym, ap, ◌∙◌}
use Rattle.std.specs.List.{remove}
use Rattle.retransmitter.specs.Armed.{Armed}
use Rattle.protocol_stage.specs.Repeating.{Tokens, without_newest_propose}
use Rattle.protocol_stage.proofs.PlaceLemmas.{none_newest, place_newest}
use Rattle.protocol_stage.proofs.tokens.Tokens.take_propose.Goals as goal

pub returns-in_err-place-clause-taken : goal.returns-in_err-place-clause-taken
returns-in_err-place-clause-taken c =
    let none = none_newest c.args.instance c.args.self.now.proposes (sym c.place_of.ensures ∙ c.in_err-place.was) in
    c.from_residual.ensures ∙ sym none.0

pub returns-in_err-place-clause-rest : goal.returns-in_err-place-clause-rest
returns-in_err-place-clause-rest c =
    let none = none_newest c.args.instance c.args.self.now.proposes (sym c.place_of.ensures ∙ c.in_err-place.was) in
    ap (λ (l : List (ℕ × Armed)). record c.args.self.now { proposes = l }) (sym none.1)

pub returns-clause-taken : goal.returns-clause-taken
returns-clause-taken c =
    let place = c.in_ok-place.place in
    let a : ℕ × Armed = (c.in_ok-_instance._instance, c.in_ok-_instance.armed) in
    let is = c.in_ok-_instance.ensures.value ∙ ap (λ (t : Tokens). get_or t.proposes place a) c.self.view_is in
    let at = place_newest c.args.instance c.args.self.now.proposes place a (sym c.place_of.ensures ∙ c.in_ok-place.was) is in
    sym at.0

pub returns-clause-rest : goal.returns-clause-rest
returns-clause-rest c =
    let place = c.in_ok-place.place in
    let a : ℕ × Armed = (c.in_ok-_instance._instance, c.in_ok-_instance.armed) in
    let is = c.in_ok-_instance.ensures.value ∙ ap (λ (t : Tokens). get_or t.proposes place a) c.self.view_is in
    let at = place_newest c.args.instance c.args.self.now.proposes place a (sym c.place_of.ensures ∙ c.in_ok-place.was) is in
    let items = c.in_ok-_instance.ensures.items ∙ ap (λ (t : Tokens). remove t.proposes place) c.self.view_is ∙ sym at.1 in
    let inside = c.self.inside in
    ap (λ (l : List (ℕ × Armed)). record { prepare = inside.prepare; recovery = inside.recovery; query = inside.query; proposes = l }) items
    ∙ ap (λ (t : Tokens). record t { proposes = without_newest_propose c.args.instance c.args.self.now.proposes }) c.self.view_is

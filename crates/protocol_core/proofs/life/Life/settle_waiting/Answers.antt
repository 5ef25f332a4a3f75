use Rattle.std.proofs.Common.{◌++◌, sym, ap, ◌∙◌, append-nil}
use Rattle.protocol_core.specs.Turned.{Turned}
use Rattle.protocol_core.proofs.SettlingLemmas.{waiting-ends}
use Rattle.protocol_core.proofs.life.Life.settle_waiting.Goals as goal

pub returns : goal.returns
returns c =
    let e = waiting-ends c.places.self c.take_front.new.self c.take_front.result c.take_front.ensures.front c.take_front.ensures.after c.in_default.not-Some in
    (ap (λ (t : Turned). t.life) (sym e) ∙ c.places.invariant.life, sym (append-nil c.places.acts) ∙ ap (λ (t : Turned). c.places.acts ++ t.acts) (sym e) ∙ c.places.invariant.acts)

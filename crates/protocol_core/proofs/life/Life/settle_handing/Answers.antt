use Rattle.std.proofs.Common.{◌-◌, ◌++◌, sym, ap, ◌∙◌}
use Rattle.protocol_core.specs.Settling.{handed_on, settled_handing}
use Rattle.protocol_core.specs.Turned.{Turned}
use Rattle.protocol_core.proofs.SettlingLemmas.{handing-goes}
use Rattle.protocol_core.proofs.TurnedLemmas.{left-then}
use Rattle.protocol_core.proofs.life.Life.settle_handing.Goals as goal

pub decisions-preserved : goal.decisions-preserved
decisions-preserved c =
    let life = c.decisions.self in
    let h = c.in-Some.handing in
    let goes = handing-goes c.decisions.left life h c.decisions-test.true (sym c.in_ok-handing.ensures ∙ c.in-Some.is) in
    let left = left-then (handed_on life h) (settled_handing (c.decisions.left - 1)) c.decisions.acts c.hand.new.acts c.hand.new.self c.in_ok-hand.ensures in
    record {
      life = left.0 ∙ ap (λ (t : Turned). t.life) (sym goes) ∙ c.decisions.invariant.life;
      acts = left.1 ∙ ap (λ (t : Turned). c.decisions.acts ++ t.acts) (sym goes) ∙ c.decisions.invariant.acts;
    }

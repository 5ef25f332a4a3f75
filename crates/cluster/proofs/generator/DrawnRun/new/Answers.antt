use Rattle.std.proofs.Common.{◌≡◌, [], ◌∷◌, ◌++◌, List, ◌∙◌, sym, ap, subst}
use Rattle.schedules.specs.declared.event.Event.{Event}
use Rattle.schedules.specs.declared.line.Head.{Head}
use Rattle.schedules.specs.declared.line.Line.{Line}
use Rattle.cluster.specs.Drawing.{drawn_head, Generating, IsBeingDrawn}
use Rattle.cluster.specs.Stepping.{Opens}
use Rattle.cluster.proofs.DrawnLemmas.{being_drawn_first}
use Rattle.cluster.proofs.generator.DrawnRun.new.Goals as goal

pub returns-clause-ok : goal.returns-clause-ok
returns-clause-ok c =
    let n = c.args.head.now.n in
    let s = c.in_ok-stepper.stepper in
    let first = c.in_ok-stepper.first in
    let opens : Opens (drawn_head c.args.seed n) first s = subst (λ (h : Head). Opens h first s) c.requires.head c.in_ok-stepper.ensures.opens in
    let drawn = being_drawn_first c.args.seed n first s opens in
    let of_generator : IsBeingDrawn c.args.seed n 0 c.in_ok-generator.generator s [] (first ∷ []) =
    subst (λ (g : Generating). IsBeingDrawn c.args.seed n 0 g s [] (first ∷ [])) (sym c.in_ok-generator.ensures) drawn in
    let of_lines : IsBeingDrawn c.args.seed n 0 c.in_ok-generator.generator s c.empty.result (first ∷ []) =
    subst (λ (lines : List Line). IsBeingDrawn c.args.seed n 0 c.in_ok-generator.generator s lines (first ∷ [])) (sym c.empty.ensures) of_generator in
    let events : c.push.new.self ≡ first ∷ [] = c.in_ok-push.ensures.ok ∙ ap (λ (es : List Event). es ++ first ∷ []) c.empty-events.ensures in
    subst (λ (es : List Event). IsBeingDrawn c.args.seed n 0 c.in_ok-generator.generator s c.empty.result es) (sym events) of_lines

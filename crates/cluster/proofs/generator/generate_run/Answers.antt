use Rattle.std.proofs.Common.{◌≡◌, ◌<◌, ◌++◌, ◌∷◌, [], ℕ, List, length, refl, inl, inr, sym, ap, subst, rules, arith, add-one}
use Rattle.schedules.specs.declared.event.Event.{Event}
use Rattle.schedules.specs.declared.line.Head.{Head}
use Rattle.schedules.specs.declared.line.Line.{Line}
use Rattle.cluster.specs.Drawing.{drawn_head, IsBeingDrawn, next_line}
use Rattle.cluster.specs.Runs.{PassesAt, Reaches}
use Rattle.cluster.proofs.DrawnLemmas.{being_drawn_more}
use Rattle.cluster.proofs.RunLemmas.{drawn_reaches, reaches_more}
use Rattle.cluster.proofs.generator.generate_run.Goals as goal

pub loop-init : goal.loop-init
loop-init c =
    let d = c.in_ok-drawn.drawn in
    record {
      drawn = subst (λ (n : ℕ). IsBeingDrawn c.args.seed n 0 d.generator d.stepper d.lines d.events) (ap (λ (h : Head). h.n) c.drawn_head-head.ensures) c.in_ok-drawn.ensures.ok;
      within = c.in_ok-drawn.ensures.within;
    }

pub returns-in_err-draw_line-clause-large : goal.returns-in_err-draw_line-clause-large
returns-in_err-draw_line-clause-large c = λ told.
    let d = c.loop.drawn in
    let so_far = c.loop.invariant.drawn in
    let count = so_far.count_is in
    let test = c.loop-test.true in
    let low : length d.lines < c.args.steps = omega arith in
    let past : PassesAt (next_line d.stepper d.generator.drawing).0 d.stepper = c.in_err-draw_line.ensures.large (search rules) in
    inr (record {
      lines = d.lines;
      events = d.events;
      g = d.generator.drawing;
      before = d.stepper;
      line = (next_line d.stepper d.generator.drawing).0;
      draws = so_far.draws;
      comes = inl (low, refl);
      passes = past;
    })

pub loop-preserved : goal.loop-preserved
loop-preserved c =
    let d = c.loop.drawn in
    let e = c.draw_line.new.self in
    let told = c.in_ok-draw_line.ensures in
    record {
      drawn = rw add-one (being_drawn_more c.args.seed c.args.n c.loop.counter d.generator e.generator d.stepper e.stepper d.lines e.lines d.events e.events c.loop.invariant.drawn told.ok told.drawing told.serves);
      within = told.within;
    }

pub returns-clause-runs : goal.returns-clause-runs
returns-clause-runs c =
    let d = c.loop.drawn in
    let e = c.run.new.self in
    let ran = c.in_ok-run.ensures.ok in
    let before = drawn_reaches c.args.seed c.args.n d.lines d.events d.generator.drawing d.stepper c.loop.invariant.drawn.draws in
    let after : Reaches (drawn_head c.args.seed c.args.n) (d.lines ++ Line.End ∷ []) (d.events ++ ran.event ∷ []) e.stepper =
    reaches_more (drawn_head c.args.seed c.args.n) d.lines d.events d.stepper Line.End ran.event e.stepper before ran.happens in
    let of_lines : Reaches (drawn_head c.args.seed c.args.n) e.lines (d.events ++ ran.event ∷ []) e.stepper =
    subst (λ (ls : List Line). Reaches (drawn_head c.args.seed c.args.n) ls (d.events ++ ran.event ∷ []) e.stepper) (sym ran.lines_are) after in
    let of_events : Reaches (drawn_head c.args.seed c.args.n) e.lines e.events e.stepper =
    subst (λ (es : List Event). Reaches (drawn_head c.args.seed c.args.n) e.lines es e.stepper) (sym ran.events_are) of_lines in
    record {
      after = e.stepper;
      reaches = subst (λ (h : Head). Reaches h e.lines e.events e.stepper) (sym c.drawn_head-head.ensures) of_events;
      last = c.in_ok-last.ensures;
      within = c.in_ok-run.ensures.within;
    }

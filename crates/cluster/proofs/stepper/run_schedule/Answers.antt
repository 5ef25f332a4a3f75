use Rattle.std.proofs.Common.{◌≡◌, ◌+◌, ◌<◌, ◌≤◌, List, length, take, get_or, sym, subst, rules}
use Rattle.std.proofs.lemmas.List.{take_all}
use Rattle.schedules.specs.declared.event.Event.{Event}
use Rattle.schedules.specs.declared.line.Line.{Line}
use Rattle.cluster.specs.Runs.{OpensPast, PassesAt, Reaches}
use Rattle.cluster.proofs.RunLemmas.{line_past_runs, opens_past_runs, reaches_lines, reaches_next}
use Rattle.cluster.proofs.stepper.run_schedule.Goals as goal

pub returns-in_err-stepper-clause-large : goal.returns-in_err-stepper-clause-large
returns-in_err-stepper-clause-large c = λ told. opens_past_runs c.args.schedule.now (let past : OpensPast c.args.schedule.now.head = search rules in past)

pub returns-in_err-event-clause-large : goal.returns-in_err-event-clause-large
returns-in_err-event-clause-large c = λ told.
    let test = c.loop-line-test.true in
    let low : c.loop-line.line-index < length c.args.schedule.now.lines = rw c.as_slice-line-items.ensures at test in
    let item = c.line-item.is in
    let is : c.line-item.result ≡ get_or c.args.schedule.now.lines c.loop-line.line-index c.line-item.result = rw c.as_slice-line-items.ensures at item in
    let past : PassesAt c.line-item.result c.loop-line.stepper = search rules in
    line_past_runs c.args.schedule.now c.loop-line.line-index c.line-item.result c.loop-line.events c.loop-line.stepper low is c.loop-line.invariant.reaches past

pub loop-line-preserved : goal.loop-line-preserved
loop-line-preserved c =
    let test = c.loop-line-test.true in
    let low : c.loop-line.line-index < length c.args.schedule.now.lines = rw c.as_slice-line-items.ensures at test in
    let item = c.line-item.is in
    let is : c.line-item.result ≡ get_or c.args.schedule.now.lines c.loop-line.line-index c.line-item.result = rw c.as_slice-line-items.ensures at item in
    record {
      reaches = subst (λ (es : List Event). Reaches c.args.schedule.now.head (take (c.loop-line.line-index + 1) c.args.schedule.now.lines) es c.event.new.self) (sym c.in_ok-push-2.ensures.ok)
          (reaches_next c.args.schedule.now.head c.args.schedule.now.lines c.loop-line.line-index c.loop-line.events c.loop-line.stepper c.line-item.result c.in_ok-event.field-0 c.event.new.self
          low is c.loop-line.invariant.reaches c.in_ok-event.ensures.happens);
      within = c.in_ok-event.ensures.within;
    }

pub returns-clause-lines : goal.returns-clause-lines
returns-clause-lines c =
    let test = c.loop-line-test.false in
    let past : length c.args.schedule.now.lines ≤ c.loop-line.line-index = rw c.as_slice-line-items.ensures at test in
    let all : take c.loop-line.line-index c.args.schedule.now.lines ≡ c.args.schedule.now.lines = take_all c.loop-line.line-index c.args.schedule.now.lines past in
    let reaches : Reaches c.args.schedule.now.head c.args.schedule.now.lines c.loop-line.events c.loop-line.stepper =
    subst (λ (lines : List Line). Reaches c.args.schedule.now.head lines c.loop-line.events c.loop-line.stepper) all c.loop-line.invariant.reaches in
    reaches_lines c.args.schedule.now.head c.args.schedule.now.lines c.loop-line.events c.loop-line.stepper reaches

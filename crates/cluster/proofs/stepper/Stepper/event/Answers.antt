use Rattle.protocol_stage.proofs.ResultLemmas.{if_ok_weaker}
use Rattle.schedules.specs.declared.event.Event.{Event}
use Rattle.cluster.specs.Standing.{FollowsLine}
use Rattle.cluster.specs.Stepping.{Happens}
use Rattle.cluster.proofs.Whole.{line-follows}
use Rattle.cluster.proofs.stepper.Stepper.event.Goals as goal

pub returns-clause-follows : goal.returns-clause-follows
returns-clause-follows c =
    let old = c.args.self.now in
    let new = c.take.new.self in
    let line = c.args.line.now in
    if_ok_weaker (λ (event : Event). Happens old line event new) (λ (event : Event). FollowsLine old line event new) c.take.result
    (λ event happens. line-follows old new line event c.take.ensures.head happens) c.take.ensures.happens

use Rattle.protocol_stage.proofs.ResultLemmas.{if_ok_weaker}
use Rattle.schedules.specs.declared.event.Event.{Event}
use Rattle.cluster.specs.Standing.{FollowsFirst}
use Rattle.cluster.specs.Stepping.{Opens, Stepping}
use Rattle.cluster.proofs.Whole.{first-follows}
use Rattle.cluster.proofs.stepper.Stepper.start.Goals as goal

pub returns-clause-follows : goal.returns-clause-follows
returns-clause-follows c =
    let head = c.args.head.now in
    if_ok_weaker (λ (made : Stepping × Event). Opens head made.1 made.0) (λ (made : Stepping × Event). FollowsFirst head made.1 made.0) c.begin.result
    (λ made opens. first-follows head made.1 made.0 c.requires opens) c.begin.ensures.opens

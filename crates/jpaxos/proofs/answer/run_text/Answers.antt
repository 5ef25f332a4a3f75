use Rattle.jpaxos.proofs.Answering.{shown_as_run}
use Rattle.jpaxos.proofs.answer.run_text.Goals as goal

pub returns-in_ok-show-in-Ok : goal.returns-in_ok-show-in-Ok
returns-in_ok-show-in-Ok c =
    shown_as_run c.args.schedule.now c.in-Ok.run' c.in_ok-show-in-Ok.field-0 c.requires c.in-Ok.ensures.runs c.in_ok-show-in-Ok.ensures

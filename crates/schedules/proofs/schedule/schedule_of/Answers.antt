use Rattle.schedules.proofs.Lines.{schedule_first}
use Rattle.schedules.proofs.schedule.schedule_of.Goals as goal

pub returns : goal.returns
returns c =
    schedule_first c.args.input.now c.in_ok-head.head c.in_ok-lines.lines c.in_ok-head.ensures
    (rw c.behind_first.ensures.value at c.in_ok-lines.ensures)

use Rattle.client_io.specs.Links.{state_by}
use Rattle.client_io.proofs.attempt.wait_for_answer.Goals as goal

pub returns-in-Some-clause-attempts : goal.returns-in-Some-clause-attempts
returns-in-Some-clause-attempts g c =
    let link = g.L.Link in
    let before = state_by link.left link.sent link.faults link.quiets link.endings link.given c.args.link.now in
    rw c.in-Some.is at (c.in_ok-end.ensures.waits before c.turns.invariant.waits)

use Rattle.std.proofs.Common.{◌≡◌, ◌≤◌}
use Rattle.client_io.specs.Attempts.{Waits, patience}
use Rattle.client_io.specs.Links.{state_by}
use Rattle.client_io.proofs.attempt.wait_for_answer.Given as goal

abbrev pub invariant-turns : goal.invariant-turns
invariant-turns g l =
    let link = g.L.Link in
    let state = state_by link.left link.sent link.faults link.quiets link.endings link.given in
    record {
      waits : Waits l.number (state l.fn.link) (state l.link) l.wait;
      bytes : l.wait.taken ≤ 65536;
      quiets : l.wait.waited ≤ 50;
      sent : link.sent l.link ≡ link.sent l.fn.link;
    }

abbrev pub decreases-turns : goal.decreases-turns
decreases-turns g l = patience l.wait

use Rattle.std.proofs.Common.{rules}
use Rattle.jpaxos.proofs.Answering.{summed_as_drawn, drawn_past}
use Rattle.jpaxos.proofs.answer.answer_drawn.Goals as goal

pub returns-in-Ok : goal.returns-in-Ok
returns-in-Ok c =
    summed_as_drawn c.args.seed c.args.n c.args.steps c.in-Ok.field-0-0 c.in-Ok.run' c.in_ok-summary-in-Ok.field-0 c.requires.some c.requires.few c.requires.steps c.in-Ok.ensures.drawn c.in-Ok.ensures.runs
    c.in_ok-summary-in-Ok.ensures

pub returns-in-Err-TooLarge : goal.returns-in-Err-TooLarge
returns-in-Err-TooLarge c =
    drawn_past c.args.seed c.args.n c.args.steps c.too_large.result c.requires.some c.requires.few c.requires.steps (c.in-Err-TooLarge.ensures.large (search rules)) c.too_large.ensures.status c.too_large.ensures.text

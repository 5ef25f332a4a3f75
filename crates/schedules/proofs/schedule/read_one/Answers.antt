use Rattle.std.proofs.Common.{rules, ◌∙◌, sym}
use Rattle.schedules.proofs.Lines.{unread_told, behind_told}
use Rattle.schedules.proofs.schedule.read_one.Goals as goal

pub returns-in_err-read-clause-err : goal.returns-in_err-read-clause-err
returns-in_err-read-clause-err c =
    let told = unread_told c.args.n c.args.line c.args.lines.now c.args.input.now c.in_err-read.field-0.0 c.in_err-read.ensures in
    search rules

pub returns-in_err-after_end-clause-err : goal.returns-in_err-after_end-clause-err
returns-in_err-after_end-clause-err c =
    let behind = rw c.behind_first-rest.ensures.value at c.in_err-after_end.ensures.err in
    let told = behind_told c.args.n c.args.line c.args.lines.now c.args.input.now c.in_ok-read.read c.in_err-after_end.field-0.0 c.in_ok-read.ensures (sym c.is_end-is_last.ensures ∙ c.if-is_last.true) behind in
    search rules

use Rattle.std.proofs.Common.{append_assoc}
use Rattle.std.proofs.lemmas.Fmt.{decimal_digit, decimal_step}
use Rattle.text_lines.proofs.texts.+push_decimal.Goals as goal

pub returns-then-number-lt10 : goal.returns-then-number-lt10
returns-then-number-lt10 t c = rw (decimal_digit c.args.number c.if-number-lt10.true) c.push_byte.ensures

pub returns : goal.returns
returns t c =
    let front = c.in_ok-push_decimal.ensures in
    rw (decimal_step c.args.number c.if-number-lt10.false c.ranges.number.fits, ← append_assoc, ← front) c.push_byte-2.ensures

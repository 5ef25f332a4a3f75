use Rattle.text_lines.proofs.texts.+push_wide_decimal.Given as goal

abbrev pub decreases-push_wide_decimal : goal.decreases-push_wide_decimal
decreases-push_wide_decimal l = l.number

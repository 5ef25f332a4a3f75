use Rattle.std.proofs.Common.{◌≡◌, ◌++◌, drop}
use Rattle.text_lines.specs.Texts.{numbers}
use Rattle.text_lines.proofs.texts.push_numbers.Given as goal

-- what is written so far and what is left is all
abbrev pub invariant-loop-number : goal.invariant-loop-number
invariant-loop-number l = l.out.items ++ numbers (drop l.number-index l.all) ≡ l.fn.out.items ++ numbers l.all

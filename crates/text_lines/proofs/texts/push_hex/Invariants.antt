use Rattle.std.proofs.Common.{◌≡◌, ◌++◌, drop}
use Rattle.text_lines.specs.Texts.{hex}
use Rattle.text_lines.proofs.texts.push_hex.Given as goal

-- what is written so far and what is left is all
abbrev pub invariant-loop-byte : goal.invariant-loop-byte
invariant-loop-byte l = l.out.items ++ hex (drop l.byte-index l.bytes) ≡ l.fn.out.items ++ hex l.bytes

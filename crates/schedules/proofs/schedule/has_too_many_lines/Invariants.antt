use Rattle.std.proofs.Common.{◌≡◌, ◌+◌, ◌≤◌, length}
use Rattle.text_lines.specs.Lines.{lines_of}
use Rattle.schedules.proofs.schedule.has_too_many_lines.Given as goal

abbrev pub invariant-lines : goal.invariant-lines
invariant-lines l =
    record {
      counted : l.count + length (lines_of l.rest) ≡ length (lines_of l.input);
      within : l.count ≤ 100000;
    }

abbrev pub decreases-lines : goal.decreases-lines
decreases-lines l = length l.rest

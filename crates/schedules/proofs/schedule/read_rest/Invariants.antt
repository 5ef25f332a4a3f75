use Rattle.std.proofs.Common.{◌≡◌, ◌+◌, ◌≤◌, length}
use Rattle.text_lines.specs.Lines.{lines_of}
use Rattle.schedules.specs.Schedule.{rest_of}
use Rattle.schedules.specs.Reading.{with_lines}
use Rattle.schedules.proofs.schedule.read_rest.Given as goal

abbrev pub invariant-lines : goal.invariant-lines
invariant-lines l =
    record {
      so_far : with_lines l.n l.line l.lines l.rest ≡ rest_of l.n 2 (lines_of l.input);
      within : l.line + length l.rest ≤ length l.input + 2;
    }

abbrev pub decreases-lines : goal.decreases-lines
decreases-lines l = length l.rest

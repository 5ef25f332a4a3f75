use Rattle.std.proofs.Common.{◌≤◌, take}
use Rattle.cluster.specs.Frames.{frame_bytes, frame_limit}
use Rattle.cluster.specs.Runs.{Reaches}
use Rattle.cluster.proofs.stepper.run_schedule.Given as goal

-- the first line and the lines so far have the events so far, and their frames do not pass the limit
abbrev pub invariant-loop-line : goal.invariant-loop-line
invariant-loop-line l =
    record {
      reaches : Reaches l.schedule.head (take l.line-index l.schedule.lines) l.events l.stepper;
      within : frame_bytes l.stepper.sent ≤ frame_limit;
    }

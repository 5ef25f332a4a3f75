use Rattle.std.proofs.Common.{◌≡◌, ◌≤◌}
use Rattle.cluster.specs.Drawing.{IsBeingDrawn}
use Rattle.cluster.specs.Frames.{frame_bytes, frame_limit}
use Rattle.cluster.proofs.generator.generate_run.Given as goal

-- as many lines are drawn as turns, and their frames do not pass the limit
abbrev pub invariant-loop : goal.invariant-loop
invariant-loop l =
    record {
      drawn : IsBeingDrawn l.seed l.n l.counter l.drawn.generator l.drawn.stepper l.drawn.lines l.drawn.events;
      within : frame_bytes l.drawn.stepper.sent ≤ frame_limit;
    }

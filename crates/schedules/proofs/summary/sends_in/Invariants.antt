use Rattle.std.proofs.Common.{◌≡◌, ◌≤◌, count_by, take}
use Rattle.schedules.specs.Generator.{is_send}
use Rattle.schedules.proofs.summary.sends_in.Given as goal

-- so many of the steps so far send a message
abbrev pub invariant-loop-step : goal.invariant-loop-step
invariant-loop-step l = record {
  so_far : l.count ≡ count_by is_send (take l.step-index l.steps);
  bound : l.count ≤ l.step-index;
}

use Rattle.std.proofs.Common.{◌≡◌, ◌++◌, drop, flat_map}
use Rattle.schedules.specs.Text.{show_event}
use Rattle.schedules.proofs.text.push_events.Given as goal

-- what is written so far and what is left is all
abbrev pub invariant-loop-event : goal.invariant-loop-event
invariant-loop-event l = l.out.items ++ flat_map show_event (drop l.event-index l.events) ≡ l.fn.out.items ++ flat_map show_event l.events

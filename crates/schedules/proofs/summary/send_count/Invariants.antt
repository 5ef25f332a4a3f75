use Rattle.std.proofs.Common.{◌≡◌, ◌+◌, ◌*◌, ◌≤◌, ◌^◌, ◌-◌, drop}
use Rattle.schedules.specs.Generator.{send_count}
use Rattle.schedules.proofs.summary.send_count.Given as goal

-- what is counted so far and what is left is all; each list so far had fewer than 2^64 items
abbrev pub invariant-loop-event : goal.invariant-loop-event
invariant-loop-event l = record {
  all : l.count + send_count (drop l.event-index l.events) ≡ send_count l.events;
  bound : l.count ≤ (2 ^ 64 - 1) * l.event-index;
}

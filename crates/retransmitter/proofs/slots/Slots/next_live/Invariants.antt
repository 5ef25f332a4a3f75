use Rattle.std.proofs.Common.{◌≡◌, ◌-◌}
use Rattle.retransmitter.specs.Slots.{live_from, next_live}
use Rattle.retransmitter.proofs.slots.Slots.next_live.Given as goal

-- what is left to look at gives the answer
abbrev pub invariant-loop : goal.invariant-loop
invariant-loop l = live_from (256 - l.counter) l.self l.slot ≡ next_live l.self l.fn.cursor

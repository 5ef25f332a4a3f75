use Rattle.std.proofs.Common.{◌≡◌, replicate}
use Rattle.retransmitter.specs.Slots.{new_slot}
use Rattle.retransmitter.proofs.slots.Slots.new.Given as goal

-- as many free slots as turns
abbrev pub invariant-loop : goal.invariant-loop
invariant-loop l = l.slots.items ≡ replicate l.counter new_slot

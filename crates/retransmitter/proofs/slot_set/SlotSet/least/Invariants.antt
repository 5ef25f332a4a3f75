use Rattle.std.proofs.Common.{◌≡◌, ℕ, ◌*◌, ◌<◌, false}
use Rattle.retransmitter.specs.SlotSets.{has}
use Rattle.retransmitter.proofs.slot_set.SlotSet.least.Given as goal

-- no slot of the words so far is in the set
abbrev pub invariant-loop-word : goal.invariant-loop-word
invariant-loop-word l = (j : ℕ) → j < l.word * 64 → has l.self.words j ≡ false

use Rattle.std.proofs.Common.{◌≡◌, ◌++◌, length}
use Rattle.protocol_core.specs.Settling.{settled_waiting}
use Rattle.protocol_core.proofs.life.Life.settle_waiting.Given as goal

-- what is launched so far and what is left is all
abbrev pub invariant-places : goal.invariant-places
invariant-places l =
    record {
      life : (settled_waiting l.self).life ≡ (settled_waiting l.fn.self).life;
      acts : l.acts ++ (settled_waiting l.self).acts ≡ l.fn.acts ++ (settled_waiting l.fn.self).acts;
    }

abbrev pub decreases-places : goal.decreases-places
decreases-places l = length l.self.waiting

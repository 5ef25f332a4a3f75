use Rattle.std.proofs.Common.{◌≡◌, ◌++◌}
use Rattle.protocol_core.specs.Settling.{settled_handing}
use Rattle.protocol_core.proofs.life.Life.settle_handing.Given as goal

-- what is handed on so far and what is left is all
abbrev pub invariant-decisions : goal.invariant-decisions
invariant-decisions l =
    record {
      life : (settled_handing l.left l.self).life ≡ (settled_handing l.room l.fn.self).life;
      acts : l.acts ++ (settled_handing l.left l.self).acts ≡ l.fn.acts ++ (settled_handing l.room l.fn.self).acts;
    }

abbrev pub decreases-decisions : goal.decreases-decisions
decreases-decisions l = l.left

use Rattle.std.proofs.Common.{◌≡◌, ◌++◌, drop}
use Rattle.protocol_core.specs.Settling.{launched_each}
use Rattle.protocol_core.proofs.life.Life.launch_each.Given as goal

-- what is launched so far and what is left is all
abbrev pub invariant-loop-launch : goal.invariant-loop-launch
invariant-loop-launch l =
    record {
      life : (launched_each (drop l.launch-index l.launches) l.self).life ≡ (launched_each l.launches l.fn.self).life;
      acts : l.acts ++ (launched_each (drop l.launch-index l.launches) l.self).acts ≡ l.fn.acts ++ (launched_each l.launches l.fn.self).acts;
    }

use Rattle.std.proofs.Common.{◌≡◌, ◌++◌, drop}
use Rattle.protocol_core.specs.CatchingUp.{learned_each}
use Rattle.protocol_core.proofs.life.Life.learn_each.Given as goal

-- what is learned so far and what is left is all
abbrev pub invariant-loop-batch : goal.invariant-loop-batch
invariant-loop-batch l =
    record {
      life : (learned_each l.self l.instance (drop l.batch-index l.batches)).life ≡ (learned_each l.fn.self l.first l.batches).life;
      acts : l.acts ++ (learned_each l.self l.instance (drop l.batch-index l.batches)).acts ≡ l.fn.acts ++ (learned_each l.fn.self l.first l.batches).acts;
    }

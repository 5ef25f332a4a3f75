use Rattle.std.proofs.Common.{◌≡◌, ◌≤◌}
use Rattle.jp_types.specs.Views.{count_below}
use Rattle.proposer_core.specs.Counting.{is_promised}
use Rattle.proposer_core.proofs.counting.is_promised_enough.Given as goal

-- those so far are counted
abbrev pub invariant-loop-replica : goal.invariant-loop-replica
invariant-loop-replica l =
    record {
      counted : l.count ≡ count_below l.replica (is_promised l.counted l.me);
      most : l.count ≤ l.replica;
    }

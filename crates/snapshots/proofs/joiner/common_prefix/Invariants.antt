use Rattle.std.proofs.Common.{◌≡◌, ◌+◌, ◌-◌, ◌≤◌, drop, nat_eq}
use Rattle.std.specs.List.{common_prefix_len}
use Rattle.snapshots.proofs.joiner.common_prefix.Given as goal

-- the same so far, and the same from here on, is all
abbrev pub invariant-loop-same : goal.invariant-loop-same
invariant-loop-same l =
    record {
      within : l.same ≤ l.most;
      so_far : l.same + common_prefix_len nat_eq (drop l.same l.held) (drop l.same l.bytes) ≡ common_prefix_len nat_eq l.held l.bytes;
    }

abbrev pub decreases-loop-same : goal.decreases-loop-same
decreases-loop-same l = l.most - l.same

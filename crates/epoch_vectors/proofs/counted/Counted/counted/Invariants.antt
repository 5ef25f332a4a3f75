use Rattle.std.proofs.Common.{◌≡◌, ℕ, ◌&&◌, nat_lt, length}
use Rattle.jp_types.specs.ReplicaSets.{is_member}
use Rattle.epoch_vectors.specs.Replies.{is_counted}
use Rattle.epoch_vectors.proofs.counted.Counted.counted.Given as goal

-- of the replicas so far those that are counted are members
abbrev pub invariant-loop-replica : goal.invariant-loop-replica
invariant-loop-replica g l =
    record {
      nine : length l.set ≡ 9;
      members : (p : ℕ) → is_member l.set p ≡ (nat_lt p l.replica && is_counted l.own l.self p);
    }

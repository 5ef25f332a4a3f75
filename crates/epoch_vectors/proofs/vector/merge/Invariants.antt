use Rattle.std.proofs.Common.{◌≡◌, ℕ, max, if◌then◌else◌, nat_lt, length}
use Rattle.jp_types.specs.Vectors.{entry}
use Rattle.epoch_vectors.proofs.vector.merge.Given as goal

-- the entries of the replicas so far are raised, and the others are as they were
abbrev pub invariant-loop-replica : goal.invariant-loop-replica
invariant-loop-replica l =
    record {
      nine : length l.vector ≡ 9;
      entries : (p : ℕ) → entry l.vector p ≡ (if nat_lt p l.replica then max (entry l.fn.vector p) (entry l.fn.other p) else entry l.fn.vector p);
    }

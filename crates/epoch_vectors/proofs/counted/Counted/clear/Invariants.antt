use Rattle.std.proofs.Common.{◌≡◌, ◌<◌, ℕ, length, None}
use Rattle.epoch_vectors.specs.Replies.{reply_of}
use Rattle.epoch_vectors.proofs.counted.Counted.clear.Given as goal

-- the places so far have no reply
abbrev pub invariant-loop-replica : goal.invariant-loop-replica
invariant-loop-replica g l =
    record {
      same : length l.self-inside.held.items ≡ length l.fn.self;
      cleared : (p : ℕ) → p < l.replica → reply_of l.self-inside.held.items p ≡ None;
    }

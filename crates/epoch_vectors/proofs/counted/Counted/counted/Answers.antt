use Rattle.std.proofs.Common.{◌≡◌, ◌∙◌, ℕ, length, arith}
use Rattle.epoch_vectors.proofs.Counting.{count-same, count-past, counted-past, counted-all}
use Rattle.jp_types.specs.ReplicaSets.{is_member}
use Rattle.epoch_vectors.specs.Replies.{is_counted}
use Rattle.epoch_vectors.proofs.counted.Counted.counted.Goals as goal

pub returns-clause-members : goal.returns-clause-members
returns-clause-members g c p =
    let e : c.loop-replica.replica ≡ length c.args.self.now = omega arith in
    let same = c.loop-replica.invariant.members p in
    (rw e at same) ∙ counted-all c.args.own.now c.args.self.now p

pub returns-clause-count : goal.returns-clause-count
returns-clause-count g c =
    let e : c.loop-replica.replica ≡ length c.args.self.now = omega arith in
    let own = c.args.own.now in
    let replies = c.args.self.now in
    let members : (p : ℕ) → is_member c.loop-replica.set p ≡ is_counted own replies p = λ p. let same = c.loop-replica.invariant.members p in (rw e at same) ∙ counted-all own replies p in
    count-same 9 _ _ members ∙ count-past 9 (length replies) (is_counted own replies) (omega arith) (counted-past own replies)

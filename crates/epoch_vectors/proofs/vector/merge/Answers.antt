use Rattle.std.proofs.Common.{◌≡◌, arith}
use Rattle.epoch_vectors.proofs.Tables.{is_merged}
use Rattle.epoch_vectors.proofs.vector.merge.Goals as goal

pub returns : goal.returns
returns c = let e : c.loop-replica.replica ≡ 9 = omega arith in let same = c.loop-replica.invariant.entries in is_merged _ _ _ c.loop-replica.invariant.nine (rw e at same)

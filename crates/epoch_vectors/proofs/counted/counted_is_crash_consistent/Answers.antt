use Rattle.epoch_vectors.proofs.Counting.{covers-put, covers-merged}
use Rattle.epoch_vectors.proofs.counted.counted_is_crash_consistent.Goals as goal

pub returns-clause-put : goal.returns-clause-put
returns-clause-put g c = covers-put

pub returns-clause-grown : goal.returns-clause-grown
returns-clause-grown g c = covers-merged

use Rattle.replica_log.proofs.Keeping.{sound_new}
use Rattle.replica_log.proofs.log.ReplicaLog.new.Goals as goal

pub invariant_of-result : goal.invariant_of-result
invariant_of-result c = rw (c.new.ensures, c.new-2.ensures, c.new-3.ensures) (sound_new c.args.n c.requires.least c.requires.most)

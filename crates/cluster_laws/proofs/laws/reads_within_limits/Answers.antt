-- The law is proved in `ReadFit`.
use Rattle.cluster_laws.proofs.ReadFit.{schedules_within}
use Rattle.cluster_laws.proofs.laws.reads_within_limits.Goals as goal

pub returns : goal.returns
returns c = schedules_within

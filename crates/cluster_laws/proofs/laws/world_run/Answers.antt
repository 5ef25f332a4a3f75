-- The laws are proved in `Whole`.
use Rattle.turn_laws.proofs.StateFitting.{states-read}
use Rattle.cluster_laws.proofs.Whole as whole
use Rattle.cluster_laws.proofs.laws.world_run.Goals as goal

pub returns-clause-run : goal.returns-clause-run
returns-clause-run c s = whole.world_run s states-read

pub returns-clause-same : goal.returns-clause-same
returns-clause-same c s = whole.world_same s states-read

-- The laws are proved in `Whole`.
use Rattle.turn_laws.proofs.StateFitting.{states-read}
use Rattle.cluster_laws.proofs.Whole as whole
use Rattle.cluster_laws.proofs.laws.rejoins_exactly.Goals as goal

pub returns-clause-met : goal.returns-clause-met
returns-clause-met c s = whole.rejoins s states-read

pub returns-clause-due : goal.returns-clause-due
returns-clause-due c s = whole.rejoins_due s states-read

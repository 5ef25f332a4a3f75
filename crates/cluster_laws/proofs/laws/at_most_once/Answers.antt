-- The laws are proved in `Whole`.
use Rattle.turn_laws.proofs.StateFitting.{states-read}
use Rattle.cluster_laws.proofs.Whole as whole
use Rattle.cluster_laws.proofs.laws.at_most_once.Goals as goal

pub returns-clause-first : goal.returns-clause-first
returns-clause-first c = whole.at_most_once

pub returns-clause-life : goal.returns-clause-life
returns-clause-life c s = whole.executes_once s states-read

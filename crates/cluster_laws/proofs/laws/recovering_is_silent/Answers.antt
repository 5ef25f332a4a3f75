-- The laws are proved in `Whole`.
use Rattle.turn_laws.proofs.StateFitting.{states-read}
use Rattle.cluster_laws.proofs.Whole as whole
use Rattle.cluster_laws.proofs.laws.recovering_is_silent.Goals as goal

pub returns : goal.returns
returns c s = whole.recovering_is_silent s states-read

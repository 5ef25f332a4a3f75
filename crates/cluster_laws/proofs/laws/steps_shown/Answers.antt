-- The law is proved in `Whole`.
use Rattle.turn_laws.proofs.StateFitting.{states-read}
use Rattle.cluster_laws.proofs.Whole as whole
use Rattle.cluster_laws.proofs.laws.steps_shown.Goals as goal

pub returns : goal.returns
returns c s = whole.all_shown s states-read

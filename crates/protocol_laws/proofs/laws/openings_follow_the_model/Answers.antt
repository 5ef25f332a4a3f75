-- The law is proved in `Whole`.
use Rattle.protocol_laws.proofs.Whole.{openings_alike}
use Rattle.protocol_laws.proofs.laws.openings_follow_the_model.Goals as goal

pub returns : goal.returns
returns c = openings_alike

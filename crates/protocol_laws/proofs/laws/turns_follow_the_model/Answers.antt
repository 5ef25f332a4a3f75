-- The law is proved in `Whole`.
use Rattle.protocol_laws.proofs.Whole.{turns_alike}
use Rattle.protocol_laws.proofs.laws.turns_follow_the_model.Goals as goal

pub returns : goal.returns
returns c = turns_alike

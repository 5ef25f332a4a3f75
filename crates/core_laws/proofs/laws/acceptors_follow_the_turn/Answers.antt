-- The law is proved in `AcceptLemmas`.
use Rattle.core_laws.proofs.AcceptLemmas.{accepts_alike}
use Rattle.core_laws.proofs.laws.acceptors_follow_the_turn.Goals as goal

pub returns : goal.returns
returns c = accepts_alike

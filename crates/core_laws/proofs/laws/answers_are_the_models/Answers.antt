-- The law is proved in `AcceptLemmas`.
use Rattle.core_laws.proofs.AcceptLemmas.{answers_alike}
use Rattle.core_laws.proofs.laws.answers_are_the_models.Goals as goal

pub returns : goal.returns
returns c = answers_alike

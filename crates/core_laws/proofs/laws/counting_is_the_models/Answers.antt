-- The law is proved in `ReplyLemmas`.
use Rattle.core_laws.proofs.KeptLemmas.{counts_alike}
use Rattle.core_laws.proofs.laws.counting_is_the_models.Goals as goal

pub returns : goal.returns
returns c = counts_alike

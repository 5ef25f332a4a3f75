-- The law is proved in `StartLemmas`.
use Rattle.core_laws.proofs.StartLemmas.{starts_kept}
use Rattle.core_laws.proofs.laws.cores_begin_with_the_stage.Goals as goal

pub returns : goal.returns
returns c = starts_kept

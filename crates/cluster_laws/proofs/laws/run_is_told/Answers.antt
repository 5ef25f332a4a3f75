-- The law is proved in `Chosen`.
use Rattle.cluster_laws.proofs.Chosen.{is_told}
use Rattle.cluster_laws.proofs.laws.run_is_told.Goals as goal

pub returns : goal.returns
returns c = is_told

-- The laws are proved in `KeptLemmas`.
use Rattle.core_laws.proofs.KeptLemmas.{proposers_are_kept, launches_are_kept, answering_is_kept, others_are_kept}
use Rattle.core_laws.proofs.laws.cores_stay_with_the_stage.Goals as goal

pub returns-clause-proposers : goal.returns-clause-proposers
returns-clause-proposers c = proposers_are_kept

pub returns-clause-launches : goal.returns-clause-launches
returns-clause-launches c = launches_are_kept

pub returns-clause-answering : goal.returns-clause-answering
returns-clause-answering c = answering_is_kept

pub returns-clause-others : goal.returns-clause-others
returns-clause-others c = others_are_kept

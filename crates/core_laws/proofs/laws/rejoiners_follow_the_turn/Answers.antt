-- The laws are proved in `KeptReplies` and `RejoinLemmas`.
use Rattle.core_laws.proofs.KeptReplies.{answers_are_kept}
use Rattle.core_laws.proofs.RejoinLemmas.{rejoins_alike}
use Rattle.core_laws.proofs.laws.rejoiners_follow_the_turn.Goals as goal

pub returns-clause-kept : goal.returns-clause-kept
returns-clause-kept c = answers_are_kept

pub returns-clause-rejoins : goal.returns-clause-rejoins
returns-clause-rejoins c = rejoins_alike

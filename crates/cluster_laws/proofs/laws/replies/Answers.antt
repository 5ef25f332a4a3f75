-- The laws are proved in `Whole`.
use Rattle.turn_laws.proofs.StateFitting.{states-read}
use Rattle.cluster_laws.proofs.Whole as whole
use Rattle.cluster_laws.proofs.laws.replies.Goals as goal

pub returns-clause-shown : goal.returns-clause-shown
returns-clause-shown c s = whole.replies s states-read

pub returns-clause-first : goal.returns-clause-first
returns-clause-first c s = whole.first_shows_none s states-read

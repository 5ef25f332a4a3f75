-- The laws are proved in `Chosen`.
use Rattle.turn_laws.proofs.StateFitting.{states-read}
use Rattle.cluster_laws.proofs.Chosen as chosen
use Rattle.cluster_laws.proofs.laws.list_is_chosen.Goals as goal

pub returns-clause-list : goal.returns-clause-list
returns-clause-list c s = chosen.list_chosen s states-read

pub returns-clause-one : goal.returns-clause-one
returns-clause-one c s = chosen.one_is_chosen s states-read

pub returns-clause-known : goal.returns-clause-known
returns-clause-known c s = chosen.known_is_chosen s states-read

-- The laws are proved in `Whole`.
use Rattle.turn_laws.proofs.StateFitting.{states-read}
use Rattle.cluster_laws.proofs.Whole as whole
use Rattle.cluster_laws.proofs.laws.one_list.Goals as goal

pub returns-clause-stand : goal.returns-clause-stand
returns-clause-stand c s = whole.one_list s states-read

pub returns-clause-states : goal.returns-clause-states
returns-clause-states c s = whole.states_listed s states-read

pub returns-clause-known : goal.returns-clause-known
returns-clause-known c s = whole.known_same s states-read

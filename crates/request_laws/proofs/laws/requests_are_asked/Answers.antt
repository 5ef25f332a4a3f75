-- The laws are proved in `Asking`.
use Rattle.turn_laws.proofs.StateFitting.{states-read}
use Rattle.request_laws.proofs.Asking.{list_is_asked, known_is_asked, stores_are_asked, states_are_asked}
use Rattle.request_laws.proofs.laws.requests_are_asked.Goals as goal

pub returns-clause-list : goal.returns-clause-list
returns-clause-list c s = list_is_asked s states-read

pub returns-clause-known : goal.returns-clause-known
returns-clause-known c s = known_is_asked s states-read

pub returns-clause-stores : goal.returns-clause-stores
returns-clause-stores c s = stores_are_asked s states-read

pub returns-clause-states : goal.returns-clause-states
returns-clause-states c s = states_are_asked s states-read

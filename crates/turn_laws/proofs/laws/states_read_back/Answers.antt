-- The law is proved in `StateFitting`.
use Rattle.turn_laws.proofs.StateFitting.{states-read}
use Rattle.turn_laws.proofs.laws.states_read_back.Goals as goal

pub returns : goal.returns
returns c = states-read

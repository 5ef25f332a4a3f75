-- The law is proved in `Lawful`.
use Rattle.turn_laws.proofs.StateFitting.{states-read}
use Rattle.turn_laws.proofs.Lawful as lawful
use Rattle.turn_laws.proofs.laws.turns_are_lawful.Goals as goal

pub returns : goal.returns
returns c = lawful.nodes_are_lawful states-read

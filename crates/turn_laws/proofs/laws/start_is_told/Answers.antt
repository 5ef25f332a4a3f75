-- It computes.
use Rattle.turn_laws.proofs.Sane.{start-state}
use Rattle.turn_laws.proofs.laws.start_is_told.Goals as goal

pub returns : goal.returns
returns c = start-state

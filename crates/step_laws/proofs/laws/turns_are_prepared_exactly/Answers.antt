-- The law is proved in `Settling`.
use Rattle.step_laws.proofs.Settling.{prepared_exactly}
use Rattle.step_laws.proofs.laws.turns_are_prepared_exactly.Goals as goal

pub returns : goal.returns
returns c = prepared_exactly

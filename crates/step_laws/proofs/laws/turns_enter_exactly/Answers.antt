-- The law is proved in `Entering`.
use Rattle.step_laws.proofs.Entering.{enters_exactly}
use Rattle.step_laws.proofs.laws.turns_enter_exactly.Goals as goal

pub returns : goal.returns
returns c = enters_exactly

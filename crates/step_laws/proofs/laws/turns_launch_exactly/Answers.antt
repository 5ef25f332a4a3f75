-- The law is proved in `Settling`.
use Rattle.step_laws.proofs.Settling.{launches_exactly}
use Rattle.step_laws.proofs.laws.turns_launch_exactly.Goals as goal

pub returns : goal.returns
returns c = launches_exactly

-- The law is proved in `Settling`.
use Rattle.step_laws.proofs.Settling.{rejoins_exactly}
use Rattle.step_laws.proofs.laws.turns_rejoin_exactly.Goals as goal

pub returns : goal.returns
returns c = rejoins_exactly

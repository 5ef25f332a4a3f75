-- The law is proved in `Saving`.
use Rattle.step_laws.proofs.Saving.{saves_exactly}
use Rattle.step_laws.proofs.laws.turns_save_exactly.Goals as goal

pub returns : goal.returns
returns c = saves_exactly

-- The law is proved in `Sending`.
use Rattle.step_laws.proofs.Sending.{sends_exactly}
use Rattle.step_laws.proofs.laws.turns_send_exactly.Goals as goal

pub returns : goal.returns
returns c = sends_exactly

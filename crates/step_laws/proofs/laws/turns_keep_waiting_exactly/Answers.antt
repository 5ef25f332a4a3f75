-- The law is proved in `Counting`.
use Rattle.step_laws.proofs.Counting.{waits_exactly}
use Rattle.step_laws.proofs.laws.turns_keep_waiting_exactly.Goals as goal

pub returns : goal.returns
returns c = waits_exactly

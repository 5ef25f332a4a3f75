-- The law is proved in `Entering`.
use Rattle.step_laws.proofs.Entering.{promises_exactly}
use Rattle.step_laws.proofs.laws.turns_promise_exactly.Goals as goal

pub returns : goal.returns
returns c = promises_exactly

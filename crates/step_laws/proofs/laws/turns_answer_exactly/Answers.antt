-- The law is proved in `Entering`.
use Rattle.step_laws.proofs.Entering.{answers_exactly}
use Rattle.step_laws.proofs.laws.turns_answer_exactly.Goals as goal

pub returns : goal.returns
returns c = answers_exactly

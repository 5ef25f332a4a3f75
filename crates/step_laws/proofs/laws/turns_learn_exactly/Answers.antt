-- The law is proved in `Learning`.
use Rattle.step_laws.proofs.Learning.{learns_exactly}
use Rattle.step_laws.proofs.laws.turns_learn_exactly.Goals as goal

pub returns : goal.returns
returns c = learns_exactly

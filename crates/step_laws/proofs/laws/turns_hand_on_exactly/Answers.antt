-- The law is proved in `Counting` and `Handing`.
use Rattle.step_laws.proofs.Counting.{handed_exactly}
use Rattle.step_laws.proofs.Handing.{hands_on_exactly}
use Rattle.step_laws.proofs.laws.turns_hand_on_exactly.Goals as goal

pub returns-clause-decisions : goal.returns-clause-decisions
returns-clause-decisions c = hands_on_exactly

pub returns-clause-place : goal.returns-clause-place
returns-clause-place c = handed_exactly

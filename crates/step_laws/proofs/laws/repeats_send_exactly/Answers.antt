-- The law is proved in `Saving` and `Sending`.
use Rattle.step_laws.proofs.Saving.{repeats_only}
use Rattle.step_laws.proofs.Sending.{repeats_exactly}
use Rattle.step_laws.proofs.laws.repeats_send_exactly.Goals as goal

pub returns-clause-sent : goal.returns-clause-sent
returns-clause-sent c = repeats_exactly

pub returns-clause-only : goal.returns-clause-only
returns-clause-only c = repeats_only

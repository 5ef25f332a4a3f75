-- The law is proved in `Counting`.
use Rattle.step_laws.proofs.Counting.{counts_quiet_exactly}
use Rattle.step_laws.proofs.laws.turns_count_quiet_exactly.Goals as goal

pub returns : goal.returns
returns c = counts_quiet_exactly

-- The law is proved in `Installing`.
use Rattle.step_laws.proofs.Installing.{installs_exactly}
use Rattle.step_laws.proofs.laws.turns_install_exactly.Goals as goal

pub returns : goal.returns
returns c = installs_exactly

-- The law is proved in `Saving`.
use Rattle.step_laws.proofs.Saving.{shows_no_other}
use Rattle.step_laws.proofs.laws.turns_show_no_other.Goals as goal

pub returns : goal.returns
returns c = shows_no_other

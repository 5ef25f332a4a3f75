-- The laws are proved in `Whole`.
use Rattle.run_laws.proofs.Whole.{runs_alike, runs_past_alike}
use Rattle.run_laws.proofs.laws.runs_are_the_models.Goals as goal

pub returns-clause-run : goal.returns-clause-run
returns-clause-run c = runs_alike

pub returns-clause-past : goal.returns-clause-past
returns-clause-past c = runs_past_alike

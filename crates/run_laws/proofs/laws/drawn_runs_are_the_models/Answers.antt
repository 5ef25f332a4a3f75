-- The laws are proved in `Whole`.
use Rattle.run_laws.proofs.Whole.{drawn_alike, drawn_past_alike, generated_is_runnable}
use Rattle.run_laws.proofs.laws.drawn_runs_are_the_models.Goals as goal

pub returns-clause-drawn : goal.returns-clause-drawn
returns-clause-drawn c = drawn_alike

pub returns-clause-past : goal.returns-clause-past
returns-clause-past c = drawn_past_alike

pub returns-clause-within : goal.returns-clause-within
returns-clause-within c = generated_is_runnable

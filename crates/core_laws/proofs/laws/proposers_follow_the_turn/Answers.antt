-- The laws are proved in `KeptPromises`, `PrepareLemmas` and `LaunchLemmas`.
use Rattle.core_laws.proofs.KeptPromises.{promises_are_kept}
use Rattle.core_laws.proofs.PrepareLemmas.{prepares_as_the_model, offers_alike}
use Rattle.core_laws.proofs.LaunchLemmas.{launches_as_the_model}
use Rattle.core_laws.proofs.laws.proposers_follow_the_turn.Goals as goal

pub returns-clause-kept : goal.returns-clause-kept
returns-clause-kept c = promises_are_kept

pub returns-clause-prepared : goal.returns-clause-prepared
returns-clause-prepared c = prepares_as_the_model

pub returns-clause-offered : goal.returns-clause-offered
returns-clause-offered c = offers_alike

pub returns-clause-launched : goal.returns-clause-launched
returns-clause-launched c = launches_as_the_model

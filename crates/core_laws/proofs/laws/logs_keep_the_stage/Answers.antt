-- The laws are proved in `LogLemmas`.
use Rattle.core_laws.proofs.LogLemmas.{logs_are_read, logs_are_kept}
use Rattle.core_laws.proofs.laws.logs_keep_the_stage.Goals as goal

pub returns-clause-read : goal.returns-clause-read
returns-clause-read c = logs_are_read

pub returns-clause-kept : goal.returns-clause-kept
returns-clause-kept c = logs_are_kept

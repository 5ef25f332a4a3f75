-- The laws are proved in `Standing` and `Once`.
use Rattle.paxos_world.proofs.Standing as standing
use Rattle.paxos_world.proofs.Once as once
use Rattle.paxos_world.proofs.laws.execution.Goals as goal

pub returns-clause-listed : goal.returns-clause-listed
returns-clause-listed c = standing.all_execute_listed

pub returns-clause-once : goal.returns-clause-once
returns-clause-once c = standing.executes_once

pub returns-clause-first : goal.returns-clause-first
returns-clause-first c = once.first_once

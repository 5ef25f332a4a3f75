-- The laws are proved in `Standing` and `Whole`.
use Rattle.paxos_world.proofs.Standing as standing
use Rattle.paxos_world.proofs.Whole as whole
use Rattle.paxos_world.proofs.laws.stand_on_one_list.Goals as goal

pub returns-clause-all : goal.returns-clause-all
returns-clause-all c = standing.all_stand

pub returns-clause-listed : goal.returns-clause-listed
returns-clause-listed c = whole.listed_runs_stand

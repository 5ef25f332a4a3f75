-- The runs are in `Witness` and `WitnessViews`.
use Rattle.paxos_world.proofs.Witness as witness
use Rattle.paxos_world.proofs.WitnessViews as views
use Rattle.paxos_world.proofs.laws.runs_exist.Goals as goal

pub returns-clause-chooses : goal.returns-clause-chooses
returns-clause-chooses c = witness.some_run_chooses

pub returns-clause-adopts : goal.returns-clause-adopts
returns-clause-adopts c = views.some_run_adopts

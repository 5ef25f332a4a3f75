-- Both laws are proved in `One`.
use Rattle.paxos_world.proofs.One as one
use Rattle.paxos_world.proofs.laws.one_per_view.Goals as goal

pub returns-clause-prepared : goal.returns-clause-prepared
returns-clause-prepared c = one.one_prepared

pub returns-clause-batch : goal.returns-clause-batch
returns-clause-batch c = one.one_batch

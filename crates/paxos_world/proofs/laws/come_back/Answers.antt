-- Both laws are proved in `Back`.
use Rattle.paxos_world.proofs.Back as back
use Rattle.paxos_world.proofs.laws.come_back.Goals as goal

pub returns-clause-counted : goal.returns-clause-counted
returns-clause-counted c = back.counted_come_back

pub returns-clause-returned : goal.returns-clause-returned
returns-clause-returned c = back.returned_come_back

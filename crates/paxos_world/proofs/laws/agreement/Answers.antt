-- The laws are proved in `Adopted` and `Chosen`.
use Rattle.paxos_world.proofs.Adopted as adopted
use Rattle.paxos_world.proofs.Chosen as chosen
use Rattle.paxos_world.proofs.laws.agreement.Goals as goal

pub returns-clause-one : goal.returns-clause-one
returns-clause-one c = adopted.one_chosen

pub returns-clause-known : goal.returns-clause-known
returns-clause-known c = chosen.known_are_chosen

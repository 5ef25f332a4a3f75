-- The law is proved in `Adopted`.
use Rattle.paxos_world.proofs.Adopted as adopted
use Rattle.paxos_world.proofs.laws.chosen_are_adopted.Goals as goal

pub returns : goal.returns
returns c = adopted.chosen_are_adopted

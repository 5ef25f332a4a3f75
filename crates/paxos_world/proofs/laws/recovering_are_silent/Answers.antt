-- The law is proved in `Standing`.
use Rattle.paxos_world.proofs.Standing as standing
use Rattle.paxos_world.proofs.laws.recovering_are_silent.Goals as goal

pub returns : goal.returns
returns c = standing.recovering_are_silent

-- The law is proved in `Seen`.
use Rattle.paxos_world.proofs.Seen as seen
use Rattle.paxos_world.proofs.laws.rejoins_are_seen.Goals as goal

pub returns : goal.returns
returns c = seen.rejoins_are_seen

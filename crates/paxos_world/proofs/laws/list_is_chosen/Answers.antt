-- The law is proved in `Listing`.
use Rattle.paxos_world.proofs.Listing as listing
use Rattle.paxos_world.proofs.laws.list_is_chosen.Goals as goal

pub returns : goal.returns
returns c = listing.list_is_chosen

-- The law is proved in `Voting`.
use Rattle.step_laws.proofs.Voting.{votes_exactly}
use Rattle.step_laws.proofs.laws.turns_vote_exactly.Goals as goal

pub returns : goal.returns
returns c = votes_exactly

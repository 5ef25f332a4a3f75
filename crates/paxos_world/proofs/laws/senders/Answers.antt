-- The laws are proved in `Sending`.
use Rattle.paxos_world.proofs.Sending as sending
use Rattle.paxos_world.proofs.laws.senders.Goals as goal

pub returns-clause-others : goal.returns-clause-others
returns-clause-others c = sending.sent_to_others

pub returns-clause-leaders : goal.returns-clause-leaders
returns-clause-leaders c = sending.leaders_lead

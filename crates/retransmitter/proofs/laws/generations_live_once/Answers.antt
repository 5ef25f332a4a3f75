-- The laws are proved in `CallLemmas`.
use Rattle.retransmitter.proofs.CallLemmas as lemma
use Rattle.retransmitter.proofs.laws.generations_live_once.Goals as goal

pub returns-clause-once : goal.returns-clause-once
returns-clause-once c = lemma.live_once

pub returns-clause-cancelled : goal.returns-clause-cancelled
returns-clause-cancelled c = lemma.cancels_end

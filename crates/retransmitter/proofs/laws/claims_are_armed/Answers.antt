-- The laws are proved in `CallLemmas`.
use Rattle.retransmitter.proofs.CallLemmas as lemma
use Rattle.retransmitter.proofs.laws.claims_are_armed.Goals as goal

pub returns-clause-armed : goal.returns-clause-armed
returns-clause-armed c = lemma.claims_are_armed

pub returns-clause-once : goal.returns-clause-once
returns-clause-once c = lemma.armed_once

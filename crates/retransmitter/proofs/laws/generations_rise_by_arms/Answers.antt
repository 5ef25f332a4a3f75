-- The laws are proved in `CallLemmas`.
use Rattle.retransmitter.proofs.CallLemmas as lemma
use Rattle.retransmitter.proofs.laws.generations_rise_by_arms.Goals as goal

pub returns-clause-never_fall : goal.returns-clause-never_fall
returns-clause-never_fall c = lemma.never_fall

pub returns-clause-only_arms : goal.returns-clause-only_arms
returns-clause-only_arms c = lemma.only_arms_begin

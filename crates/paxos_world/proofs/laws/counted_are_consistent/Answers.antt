-- The laws are proved in `Counted`.
use Rattle.paxos_world.proofs.Counted as counted
use Rattle.paxos_world.proofs.laws.counted_are_consistent.Goals as goal

pub returns-clause-oks : goal.returns-clause-oks
returns-clause-oks c = counted.oks_consistent

pub returns-clause-answers : goal.returns-clause-answers
returns-clause-answers c = counted.answers_consistent

pub returns-clause-runs : goal.returns-clause-runs
returns-clause-runs c = counted.counted_are_consistent

-- The laws are proved in `Courses`.
use Rattle.service_manager.proofs.Courses as lemma
use Rattle.service_manager.proofs.laws.service_is_sequential.Goals as goal

pub returns-clause-sequential : goal.returns-clause-sequential
returns-clause-sequential c = lemma.is_sequential

pub returns-clause-served : goal.returns-clause-served
returns-clause-served c = lemma.is_served

pub returns-clause-in_order : goal.returns-clause-in_order
returns-clause-in_order c = lemma.in_order

-- Each clause is a lemma on the batches of a list, from the empty batch on.
use Rattle.std.proofs.Common.{[], arith}
use Rattle.batcher.specs.Cut.{IsWithinLimits}
use Rattle.batcher.proofs.CutLemmas as lemmas
use Rattle.batcher.proofs.laws.batches_are_the_requests_in_order.Goals as goal

empty_within : IsWithinLimits []
empty_within = (omega arith, omega arith)

pub returns-clause-whole : goal.returns-clause-whole
returns-clause-whole c = λ feds. lemmas.whole [] feds

pub returns-clause-closed_within : goal.returns-clause-closed_within
returns-clause-closed_within c = λ feds fit. lemmas.all_within [] feds empty_within fit

pub returns-clause-held_within : goal.returns-clause-held_within
returns-clause-held_within c = λ feds fit. lemmas.last_within [] feds empty_within fit

pub returns-clause-not_empty : goal.returns-clause-not_empty
returns-clause-not_empty c = λ feds. lemmas.all_not_empty [] feds

pub returns-clause-closed_by_turns : goal.returns-clause-closed_by_turns
returns-clause-closed_by_turns c = λ feds next. lemmas.closed_by_turns [] feds next

pub returns-clause-held_by_turns : goal.returns-clause-held_by_turns
returns-clause-held_by_turns c = λ feds next. lemmas.held_by_turns [] feds next

use Rattle.std.proofs.Common.{ap, sym, ◌∙◌}
use Rattle.crossbeam_queue.specs.Passes.{view}
use Rattle.stage_queues.specs.Rule.{seen}
use Rattle.stage_queues.proofs.Agreement.{agrees_from, begins_from, one_from, whole_from}
use Rattle.stage_queues.proofs.Steps.{merges, agrees}
use Rattle.stage_queues.proofs.pass.Pass.join.Goals as goal

pub absorb-requires-clause-rule : goal.absorb-requires-clause-rule
absorb-requires-clause-rule g c =
    let same = ap (λ p. p.lane) c.other.view_is ∙ c.requires.lane ∙ sym (ap (λ p. p.lane) c.self.view_is) in
    merges _ _ _ _ (ap (λ l. l.capacity) same) (ap (λ l. l.producers) same)

pub learn_as-requires-clause-rule : goal.learn_as-requires-clause-rule
learn_as-requires-clause-rule g c = agrees _ _

pub returns-clause-begins : goal.returns-clause-begins
returns-clause-begins g c = begins_from (seen c.learn_as.new.pass.table_id (view c.learn_as.new.pass)) (agrees_from c.learn_as.new.pass.table_id _ _ c.learn_as.ensures.queue.1 c.learn_as.ensures.rule)

pub returns-clause-whole : goal.returns-clause-whole
returns-clause-whole g c = whole_from (seen c.learn_as.new.pass.table_id (view c.learn_as.new.pass)) (agrees_from c.learn_as.new.pass.table_id _ _ c.learn_as.ensures.queue.1 c.learn_as.ensures.rule)

pub returns-clause-one : goal.returns-clause-one
returns-clause-one g c = one_from (seen c.learn_as.new.pass.table_id (view c.learn_as.new.pass)) (agrees_from c.learn_as.new.pass.table_id _ _ c.learn_as.ensures.queue.1 c.learn_as.ensures.rule)

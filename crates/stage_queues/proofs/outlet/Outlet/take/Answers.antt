use Rattle.std.proofs.Common.{[], ◌∷◌, ◌++◌, ◌∙◌, ap}
use Rattle.stage_queues.specs.Lanes.{all_items, items_in, items_of}
use Rattle.stage_queues.proofs.Running.{after_one, items_after, items_of_after, may_end}
use Rattle.stage_queues.proofs.outlet.Outlet.take.Goals as goal

pub running_after-self-inside-requires : goal.running_after-self-inside-requires
running_after-self-inside-requires g c =
    let told = c.in_ok-element.ensures in
    may_end c.self.inside.pass c.in_ok-element.element c.self.inside.running told.1 told.2 c.self.invariant.1

pub invariant_of-self-2 : goal.invariant_of-self-2
invariant_of-self-2 g c =
    let told = c.in_ok-element.ensures in
    after_one c.self.inside.pass c.pop.new.self c.in_ok-element.element c.self.inside.running c.running_after-self-inside.result told.0 told.1 told.2 c.self.invariant.1 c.running_after-self-inside.ensures

pub returns-clause-items : goal.returns-clause-items
returns-clause-items g c =
    items_after c.self.inside.pass c.pop.new.self c.in_ok-element.element c.in_ok-element.ensures.0
    ∙ ap (λ o. all_items o.taken ++ items_in (c.in_ok-element.element.1 ∷ [])) c.self.view_is

pub returns-clause-items_of : goal.returns-clause-items_of
returns-clause-items_of g c p =
    items_of_after c.self.inside.pass c.pop.new.self c.in_ok-element.element c.in_ok-element.ensures.0 p
    ∙ ap (λ o. items_of p o.taken ++ items_of p (c.in_ok-element.element ∷ [])) c.self.view_is

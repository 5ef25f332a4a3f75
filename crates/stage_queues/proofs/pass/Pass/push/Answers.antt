use Rattle.std.proofs.Common.{ap, sym, ◌∙◌}
use Rattle.crossbeam_queue.specs.Passes.{ruled_capacity, view}
use Rattle.stage_queues.specs.Lanes.{log_of}
use Rattle.stage_queues.proofs.Steps.{inlet_shape, pushes_as, tells_as}
use Rattle.stage_queues.proofs.Ends.{after_push, after_nothing, held_then}
use Rattle.stage_queues.proofs.pass.Pass.push.Goals as goal
use Rattle.stage_queues.proofs.pass.Pass.push.Goals.{in-Ok, in-Err}

pub push_as-requires-clause-rule : goal.push_as-requires-clause-rule
push_as-requires-clause-rule g c =
    let is = inlet_shape _ _ _ _ (c.self.view_is ∙ c.requires.inlet.0.0) in
    (pushes_as _ _ _ _ _ is (ap ruled_capacity c.deref.ensures ∙ sym c.self.invariant.1) c.requires.inlet.1 c.requires.inlet.0.1, tells_as _ _ _ is)

pub returns : goal.returns
returns g c =
    let same = c.push_as.ensures.queue.0 in
    let full = ap ruled_capacity c.deref.ensures ∙ sym c.self.invariant.1 ∙ ap (λ p. p.lane.capacity) c.self.view_is in
    elim c.match-push_as.branch [
      | in-Ok w ↦ rw w.result-is (after_push _ _ (view c.self.inside.seat) (view c.push_as.new.pass) c.args.self.now (log_of c.args.self.now) (c.args.number, c.args.element) same c.self.view_is c.requires.inlet.0.0 w.in-Ok.ensures.rule)
      | in-Err w ↦ rw w.result-is (
        ap (λ s. s.1) w.in-Err.ensures.rule.0,
        after_nothing _ _ (view c.self.inside.seat) (view c.push_as.new.pass) c.args.self.now same c.self.view_is w.in-Err.ensures.rule.1,
        held_then _ (view c.self.inside.seat) c.args.self.now (log_of c.args.self.now) _ _ c.self.view_is c.requires.inlet.0.0 full w.in-Err.ensures.rule.2,
      )
    ]

use Rattle.std.proofs.Common.{ap, sym, ◌∙◌, length, Some}
use Rattle.std.specs.Prelude.{slice_get}
use Rattle.stage_queues.specs.Lanes.{new_inlet}
use Rattle.stage_queues.specs.Rule.{lane_at}
use Rattle.stage_queues.proofs.Steps.{begins}
use Rattle.stage_queues.proofs.Inlets.{length-inlets_of, get-inlets_of}
use Rattle.stage_queues.proofs.lane.lane_with_bell.Goals as goal

pub ruled-requires-clause-rule : goal.ruled-requires-clause-rule
ruled-requires-clause-rule g c = begins

pub returns-clause-count : goal.returns-clause-count
returns-clause-count g c = ap length c.in_ok-inlets.ensures.inlets ∙ length-inlets_of _ _ _

pub returns-clause-inlets : goal.returns-clause-inlets
returns-clause-inlets g c p less =
    let table = c.opened-seat.ensures.seat.0.0 ∙ sym c.in_ok-inlets.ensures.seat.0.0 in
    let side = sym c.in_ok-inlets.ensures.seat.1 in
    let same = (λ i. lane_at (table i) (side i).capacity (side i).producers) ∙ sym (ap (λ o. o.lane) c.new-outlet.ensures) in
    ap (λ l. slice_get l p) c.in_ok-inlets.ensures.inlets ∙ get-inlets_of _ _ _ p less ∙ ap (λ l. Some (new_inlet l p)) same

use Rattle.std.proofs.Common.{◌≡◌, ◌≤◌, [], Some}
use Rattle.std.specs.Arc.{arc_value}
use Rattle.crossbeam_queue.specs.Passes.{IsPassOf, ruled_capacity, view}
use Rattle.stage_queues.specs.Rule.{inlets_of, lane_at, consumer_side}
use Rattle.stage_queues.proofs.lane.inlets.Given as goal

abbrev pub invariant-loop-number : goal.invariant-loop-number
invariant-loop-number g l =
    IsPassOf (arc_value l.queue) l.seat
    × (view l.seat ≡ consumer_side (ruled_capacity (arc_value l.queue)) l.producers (Some l.number) [])
    × (l.made.items ≡ inlets_of (lane_at l.initial.seat.table_id (ruled_capacity (arc_value l.queue)) l.producers) l.number)
    × (l.seat.table_id ≡ l.initial.seat.table_id)
    × (l.number ≤ l.producers)

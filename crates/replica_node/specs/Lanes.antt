-- What the lanes of a replica hold.
use Rattle.std.specs.Prelude.{Bool, true, false}
use Rattle.replica_node.specs.declared.stage.LaneItem.{LaneItem}
use Rattle.replica_node.specs.declared.stage.Stage.{Stage}
use Rattle.replica_node.specs.declared.stage.Stage.TheVariants.{Batch, Protocol, Service, Retransmit}
use Rattle.replica_node.specs.declared.stages.Stages.{Stages}
use Rattle.replica_node.specs.Lane.{is_full, with_item}

-- whether the lane of a stage does. The Retransmitter has no lane
abbrev pub is_full_at : Stages → Stage → Bool
is_full_at s Batch = is_full s.requests
is_full_at s Protocol = is_full s.dispatcher
is_full_at s Service = is_full s.decisions
is_full_at s Retransmit = false

-- whether an item is of the kind that the lane of a stage holds
abbrev pub is_kind_of : Stage → LaneItem → Bool
is_kind_of Batch (LaneItem.Fed fed) = true
is_kind_of Protocol (LaneItem.Item item) = true
is_kind_of Service (LaneItem.Decision decision) = true
is_kind_of _ _ = false

-- the stages after an item is put in the lane of one of them
abbrev pub after_put : Stages → Stage → LaneItem → Stages
after_put s Batch (LaneItem.Fed fed) = record s { requests = with_item s.requests fed }
after_put s Protocol (LaneItem.Item item) = record s { dispatcher = with_item s.dispatcher item }
after_put s Service (LaneItem.Decision decision) = record s { decisions = with_item s.decisions decision }
after_put s _ _ = s

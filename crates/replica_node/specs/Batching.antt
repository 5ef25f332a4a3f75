-- A step of the Batcher.
use Rattle.std.specs.Prelude.{Bool, false, ◌&&◌, List, [], ◌∷◌, ◌++◌, drop, if◌then◌else◌, Option, Some, None}
use Rattle.std.specs.List.{slice_get}
use Rattle.jp_types.specs.Instances.{Batch}
use Rattle.batcher.specs.Cut.{closed_if, held_after, is_closed_by}
use Rattle.batcher.specs.declared.fed.Fed.{Fed}
use Rattle.protocol_core.specs.declared.item.Item.{Item}
use Rattle.replica_node.specs.Lane.{is_full}
use Rattle.replica_node.specs.Stepping.{Stepping, done, refused}
use Rattle.replica_node.specs.declared.stages.Stages.{Stages}
use Rattle.replica_node.specs.declared.stages.Taken.{Taken}

-- whether the front item, if there is one, closes the batch that is being made
abbrev pub front_closes : Batch → Option Fed → Bool
front_closes held None = false
front_closes held (Some fed) = is_closed_by held fed

-- whether the front item closes a batch for which the dispatcher lane has no place
abbrev pub is_batch_blocked : Stages → Bool
is_batch_blocked s = front_closes s.batcher (slice_get s.requests 0) && is_full s.dispatcher

-- the dispatcher lane with a closed batch at its end, if one was closed
abbrev pub with_batch : List Item → Option Batch → List Item
with_batch lane None = lane
with_batch lane (Some batch) = lane ++ Item.Batch batch ∷ []

-- the stages after the Batcher takes an item
abbrev pub fed_taken : Stages → Fed → Stages
fed_taken s fed =
    let closes = is_closed_by s.batcher fed in
    record s { batcher = held_after closes s.batcher fed; dispatcher = with_batch s.dispatcher (closed_if closes s.batcher) }

-- the Batcher takes the front item, if there is one
abbrev pub batched : Stages → Option Fed → Stepping
batched s None = refused Taken.Empty s
batched s (Some fed) = done [] (fed_taken (record s { requests = drop 1 s.requests }) fed)

-- a step of the Batcher: nothing is taken where the front item closes a batch for which there is no place
abbrev pub batch_step : Stages → Stepping
batch_step s = if is_batch_blocked s then refused Taken.Full s else batched s (slice_get s.requests 0)

-- A replica that is up, as the model has it: its stages, the lanes between them, and the steps of its stages.
use Rattle.std.specs.Prelude.{ℕ, ◌-◌, Bool, true, false, ◌&&◌, List, [], ◌∷◌, ◌++◌, length, nat_le, Option, Some, None}
use Rattle.jp_types.specs.Instances.{Batch}
use Rattle.paxos_world.specs.Batching.{Fed, is_closed_by, held_after}
use Rattle.paxos_world.specs.Serving.{makes_snapshot, serves, snapshot_of}
use Rattle.paxos_world.specs.Stage.{Stage, Item, Closed, Decision, Act, Show, Send, Hand, Save, Turned}
use Rattle.paxos_world.specs.Turn.{untouched, turn, retransmit}
use Rattle.paxos_world.specs.Writing.{◌▹◌}

-- a replica that is up: its Protocol stage, whose life has the service's state too; its three lanes, the front first; the batch that is being made; and the retransmitter's cursor
pub record Running : Type 0 where
  pub stage : Stage
  pub requests : List Fed
  pub held : Batch
  pub dispatcher : List Item
  pub decisions : List Decision
  pub cursor : ℕ

-- how many items a lane holds
abbrev pub lane_limit : ℕ
lane_limit = 64

-- whether a lane holds as many as it can
abbrev pub is_full : {A : Type 0} → List A → Bool
is_full lane = nat_le lane_limit (length lane)

-- the decisions that acts hand on
abbrev pub handed_by : List Act → List Decision
handed_by [] = []
handed_by (Show step ∷ acts) = handed_by acts
handed_by (Send to m ∷ acts) = handed_by acts
handed_by (Hand d ∷ acts) = d ∷ handed_by acts
handed_by (Save k ∷ acts) = handed_by acts

-- a replica whose life begins: its lanes are empty, and no batch is being made
abbrev pub started : Stage → Running
started stage = record { stage = stage; requests = []; held = []; dispatcher = []; decisions = []; cursor = 0 }

-- ---- The steps of its stages

-- what a step of a stage does
pub data Stepped : Type 0 where
  -- nothing waits in the lane of the stage, or for the Retransmitter no slot is live
  Idle : Stepped
  -- a lane is full in which the step would put an item
  Blocked : Stepped
  -- the replica changes, and nothing is shown or sent
  Quiet : (after : Running) → Stepped
  -- what is shown, sent and handed on, and the replica after it
  Did : (turned : Turned) (after : Running) → Stepped

-- a step, unless a lane has no place for it
abbrev pub unless_full : Bool → Stepped → Stepped
unless_full true step = Blocked
unless_full false step = step

-- the Batcher takes an item with these behind it; the first argument says whether that closes the batch that is being made
abbrev pub batched : Bool → Fed → List Fed → Running → Stepped
batched true fed more a = unless_full (is_full a.dispatcher) (Quiet (record a { requests = more; held = held_after true a.held fed; dispatcher = a.dispatcher ++ Closed a.held ∷ [] }))
batched false fed more a = Quiet (record a { requests = more; held = held_after false a.held fed })

-- the Batcher takes the front item, if there is one
abbrev pub on_batch : List Fed → Running → Stepped
on_batch [] a = Idle
on_batch (fed ∷ more) a = batched (is_closed_by a.held fed) fed more a

-- the Protocol stage takes the front item, and hands on at most as many decisions as the decision lane has places
abbrev pub on_protocol : List Item → Running → Stepped
on_protocol [] a = Idle
on_protocol (item ∷ more) a =
    let t = turn a.stage item (lane_limit - length a.decisions) in
    Did t (record a { stage = t.stage; dispatcher = more; decisions = a.decisions ++ handed_by t.acts })

-- the dispatcher lane with a snapshot of the service behind, where one is taken
abbrev pub with_snapshot : Bool → Stage → List Item → List Item
with_snapshot true stage dispatcher = dispatcher ++ snapshot_of stage.life.service ∷ []
with_snapshot false stage dispatcher = dispatcher

-- the Service stage takes the front decision
abbrev pub on_service : List Decision → Running → Stepped
on_service [] a = Idle
on_service (d ∷ more) a =
    let snaps = makes_snapshot a.stage.life.service d in
    let t = untouched a.stage ▹ serves d in
    unless_full (snaps && is_full a.dispatcher) (Did t (record a { stage = t.stage; decisions = more; dispatcher = with_snapshot snaps t.stage a.dispatcher }))

-- the Retransmitter repeats a message, where a slot is live
abbrev pub repeated : Option (ℕ × Turned) → Running → Stepped
repeated None a = Idle
repeated (Some found) a = Did found.1 (record a { cursor = found.0 })

-- a step of the Batcher
abbrev pub batch_step : Running → Stepped
batch_step a = on_batch a.requests a

-- a step of the Protocol stage
abbrev pub protocol_step : Running → Stepped
protocol_step a = on_protocol a.dispatcher a

-- a step of the Service stage
abbrev pub service_step : Running → Stepped
service_step a = on_service a.decisions a

-- a step of the Retransmitter: it repeats the first live message from its cursor on
abbrev pub retransmit_step : Running → Stepped
retransmit_step a = repeated (retransmit a.stage a.cursor) a

-- What is shown of the steps of a replica.
use Rattle.std.specs.Prelude.{◌≡◌, ◌&&◌, not, ℕ, List, map, Option, Some, None}
use Rattle.paxos_world.specs.Retransmitting as retransmitting
use Rattle.retransmitter.specs.Slots as slots
use Rattle.retransmitter.specs.declared.slots.Slot.{Slot}
use Rattle.retransmitter.specs.declared.outgoing.Outgoing.{Outgoing}
use Rattle.paxos_world.specs.Replica.{Running}
use Rattle.protocol_core.specs.declared.act.Act.{Act}
use Rattle.protocol_core.specs.declared.config.Config.{Config}
use Rattle.protocol_laws.specs.Arming.{model_outgoing}
use Rattle.protocol_stage.specs.Arming.{model_slot}
use Rattle.replica_node.specs.Beginning.{Begins}
use Rattle.replica_node.specs.Following.{FollowsPut, FollowsStart, FollowsStep, MayStep, step_of}
use Rattle.replica_node.specs.Lanes.{after_put, is_full_at, is_kind_of}
use Rattle.replica_node.specs.Resembling.{Resembles}
use Rattle.replica_node.specs.Steps.{Steps}
use Rattle.replica_node.specs.Whole.{Whole}
use Rattle.replica_node.specs.declared.stage.LaneItem.{LaneItem}
use Rattle.replica_node.specs.declared.stage.Stage.{Stage}
use Rattle.replica_node.specs.declared.stage.Stepped.{Stepped}

-- the message that is repeated next is the model's
pub record ClaimsAlike : Type 0 where
  pub none : (all : List Slot) (cursor : ℕ) → slots.next_live all cursor ≡ None → retransmitting.claim (map model_slot all) cursor ≡ None
  pub some : (all : List Slot) (cursor k : ℕ) → slots.next_live all cursor ≡ Some k
      → (o : Outgoing) × (slots.claim_of all k ≡ Some (slots.generation_at all k, o)) × (slots.live_at all k ≡ Some o) × (retransmitting.claim (map model_slot all) cursor ≡ Some (k, model_outgoing o))

-- ---- A replica

-- a step of a replica is the model's
abbrev pub StepsFollow : Type 0
StepsFollow = (at : Stage) (a : Running) (w new : Whole) (answer : Stepped) → Resembles a w → MayStep at a → Steps at w answer new → FollowsStep (step_of at a) a answer new

-- an item that is put in a lane is put in that of the model
abbrev pub PutsFollow : Type 0
PutsFollow =
    (a : Running) (at : Stage) (item : LaneItem) (w : Whole) → Resembles a w
    → FollowsPut a at item (is_kind_of at item && not (is_full_at w.stages at)) (record w { stages = after_put w.stages at item })

-- a replica that began is the model's
abbrev pub StartsFollow : Type 0
StartsFollow = (config : Config) (stored : Option ℕ) (made : Whole) (out : List Act) → Begins config stored made out → FollowsStart config stored made out

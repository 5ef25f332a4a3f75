-- When what a replica does is what the model's replica does.
use Rattle.std.specs.Prelude.{◌≡◌, ℕ, ◌^◌, ◌≤◌, Bool, not, List, [], ◌∷◌, ◌++◌, length, if◌then◌else◌, Option, Some}
use Rattle.kv_service.specs.StateBytes.{state_bytes}
use Rattle.paxos_world.specs.Batching as model_batching
use Rattle.paxos_world.specs.Replica.{Running, is_full, started, Stepped, Idle, Blocked, Quiet, Did, batch_step, protocol_step, service_step, retransmit_step}
use Rattle.paxos_world.specs.Serving.{serves}
use Rattle.paxos_world.specs.Stage.{free_slots, Decision}
use Rattle.paxos_world.specs.Stage as model
use Rattle.paxos_world.specs.Turn.{untouched, Opened, opening}
use Rattle.paxos_world.specs.Writing.{◌▹◌}
use Rattle.protocol_core.specs.declared.act.Act.{Act}
use Rattle.protocol_core.specs.declared.config.Config.{Config}
use Rattle.protocol_laws.specs.Acting.{item_of, model_acts, model_decision}
use Rattle.protocol_laws.specs.Coming.{Comes, SendsFitly}
use Rattle.protocol_stage.specs.Following.{model_config}
use Rattle.turn_laws.specs.Nodes.{DecisionComes}
use Rattle.replica_node.specs.Resembling.{fed_of, model_place, Resembles}
use Rattle.replica_node.specs.Whole.{Whole}
use Rattle.replica_node.specs.declared.stage.LaneItem.{LaneItem}
use Rattle.replica_node.specs.declared.stage.Stage.{Stage}
use Rattle.replica_node.specs.declared.stage.Stage.TheVariants as stage
use Rattle.replica_node.specs.declared.stage.Stepped as code_step
use Rattle.replica_node.specs.declared.stage.Stepped.TheVariants as answer

-- the acts of the model that leave the replica: the steps that it shows, and its messages
abbrev pub leaving : List model.Act → List model.Act
leaving [] = []
leaving (model.Show step ∷ acts) = model.Show step ∷ leaving acts
leaving (model.Send to m ∷ acts) = model.Send to m ∷ leaving acts
leaving (model.Hand decision ∷ acts) = leaving acts
leaving (model.Save number ∷ acts) = leaving acts

-- ---- Starts

-- a replica that began, as life `number` of its replica, is that of the model; these are the acts that leave it
pub record Began (config : Config) (stored : Option ℕ) (number : ℕ) (made : Whole) (out : List Act) : Type 0 where
  pub opened : Opened
  pub opening_is : opening (model_config config) free_slots number stored ≡ Some opened
  pub acts : model_acts out ≡ leaving opened.turned.acts
  pub sends : SendsFitly (model_config config) out
  pub config_is : opened.turned.stage.config ≡ model_config config
  pub resembles : Resembles (started opened.turned.stage) made

-- whichever life of its replica it is
abbrev pub FollowsStart : Config → Option ℕ → Whole → List Act → Type 0
FollowsStart config stored made out = (number : ℕ) → Began config stored number made out

-- ---- Items

-- a lane that is not full takes what is put in it
abbrev pub PutsIn : {A : Type 0} → List A → Running → Running → Bool → Whole → Type 0
PutsIn lane a b took new = (took ≡ not (is_full lane)) × Resembles (if is_full lane then a else b) new

-- an item was put in the lane of a stage: one that it may take, where the lane is for such an item and not full
abbrev pub FollowsPut : Running → Stage → LaneItem → Bool → Whole → Type 0
FollowsPut a stage.Batch (LaneItem.Fed fed) took new =
    (x : model_batching.Fed) → fed_of x ≡ fed → PutsIn a.requests a (record a { requests = a.requests ++ x ∷ [] }) took new
FollowsPut a stage.Protocol (LaneItem.Item item) took new =
    (x : model.Item) → item_of x ≡ item → Comes a.stage x → PutsIn a.dispatcher a (record a { dispatcher = a.dispatcher ++ x ∷ [] }) took new
FollowsPut a stage.Service (LaneItem.Decision decision) took new =
    model_place (model_decision decision) ≤ a.stage.handed → PutsIn a.decisions a (record a { decisions = a.decisions ++ model_decision decision ∷ [] }) took new
FollowsPut a _ _ took new = Resembles a new

-- ---- Steps

-- the model's step of a stage
abbrev pub step_of : Stage → Running → Stepped
step_of stage.Batch a = batch_step a
step_of stage.Protocol a = protocol_step a
step_of stage.Service a = service_step a
step_of stage.Retransmit a = retransmit_step a

-- the front decision is of what the life knows or installed, and the state after it has at most 2^28 bytes
abbrev pub MayServe : Running → List Decision → Type 0
MayServe a [] = Unit {0}
MayServe a (d ∷ more) = DecisionComes a.stage.life d × (length (state_bytes (untouched a.stage ▹ serves d).stage.life.service) ≤ 2 ^ 28)

-- what is asked of a replica where a stage takes a step
abbrev pub MayStep : Stage → Running → Type 0
MayStep stage.Batch a = Unit {0}
MayStep stage.Protocol a = Unit {0}
MayStep stage.Service a = MayServe a a.decisions
MayStep stage.Retransmit a = Unit {0}

-- a step that is done is the model's: these are the acts that leave the replica
abbrev pub IsDone : Stepped → Running → List Act → Whole → Type 0
IsDone Idle a acts new = ⊥
IsDone Blocked a acts new = ⊥
IsDone (Quiet b) a acts new = (acts ≡ []) × (b.stage.config ≡ a.stage.config) × Resembles b new
IsDone (Did t b) a acts new = (model_acts acts ≡ leaving t.acts) × SendsFitly a.stage.config acts × (b.stage.config ≡ a.stage.config) × Resembles b new

-- a step that answers so is the model's, unless it failed. A replica of the model is up, so that no earlier step failed
abbrev pub FollowsStep : Stepped → Running → code_step.Stepped → Whole → Type 0
FollowsStep step a (answer.Done acts) new = IsDone step a acts new
FollowsStep step a answer.Empty new = (step ≡ Idle) × Resembles a new
FollowsStep step a answer.Full new = (step ≡ Blocked) × Resembles a new
FollowsStep step a answer.Down new = ⊥
FollowsStep step a answer.StoreFault new = Unit {0}
FollowsStep step a answer.NoMemory new = Unit {0}

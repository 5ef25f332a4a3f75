-- A replica's Protocol stage in a world in which the other replicas take the steps that they may, and when all that it does is lawful.
use Rattle.std.specs.Prelude.{◌≡◌, ◌≢◌, ℕ, suc, ◌≤◌, ◌<◌, List, [], ◌∷◌, Some, None}
use Rattle.std.specs.Option.{option_map_or}
use Rattle.kv_service.specs.Service.{State}
use Rattle.kv_service.specs.StateBytes.{state_bytes}
use Rattle.jp_types.specs.Views.{number_limit}
use Rattle.jp_types.specs.Lists.{In}
use Rattle.paxos_world.specs.Setup.{Setup}
use Rattle.paxos_world.specs.Life.{LifeId, Life}
use Rattle.jp_types.specs.Instances.{Batch}
use Rattle.paxos_world.specs.World.{World, Sent, Deed, Launch, Install, Execute, CanRejoin, Move, Allowed, who, after}
use Rattle.paxos_world.specs.World as world
use Rattle.paxos_world.specs.Trace.{IsRun, end_of}
use Rattle.paxos_world.specs.Stage.{Config, setup_of, free_slots, Stage, Item, Came, Closed, Tick, Suspect, Snapped, Decision, Decided, Installed, Act, Show, Send, Hand, Save, Turned}
use Rattle.paxos_world.specs.Writing.{◌▹◌}
use Rattle.paxos_world.specs.Serving.{serves}
use Rattle.paxos_world.specs.Turn.{untouched, turn, retransmit, Opened, opening, moves_of, opening_moves}
use Rattle.paxos_world.specs.Shown.{shown_along, sends_along, shown_in}
use Rattle.jp_types.specs.Limits.{IsBatch}
use Rattle.turn_laws.specs.Limits.{IsState}

-- ---- What acts do

-- the messages that acts of a life send
abbrev pub sent_by : LifeId → List Act → List Sent
sent_by from [] = []
sent_by from (Show step ∷ acts) = sent_by from acts
sent_by from (Send to m ∷ acts) = record { from = from; to = to; message = m } ∷ sent_by from acts
sent_by from (Hand d ∷ acts) = sent_by from acts
sent_by from (Save k ∷ acts) = sent_by from acts

-- the decisions that acts hand on
abbrev pub handed_by : List Act → List Decision
handed_by [] = []
handed_by (Show step ∷ acts) = handed_by acts
handed_by (Send to m ∷ acts) = handed_by acts
handed_by (Hand d ∷ acts) = d ∷ handed_by acts
handed_by (Save k ∷ acts) = handed_by acts

-- m is the life l later on: what it knew, had and installed stays
pub record Onward (l m : Life) : Type 0 where
  pub known : (i : ℕ) (batch : Batch) → l.known i ≡ Some batch → m.known i ≡ Some batch
  pub states : (x : State) → In x l.states → In x m.states
  pub installed : (x : State) → In x l.installed → In x m.installed

-- ---- What may come next

-- an item may come to the stage of a life of r: a message that was sent to r, a batch within the limits, a tick, a suspicion, or a snapshot of a state that its service had
abbrev pub ItemComes : World → ℕ → Life → Item → Type 0
ItemComes w r l (Came from message) = In (record { from = from; to = r; message = message }) w.sent
ItemComes w r l (Closed batch) = IsBatch batch
ItemComes w r l Tick = Unit {0}
ItemComes w r l Suspect = Unit {0}
ItemComes w r l (Snapped upto bytes) = (state : State) × In state l.states × (state.executed ≡ upto) × (bytes ≡ state_bytes state)

-- a decision may come to the service of a life: a batch that it knows, or a state that it installed
abbrev pub DecisionComes : Life → Decision → Type 0
DecisionComes l (Decided i batch) = l.known i ≡ Some batch
DecisionComes l (Installed upto state) = In state l.installed × (state.executed ≡ upto)

-- what a life launches and installs is within the limits, and it executes no instance at the limit or above
abbrev pub KeepsLimits : Life → Deed → Type 0
KeepsLimits l (Launch view i batch) = IsBatch batch
KeepsLimits l (Install upto state) = IsState state
KeepsLimits l (Execute i) = l.service.executed < number_limit
KeepsLimits l _ = Unit {0}

-- a step of the world keeps to these limits
abbrev pub MoveKeepsLimits : World → Move → Type 0
MoveKeepsLimits w (world.Act r d) = (l : Life) → (w.replicas r).running ≡ Some l → KeepsLimits l d
MoveKeepsLimits w _ = Unit {0}

-- steps of the world, each of which is allowed where it comes and keeps to the limits
abbrev pub IsLimitedRun : Setup → World → List Move → Type 0
IsLimitedRun c w [] = Unit {0}
IsLimitedRun c w (m ∷ ms) = Allowed c w m × MoveKeepsLimits w m × IsLimitedRun c (after c w m) ms

-- a replica's stage and the world that it is in
pub record Node : Type 0 where
  pub world : World
  pub stage : Stage

-- what happens next: steps of the other replicas, a turn of the stage, a step of its service, or a retransmission
pub data Next : Type 0 where
  Others : (moves : List Move) → Next
  Turns : (item : Item) (room : ℕ) → Next
  Serves : (decision : Decision) → Next
  Repeats : (cursor : ℕ) → Next

-- whether it may happen
abbrev pub MayCome : Config → Node → Next → Type 0
MayCome c n (Others moves) = IsLimitedRun (setup_of c) n.world moves × ((m : Move) → In m moves → who m ≢ c.me)
MayCome c n (Turns item room) = ItemComes n.world c.me n.stage.life item
MayCome c n (Serves decision) = DecisionComes n.stage.life decision
MayCome c n (Repeats cursor) = Unit {0}

-- what the stage does
abbrev pub turned_by : Stage → Next → Turned
turned_by s (Others moves) = untouched s
turned_by s (Turns item room) = turn s item room
turned_by s (Serves decision) = untouched s ▹ serves decision
turned_by s (Repeats cursor) = option_map_or (λ found. found.1) (retransmit s cursor) (untouched s)

-- the steps of the world that this makes
abbrev pub moves_by : Config → Stage → Next → List Move
moves_by c s (Others moves) = moves
moves_by c s next = moves_of c.me (turned_by s next).deeds

-- the stage and its world after it
abbrev pub node_after : Config → Node → Next → Node
node_after c n next = record { world = end_of (setup_of c) n.world (moves_by c n.stage next); stage = (turned_by n.stage next).stage }

-- ---- What is lawful

-- what happens next is lawful
pub record IsLawful (c : Config) (n : Node) (next : Next) : Type 0 where
  -- each step of the world is allowed where it comes
  pub run : IsRun (setup_of c) n.world (moves_by c n.stage next)
  -- in the world after them the stage's life runs, and the number on its disk is the stable one
  pub running : ((node_after c n next).world.replicas c.me).running ≡ Some (node_after c n next).stage.life
  pub stable : ((node_after c n next).world.replicas c.me).stable ≡ Some (node_after c n next).stage.stable
  -- the acts send the messages that the replica's own steps add, and show these steps
  pub sends : sent_by (record { replica = c.me; number = n.stage.life.number }) (turned_by n.stage next).acts ≡ sends_along (setup_of c) n.world (moves_of c.me (turned_by n.stage next).deeds)
  pub shows : shown_in (turned_by n.stage next).acts ≡ shown_along (setup_of c) n.world (moves_of c.me (turned_by n.stage next).deeds)
  -- the decisions that are handed on may come to the service, what the life knew and had stays, and its service's state is one that it had
  pub handed : (d : Decision) → In d (handed_by (turned_by n.stage next).acts) → DecisionComes (turned_by n.stage next).stage.life d
  pub onward : Onward n.stage.life (turned_by n.stage next).stage.life
  pub served : In (turned_by n.stage next).stage.life.service (turned_by n.stage next).stage.life.states
  -- the life does not meet the condition of Rejoin, for any view: where it did, it has rejoined
  pub settled : (view : ℕ) → ¬ CanRejoin (setup_of c) c.me (turned_by n.stage next).stage.life view

-- each of these may happen, one after another
abbrev pub MayAllCome : Config → Node → List Next → Type 0
MayAllCome c n [] = Unit {0}
MayAllCome c n (next ∷ more) = MayCome c n next × MayAllCome c (node_after c n next) more

-- each of these is lawful, one after another
abbrev pub AreLawful : Config → Node → List Next → Type 0
AreLawful c n [] = Unit {0}
AreLawful c n (next ∷ more) = IsLawful c n next × AreLawful c (node_after c n next) more

-- a replica that is down in a world starts so
pub record Starts (c : Config) (w : World) (o : Opened) : Type 0 where
  pub down : (w.replicas c.me).running ≡ None
  pub opens : opening c free_slots (suc (w.replicas c.me).starts) (w.replicas c.me).stable ≡ Some o

-- the stage of a start in the world after it
abbrev pub node_of : Config → World → Opened → Node
node_of c w o = record { world = end_of (setup_of c) w (opening_moves c.me o); stage = o.turned.stage }

-- a start is lawful: each step of the world is allowed where it comes; in the world after them its life runs and its number is the stable one; its acts send the messages that the steps add, and show the steps; and its life does not meet the condition of Rejoin
pub record IsLawfulStart (c : Config) (w : World) (o : Opened) : Type 0 where
  pub run : IsRun (setup_of c) w (opening_moves c.me o)
  pub running : ((node_of c w o).world.replicas c.me).running ≡ Some o.turned.stage.life
  pub stable : ((node_of c w o).world.replicas c.me).stable ≡ Some o.turned.stage.stable
  pub sends : sent_by (record { replica = c.me; number = suc (w.replicas c.me).starts }) o.turned.acts ≡ sends_along (setup_of c) w (opening_moves c.me o)
  pub shows : shown_in o.turned.acts ≡ shown_along (setup_of c) w (opening_moves c.me o)
  pub served : In o.turned.stage.life.service o.turned.stage.life.states
  pub settled : (view : ℕ) → ¬ CanRejoin (setup_of c) c.me o.turned.stage.life view

-- after any steps of the world within the limits, each start of a replica is lawful, and so is all that it does after it, one thing after another, each of which may happen
abbrev pub NodesAreLawful : Type 0
NodesAreLawful =
    (c : Config) → c.me < c.n → 2 ≤ c.n → (before : List Move) → IsLimitedRun (setup_of c) world.opening before
    → (o : Opened) → Starts c (end_of (setup_of c) world.opening before) o
    → IsLawfulStart c (end_of (setup_of c) world.opening before) o
    × ((nexts : List Next) → MayAllCome c (node_of c (end_of (setup_of c) world.opening before) o) nexts → AreLawful c (node_of c (end_of (setup_of c) world.opening before) o) nexts)

-- The state of a replica's Protocol stage, the items that it takes, and what it does.
use Rattle.std.specs.Prelude.{ℕ, Bool, List, [], replicate, Option, None}
use Rattle.jp_types.specs.declared.message.Message.{Message}
use Rattle.jp_types.specs.declared.mode.Mode.{Mode}
use Rattle.kv_service.specs.Service.{State}
use Rattle.kv_service.specs.StateBytes.{state_bytes}
use Rattle.paxos_world.specs.declared.step.Step.{Step}
use Rattle.paxos_world.specs.Setup.{Setup}
use Rattle.paxos_world.specs.Life.{LifeId, Life}
use Rattle.jp_types.specs.Instances.{Batch}
use Rattle.paxos_world.specs.World.{Deed}
use Rattle.kv_service.specs.Parts.{Joiner}

-- the constants of one replica: how many there are, which one it is, the recovery mode, and the window of parallel instances
pub record Config : Type 0 where
  pub n : ℕ
  pub me : ℕ
  pub mode : Mode
  pub window : ℕ

-- the constants of the run, in which a state's bytes are `state_bytes`
abbrev pub setup_of : Config → Setup
setup_of c = record { n = c.n; mode = c.mode; encode = state_bytes }

-- a message and the replicas that it goes to, ascending
pub record Outgoing : Type 0 where
  pub message : Message
  pub to : List ℕ

-- a slot of the retransmitter: how often it was armed, and what it repeats, if it is live
pub record Slot : Type 0 where
  pub generation : ℕ
  pub live : Option Outgoing

-- by what an armed message is cancelled: its slot, and the slot's generation as it was armed
pub record Armed : Type 0 where
  pub slot : ℕ
  pub generation : ℕ

-- how many slots there are
abbrev pub slot_count : ℕ
slot_count = 256

-- the slots of a new retransmitter, all free
unfoldable pub free_slots : List Slot
free_slots = replicate slot_count (record { generation = 0; live = None })

-- a note that a replica accepted an instance in a view, with the batch where the note comes from a Propose or an own Launch
pub record Note : Type 0 where
  pub instance : ℕ
  pub view : ℕ
  pub replica : ℕ
  pub batch : Option Batch

-- the newest snapshot: the bytes of the service's state after all instances below the place. It came by an Install or from the replica's own service
pub record Snapshot : Type 0 where
  pub place : ℕ
  pub bytes : List ℕ
  pub installed : Bool

-- the state of a Protocol stage
pub record Stage : Type 0 where
  pub config : Config
  pub life : Life
  -- the number that its disk holds
  pub stable : ℕ
  -- instances below it are known, and are no longer in the log
  pub base : ℕ
  -- one more than the highest instance that a message has shown, or a bound that a message told
  pub horizon : ℕ
  -- ticks without a message from the view's leader, counted up to 10 by a Working life that does not lead
  pub quiet : ℕ
  -- the queries sent, modulo n - 1
  pub queries : ℕ
  -- the closed batches that wait to be proposed, the first in front
  pub waiting : List Batch
  -- acceptances, each noted while its instance was in span and not known, the newest first
  pub noted : List Note
  -- the newest snapshot that it holds
  pub newest : Option Snapshot
  pub joiner : Option Joiner
  -- instances below it were handed to the service, as decisions or inside an installed state
  pub handed : ℕ
  pub slots : List Slot
  pub armed_prepare : Option Armed
  pub armed_recovery : Option Armed
  pub armed_query : Option Armed
  -- of each instance whose Propose is armed, the newest first
  pub armed_proposes : List (ℕ × Armed)

-- the stage of a new life, whose retransmitter has these slots and whose disk holds this number
abbrev pub new_stage : Config → List Slot → Life → ℕ → Stage
new_stage c slots life stable =
    record {
      config = c;
      life = life;
      stable = stable;
      base = 0;
      horizon = 0;
      quiet = 0;
      queries = 0;
      waiting = [];
      noted = [];
      newest = None;
      joiner = None;
      handed = 0;
      slots = slots;
      armed_prepare = None;
      armed_recovery = None;
      armed_query = None;
      armed_proposes = [];
    }

-- what the stage takes
pub data Item : Type 0 where
  -- a message, with the life that sent it
  Came : (from : LifeId) (message : Message) → Item
  -- a batch that the Batcher closed
  Closed : (batch : Batch) → Item
  -- a tick of the clock, and a suspicion of the leader
  Tick Suspect : Item
  -- a snapshot of its own service: the place and the bytes of the state
  Snapped : (upto : ℕ) (bytes : List ℕ) → Item

-- what is handed to the Service stage: the batch of an instance, or a state that was installed
pub data Decision : Type 0 where
  Decided : (instance : ℕ) (batch : Batch) → Decision
  Installed : (upto : ℕ) (state : State) → Decision

-- an act of the stage
pub data Act : Type 0 where
  -- makes a step that the text of the run shows
  Show : (step : Step) → Act
  Send : (to : ℕ) (message : Message) → Act
  -- hands a decision to the Service stage
  Hand : (decision : Decision) → Act
  -- saves the stable number to the disk
  Save : (number : ℕ) → Act

-- a turn so far: the stage, its acts in order, and what its life did as steps of the world, in order
pub record Turned : Type 0 where
  pub stage : Stage
  pub acts : List Act
  pub deeds : List Deed

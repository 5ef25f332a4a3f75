-- Machines, each with a disk in memory, and the replicas that are up on them.
use Rattle.std.specs.Prelude.{◌≡◌, ◌||◌, ℕ, Bool, true, false, List, [], replicate, if◌then◌else◌, Option, Some, None}
use Rattle.stable_store.specs.Slots.{Loads, held, slots_in}
use Rattle.batcher.specs.declared.fed.Fed.{Fed}
use Rattle.paxos_world.specs.Counting.{is_recovering}
use Rattle.protocol_core.specs.declared.act.Act.{Act}
use Rattle.protocol_core.specs.declared.config.Config.{Config}
use Rattle.protocol_core.specs.declared.item.Item.{Item}
use Rattle.protocol_stage.specs.declared.protocol.StartFault.{StartFault}
use Rattle.protocol_core.specs.Starting.{opening}
use Rattle.protocol_core.specs.Turned.{Turned}
use Rattle.paxos_world.specs.declared.last.Last.{Last}
use Rattle.replica_node.specs.declared.stage.LaneItem.{LaneItem}
use Rattle.replica_node.specs.declared.stage.Stage.{Stage}
use Rattle.replica_node.specs.declared.stage.Stage.TheVariants as stage
use Rattle.replica_node.specs.declared.stage.Stepped.{Stepped}
use Rattle.replica_node.specs.declared.stage.Stepped.TheVariants as answer
use Rattle.replica_node.specs.Beginning.{Begins}
use Rattle.replica_node.specs.Lanes.{is_full_at, after_put}
use Rattle.replica_node.specs.Steps.{Steps}
use Rattle.replica_node.specs.Whole.{Whole}
use Rattle.schedules.specs.declared.line.Word.{Word}
use Rattle.schedules.specs.declared.line.Word.TheVariants.{Done, Empty, Full, Down, Up}
use Rattle.cluster.specs.Machine.{Machine}

-- how many bytes a disk has
abbrev pub disk_length : ℕ
disk_length = 18

-- a machine before its replica's first start: its disk has zero bytes
abbrev pub fresh_machine : Machine
fresh_machine = record { disk = replicate disk_length 0; running = None }

-- ---- Lanes

-- the word for an item for the lane of a stage
abbrev pub word_for_item : Option Whole → Stage → Word
word_for_item None at = Down
word_for_item (Some a) at = if is_full_at a.stages at then Full else Done

-- a replica with an item in the lane of a stage, where that has a place
abbrev pub with_lane_item : Stage → LaneItem → Whole → Whole
with_lane_item at item a = record a { stages = after_put a.stages at item }

-- whether the request lane or the dispatcher lane of a replica is full
abbrev pub has_full_lane : Whole → Bool
has_full_lane a = is_full_at a.stages stage.Batch || is_full_at a.stages stage.Protocol

-- a replica with a tick in the request lane and in the dispatcher lane
abbrev pub with_tick : Whole → Whole
with_tick a = with_lane_item stage.Protocol (LaneItem.Item Item.Tick) (with_lane_item stage.Batch (LaneItem.Fed Fed.Tick) a)

-- the word for a tick
abbrev pub word_for_tick : Option Whole → Word
word_for_tick None = Down
word_for_tick (Some a) = if has_full_lane a then Full else Done

-- what is up after a tick: both lanes have it, or neither
abbrev pub after_tick : Option Whole → Option Whole
after_tick None = None
after_tick (Some a) = Some (if has_full_lane a then a else with_tick a)

-- ---- Steps

-- the word that answers a step, and what the replica did. A step that fails is not answered
abbrev pub IsAnswered : Stepped → Word → List Act → Type 0
IsAnswered (answer.Done done) word acts = (word ≡ Done) × (acts ≡ done)
IsAnswered answer.Empty word acts = (word ≡ Empty) × (acts ≡ [])
IsAnswered answer.Full word acts = (word ≡ Full) × (acts ≡ [])
IsAnswered answer.Down word acts = ⊥
IsAnswered answer.StoreFault word acts = ⊥
IsAnswered answer.NoMemory word acts = ⊥

-- the answers to a step for which memory is wanted, or was at an earlier one
abbrev pub IsWanting : Stepped → Type 0
IsWanting (answer.Done done) = ⊥
IsWanting answer.Empty = ⊥
IsWanting answer.Full = ⊥
IsWanting answer.Down = Unit {0}
IsWanting answer.StoreFault = ⊥
IsWanting answer.NoMemory = Unit {0}

-- whether a step is done, or takes nothing
abbrev pub is_answered : Stepped → Bool
is_answered (answer.Done done) = true
is_answered answer.Empty = true
is_answered answer.Full = true
is_answered answer.Down = false
is_answered answer.StoreFault = false
is_answered answer.NoMemory = false

-- the disk after a step of a stage that left the replica so: the Protocol stage leaves the stable number of its life on it, and no other stage touches it
abbrev pub KeepsDisk : Stage → List ℕ → Whole → List ℕ → Type 0
KeepsDisk stage.Batch old a new = new ≡ old
KeepsDisk stage.Protocol old a new = Loads new (Some a.stages.protocol.life.stable)
KeepsDisk stage.Service old a new = new ≡ old
KeepsDisk stage.Retransmit old a new = new ≡ old

-- a stage of the replica that is up on a machine takes a step
pub record StepsOn (at : Stage) (m : Machine) (a : Whole) (word : Word) (acts : List Act) (new : Machine) : Type 0 where
  pub stepped : Stepped
  pub after : Whole
  pub does : Steps at a stepped after
  pub answered : IsAnswered stepped word acts
  pub up : new.running ≡ Some after
  pub disk : KeepsDisk at m.disk after new.disk

-- nothing is done on a machine
abbrev pub StaysAt : Word → Machine → Word → List Act → Machine → Type 0
StaysAt why m word acts new = (word ≡ why) × (acts ≡ []) × (new ≡ m)

-- a stage of what is up on a machine takes a step
abbrev pub StepsIf : Stage → Machine → Option Whole → Word → List Act → Machine → Type 0
StepsIf at m None word acts new = StaysAt Down m word acts new
StepsIf at m (Some a) word acts new = StepsOn at m a word acts new

-- ---- Lives

-- the number that a disk holds, if any
abbrev pub stored_on : List ℕ → Option ℕ
stored_on disk = held (slots_in disk)

-- why no life begins over a disk in memory: it holds the last number that there is, and still holds it, or memory is wanted
abbrev pub NotBegun : Config → List ℕ → StartFault → List ℕ → Type 0
NotBegun config before StartFault.StoreFault after = ⊥
NotBegun config before (StartFault.Damaged count) after = ⊥
NotBegun config before (StartFault.Spent number) after =
    (opening config (stored_on before) ≡ None) × (stored_on before ≡ Some number) × (stored_on after ≡ Some number)
NotBegun config before StartFault.NoMemory after = Unit {0}

-- a life begins on a machine, from the number that its disk holds; the disk then holds the life's stable number
pub record BeginsOn (config : Config) (m : Machine) (word : Word) (acts : List Act) (new : Machine) : Type 0 where
  pub a : Whole
  pub begins : Begins config (stored_on m.disk) a acts
  pub up : new.running ≡ Some a
  pub disk : Loads new.disk (Some a.stages.protocol.life.stable)
  pub word_is : word ≡ Done

-- no life begins on a machine, and its disk holds the number that it held
pub record BeginsNot (m : Machine) (word : Word) (acts : List Act) (new : Machine) : Type 0 where
  pub down : new.running ≡ None
  pub number : stored_on new.disk ≡ stored_on m.disk
  pub word_is : word ≡ Down
  pub acts_are : acts ≡ []

-- the next life begins on a machine, where there is one to begin
abbrev pub BeginsBy : Option Turned → Config → Machine → Word → List Act → Machine → Type 0
BeginsBy None config m word acts new = BeginsNot m word acts new
BeginsBy (Some opened) config m word acts new = BeginsOn config m word acts new

-- the next life begins on a machine on which no replica is up
abbrev pub StartsOn : Config → Machine → Option Whole → Word → List Act → Machine → Type 0
StartsOn config m None word acts new = BeginsBy (opening config (stored_on m.disk)) config m word acts new
StartsOn config m (Some a) word acts new = StaysAt Up m word acts new

-- what a replica ends with, None where it is down
abbrev pub last_of : Option Whole → Option Last
last_of None = None
last_of (Some a) = Some (record { phase = a.stages.protocol.life.phase; view = a.stages.protocol.life.view; state = a.stages.service })

-- whether a replica is down or Recovering
abbrev pub is_away_by : Option Whole → Bool
is_away_by None = true
is_away_by (Some a) = is_recovering a.stages.protocol.life.phase

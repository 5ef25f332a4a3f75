-- What happens at a line of a schedule, where each replica runs on a machine of its own.
use Rattle.std.specs.Prelude.{◌≡◌, ℕ, zero, suc, List, [], ◌∷◌, ◌++◌, length, replicate, if◌then◌else◌, Option, Some, None, slice_get, slice_set, map}
use Rattle.paxos_world.specs.declared.step.Step.{Step}
use Rattle.batcher.specs.declared.fed.Fed.{Fed}
use Rattle.protocol_core.specs.declared.act.Act.{Act}
use Rattle.protocol_core.specs.declared.config.Config.{Config}
use Rattle.protocol_core.specs.declared.item.Item.{Item}
use Rattle.paxos_world.specs.declared.last.Last.{Last}
use Rattle.replica_node.specs.declared.stage.LaneItem.{LaneItem}
use Rattle.replica_node.specs.declared.stage.Stage.{Stage}
use Rattle.replica_node.specs.declared.stage.Stage.TheVariants as stage
use Rattle.replica_node.specs.Lanes.{is_full_at}
use Rattle.replica_node.specs.Whole.{Whole}
use Rattle.schedules.specs.declared.event.Event.{Event}
use Rattle.schedules.specs.declared.line.Head.{Head}
use Rattle.schedules.specs.declared.line.Line.{Line}
use Rattle.schedules.specs.declared.line.Word.{Word}
use Rattle.schedules.specs.declared.line.Word.TheVariants.{Done, Full, Down, Up, Unsent}
use Rattle.cluster.specs.Machine.{Machine}
use Rattle.cluster.specs.declared.sent.Sent.{Sent}
use Rattle.cluster.specs.Frames.{addressed, shown_by, sent_by}
use Rattle.cluster.specs.Machines.{fresh_machine, with_lane_item, has_full_lane, with_tick, StepsOn, StartsOn, last_of}

-- a run between two lines: its constants, its machines, and all messages ever sent, the oldest first
pub record Stepping : Type 0 where
  pub head : Head
  pub machines : List Machine
  pub sent : List Sent

-- what comes of a line: the word that answers it, the steps that it shows, and the run after it
pub record Outcome : Type 0 where
  pub word : Word
  pub steps : List Step
  pub after : Stepping

-- a run before the first starts
abbrev pub fresh : Head → Stepping
fresh head = record { head = head; machines = replicate head.n fresh_machine; sent = [] }

-- what is up on a machine, if there is such a machine and a replica is up on it
abbrev pub up_on : Option Machine → Option Whole
up_on None = None
up_on (Some m) = m.running

-- the replica of a number, if it is up
abbrev pub replica_at : Stepping → ℕ → Option Whole
replica_at s r = up_on (slice_get s.machines r)

-- machine r is this one from now on
abbrev pub with_machine : Stepping → ℕ → Machine → Stepping
with_machine s r m = record s { machines = slice_set s.machines r m }

-- the constants of replica r
pub record IsConfigAt (head : Head) (r : ℕ) (config : Config) : Type 0 where
  pub n_is : config.n ≡ head.n
  pub me_is : config.me ≡ r
  pub mode_is : config.mode ≡ head.mode
  pub window_is : config.window ≡ head.window

-- ---- Outcomes

-- a line is answered by this word, and nothing changes
abbrev pub refused : Word → Stepping → Outcome
refused word s = record { word = word; steps = []; after = s }

-- something is done on machine r that shows nothing
abbrev pub quietly : Stepping → ℕ → Machine → Outcome
quietly s r m = record { word = Done; steps = []; after = with_machine s r m }

-- replica r does this, with this answer: its steps are shown, and its messages are sent
abbrev pub acted : Stepping → ℕ → Word → List Act → Machine → Outcome
acted s r word acts m =
    record {
      word = word;
      steps = shown_by (length s.sent) acts;
      after = record { head = s.head; machines = slice_set s.machines r m; sent = s.sent ++ sent_by r acts };
    }

-- what is said of the replica that is up on a machine; where none is, the line is answered `down`
abbrev pub OnUp : (Machine → Whole → Outcome → Type 0) → Stepping → Machine → Option Whole → Outcome → Type 0
OnUp P s m None o = o ≡ refused Down s
OnUp P s m (Some a) o = P m a o

-- the same of a machine, if there is such a one
abbrev pub OnMachine : (Machine → Whole → Outcome → Type 0) → Stepping → Option Machine → Outcome → Type 0
OnMachine P s None o = o ≡ refused Down s
OnMachine P s (Some m) o = OnUp P s m m.running o

-- the same of replica r
abbrev pub AtUp : (Machine → Whole → Outcome → Type 0) → Stepping → ℕ → Outcome → Type 0
AtUp P s r o = OnMachine P s (slice_get s.machines r) o

-- ---- What each line does

-- an item is put in the lane of a stage of replica r
abbrev pub puts : Stage → LaneItem → Stepping → ℕ → Machine → Whole → Outcome
puts at item s r m a = if is_full_at a.stages at then refused Full s else quietly s r (record m { running = Some (with_lane_item at item a) })

-- the same, where it is up
abbrev pub Puts : Stage → LaneItem → Stepping → ℕ → Outcome → Type 0
Puts at item s r o = AtUp (λ m a o. o ≡ puts at item s r m a) s r o

-- a tick is put in the request lane and in the dispatcher lane of replica r
abbrev pub ticks : Stepping → ℕ → Machine → Whole → Outcome
ticks s r m a = if has_full_lane a then refused Full s else quietly s r (record m { running = Some (with_tick a) })

-- the life of replica r ends, and the disk stays
abbrev pub crashes : Stepping → ℕ → Machine → Whole → Outcome
crashes s r m a = record { word = Done; steps = Step.Crash r ∷ []; after = with_machine s r (record m { running = None }) }

-- what is done on machine r, its steps and its messages
pub record Acts (P : Word → List Act → Machine → Type 0) (s : Stepping) (r : ℕ) (o : Outcome) : Type 0 where
  pub word : Word
  pub acts : List Act
  pub machine : Machine
  pub does : P word acts machine
  pub comes : o ≡ acted s r word acts machine

-- a stage of replica r takes a step, where it is up
abbrev pub Takes : Stage → Stepping → ℕ → Outcome → Type 0
Takes at s r o = AtUp (λ m a o. Acts (StepsOn at m a) s r o) s r o

-- a message is put in the dispatcher lane of replica r, if there is one to it
abbrev pub Delivers : Option Sent → Stepping → ℕ → Outcome → Type 0
Delivers None s r o = o ≡ refused Unsent s
Delivers (Some m) s r o = Puts stage.Protocol (LaneItem.Item (Item.Message m.from m.message)) s r o

-- the next life begins on a machine, if there is such a one
abbrev pub StartsIf : Stepping → ℕ → Option Machine → Outcome → Type 0
StartsIf s r None o = o ≡ refused Up s
StartsIf s r (Some m) o = (config : Config) × (IsConfigAt s.head r config × Acts (StartsOn config m m.running) s r o)

-- the next life of replica r begins, where it is down
abbrev pub Starts : Stepping → ℕ → Outcome → Type 0
Starts s r o = StartsIf s r (slice_get s.machines r) o

-- ---- Lines

-- what comes of a line after the first
abbrev pub ComesOf : Line → Stepping → Outcome → Type 0
ComesOf (Line.Cluster head) s o = o ≡ refused Done s
ComesOf (Line.Request r request) s o = Puts stage.Batch (LaneItem.Fed (Fed.Request request)) s r o
ComesOf (Line.Batch r) s o = Takes stage.Batch s r o
ComesOf (Line.Tick r) s o = AtUp (λ m a o. o ≡ ticks s r m a) s r o
ComesOf (Line.Suspect r) s o = Puts stage.Protocol (LaneItem.Item Item.Suspect) s r o
ComesOf (Line.Deliver r m) s o = Delivers (addressed r (slice_get s.sent m)) s r o
ComesOf (Line.Protocol r) s o = Takes stage.Protocol s r o
ComesOf (Line.Service r) s o = Takes stage.Service s r o
ComesOf (Line.Retransmit r) s o = Takes stage.Retransmit s r o
ComesOf (Line.Crash r) s o = AtUp (λ m a o. o ≡ crashes s r m a) s r o
ComesOf (Line.Start r) s o = Starts s r o
ComesOf Line.End s o = o ≡ refused Done s

-- what an event shows, and the run after it
abbrev pub outcome_of : Event → Stepping → Outcome
outcome_of e after = record { word = e.word; steps = e.steps; after = after }

-- a line after the first has this event, and leaves the run so
abbrev pub Happens : Stepping → Line → Event → Stepping → Type 0
Happens s line e after = (e.line ≡ line) × ComesOf line s (outcome_of e after)

-- a replica starts after others have, and its steps are shown behind theirs
pub record StartsNext (before : Stepping) (shown : List Step) (r : ℕ) (steps : List Step) (after : Stepping) : Type 0 where
  pub o : Outcome
  pub starts : Starts before r o
  pub steps_are : steps ≡ shown ++ o.steps
  pub after_is : after ≡ o.after

-- the first starts of the k least replicas, in order, and the steps that they show
abbrev pub FirstStarts : ℕ → Stepping → List Step → Stepping → Type 0
FirstStarts zero s steps after = (steps ≡ []) × (after ≡ s)
FirstStarts (suc k) s steps after =
    (before : Stepping) × ((shown : List Step) × (FirstStarts k s shown before × StartsNext before shown k steps after))

-- the first line has this event, and leaves the run so
pub record Opens (head : Head) (e : Event) (after : Stepping) : Type 0 where
  pub line : e.line ≡ Line.Cluster head
  pub word : e.word ≡ Done
  pub starts : FirstStarts head.n (fresh head) e.steps after

-- what each replica ends with, None for one that is down
abbrev pub lasts_of : List Machine → List (Option Last)
lasts_of machines = map (λ m. last_of m.running) machines

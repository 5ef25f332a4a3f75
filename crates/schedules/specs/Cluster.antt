-- The state of a cluster between two lines of a schedule.
use Rattle.std.specs.Prelude.{ℕ, suc, List, [], ◌∷◌, replicate, Option, Some, None, slice_set}
use Rattle.jp_types.specs.declared.message.Message.{Message}
use Rattle.paxos_world.specs.declared.step.Step.{Step}
use Rattle.paxos_world.specs.Life.{LifeId}
use Rattle.paxos_world.specs.World.{Sent, Move}
use Rattle.paxos_world.specs.Stage.{Config, Act, Show, Send, Hand, Save}
use Rattle.paxos_world.specs.Replica.{Running}
use Rattle.schedules.specs.declared.line.Head.{Head}
use Rattle.schedules.specs.declared.line.Word.{Word}

-- a replica: how often it started, the number that its disk holds, and what runs, if it is up
pub record Place : Type 0 where
  pub starts : ℕ
  pub stable : Option ℕ
  pub running : Option Running

-- a cluster: its constants, its replicas, and all messages ever sent, the oldest first
pub record Cluster : Type 0 where
  pub head : Head
  pub places : List Place
  pub sent : List Sent

-- what happens at a line: the word that answers it, the steps that its event shows, the steps of the world that it makes, and the cluster after it
pub record Happened : Type 0 where
  pub word : Word
  pub steps : List Step
  pub moves : List Move
  pub cluster : Cluster

-- the constants of replica r
abbrev pub config_of : Head → ℕ → Config
config_of head r = record { n = head.n; me = r; mode = head.mode; window = head.window }

-- a replica before its first start
abbrev pub fresh_place : Place
fresh_place = record { starts = 0; stable = None; running = None }

-- a cluster before its first starts
abbrev pub fresh_cluster : Head → Cluster
fresh_cluster head = record { head = head; places = replicate head.n fresh_place; sent = [] }

-- what runs at a replica, if it is up
abbrev pub running_of : Option Place → Option Running
running_of None = None
running_of (Some place) = place.running

-- the replica after what runs there changed
abbrev pub with_running : Running → Place → Place
with_running running place = record place { stable = Some running.stage.stable; running = Some running }

-- the cluster with this replica in its place
abbrev pub set_place : Cluster → ℕ → Place → Cluster
set_place c r place = record c { places = slice_set c.places r place }

-- a message's kind
abbrev pub kind_of : Message → ℕ
kind_of (Message.Prepare m) = 1
kind_of (Message.PrepareOk m) = 2
kind_of (Message.Propose m) = 3
kind_of (Message.Accept m) = 4
kind_of (Message.Recovery m) = 5
kind_of (Message.RecoveryAnswer m) = 6
kind_of (Message.CatchUpQuery m) = 7
kind_of (Message.CatchUpReply m) = 8
kind_of (Message.SnapshotPart m) = 9
kind_of (Message.Alive m) = 10

-- the steps that an event with these acts shows, where the next message has this number
abbrev pub steps_of : ℕ → List Act → List Step
steps_of number [] = []
steps_of number (Show step ∷ acts) = step ∷ steps_of number acts
steps_of number (Send to m ∷ acts) = Step.Send number to (kind_of m) ∷ steps_of (suc number) acts
steps_of number (Hand d ∷ acts) = steps_of number acts
steps_of number (Save k ∷ acts) = steps_of number acts

-- the messages that acts of a life send
abbrev pub sent_by : LifeId → List Act → List Sent
sent_by from [] = []
sent_by from (Show step ∷ acts) = sent_by from acts
sent_by from (Send to m ∷ acts) = record { from = from; to = to; message = m } ∷ sent_by from acts
sent_by from (Hand d ∷ acts) = sent_by from acts
sent_by from (Save k ∷ acts) = sent_by from acts

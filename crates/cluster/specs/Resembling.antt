-- When the machines of a run are the cluster of the model.
use Rattle.std.specs.Prelude.{◌≡◌, ◌≢◌, ℕ, ◌<◌, length, map, Option, Some, None, slice_get}
use Rattle.paxos_world.specs.Replica.{Running}
use Rattle.jp_types.specs.Lists.{In}
use Rattle.paxos_world.specs.World as world
use Rattle.schedules.specs.Cluster.{Place, Cluster, Happened, config_of}
use Rattle.schedules.specs.declared.line.Head.{Head}
use Rattle.protocol_laws.specs.Coming.{IsSendable}
use Rattle.replica_node.specs.Resembling.{AreAlike}
use Rattle.cluster.specs.Machine.{Machine}
use Rattle.cluster.specs.Machines.{stored_on}
use Rattle.cluster.specs.Stepping.{Stepping, Outcome}
use Rattle.cluster.specs.declared.sent.Sent.{Sent}

-- a message that was sent, as the code has it: it names the replica, and not which of its lives
abbrev pub sent_of : world.Sent → Sent
sent_of m = record { from = m.from.replica; to = m.to; message = m.message }

-- a machine is a replica of the model: its disk holds the same number, if any, and what is up on it is alike
pub record IsPlace (place : Place) (m : Machine) : Type 0 where
  pub stored : stored_on m.disk ≡ place.stable
  pub running : AreAlike place.running m.running

-- a stage has the constants of its replica, whose number on the disk is the stage's
abbrev pub IsPlaced : Cluster → ℕ → Place → Option Running → Type 0
IsPlaced c r place None = Unit {0}
IsPlaced c r place (Some a) = (a.stage.config ≡ config_of c.head r) × (place.stable ≡ Some a.stage.stable)

-- a message was sent by one replica to another, and may be sent
pub record IsSentFitly (head : Head) (m : world.Sent) : Type 0 where
  pub from : m.from.replica < head.n
  pub other : m.from.replica ≢ m.to
  pub may : IsSendable head.mode m.message

-- the machines of a run are the cluster
pub record IsCluster (c : Cluster) (s : Stepping) : Type 0 where
  pub head : s.head ≡ c.head
  pub count : length c.places ≡ c.head.n
  pub machines : length s.machines ≡ c.head.n
  pub places : (r : ℕ) (place : Place) (m : Machine) → slice_get c.places r ≡ Some place → slice_get s.machines r ≡ Some m → IsPlace place m
  pub placed : (r : ℕ) (place : Place) → slice_get c.places r ≡ Some place → IsPlaced c r place place.running
  pub sent : s.sent ≡ map sent_of c.sent
  -- each message that was sent came from another replica, and may be sent
  pub fitly : (m : world.Sent) → In m c.sent → IsSentFitly c.head m

-- what comes of a line is what happens in the model, and leaves the cluster
pub record Alike (h : Happened) (o : Outcome) : Type 0 where
  pub word : o.word ≡ h.word
  pub steps : o.steps ≡ h.steps
  pub after : IsCluster h.cluster o.after

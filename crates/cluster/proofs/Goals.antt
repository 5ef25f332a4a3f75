-- What is shown of each part of a run.
use Rattle.std.specs.Prelude.{◌≡◌, ℕ, ◌<◌, List, ◌++◌, map, Some, slice_get, slice_set}
use Rattle.jp_types.specs.Lists.{In}
use Rattle.paxos_world.specs.Life.{LifeId}
use Rattle.paxos_world.specs.Stage as model
use Rattle.paxos_world.specs.World as world
use Rattle.protocol_core.specs.declared.act.Act.{Act}
use Rattle.replica_node.specs.Following.{MayServe, MayStep, leaving, step_of}
use Rattle.replica_node.specs.Whole.{Whole}
use Rattle.replica_node.specs.declared.stage.Stage.{Stage}
use Rattle.paxos_world.specs.Replica.{Running}
use Rattle.schedules.specs.Cluster.{Place, Cluster, steps_of}
use Rattle.schedules.specs.Cluster as cluster
use Rattle.cluster.specs.Frames as frames
use Rattle.cluster.specs.Machine.{Machine}
use Rattle.cluster.specs.Machines.{StepsOn}
use Rattle.schedules.specs.Heads.{IsHead}
use Rattle.schedules.specs.Run as run
use Rattle.cluster.specs.Stepping.{Stepping, Outcome, acted}
use Rattle.cluster.specs.Stepping as stepping
use Rattle.schedules.specs.declared.line.Line.{Line}
use Rattle.schedules.specs.declared.line.Word.{Word}
use Rattle.schedules.specs.declared.line.Head.{Head}
use Rattle.schedules.specs.declared.event.Event.{Event}
use Rattle.schedules.specs.declared.schedule.Schedule.{Schedule}
use Rattle.cluster.specs.declared.sent.Sent.{Sent}
use Rattle.cluster_laws.specs.Laws.{IsSchedule}
use Rattle.protocol_laws.specs.Acting.{model_acts}
use Rattle.protocol_laws.specs.Coming.{SendsFitly}
use Rattle.cluster.specs.Standing.{FollowsFirst, FollowsLine}
use Rattle.cluster.specs.Resembling.{sent_of, IsSentFitly, IsPlace, IsPlaced, IsCluster, Alike}

-- ---- Acts

-- where of acts the same leave the replica as of acts of the model, they show and send the same
pub record ActsAlike : Type 0 where
  pub shown : (number : ℕ) (acts : List Act) (did : List model.Act) → model_acts acts ≡ leaving did → frames.shown_by number acts ≡ steps_of number did
  pub sent : (id : LifeId) (acts : List Act) (did : List model.Act) → model_acts acts ≡ leaving did → frames.sent_by id.replica acts ≡ map sent_of (cluster.sent_by id did)
  -- what acts send fitly may be sent from that replica
  pub fitly : (c : model.Config) (head : Head) (id : LifeId) (acts : List Act) (did : List model.Act) → model_acts acts ≡ leaving did → c.n ≡ head.n → c.mode ≡ head.mode → c.me ≡ id.replica → id.replica < c.n
      → SendsFitly c acts → (m : world.Sent) → In m (cluster.sent_by id did) → IsSentFitly head m

-- ---- Steps of a replica

-- what a step of a stage makes of a replica that is up is what happens in the model
abbrev pub StepAlike : Type 0
StepAlike =
    (at : Stage) (c : Cluster) (s : Stepping) (r : ℕ) (place : Place) (m : Machine) (a : Running) (w : Whole) (word : Word) (acts : List Act) (new : Machine)
    → IsCluster c s → slice_get c.places r ≡ Some place → slice_get s.machines r ≡ Some m → place.running ≡ Some a → m.running ≡ Some w → MayStep at a
    → StepsOn at m w word acts new → Alike (run.takes_step (step_of at) c r place a) (acted s r word acts new)

-- ---- Clusters

-- a replica changes and sends messages, in the model and in the code alike
abbrev pub PlacesAlike : Type 0
PlacesAlike =
    (c : Cluster) (s : Stepping) (r : ℕ) (place place' : Place) (m m' : Machine) (xs : List world.Sent) (ys : List Sent)
    → IsCluster c s → slice_get c.places r ≡ Some place → slice_get s.machines r ≡ Some m
    → IsPlace place' m' → IsPlaced c r place' place'.running → ys ≡ map sent_of xs → ((x : world.Sent) → In x xs → IsSentFitly c.head x)
    → IsCluster (record c { places = slice_set c.places r place'; sent = c.sent ++ xs }) (record s { machines = slice_set s.machines r m'; sent = s.sent ++ ys })

-- a start, where there is a replica of this number
abbrev pub StartAlike : Type 0
StartAlike = (c : Cluster) (s : Stepping) (r : ℕ) (o : Outcome) → IsHead c.head → IsCluster c s → stepping.Starts s r o → Alike (run.start_by (slice_get c.places r) c r) o

-- the first line
abbrev pub OpensAlike : Type 0
OpensAlike = (head : Head) (e : Event) (after : Stepping) → IsHead head → stepping.Opens head e after → (e ≡ run.event_of (Line.Cluster head) (run.first_event head)) × IsCluster (run.first_event head).cluster after

-- each replica that is up may serve its next decision
abbrev pub AreReady : Cluster → Type 0
AreReady c = (r : ℕ) (place : Place) (a : Running) → slice_get c.places r ≡ Some place → place.running ≡ Some a → MayServe a a.decisions

-- a line after the first
abbrev pub EventAlike : Type 0
EventAlike = (c : Cluster) (s : Stepping) (line : Line) (o : Outcome) → IsHead c.head → AreReady c → IsCluster c s → stepping.ComesOf line s o → Alike (run.event c line) o

-- the clusters of a schedule's run are ready, after each line
abbrev pub RunsReady : Type 0
RunsReady = (schedule : Schedule) → IsSchedule schedule → (lines more : List Line) → schedule.lines ≡ lines ++ more → AreReady (run.cluster_after (run.first_event schedule.head).cluster lines)

-- ---- A run line by line

-- the first line of a run, whose event is the model's
abbrev pub FirstFollows : Type 0
FirstFollows = (head : Head) (e : Event) (after : Stepping) → IsHead head → stepping.Opens head e after → FollowsFirst head e after

-- a line after the first of a run whose constants are within their limits
abbrev pub LineFollows : Type 0
LineFollows = (before after : Stepping) (line : Line) (e : Event) → IsHead before.head → stepping.Happens before line e after → FollowsLine before line e after

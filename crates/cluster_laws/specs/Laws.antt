-- What holds of the run of every schedule.
use Rattle.std.specs.Prelude.{◌≡◌, ℕ, suc, ◌≤◌, ◌⊎◌, not, filter, List, [], ◌∷◌, ◌++◌, length, map, take, slice_get, Some, flat_map}
use Rattle.std.specs.Option.{option_map}
use Rattle.jp_types.specs.declared.mode.Phase.TheVariants.{Recovering}
use Rattle.kv_service.specs.declared.outcome.Outcome.{Outcome}
use Rattle.kv_service.specs.Service.{State, start, serve, outcomes}
use Rattle.kv_service.specs.StateBytes.{state_bytes}
use Rattle.paxos_world.specs.declared.step.Step.{Step}
use Rattle.jp_types.specs.Lists.{In}
use Rattle.paxos_world.specs.Setup.{Setup}
use Rattle.paxos_world.specs.Life.{Life}
use Rattle.jp_types.specs.Instances.{Batch}
use Rattle.paxos_world.specs.World.{Replica, World, Sent, Move, Deed, Act, Rejoin, Execute, CanRejoin, opening}
use Rattle.paxos_world.specs.Trace.{IsChosenIn, IsRun, end_of}
use Rattle.paxos_world.specs.ListOf.{list_of}
use Rattle.paxos_world.specs.Served.{IsListIn, Stands, outcomes_from, FirstsDiffer, IsSilent}
use Rattle.schedules.specs.declared.line.Line.{Line}
use Rattle.schedules.specs.declared.schedule.Schedule.{Schedule}
use Rattle.paxos_world.specs.Shown.{shown_along, sends_along}
use Rattle.paxos_world.specs.Replica.{Running}
use Rattle.schedules.specs.Cluster.{Place, Cluster, Happened, kind_of}
use Rattle.schedules.specs.Generator.{is_send}
use Rattle.schedules.specs.Run.{first_event, event, event_of, cluster_after, last_of, moves_of_run, run_of}
use Rattle.jp_types.specs.Limits.{IsRequest}

-- the request of a line, if it has one, is within the limits
abbrev pub IsLine : Line → Type 0
IsLine (Line.Request r request) = IsRequest request
IsLine _ = Unit {0}

-- a schedule of 2 to 9 replicas with requests within the limits
pub record IsSchedule (s : Schedule) : Type 0 where
  pub some : 2 ≤ s.head.n
  pub few : s.head.n ≤ 9
  pub lines : (line : Line) → In line s.lines → IsLine line

-- the constants of its world
abbrev pub setup_of_run : Schedule → Setup
setup_of_run s = record { n = s.head.n; mode = s.head.mode; encode = state_bytes }

-- all steps of the world in its run, in order
abbrev pub steps_of_run : Schedule → List Move
steps_of_run s = flat_map (λ moves. moves) (moves_of_run s)

-- the world that its run leads to
abbrev pub end_of_run : Schedule → World
end_of_run s = end_of (setup_of_run s) opening (steps_of_run s)

-- the one list of chosen batches of the whole run
abbrev pub list_of_run : Schedule → List Batch
list_of_run s = list_of s.head.n (end_of_run s).votes

-- the cluster after the first line and these
abbrev pub after_lines : Schedule → List Line → Cluster
after_lines s lines = cluster_after (first_event s.head).cluster lines

-- what runs at replica r of a cluster
abbrev pub RunsAt : Cluster → ℕ → Running → Type 0
RunsAt c r a = (place : Place) × (slice_get c.places r ≡ Some place) × (place.running ≡ Some a)

-- the world's steps of these lines, one after another, from this cluster
abbrev pub steps_over : Cluster → List Line → List Move
steps_over c [] = []
steps_over c (line ∷ lines) = let h = event c line in h.moves ++ steps_over h.cluster lines

-- the world's steps of the first line and these
abbrev pub steps_after : Schedule → List Line → List Move
steps_after s lines = (first_event s.head).moves ++ steps_over (first_event s.head).cluster lines

-- the world that they lead to
abbrev pub world_after : Schedule → List Line → World
world_after s lines = end_of (setup_of_run s) opening (steps_after s lines)

-- the steps of the run are a run of the world: each is allowed where it comes
abbrev pub WorldRun : Schedule → Type 0
WorldRun s = IsRun (setup_of_run s) opening (steps_of_run s)

-- a replica of a cluster is the world's: it started as often, has the same stable number, and the same life runs, or none
pub record SameReplica (place : Place) (a : Replica) : Type 0 where
  pub starts : place.starts ≡ a.starts
  pub stable : place.stable ≡ a.stable
  pub running : option_map (λ running. running.stage.life) place.running ≡ a.running

-- the cluster after these lines, which `more` follow, is the world that their steps lead to: the same messages were sent, and each of the n replicas is the world's. The steps of the whole run go on with those of `more`
pub record IsWorld (s : Schedule) (lines more : List Line) : Type 0 where
  pub steps : steps_of_run s ≡ steps_after s lines ++ steps_over (after_lines s lines) more
  pub sent : (after_lines s lines).sent ≡ (world_after s lines).sent
  pub count : length (after_lines s lines).places ≡ s.head.n
  pub places : (r : ℕ) (place : Place) → slice_get (after_lines s lines).places r ≡ Some place → SameReplica place ((world_after s lines).replicas r)

-- after each line the cluster and the world are the same in messages, lives and stable numbers
abbrev pub WorldSame : Schedule → Type 0
WorldSame s = (lines more : List Line) → s.lines ≡ lines ++ more → IsWorld s lines more

-- the Send steps of these messages, numbered from `number` on
abbrev pub sends_from : ℕ → List Sent → List Step
sends_from number [] = []
sends_from number (x ∷ xs) = Step.Send number x.to (kind_of x.message) ∷ sends_from (suc number) xs

-- an event shows its steps of the world, from w on: its steps but Send are those that the steps of the world show, and its Send steps are the messages that these add, numbered from the count of all sent before
pub record ShowsMoves (c : Setup) (w : World) (h : Happened) : Type 0 where
  pub steps : filter (λ step. not (is_send step)) h.steps ≡ shown_along c w h.moves
  pub sends : filter is_send h.steps ≡ sends_from (length w.sent) (sends_along c w h.moves)

-- the first line and each other show their steps of the world
pub record AllShown (s : Schedule) : Type 0 where
  pub first : ShowsMoves (setup_of_run s) opening (first_event s.head)
  pub lines : (lines more : List Line) (line : Line) → s.lines ≡ lines ++ line ∷ more → ShowsMoves (setup_of_run s) (world_after s lines) (event (after_lines s lines) line)

-- one list: after any event each running replica's service is the sequential one after a prefix of the one list of the whole run
abbrev pub OneList : Schedule → Type 0
OneList s = (lines more : List Line) → s.lines ≡ lines ++ more → (r : ℕ) (a : Running) → RunsAt (after_lines s lines) r a → Stands (list_of_run s) a.stage.life.service

-- after any event each state that a running replica's service had in its life, or that the life installed, is the sequential one after a prefix of that list too
abbrev pub StatesListed : Schedule → Type 0
StatesListed s =
    (lines more : List Line) → s.lines ≡ lines ++ more → (r : ℕ) (a : Running) → RunsAt (after_lines s lines) r a
    → (x : State) → In x a.stage.life.states ⊎ In x a.stage.life.installed → Stands (list_of_run s) x

-- what two replicas know of an instance, at any two times, is the same
abbrev pub KnownSame : Schedule → Type 0
KnownSame s =
    (lines more lines' more' : List Line) → s.lines ≡ lines ++ more → s.lines ≡ lines' ++ more' → (r r' i : ℕ) (a a' : Running) (batch batch' : Batch)
    → RunsAt (after_lines s lines) r a → RunsAt (after_lines s lines') r' a' → a.stage.life.known i ≡ Some batch → a'.stage.life.known i ≡ Some batch' → batch ≡ batch'

-- a batch is chosen for an instance by the votes of the whole run, in a view
abbrev pub IsChosenOver : Schedule → ℕ → ℕ → Batch → Type 0
IsChosenOver s view i batch = IsChosenIn s.head.n (end_of_run s) view i batch

-- the one list has the chosen batch of each instance, up to the first instance that has none
abbrev pub ListIsChosen : Schedule → Type 0
ListIsChosen s = IsListIn s.head.n (end_of_run s) (list_of_run s)

-- an instance is chosen with one batch alone, in whatever views
abbrev pub OneIsChosen : Schedule → Type 0
OneIsChosen s = (i view view' : ℕ) (batch batch' : Batch) → IsChosenOver s view i batch → IsChosenOver s view' i batch' → batch ≡ batch'

-- what a replica knows of an instance, after any line, is chosen
abbrev pub KnownIsChosen : Schedule → Type 0
KnownIsChosen s =
    (lines more : List Line) → s.lines ≡ lines ++ more → (r i : ℕ) (a : Running) (batch : Batch) → RunsAt (after_lines s lines) r a → a.stage.life.known i ≡ Some batch
    → (view : ℕ) × IsChosenOver s view i batch

-- the run has one event a line, in order, which is what happens at that line, and it ends with what runs then
pub record IsTold (s : Schedule) : Type 0 where
  pub first : slice_get (run_of s).events 0 ≡ Some (event_of (Line.Cluster s.head) (first_event s.head))
  pub lines : (lines more : List Line) (line : Line) → s.lines ≡ lines ++ line ∷ more → slice_get (run_of s).events (suc (length lines)) ≡ Some (event_of line (event (after_lines s lines) line))
  pub count : length (run_of s).events ≡ suc (length s.lines)
  pub last : (run_of s).last ≡ map (λ place. last_of place.running) (after_lines s s.lines).places

-- at most once: over the one list each client's number is First once at most
abbrev pub AtMostOnce : Schedule → Type 0
AtMostOnce s = FirstsDiffer (outcomes_from start (list_of_run s))

-- replies: what an execution shows are the outcomes of the sequential service at that place of the one list
pub record RepliesAt (batches : List Batch) (i : ℕ) (shown : List Outcome) : Type 0 where
  pub batch : Batch
  pub listed : slice_get batches i ≡ Some batch
  pub shown_is : shown ≡ outcomes (serve (take i batches)) batch

-- each execution that a line shows has the outcomes of the one list at its instance
abbrev pub Replies : Schedule → Type 0
Replies s =
    (lines more : List Line) (line : Line) → s.lines ≡ lines ++ line ∷ more → (r i : ℕ) (shown : List Outcome)
    → In (Step.Execute r i shown) (event (after_lines s lines) line).steps → RepliesAt (list_of_run s) i shown

-- the first line shows no execution
abbrev pub FirstShowsNone : Schedule → Type 0
FirstShowsNone s = (r i : ℕ) (shown : List Outcome) → ¬ In (Step.Execute r i shown) (first_event s.head).steps

-- a life executes an instance at most once
abbrev pub ExecutesOnceIn : Schedule → Type 0
ExecutesOnceIn s =
    (before behind before' behind' : List Move) (q i : ℕ) (l l' : Life) → steps_of_run s ≡ before ++ Act q (Execute i) ∷ behind → steps_of_run s ≡ before' ++ Act q (Execute i) ∷ behind'
    → ((end_of (setup_of_run s) opening before).replicas q).running ≡ Some l → ((end_of (setup_of_run s) opening before').replicas q).running ≡ Some l' → l.number ≡ l'.number
    → length before ≡ length before'

-- a Recovering life enters no view, begins no phase 1, promises, launches, votes and answers nothing, and does not become Prepared
abbrev pub RecoveringIsSilent : Schedule → Type 0
RecoveringIsSilent s =
    (before behind : List Move) (q : ℕ) (d : Deed) (l : Life) → steps_of_run s ≡ before ++ Act q d ∷ behind
    → ((end_of (setup_of_run s) opening before).replicas q).running ≡ Some l → l.phase ≡ Recovering → IsSilent d

-- a life rejoins only where the condition of Rejoin holds
abbrev pub Rejoins : Schedule → Type 0
Rejoins s =
    (before behind : List Move) (q view : ℕ) (l : Life) → steps_of_run s ≡ before ++ Act q (Rejoin view) ∷ behind
    → ((end_of (setup_of_run s) opening before).replicas q).running ≡ Some l → CanRejoin (setup_of_run s) q l view

-- after each line no life that runs meets the condition of Rejoin, for any view: where it held, the life has rejoined
abbrev pub RejoinsDue : Schedule → Type 0
RejoinsDue s = (lines more : List Line) → s.lines ≡ lines ++ more → (r : ℕ) (a : Running) → RunsAt (after_lines s lines) r a → (view : ℕ) → ¬ CanRejoin (setup_of_run s) r a.stage.life view

-- The run of a schedule.
use Rattle.std.specs.Prelude.{ℕ, zero, suc, Bool, ◌||◌, List, [], ◌∷◌, ◌++◌, length, map, nat_lt, ◌==◌, if◌then◌else◌, sum_by, Option, Some, None, slice_get}
use Rattle.jp_types.specs.Sizes.{frame_size}
use Rattle.paxos_world.specs.declared.step.Step.{Step}
use Rattle.paxos_world.specs.World.{Sent, Move, id_of, Crash}
use Rattle.paxos_world.specs.Stage.{free_slots, Item, Came, Suspect, Turned}
use Rattle.paxos_world.specs.Turn.{Opened, opening, opening_moves, moves_of}
use Rattle.schedules.specs.declared.line.Head.{Head}
use Rattle.schedules.specs.declared.line.Line.{Line}
use Rattle.schedules.specs.declared.line.Word.{Word}
use Rattle.schedules.specs.declared.line.Word.TheVariants.{Done, Empty, Full, Down, Up, Unsent}
use Rattle.schedules.specs.declared.schedule.Schedule.{Schedule}
use Rattle.schedules.specs.declared.event.Event.{Event}
use Rattle.schedules.specs.declared.event.Run.{Run}
use Rattle.paxos_world.specs.declared.last.Last.{Last}
use Rattle.paxos_world.specs.Batching.{Fed, Asked}
use Rattle.paxos_world.specs.Replica.{Running, is_full, started, Stepped, Idle, Blocked, Quiet, Did, batch_step, protocol_step, service_step, retransmit_step}
use Rattle.schedules.specs.Cluster.{Place, Cluster, Happened, config_of, fresh_cluster, with_running, set_place, steps_of, sent_by}

-- a line is answered by this word, and nothing changes
abbrev pub refused : Word → Cluster → Happened
refused word c = record { word = word; steps = []; moves = []; cluster = c }

-- something is done at replica r that shows no step
abbrev pub quietly : Cluster → ℕ → Place → Running → Happened
quietly c r place running = record { word = Done; steps = []; moves = []; cluster = set_place c r (with_running running place) }

-- something is done at replica r by its Protocol, Service or Retransmitter: its steps, its messages, and what runs after it
abbrev pub done_by : Cluster → ℕ → Place → Running → Turned → Happened
done_by c r place running t =
    record {
      word = Done;
      steps = steps_of (length c.sent) t.acts;
      moves = moves_of r t.deeds;
      cluster = record c { places = (set_place c r (with_running running place)).places; sent = c.sent ++ sent_by (id_of r t.stage.life) t.acts };
    }

-- ---- What each line does at a replica that is up

-- an item is put in the request lane
abbrev pub puts_request : Fed → Cluster → ℕ → Place → Running → Happened
puts_request fed c r place a =
    if is_full a.requests then refused Full c else quietly c r place (record a { requests = a.requests ++ fed ∷ [] })

-- an item is put in the dispatcher lane
abbrev pub puts_item : Item → Cluster → ℕ → Place → Running → Happened
puts_item item c r place a =
    if is_full a.dispatcher then refused Full c else quietly c r place (record a { dispatcher = a.dispatcher ++ item ∷ [] })

-- a tick is put in both lanes
abbrev pub puts_tick : Cluster → ℕ → Place → Running → Happened
puts_tick c r place a =
    if is_full a.requests || is_full a.dispatcher then refused Full c
    else quietly c r place (record a { requests = a.requests ++ Fed.Tick ∷ []; dispatcher = a.dispatcher ++ Item.Tick ∷ [] })

-- a stage takes a step
abbrev pub happens_by : Stepped → Cluster → ℕ → Place → Happened
happens_by Idle c r place = refused Empty c
happens_by Blocked c r place = refused Full c
happens_by (Quiet a) c r place = quietly c r place a
happens_by (Did t a) c r place = done_by c r place a t

-- the same of what a step of a stage is where this runs
abbrev pub takes_step : (Running → Stepped) → Cluster → ℕ → Place → Running → Happened
takes_step step c r place a = happens_by (step a) c r place

-- the life ends, and the disk keeps its number
abbrev pub on_crash : Cluster → ℕ → Place → Running → Happened
on_crash c r place a =
    record { word = Done; steps = Step.Crash r ∷ []; moves = Crash r ∷ []; cluster = set_place c r (record place { running = None }) }

-- ---- Lives

-- a life begins as its opening says. Past the limit of numbers, which no schedule reaches, there is no opening: the answer is `down` and nothing changes
abbrev pub begins_by : Option Opened → Cluster → ℕ → Place → Happened
begins_by None c r place = refused Down c
begins_by (Some opened) c r place =
    let done = done_by c r (record place { starts = suc place.starts }) (started opened.turned.stage) opened.turned in
    record done { moves = opening_moves r opened }

-- the next life of a replica begins
abbrev pub begins : Cluster → ℕ → Place → Happened
begins c r place = begins_by (opening (config_of c.head r) free_slots (suc place.starts) place.stable) c r place

-- ---- Lines

-- f at replica r, where it is up
abbrev pub if_running : Option Running → (Running → Happened) → Happened → Happened
if_running None f down = down
if_running (Some a) f down = f a

-- f at this replica, where it is up
abbrev pub up_at : Option Place → (Place → Running → Happened) → Cluster → Happened
up_at None f c = refused Down c
up_at (Some place) f c = if_running place.running (f place) (refused Down c)

-- f at replica r, where it is up
abbrev pub at_running : (Cluster → ℕ → Place → Running → Happened) → Cluster → ℕ → Happened
at_running f c r = up_at (slice_get c.places r) (f c r) c

-- the next life of a replica that is down
abbrev pub start_by : Option Place → Cluster → ℕ → Happened
start_by None c r = refused Up c
start_by (Some place) c r = if_running place.running (λ a. refused Up c) (begins c r place)

-- a message that was sent is put in the dispatcher lane of its addressee
abbrev pub delivers : Option Sent → Cluster → ℕ → Happened
delivers None c r = refused Unsent c
delivers (Some m) c r = if m.to == r then at_running (puts_item (Came m.from m.message)) c r else refused Unsent c

-- the event of a line after the first
unfoldable pub event : Cluster → Line → Happened
event c (Line.Cluster head) = refused Done c
event c (Line.Request r request) = at_running (puts_request (Asked request)) c r
event c (Line.Batch r) = at_running (takes_step batch_step) c r
event c (Line.Tick r) = at_running puts_tick c r
event c (Line.Suspect r) = at_running (puts_item Suspect) c r
event c (Line.Deliver r m) = delivers (slice_get c.sent m) c r
event c (Line.Protocol r) = at_running (takes_step protocol_step) c r
event c (Line.Service r) = at_running (takes_step service_step) c r
event c (Line.Retransmit r) = at_running (takes_step retransmit_step) c r
event c (Line.Crash r) = at_running on_crash c r
event c (Line.Start r) = start_by (slice_get c.places r) c r
event c Line.End = refused Done c

-- the first starts of k replicas from r on, in order, after what has happened so far
abbrev pub first_starts : ℕ → ℕ → Happened → Happened
first_starts zero r done = done
first_starts (suc k) r done =
    let next = start_by (slice_get done.cluster.places r) done.cluster r in
    first_starts k (suc r) (record { word = Done; steps = done.steps ++ next.steps; moves = done.moves ++ next.moves; cluster = next.cluster })

-- the event of the first line
unfoldable pub first_event : Head → Happened
first_event head = first_starts head.n 0 (refused Done (fresh_cluster head))

-- ---- Runs

-- the event of a line by what happens
abbrev pub event_of : Line → Happened → Event
event_of line happened = record { line = line; word = happened.word; steps = happened.steps }

-- what a replica ends with
abbrev pub last_of : Option Running → Option Last
last_of None = None
last_of (Some a) = Some (record { phase = a.stage.life.phase; view = a.stage.life.view; state = a.stage.life.service })

-- what happens at each of these lines, in order
abbrev pub happenings : Cluster → List Line → List Happened
happenings c [] = []
happenings c (line ∷ lines) = let happened = event c line in happened ∷ happenings happened.cluster lines

-- the cluster after these lines
abbrev pub cluster_after : Cluster → List Line → Cluster
cluster_after c [] = c
cluster_after c (line ∷ lines) = cluster_after (event c line).cluster lines

-- the events of these lines
abbrev pub events_of : Cluster → List Line → List Event
events_of c [] = []
events_of c (line ∷ lines) = let happened = event c line in event_of line happened ∷ events_of happened.cluster lines

-- the run of a schedule
unfoldable pub run_of : Schedule → Run
run_of s =
    let first = first_event s.head in
    record {
      events = event_of (Line.Cluster s.head) first ∷ events_of first.cluster s.lines;
      last = map (λ place. last_of place.running) (cluster_after first.cluster s.lines).places;
    }

-- the world's steps of a run, event by event
unfoldable pub moves_of_run : Schedule → List (List Move)
moves_of_run s = let first = first_event s.head in first.moves ∷ map (λ happened. happened.moves) (happenings first.cluster s.lines)

-- ---- Sizes

-- the bytes of all frames ever sent
abbrev pub sent_bytes : Cluster → ℕ
sent_bytes c = sum_by (λ m. frame_size m.message) c.sent

-- how many bytes a run may send
abbrev pub sent_limit : ℕ
sent_limit = 268435456

-- whether the run of a schedule sends more
unfoldable pub sends_too_much : Schedule → Bool
sends_too_much s = nat_lt sent_limit (sent_bytes (cluster_after (first_event s.head).cluster s.lines))

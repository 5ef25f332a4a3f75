-- The laws of the run of every schedule.
use Rattle.std.proofs.Common.{◌≡◌, ℕ, zero, suc, ◌-◌, ◌≤◌, ◌<◌, arith, Bool, true, false, ◌&&◌, ◌||◌, List, [], ◌∷◌, ◌++◌, length, slice_get, if◌then◌else◌, ◌==◌, nat_lt, Option, Some, None, refl, sym, ap, subst, ◌∙◌, inl, inr, ⊎_elim, append-nil, append_assoc, le_refl}
use Rattle.kv_service.specs.declared.outcome.Outcome.{Outcome}
use Rattle.kv_service.specs.Service.{State, outcomes}
use Rattle.kv_service.specs.StateBytes.{state_bytes}
use Rattle.kv_service.specs.StateReading.{read_state, state_in}
use Rattle.paxos_world.specs.declared.step.Step.{Step}
use Rattle.jp_types.specs.Lists.{In}
use Rattle.paxos_world.specs.Life.{Life}
use Rattle.jp_types.specs.Instances.{Batch}
use Rattle.paxos_world.specs.World.{World, Sent, Move, Rejoin, Execute, CanRejoin, opening}
use Rattle.paxos_world.specs.Trace.{Trace, Runs, Does, IsChosen, IsChosenIn, IsRun, end_of}
use Rattle.paxos_world.specs.ListOf.{list_of}
use Rattle.paxos_world.specs.Served.{Stands, OccursIn, TellsStatesIn}
use Rattle.paxos_world.proofs.Listed.{run_of, at-end, chosen-at-end}
use Rattle.paxos_world.proofs.Listing.{list_of-is}
use Rattle.paxos_world.proofs.Once.{first_once}
use Rattle.paxos_world.proofs.Adopted.{one_chosen}
use Rattle.paxos_world.proofs.Chosen.{known_are_chosen}
use Rattle.paxos_world.proofs.Runs.{can-at}
use Rattle.paxos_world.proofs.Standing.{all_execute_listed, executes_once as executes_once_in, recovering_are_silent}
use Rattle.paxos_world.proofs.Whole.{at-part, tells-of, listed_runs_stand}
use Rattle.schedules.specs.declared.line.Head.{Head}
use Rattle.schedules.specs.declared.line.Line.{Line}
use Rattle.schedules.specs.declared.schedule.Schedule.{Schedule}
use Rattle.schedules.specs.declared.line.Word.{Word}
use Rattle.schedules.specs.declared.line.Word.TheVariants.{Done, Empty, Full, Down, Up, Unsent}
use Rattle.paxos_world.specs.Replica.{Running, lane_limit, is_full, Stepped, unless_full, batched, on_batch, on_protocol, on_service, repeated, batch_step, protocol_step, service_step, retransmit_step}
use Rattle.schedules.specs.Cluster.{Place, Cluster, Happened, config_of, fresh_cluster, steps_of}
use Rattle.schedules.specs.Run.{refused, done_by, puts_request, puts_item, puts_tick, happens_by, takes_step, on_crash, begins_by, begins, if_running, up_at, at_running, start_by, delivers, first_starts, first_event, event}
use Rattle.paxos_world.specs.World.{Restore}
use Rattle.std.specs.Option.{option_map}
use Rattle.paxos_world.specs.Stage.{Config, setup_of, free_slots, Item, Came, Suspect, Decision, Decided, Installed, Act, Show, Send, Hand, Save, Turned}
use Rattle.paxos_world.specs.Writing.{when, shows}
use Rattle.paxos_world.specs.Serving.{makes_snapshot, serves}
use Rattle.kv_service.specs.Dues.{is_due}
use Rattle.paxos_world.specs.Turn.{untouched, turn, Opened, retransmit}
use Rattle.paxos_world.specs.Turn as T
use Rattle.paxos_world.specs.Batching.{Fed, Asked, is_closed_by}
use Rattle.turn_laws.proofs.Fitting.{executions, shown_by}
use Rattle.turn_laws.specs.Limits.{IsState, StatesRead}
use Rattle.turn_laws.proofs.Sane.{SaneRun, sane-at}
use Rattle.turn_laws.proofs.Sitting.{Placed, over-turn, over-retransmit}
use Rattle.turn_laws.proofs.Opening.{opens}
use Rattle.cluster_laws.specs.Laws.{FirstShowsNone, IsChosenOver, IsSchedule, setup_of_run, steps_of_run, list_of_run, steps_over, steps_after, world_after, after_lines, RunsAt, WorldRun, WorldSame, ShowsMoves, AllShown, OneList, StatesListed, KnownSame, AtMostOnce, ExecutesOnceIn, Replies, RecoveringIsSilent, Rejoins, RejoinsDue}
use Rattle.cluster_laws.proofs.Beside.{setup_at, IsUp, Beside, Matches}
use Rattle.turn_laws.proofs.Rejoinable.{none-can}
use Rattle.cluster_laws.proofs.Showing.{shows-both}
use Rattle.cluster_laws.proofs.Lines.{happens-start, happens-event}
use Rattle.paxos_world.proofs.Basics.{In-append}
use Rattle.cluster_laws.proofs.Schedules.{Reached, reached-more, reached-fresh, joined-run, steps-append, reached}
use Rattle.turn_laws.specs.Nodes.{DecisionComes}

-- ---- The run

In-left-part : {X : Type 0} (x : X) (xs ys : List X) → In x xs → In x (xs ++ ys)
In-left-part x (y ∷ xs) ys (inl e) = inl e
In-left-part x (y ∷ xs) ys (inr n) = inr (In-left-part x xs ys n)
In-left-part x [] ys n = absurd n

-- after any of its lines the cluster matches the world
pub reached-by : (s : Schedule) → StatesRead → IsSchedule s → (lines more : List Line) → s.lines ≡ lines ++ more → Reached s.head (steps_after s lines) (after_lines s lines)
reached-by s reads is lines more e =
    reached s.head reads is.some lines (λ line n. is.lines line (subst (λ (xs : List Line). In line xs) (sym e) (In-left-part line lines more n)))

whole-is : (s : Schedule) → steps_of_run s ≡ steps_after s s.lines
whole-is s = joined-run s

-- the steps of the whole run are those of a prefix of the lines and those of the others
pub parted : (s : Schedule) (lines more : List Line) → s.lines ≡ lines ++ more → steps_of_run s ≡ steps_after s lines ++ steps_over (after_lines s lines) more
parted s lines more e =
    whole-is s ∙ ap (λ (xs : List Line). steps_after s xs) e ∙ ap (λ ms. (first_event s.head).moves ++ ms) (steps-append (first_event s.head).cluster lines more)
    ∙ sym (append_assoc (first_event s.head).moves (steps_over (first_event s.head).cluster lines) (steps_over (after_lines s lines) more))

all-lines : (s : Schedule) → s.lines ≡ s.lines ++ []
all-lines s = sym (append-nil s.lines)

reached-all : (s : Schedule) → StatesRead → IsSchedule s → Reached s.head (steps_of_run s) (after_lines s s.lines)
reached-all s reads is = subst (λ (ms : List Move). Reached s.head ms (after_lines s s.lines)) (sym (whole-is s)) (reached-by s reads is s.lines [] (all-lines s))

pub world_run : (s : Schedule) → StatesRead → IsSchedule s → WorldRun s
world_run s reads is = (reached-all s reads is).run

-- a replica that is up runs its life in the world
pub runs-life : (s : Schedule) (moves : List Move) (cl : Cluster) → Reached s.head moves cl → (r : ℕ) (a : Running) → RunsAt cl r a → ((end_of (setup_of_run s) opening moves).replicas r).running ≡ Some a.stage.life
runs-life s moves cl h r a up =
    let b = (h.matches.places r up.0 up.1).up a up.2 in
    subst (λ k. ((end_of (setup_of_run s) opening moves).replicas k).running ≡ Some a.stage.life) (ap (λ c. c.me) b.sits.config) b.sits.running

running-same : (c : Config) (w : World) (place : Place) → Beside c w place → (o : Option Running) → place.running ≡ o → option_map (λ (a : Running). a.stage.life) o ≡ (w.replicas c.me).running
running-same c w place h None e = sym (h.down e)
running-same c w place h (Some a) e =
    let b = h.up a e in
    sym (subst (λ (k : Config). (w.replicas k.me).running ≡ Some a.stage.life) b.sits.config b.sits.running)

pub world_same : (s : Schedule) → StatesRead → IsSchedule s → WorldSame s
world_same s reads is lines more e =
    let h = reached-by s reads is lines more e in
    let w = world_after s lines in
    let cl = after_lines s lines in
    record {
      steps = parted s lines more e;
      sent = sym h.matches.sent;
      count = h.count;
      places = λ r place there.
          let b = h.matches.places r place there in
          record { starts = b.starts; stable = b.stable; running = running-same (config_of cl.head r) w place b place.running refl };
    }

-- ---- What is shown

firsts-shown : (head : Head) → StatesRead → 2 ≤ head.n → (k r : ℕ) (done : Happened) → Reached head done.moves done.cluster → ShowsMoves (setup_at head) opening done → ShowsMoves (setup_at head) opening (first_starts k r done)
firsts-shown head reads two zero r done h shown = shown
firsts-shown head reads two (suc k) r done h shown =
    let next = start_by (slice_get done.cluster.places r) done.cluster r in
    let w = end_of (setup_at head) opening done.moves in
    let few : 2 ≤ done.cluster.head.n = subst (λ (x : Head). 2 ≤ x.n) (sym h.head_is) two in
    let a = happens-start done.cluster w reads h.matches few r in
    firsts-shown head reads two k (suc r) (record { word = Done; steps = done.steps ++ next.steps; moves = done.moves ++ next.moves; cluster = next.cluster }) (reached-more head done.moves done.cluster next h a)
    (shows-both (setup_at head) opening done next shown (subst (λ (x : Head). ShowsMoves (setup_at x) w next) h.head_is a.shows))

first-shown : (head : Head) → StatesRead → 2 ≤ head.n → ShowsMoves (setup_at head) opening (first_event head)
unfolding first_event
first-shown head reads two = firsts-shown head reads two head.n 0 (refused Done (fresh_cluster head)) (reached-fresh head) (record { steps = refl; sends = refl })

In-middle : {X : Type 0} (x : X) (xs ys : List X) → In x (xs ++ x ∷ ys)
In-middle x [] ys = inl refl
In-middle x (y ∷ xs) ys = inr (In-middle x xs ys)

pub all_shown : (s : Schedule) → StatesRead → IsSchedule s → AllShown s
all_shown s reads is =
    record {
      first = first-shown s.head reads is.some;
      lines = λ lines more line e.
          let h = reached-by s reads is lines (line ∷ more) e in
          let cl = after_lines s lines in
          let two : 2 ≤ cl.head.n = subst (λ (x : Head). 2 ≤ x.n) (sym h.head_is) is.some in
          let a = happens-event cl (world_after s lines) reads h.matches two line (is.lines line (subst (λ (xs : List Line). In line xs) (sym e) (In-middle line lines more))) in
          subst (λ (x : Head). ShowsMoves (setup_at x) (world_after s lines) (event cl line)) h.head_is a.shows;
    }

-- ---- States

no-state : (s : State) → state_in [] ≡ Some s → ⊥
unfolding read_state
no-state s e = cc

occurs-state : (s : Schedule) (x : State) → SaneRun (setup_of_run s) opening (steps_of_run s) → OccursIn (setup_of_run s) (steps_of_run s) x → IsState x
occurs-state s x along o =
    let sane = sane-at (setup_of_run s) opening o.0 o.1 (subst (λ (ms : List Move). SaneRun (setup_of_run s) opening ms) (sym o.2) along) in
    let life = sane.lives o.3 o.4 o.5 in
    ⊎_elim (λ n. life.states x n) (λ n. life.installed x n) o.6

tells : (s : Schedule) → StatesRead → IsSchedule s → TellsStatesIn (setup_of_run s) (steps_of_run s)
tells s reads is =
    let along = (reached-all s reads is).along in
    record {
      same = λ a b x y e. (let p = occurs-state s a along x in let q = occurs-state s b along y in let f = ap state_in e in let g : Some a ≡ Some b = sym p.0 ∙ f ∙ q.0 in cc);
      some = λ a x e. (let p = occurs-state s a along x in no-state a (subst (λ (b : List ℕ). state_in b ≡ Some a) e p.0));
    }

-- each state of a life is the sequential service's after a prefix of this list
abbrev Listed : List Batch → Life → Type 0
Listed batches l = Stands batches l.service × ((x : State) → In x l.states → Stands batches x) × ((x : State) → In x l.installed → Stands batches x)

listed : (s : Schedule) → StatesRead → IsSchedule s → (lines more : List Line) → s.lines ≡ lines ++ more → (r : ℕ) (a : Running) → RunsAt (after_lines s lines) r a → Listed (list_of_run s) a.stage.life
listed s reads is lines more e r a up =
    let h = reached-by s reads is lines more e in
    let steps = steps_after s lines in
    let rest = steps_over (after_lines s lines) more in
    let p : steps_of_run s ≡ steps ++ rest = parted s lines more e in
    subst (λ (ms : List Move). Listed (list_of s.head.n (end_of (setup_of_run s) opening ms).votes) a.stage.life) (sym p)
    (listed_runs_stand (setup_of_run s) is.few steps rest
    (subst (λ (ms : List Move). TellsStatesIn (setup_of_run s) ms) p (tells s reads is))
    (subst (λ (ms : List Move). IsRun (setup_of_run s) opening ms) p (world_run s reads is)) r a.stage.life (runs-life s steps (after_lines s lines) h r a up))

pub one_list : (s : Schedule) → StatesRead → IsSchedule s → OneList s
one_list s reads is lines more e r a up = (listed s reads is lines more e r a up).0

pub states_listed : (s : Schedule) → StatesRead → IsSchedule s → StatesListed s
states_listed s reads is lines more e r a up x n = let h = listed s reads is lines more e r a up in ⊎_elim (λ i. h.1 x i) (λ i. h.2 x i) n

-- ---- The run as a trace

pub trace : (s : Schedule) → StatesRead → IsSchedule s → Trace
trace s reads is = run_of (setup_of_run s) is.few (steps_of_run s) (world_run s reads is)

-- the life that runs after a prefix of the steps
pub runs-part : (s : Schedule) (reads : StatesRead) (is : IsSchedule s) (before behind : List Move) (q : ℕ) (l : Life) → steps_of_run s ≡ before ++ behind
    → ((end_of (setup_of_run s) opening before).replicas q).running ≡ Some l → Runs (trace s reads is) (length before) q l
unfolding trace
runs-part s reads is before behind q l e h =
    go (steps_of_run s) (world_run s reads is) e
  where
    go : (ms : List Move) (run : IsRun (setup_of_run s) opening ms) → ms ≡ before ++ behind → Runs (run_of (setup_of_run s) is.few ms run) (length before) q l
    go ms run e =
        J-like ms e run
      where
        J-like : (ms : List Move) → ms ≡ before ++ behind → (run : IsRun (setup_of_run s) opening ms) → Runs (run_of (setup_of_run s) is.few ms run) (length before) q l
        J-like ms e =
            subst (λ (xs : List Move). (run : IsRun (setup_of_run s) opening xs) → Runs (run_of (setup_of_run s) is.few xs run) (length before) q l) (sym e)
            (λ run. subst (λ (w : World). (w.replicas q).running ≡ Some l) (sym (at-part (setup_of_run s) is.few before behind run)) h)

get-at : {X : Type 0} (xs ys : List X) (y : X) → slice_get (xs ++ y ∷ ys) (length xs) ≡ Some y
get-at [] ys y = refl
get-at (x ∷ xs) ys y = get-at xs ys y

does-part : (s : Schedule) (reads : StatesRead) (is : IsSchedule s) (before behind : List Move) (m : Move) → steps_of_run s ≡ before ++ m ∷ behind → Does (trace s reads is) (length before) m
unfolding trace
does-part s reads is before behind m e = ap (λ (ms : List Move). slice_get ms (length before)) e ∙ get-at before behind m

pub recovering_is_silent : (s : Schedule) → StatesRead → IsSchedule s → RecoveringIsSilent s
recovering_is_silent s reads is before behind q d l e runs phase =
    recovering_are_silent (trace s reads is) (length before) q d l (does-part s reads is before behind (Move.Act q d) e) (runs-part s reads is before (Move.Act q d ∷ behind) q l e runs) phase

pub rejoins : (s : Schedule) → StatesRead → IsSchedule s → Rejoins s
unfolding trace
rejoins s reads is before behind q view l e runs =
    can-at (trace s reads is) (length before) q (Rejoin view) l (does-part s reads is before behind (Move.Act q (Rejoin view)) e) (runs-part s reads is before (Move.Act q (Rejoin view) ∷ behind) q l e runs)

pub rejoins_due : (s : Schedule) → StatesRead → IsSchedule s → RejoinsDue s
rejoins_due s reads is lines more e r a up view can =
    let h = reached-by s reads is lines more e in
    let cl = after_lines s lines in
    let w = world_after s lines in
    let b = (h.matches.places r up.0 up.1).up a up.2 in
    let head : config_of s.head r ≡ a.stage.config = ap (λ (k : Head). config_of k r) (sym h.head_is) ∙ sym b.sits.config in
    let some : 0 < s.head.n = let two = is.some in omega arith in
    none-can w a.stage view (subst (λ (k : Config). 0 < k.n) head some) b.sits.fits b.settled (subst (λ (k : Config). CanRejoin (setup_of k) k.me a.stage.life view) head can)

pub at_most_once : (s : Schedule) → AtMostOnce s
at_most_once s = first_once (list_of_run s)

-- ---- What is chosen

-- what is chosen by the votes at the end is chosen in the run
pub chosen-over : (s : Schedule) (reads : StatesRead) (is : IsSchedule s) (view i : ℕ) (batch : Batch) → IsChosenOver s view i batch → IsChosen (trace s reads is) view i batch
unfolding trace
chosen-over s reads is view i batch h =
    let ms = steps_of_run s in
    (length ms, subst (λ (w : World). IsChosenIn s.head.n w view i batch) (sym (at-end (setup_of_run s) is.few ms (world_run s reads is) (length ms) (le_refl _))) h)

-- what is chosen in the run is chosen by the votes at its end
pub chosen-then : (s : Schedule) (reads : StatesRead) (is : IsSchedule s) (view i : ℕ) (batch : Batch) → IsChosen (trace s reads is) view i batch → IsChosenOver s view i batch
unfolding trace
chosen-then s reads is view i batch h = chosen-at-end (setup_of_run s) is.few (steps_of_run s) (world_run s reads is) view i batch h

-- ---- What is known

pub known_same : (s : Schedule) → StatesRead → IsSchedule s → KnownSame s
known_same s reads is lines more lines' more' e e' r r' i a a' batch batch' up up' k k' =
    let run = trace s reads is in
    let x = runs-part s reads is (steps_after s lines) (steps_over (after_lines s lines) more) r a.stage.life (parted s lines more e) (runs-life s (steps_after s lines) (after_lines s lines) (reached-by s reads is lines more e) r a up) in
    let y = runs-part s reads is (steps_after s lines') (steps_over (after_lines s lines') more') r' a'.stage.life (parted s lines' more' e') (runs-life s (steps_after s lines') (after_lines s lines') (reached-by s reads is lines' more' e') r' a' up') in
    let p = known_are_chosen run (length (steps_after s lines)) r a.stage.life i batch x k in
    let q = known_are_chosen run (length (steps_after s lines')) r' a'.stage.life i batch' y k' in
    one_chosen run i p.0 q.0 batch batch' p.1 q.1

-- a life executes an instance at most once
pub executes_once : (s : Schedule) → StatesRead → IsSchedule s → ExecutesOnceIn s
executes_once s reads is before behind before' behind' q i l l' e e' runs runs' same =
    executes_once_in (trace s reads is) (length before) (length before') q i l l' (does-part s reads is before behind (Move.Act q (Execute i)) e) (does-part s reads is before' behind' (Move.Act q (Execute i)) e')
    (runs-part s reads is before (Move.Act q (Execute i) ∷ behind) q l e runs) (runs-part s reads is before' (Move.Act q (Execute i) ∷ behind') q l' e' runs') same

-- ---- Replies

-- what was executed, where an event shows it
pub record Executed (cl : Cluster) (i : ℕ) (shown : List Outcome) (h : Happened) : Type 0 where
  pub q : ℕ
  pub a : Running
  pub up : RunsAt cl q a
  pub batch : Batch
  pub known : a.stage.life.known i ≡ Some batch
  pub shown_is : shown ≡ outcomes a.stage.life.service batch
  pub moves : h.moves ≡ Move.Act q (Execute i) ∷ []

In-right-part : {X : Type 0} (x : X) (xs ys : List X) → In x ys → In x (xs ++ ys)
In-right-part x [] ys n = n
In-right-part x (y ∷ xs) ys n = inr (In-right-part x xs ys n)

-- an execution among the steps of acts is among those that they show
steps-shown : (r i : ℕ) (shown : List Outcome) (number : ℕ) (acts : List Act) → In (Step.Execute r i shown) (steps_of number acts) → In (Step.Execute r i shown) (shown_by acts)
steps-shown r i shown number [] n = n
steps-shown r i shown number (Show step ∷ acts) (inl e) = subst (λ (x : Step). In (Step.Execute r i shown) (executions x ++ shown_by acts)) e (inl refl)
steps-shown r i shown number (Show step ∷ acts) (inr n) = In-right-part _ (executions step) (shown_by acts) (steps-shown r i shown number acts n)
steps-shown r i shown number (Send to m ∷ acts) (inl e) = absurd cc
steps-shown r i shown number (Send to m ∷ acts) (inr n) = steps-shown r i shown (suc number) acts n
steps-shown r i shown number (Hand d ∷ acts) n = steps-shown r i shown number acts n
steps-shown r i shown number (Save k ∷ acts) n = steps-shown r i shown number acts n

module _ (cl : Cluster) (w : World) (r i : ℕ) (shown : List Outcome) (h : Matches cl w) (reads : StatesRead) (two : 2 ≤ cl.head.n) where
  -- what shows an execution executed it
  abbrev pub Tells : Happened → Type 0
  Tells x = In (Step.Execute r i shown) x.steps → Executed cl i shown x

  tells-refused : (word : Word) → Tells (refused word cl)
  tells-refused word n = absurd n

  tells-if : (b : Bool) (x y : Happened) → Tells x → Tells y → Tells (if b then x else y)
  tells-if true x y k l = k
  tells-if false x y k l = l

  tells-unless : (q : ℕ) (place : Place) (b : Bool) (step : Stepped) → Tells (happens_by step cl q place) → Tells (happens_by (unless_full b step) cl q place)
  tells-unless q place true step k = tells-refused Full
  tells-unless q place false step k = k

  tells-silent : (q : ℕ) (place : Place) (b : Running) (t : Turned) → shown_by t.acts ≡ [] → Tells (done_by cl q place b t)
  tells-silent q place b t none n = absurd (subst (λ (xs : List Step). In (Step.Execute r i shown) xs) none (steps-shown r i shown (length cl.sent) t.acts n))

  module _ (q : ℕ) (place : Place) (a : Running) (there : slice_get cl.places q ≡ Some place) (up : place.running ≡ Some a) where
    mine : IsUp (config_of cl.head q) place.starts w a
    mine = (h.places q place there).up a up

    my_place : Placed (config_of cl.head q)
    my_place = record { me = h.within q place there; more = two; reads = reads }

    tells-decided : (j : ℕ) (batch : Batch) (b : Running) → a.stage.life.known j ≡ Some batch → (c : Bool) → is_due a.stage.life.service j ≡ c
        → Tells (done_by cl q place b (when c (shows (Step.Execute a.stage.config.me j (outcomes a.stage.life.service batch)) (Execute j)) (untouched a.stage)))
    tells-decided j batch b known false e n = absurd n
    tells-decided j batch b known true e (inr n) = absurd n
    tells-decided j batch b known true e (inl f) =
        let g : i ≡ j = cc in
        let k : shown ≡ outcomes a.stage.life.service batch = cc in
        record {
          q = q;
          a = a;
          up = (place, there, up);
          batch = batch;
          known = subst (λ x. a.stage.life.known x ≡ Some batch) (sym g) known;
          shown_is = k;
          moves = ap (λ x. Move.Act q (Execute x) ∷ []) (sym g);
        }

    tells-installed : (upto : ℕ) (state : State) (b : Running) (c : Bool) → Tells (done_by cl q place b (when c (shows (Step.Restore a.stage.config.me upto) (Restore upto state)) (untouched a.stage)))
    tells-installed upto state b false n = absurd n
    tells-installed upto state b true (inl f) = absurd cc
    tells-installed upto state b true (inr n) = absurd n

    tells-served : (d : Decision) (b : Running) → DecisionComes a.stage.life d → Tells (done_by cl q place b (serves d (untouched a.stage)))
    tells-served (Decided j batch) b is = tells-decided j batch b is (is_due a.stage.life.service j) refl
    tells-served (Installed upto state) b is = tells-installed upto state b (nat_lt a.stage.life.service.executed upto)

    tells-on_service : (ds : List Decision) → a.decisions ≡ ds → Tells (happens_by (on_service ds a) cl q place)
    tells-on_service [] e = tells-refused Empty
    tells-on_service (d ∷ more) e =
        tells-unless q place (makes_snapshot a.stage.life.service d && is_full a.dispatcher) _ (tells-served d _ (mine.decisions d (subst (λ (xs : List Decision). In d xs) (sym e) (inl refl))))

    tells-on_protocol : (items : List Item) → a.dispatcher ≡ items → Tells (happens_by (on_protocol items a) cl q place)
    tells-on_protocol [] e = tells-refused Empty
    tells-on_protocol (item ∷ more) e =
        let room = lane_limit - length a.decisions in
        tells-silent q place _ (turn a.stage item room)
        (over-turn (config_of cl.head q) place.starts w a.stage item room my_place mine.sits h.good h.sane (mine.items item (subst (λ (xs : List Item). In item xs) (sym e) (inl refl)))).1

    tells-on_retransmit : Tells (happens_by (retransmit_step a) cl q place)
    tells-on_retransmit = go (retransmit a.stage a.cursor) refl
      where
        go : (o : Option (ℕ × Turned)) → retransmit a.stage a.cursor ≡ o → Tells (happens_by (repeated o a) cl q place)
        go None e = tells-refused Empty
        go (Some found) e = tells-silent q place _ found.1 (over-retransmit (config_of cl.head q) place.starts w a.stage a.cursor found my_place mine.sits h.good h.sane e).2

    tells-batches : (b : Bool) (fed : Fed) (more : List Fed) → Tells (happens_by (batched b fed more a) cl q place)
    tells-batches true fed more = tells-unless q place (is_full a.dispatcher) _ (λ n. absurd n)
    tells-batches false fed more = λ n. absurd n

    tells-on_batch : (fed : List Fed) → Tells (happens_by (on_batch fed a) cl q place)
    tells-on_batch [] = tells-refused Empty
    tells-on_batch (fed ∷ more) = tells-batches (is_closed_by a.held fed) fed more

    tells-on_crash : Tells (on_crash cl q place a)
    tells-on_crash (inl e) = absurd cc
    tells-on_crash (inr n) = absurd n

  tells-begins : (q : ℕ) (place : Place) → slice_get cl.places q ≡ Some place → place.running ≡ None → Tells (begins cl q place)
  tells-begins q place there down = go (T.opening (config_of cl.head q) free_slots (suc place.starts) place.stable) refl
    where
      old : Beside (config_of cl.head q) w place
      old = h.places q place there

      go : (o : Option Opened) → T.opening (config_of cl.head q) free_slots (suc place.starts) place.stable ≡ o → Tells (begins_by o cl q place)
      go None e = λ n. absurd n
      go (Some o) e = λ n.
          let k = opens (config_of cl.head q) (suc place.starts) place.stable w o (record { me = h.within q place there; more = two; reads = reads }) h.good h.sane (old.down down) (sym old.stable) (ap suc (sym old.starts)) e in
          absurd (subst (λ (xs : List Step). In (Step.Execute r i shown) xs) k.shown (steps-shown r i shown (length cl.sent) o.turned.acts n))

  tells-at : (f : Cluster → ℕ → Place → Running → Happened) (q : ℕ) → ((place : Place) (a : Running) → slice_get cl.places q ≡ Some place → place.running ≡ Some a → Tells (f cl q place a)) → Tells (at_running f cl q)
  tells-at f q each = go (slice_get cl.places q) refl
    where
      inner : (place : Place) → slice_get cl.places q ≡ Some place → (o : Option Running) → place.running ≡ o → Tells (if_running o (λ a. f cl q place a) (refused Down cl))
      inner place there None e = tells-refused Down
      inner place there (Some a) e = each place a there e

      go : (o : Option Place) → slice_get cl.places q ≡ o → Tells (up_at o (f cl q) cl)
      go None e = tells-refused Down
      go (Some place) e = inner place e place.running refl

  tells-start : (q : ℕ) → Tells (start_by (slice_get cl.places q) cl q)
  tells-start q = go (slice_get cl.places q) refl
    where
      inner : (place : Place) → slice_get cl.places q ≡ Some place → (o : Option Running) → place.running ≡ o → Tells (if_running o (λ a. refused Up cl) (begins cl q place))
      inner place there None e = tells-begins q place there e
      inner place there (Some a) e = tells-refused Up

      go : (o : Option Place) → slice_get cl.places q ≡ o → Tells (start_by o cl q)
      go None e = tells-refused Up
      go (Some place) e = inner place e place.running refl

  tells-puts_item : (item : Item) (q : ℕ) → Tells (at_running (puts_item item) cl q)
  tells-puts_item item q = tells-at (puts_item item) q (λ place a p u. tells-if (is_full a.dispatcher) _ _ (tells-refused Full) (λ n. absurd n))

  tells-delivers : (o : Option Sent) (q : ℕ) → Tells (delivers o cl q)
  tells-delivers None q = tells-refused Unsent
  tells-delivers (Some m) q = tells-if (m.to == q) _ _ (tells-puts_item (Came m.from m.message) q) (tells-refused Unsent)

  pub tells-event : (line : Line) → Tells (event cl line)
  unfolding event
  tells-event (Line.Cluster head) = tells-refused Done
  tells-event (Line.Request q request) = tells-at (puts_request (Asked request)) q (λ place a p u. tells-if (is_full a.requests) _ _ (tells-refused Full) (λ n. absurd n))
  tells-event (Line.Batch q) = tells-at (takes_step batch_step) q (λ place a p u. tells-on_batch q place a p u a.requests)
  tells-event (Line.Tick q) = tells-at puts_tick q (λ place a p u. tells-if (is_full a.requests || is_full a.dispatcher) _ _ (tells-refused Full) (λ n. absurd n))
  tells-event (Line.Suspect q) = tells-puts_item Suspect q
  tells-event (Line.Deliver q m) = tells-delivers (slice_get cl.sent m) q
  tells-event (Line.Protocol q) = tells-at (takes_step protocol_step) q (λ place a p u. tells-on_protocol q place a p u a.dispatcher refl)
  tells-event (Line.Service q) = tells-at (takes_step service_step) q (λ place a p u. tells-on_service q place a p u a.decisions refl)
  tells-event (Line.Retransmit q) = tells-at (takes_step retransmit_step) q (λ place a p u. tells-on_retransmit q place a p u)
  tells-event (Line.Crash q) = tells-at on_crash q (λ place a p u. tells-on_crash q place a p u)
  tells-event (Line.Start q) = tells-start q
  tells-event Line.End = tells-refused Done

pub replies : (s : Schedule) → StatesRead → IsSchedule s → Replies s
unfolding trace
replies s reads is lines more line e r i shown n =
    let cl = after_lines s lines in
    let before = steps_after s lines in
    let h = reached-by s reads is lines (line ∷ more) e in
    let two : 2 ≤ cl.head.n = subst (λ (x : Head). 2 ≤ x.n) (sym h.head_is) is.some in
    let x = tells-event cl (end_of (setup_of_run s) opening before) r i shown h.matches reads two line n in
    let behind = steps_over (event cl line).cluster more in
    let p : steps_of_run s ≡ before ++ (Move.Act x.q (Execute i) ∷ behind)
    = parted s lines (line ∷ more) e ∙ ap (λ (ms : List Move). before ++ (ms ++ behind)) x.moves in
    let l = x.a.stage.life in
    let runs = runs-part s reads is before (Move.Act x.q (Execute i) ∷ behind) x.q l p (runs-life s before cl h x.q x.a x.up) in
    let does = does-part s reads is before behind (Move.Act x.q (Execute i)) p in
    let run = trace s reads is in
    let told = tells-of (setup_of_run s) is.few (steps_of_run s) (world_run s reads is) (tells s reads is) in
    let listed = all_execute_listed run told (list_of_run s) (list_of-is (setup_of_run s) is.few (steps_of_run s) (world_run s reads is)) (length before) x.q i l does runs in
    let same : x.batch ≡ listed.batch = let a = x.known in let b = listed.known in cc in
    record {
      batch = listed.batch;
      listed = listed.listed;
      shown_is = x.shown_is ∙ ap (λ (b : Batch). outcomes l.service b) same ∙ ap (λ (t : State). outcomes t listed.batch) listed.state_is;
    }

-- ---- The first line

start-silent : (cl : Cluster) (w : World) (r i : ℕ) (shown : List Outcome) → Matches cl w → StatesRead → 2 ≤ cl.head.n → (q : ℕ) → In (Step.Execute r i shown) (start_by (slice_get cl.places q) cl q).steps → ⊥
start-silent cl w r i shown h reads two q = go (slice_get cl.places q) refl
  where
    x : Step
    x = Step.Execute r i shown

    opened : (place : Place) → slice_get cl.places q ≡ Some place → place.running ≡ None → (o : Option Opened) → T.opening (config_of cl.head q) free_slots (suc place.starts) place.stable ≡ o
        → In x (begins_by o cl q place).steps → ⊥
    opened place there down None e n = n
    opened place there down (Some o) e n =
        let old = h.places q place there in
        let k = opens (config_of cl.head q) (suc place.starts) place.stable w o (record { me = h.within q place there; more = two; reads = reads }) h.good h.sane (old.down down) (sym old.stable) (ap suc (sym old.starts)) e in
        subst (λ (xs : List Step). In x xs) k.shown (steps-shown r i shown (length cl.sent) o.turned.acts n)

    inner : (place : Place) → slice_get cl.places q ≡ Some place → (o : Option Running) → place.running ≡ o → In x (if_running o (λ a. refused Up cl) (begins cl q place)).steps → ⊥
    inner place there None e n = opened place there e (T.opening (config_of cl.head q) free_slots (suc place.starts) place.stable) refl n
    inner place there (Some a) e n = n

    go : (o : Option Place) → slice_get cl.places q ≡ o → In x (start_by o cl q).steps → ⊥
    go None e n = n
    go (Some place) e n = inner place e place.running refl n

starts-silent : (head : Head) → StatesRead → 2 ≤ head.n → (r i : ℕ) (shown : List Outcome) (k q : ℕ) (done : Happened) → Reached head done.moves done.cluster → (In (Step.Execute r i shown) done.steps → ⊥)
    → In (Step.Execute r i shown) (first_starts k q done).steps → ⊥
starts-silent head reads two r i shown zero q done h silent n = silent n
starts-silent head reads two r i shown (suc k) q done h silent n =
    let next = start_by (slice_get done.cluster.places q) done.cluster q in
    let w = end_of (record { n = head.n; mode = head.mode; encode = state_bytes }) opening done.moves in
    let few : 2 ≤ done.cluster.head.n = subst (λ (x : Head). 2 ≤ x.n) (sym h.head_is) two in
    starts-silent head reads two r i shown k (suc q) (record { word = Done; steps = done.steps ++ next.steps; moves = done.moves ++ next.moves; cluster = next.cluster })
    (reached-more head done.moves done.cluster next h (happens-start done.cluster w reads h.matches few q))
    (λ m. ⊎_elim silent (λ y. start-silent done.cluster w r i shown h.matches reads few q y) (In-append (Step.Execute r i shown) done.steps next.steps m)) n

pub first_shows_none : (s : Schedule) → StatesRead → IsSchedule s → FirstShowsNone s
unfolding first_event
first_shows_none s reads is r i shown n =
    starts-silent s.head reads is.some r i shown s.head.n 0 (refused Done (fresh_cluster s.head)) (reached-fresh s.head) (λ m. m) n

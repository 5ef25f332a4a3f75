-- The run of every schedule has only requests for which the schedule asks: in the one list, in what a replica knows, and in what led to its store.
use Rattle.std.proofs.Common.{◌≡◌, ℕ, zero, suc, ◌+◌, ◌≤◌, ◌<◌, arith, List, [], ◌∷◌, ◌++◌, length, take, replicate, slice_get, Some, None, refl, sym, ap, subst, ◌∙◌, inl, inr, append-nil, append_assoc}
use Rattle.jp_types.specs.declared.command.Request.{Request}
use Rattle.jp_types.specs.Instances.{Batch}
use Rattle.paxos_world.specs.Served.{AreChosenIn, Stands}
use Rattle.paxos_world.proofs.Basics.{In-left}
use Rattle.kv_service.specs.Service.{State}
use Rattle.jp_types.specs.Lists.{In}
use Rattle.paxos_world.specs.Setup.{Setup}
use Rattle.paxos_world.specs.Trace.{IsChosenIn, IsRun, end_of}
use Rattle.paxos_world.specs.World.{World, Ballot, Sent, Move, ballots, after, opening}
use Rattle.schedules.specs.declared.line.Head.{Head}
use Rattle.schedules.specs.declared.line.Line.{Line}
use Rattle.schedules.specs.declared.line.Word.TheVariants.{Done}
use Rattle.schedules.specs.declared.schedule.Schedule.{Schedule}
use Rattle.schedules.specs.Cluster.{Place, Cluster, Happened, fresh_place, fresh_cluster}
use Rattle.schedules.specs.Run.{refused, start_by, first_starts, first_event, event, cluster_after}
use Rattle.turn_laws.specs.Limits.{StatesRead}
use Rattle.turn_laws.proofs.Joining.{get-in}
use Rattle.cluster_laws.specs.Laws.{IsSchedule, setup_of_run, steps_of_run, list_of_run, end_of_run, steps_over, steps_after, after_lines}
use Rattle.cluster_laws.proofs.Beside.{setup_at, Matches}
use Rattle.cluster_laws.proofs.Chosen.{list_chosen, one_is_chosen}
use Rattle.cluster_laws.proofs.Lines.{happens-start, happens-event}
use Rattle.cluster_laws.proofs.Schedules.{end-append, Reached, reached-fresh, reached-more, LinesTrue, joined-run}
use Rattle.cluster_laws.proofs.Whole.{runs-life, one_list, parted, states_listed}
use Rattle.request_laws.specs.Laws.{IsAsked, AreAsked, ListIsAsked, KnownIsAsked, StoresAreAsked, StatesAreAsked, ExecutedAreAsked}
use Rattle.request_laws.proofs.Origin.{SentMeet, known-in, chosen-in}
use Rattle.request_laws.proofs.Lanes.{ClusterMeets, Present, LineMeets, after-start, after-event}

-- what has happened since the opening is a run, and this holds of all requests in it
record Asks (P : Request → Type 0) (head : Head) (moves : List Move) (cl : Cluster) : Type 0 where
  reached : Reached head moves cl
  meets : ClusterMeets P cl

present-of : (head : Head) (moves : List Move) (cl : Cluster) → 2 ≤ head.n → head.n ≤ 9 → Reached head moves cl → Present cl
present-of head moves cl two few h =
    record {
      moves = moves;
      run = subst (λ (k : Head). IsRun (setup_at k) opening moves) (sym h.head_is) h.run;
      matches = subst (λ (k : Head). Matches cl (end_of (setup_at k) opening moves)) (sym h.head_is) h.matches;
      two = subst (λ (k : Head). 2 ≤ k.n) (sym h.head_is) two;
      few = subst (λ (k : Head). k.n ≤ 9) (sym h.head_is) few;
    }

-- ---- The first starts

-- no replica is up before the first starts
fresh-down : (k r : ℕ) (place : Place) → slice_get (replicate k fresh_place) r ≡ Some place → place.running ≡ None
fresh-down zero r place e = absurd cc
fresh-down (suc k) zero place e = let f : fresh_place ≡ place = cc in sym (ap (λ (p : Place). p.running) f)
fresh-down (suc k) (suc r) place e = fresh-down k r place e

fresh-meets : (P : Request → Type 0) (head : Head) → ClusterMeets P (fresh_cluster head)
fresh-meets P head =
    record {
      sent = λ x m n e. absurd n;
      places = λ r place a e f. (let g = fresh-down head.n r place e in absurd cc);
    }

asks-starts : (P : Request → Type 0) (head : Head) → StatesRead → 2 ≤ head.n → (k r : ℕ) (done : Happened) → Asks P head done.moves done.cluster → Asks P head (first_starts k r done).moves (first_starts k r done).cluster
asks-starts P head reads two zero r done h = h
asks-starts P head reads two (suc k) r done h =
    let next = start_by (slice_get done.cluster.places r) done.cluster r in
    let w = end_of (setup_at head) opening done.moves in
    let few : 2 ≤ done.cluster.head.n = subst (λ (x : Head). 2 ≤ x.n) (sym h.reached.head_is) two in
    asks-starts P head reads two k (suc r) (record { word = Done; steps = done.steps ++ next.steps; moves = done.moves ++ next.moves; cluster = next.cluster })
    (record {
      reached = reached-more head done.moves done.cluster next h.reached (happens-start done.cluster w reads h.reached.matches few r);
      meets = (after-start P done.cluster h.meets r).meets;
    })

asks-first : (P : Request → Type 0) (head : Head) → StatesRead → 2 ≤ head.n → Asks P head (first_event head).moves (first_event head).cluster
unfolding first_event
asks-first P head reads two = asks-starts P head reads two head.n 0 (refused Done (fresh_cluster head)) (record { reached = reached-fresh head; meets = fresh-meets P head })

-- ---- The lines

-- this holds of the request of each of these lines, from a cluster on, that is answered `done`
abbrev LinesMeet : (Request → Type 0) → Cluster → List Line → Type 0
LinesMeet P cl [] = Unit {0}
LinesMeet P cl (line ∷ lines) = LineMeets P cl line × LinesMeet P (event cl line).cluster lines

asks-lines : (P : Request → Type 0) (head : Head) → StatesRead → 2 ≤ head.n → head.n ≤ 9 → (lines : List Line) → LinesTrue lines → (moves : List Move) (cl : Cluster) → LinesMeet P cl lines → Asks P head moves cl
    → Asks P head (moves ++ steps_over cl lines) (cluster_after cl lines)
asks-lines P head reads two few [] are moves cl meet h = subst (λ (ms : List Move). Asks P head ms cl) (sym (append-nil moves)) h
asks-lines P head reads two few (line ∷ lines) are moves cl meet h =
    let e = event cl line in
    let w = end_of (setup_at head) opening moves in
    let some : 2 ≤ cl.head.n = subst (λ (x : Head). 2 ≤ x.n) (sym h.reached.head_is) two in
    let more : Asks P head (moves ++ e.moves) e.cluster
    = record {
      reached = reached-more head moves cl e h.reached (happens-event cl w reads h.reached.matches some line (are line (inl refl)));
      meets = (after-event P cl h.meets (present-of head moves cl two few h.reached) reads line meet.0).meets;
    } in
    subst (λ (ms : List Move). Asks P head ms (cluster_after e.cluster lines)) (append_assoc moves e.moves (steps_over e.cluster lines))
    (asks-lines P head reads two few lines (λ l n. are l (inr n)) (moves ++ e.moves) e.cluster meet.1 more)

cluster-append : (cl : Cluster) (xs ys : List Line) → cluster_after cl (xs ++ ys) ≡ cluster_after (cluster_after cl xs) ys
cluster-append cl [] ys = refl
cluster-append cl (x ∷ xs) ys = cluster-append (event cl x).cluster xs ys

-- a line that is answered `done` asks for its request
own-line : (s : Schedule) (lines before behind : List Line) (line : Line) → lines ≡ before ++ line ∷ behind → LineMeets (λ request. IsAsked s lines request) (after_lines s before) line
own-line s lines before behind (Line.Request r request) e = λ done. record { replica = r; before = before; behind = behind; split = e; done = done }
own-line s lines before behind (Line.Cluster head) e = tt
own-line s lines before behind (Line.Batch r) e = tt
own-line s lines before behind (Line.Tick r) e = tt
own-line s lines before behind (Line.Suspect r) e = tt
own-line s lines before behind (Line.Deliver r m) e = tt
own-line s lines before behind (Line.Protocol r) e = tt
own-line s lines before behind (Line.Service r) e = tt
own-line s lines before behind (Line.Retransmit r) e = tt
own-line s lines before behind (Line.Crash r) e = tt
own-line s lines before behind (Line.Start r) e = tt
own-line s lines before behind Line.End e = tt

own-lines : (s : Schedule) (lines before rest : List Line) → lines ≡ before ++ rest → LinesMeet (λ request. IsAsked s lines request) (after_lines s before) rest
own-lines s lines before [] e = tt
own-lines s lines before (line ∷ rest) e =
    let more = own-lines s lines (before ++ line ∷ []) rest (e ∙ sym (append_assoc before (line ∷ []) rest)) in (
      own-line s lines before rest line e,
      subst (λ (cl : Cluster). LinesMeet (λ request. IsAsked s lines request) cl rest) (cluster-append (first_event s.head).cluster before (line ∷ [])) more,
    )

-- a schedule that ends behind these lines
abbrev cut_at : Schedule → List Line → Schedule
cut_at s lines = record s { lines = lines }

cut-schedule : (s : Schedule) (lines more : List Line) → s.lines ≡ lines ++ more → IsSchedule s → IsSchedule (cut_at s lines)
cut-schedule s lines more e is =
    record { some = is.some; few = is.few; lines = λ line n. is.lines line (subst (λ (xs : List Line). In line xs) (sym e) (In-left line lines more n)) }

-- after any of its lines, all requests are those for which these lines ask
asks-by : (s : Schedule) → StatesRead → IsSchedule s → (lines more : List Line) → s.lines ≡ lines ++ more → Asks (λ request. IsAsked s lines request) s.head (steps_after s lines) (after_lines s lines)
asks-by s reads is lines more e =
    asks-lines (λ request. IsAsked s lines request) s.head reads is.some is.few lines (cut-schedule s lines more e is).lines
    (first_event s.head).moves (first_event s.head).cluster (own-lines s lines [] lines refl) (asks-first (λ request. IsAsked s lines request) s.head reads is.some)

-- ---- The laws

-- no request is none
none-asked : (s : Schedule) (lines : List Line) → AreAsked s lines []
none-asked s lines request n = absurd n

sent-asked : (s : Schedule) (lines : List Line) (moves : List Move) (cl : Cluster) → Asks (λ request. IsAsked s lines request) s.head moves cl → SentMeet (λ batch. AreAsked s lines batch) (end_of (setup_of_run s) opening moves).sent
sent-asked s lines moves cl h = subst (λ (xs : List Sent). SentMeet (λ batch. AreAsked s lines batch) xs) (sym h.reached.matches.sent) h.meets.sent

-- what a replica knows was asked for
pub known_is_asked : (s : Schedule) → StatesRead → IsSchedule s → KnownIsAsked s
known_is_asked s reads is lines more e r i a batch up k =
    let h = asks-by s reads is lines more e in
    let moves = steps_after s lines in
    known-in (λ b. AreAsked s lines b) (none-asked s lines) (setup_of_run s) is.few is.some moves h.reached.run (sent-asked s lines moves (after_lines s lines) h) r a.stage.life
    (runs-life s moves (after_lines s lines) h.reached r a up) i batch k

-- the batches of a list are chosen
listed-chosen : (n : ℕ) (w : World) (i : ℕ) (batches : List Batch) → AreChosenIn n w i batches → (batch : Batch) → In batch batches → (view : ℕ) × (j : ℕ) × IsChosenIn n w view j batch
listed-chosen n w i [] h batch m = absurd m
listed-chosen n w i (b ∷ batches) h batch (inl e) = (h.0.0, i, subst (λ (x : Batch). IsChosenIn n w h.0.0 i x) (sym e) h.0.1)
listed-chosen n w i (b ∷ batches) h batch (inr m) = listed-chosen n w (suc i) batches h.1 batch m

-- what is listed was asked for
pub list_is_asked : (s : Schedule) → StatesRead → IsSchedule s → ListIsAsked s
list_is_asked s reads is batch n =
    let h = asks-by s reads is s.lines [] (sym (append-nil s.lines)) in
    let all : Asks (λ request. IsAsked s s.lines request) s.head (steps_of_run s) (after_lines s s.lines)
    = subst (λ (ms : List Move). Asks (λ request. IsAsked s s.lines request) s.head ms (after_lines s s.lines)) (sym (joined-run s)) h in
    let c = listed-chosen s.head.n (end_of (setup_of_run s) opening (steps_of_run s)) 0 (list_of_run s) (list_chosen s reads is).chosen batch n in
    chosen-in (λ b. AreAsked s s.lines b) (none-asked s s.lines) (setup_of_run s) is.few is.some (steps_of_run s) all.reached.run (sent-asked s s.lines (steps_of_run s) (after_lines s s.lines) all) c.0 c.1 batch c.2

-- ---- The stores

-- what it asks for, these lines ask for
cut-asked : (s : Schedule) (lines : List Line) (request : Request) → IsAsked (cut_at s lines) lines request → IsAsked s lines request
cut-asked s lines request h = record { replica = h.replica; before = h.before; behind = h.behind; split = h.split; done = h.done }

-- ---- The one list of the run up to these lines is a front of the one list of the whole run

votes-stay : (c : Setup) (w : World) (moves : List Move) (b : Ballot) → In b w.votes → In b (end_of c w moves).votes
votes-stay c w [] b n = n
votes-stay c w (m ∷ ms) b n = votes-stay c (after c w m) ms b (In-left b w.votes (ballots w m) n)

chosen-stays : (c : Setup) (w : World) (moves : List Move) (view i : ℕ) (batch : Batch) → IsChosenIn c.n w view i batch → IsChosenIn c.n (end_of c w moves) view i batch
chosen-stays c w moves view i batch h =
    record { members = h.members; quorum = h.quorum; voted = λ p lt e. (let k = h.voted p lt e in (k.0, votes-stay c w moves _ k.1)) }

-- a batch of a front stands at some place of it
in-take : (k : ℕ) (xs : List Batch) (x : Batch) → In x (take k xs) → (j : ℕ) × (j < k) × (slice_get xs j ≡ Some x)
in-take zero xs x n = absurd n
in-take (suc k) [] x n = absurd n
in-take (suc k) (y ∷ ys) x (inl e) = (0, omega arith, ap (λ (z : Batch). Some z) (sym e))
in-take (suc k) (y ∷ ys) x (inr n) = let h = in-take k ys x n in let lt = h.1 in (suc h.0, omega arith, h.2)

-- there is a batch at each place below the length
place-has : (xs : List Batch) (j : ℕ) → j < length xs → (x : Batch) × (slice_get xs j ≡ Some x)
place-has [] j lt = absurd (omega arith)
place-has (y ∷ ys) zero lt = (y, refl)
place-has (y ∷ ys) (suc j) lt = place-has ys j (omega arith)

-- the batch at a place of a list is chosen there
place-chosen : (n : ℕ) (w : World) (i j m : ℕ) (xs : List Batch) (x : Batch) → AreChosenIn n w i xs → slice_get xs j ≡ Some x → i + j ≡ m → (view : ℕ) × IsChosenIn n w view m x
place-chosen n w i j m [] x h e is = absurd cc
place-chosen n w i zero m (y ∷ ys) x h e is =
    let f : y ≡ x = cc in
    let same : i ≡ m = omega arith in
    (h.0.0, subst (λ (z : Batch). IsChosenIn n w h.0.0 m z) f (subst (λ (k : ℕ). IsChosenIn n w h.0.0 k y) same h.0.1))
place-chosen n w i (suc j) m (y ∷ ys) x h e is = place-chosen n w (suc i) j m ys x h.1 e (omega arith)

-- a batch of the whole run's list, at a place that the shorter list has too, is in the shorter list
front-listed : (s : Schedule) → StatesRead → (is : IsSchedule s) → (lines more : List Line) → s.lines ≡ lines ++ more → (j : ℕ) (batch : Batch) → j < length (list_of_run (cut_at s lines))
    → slice_get (list_of_run s) j ≡ Some batch → In batch (list_of_run (cut_at s lines))
front-listed s reads is lines more e j batch lt at =
    let cut = cut_at s lines in
    let within = cut-schedule s lines more e is in
    let c = setup_of_run s in
    let n = s.head.n in
    let rest = steps_over (after_lines s lines) more in
    let x = place-has (list_of_run cut) j lt in
    let zeroes : 0 + j ≡ j = omega arith in
    let a = place-chosen n (end_of_run cut) 0 j j (list_of_run cut) x.0 (list_chosen cut reads within).chosen x.1 zeroes in
    let b = place-chosen n (end_of_run s) 0 j j (list_of_run s) batch (list_chosen s reads is).chosen at zeroes in
    let ends : end_of c (end_of_run cut) rest ≡ end_of_run s
    = sym (end-append c opening (steps_of_run cut) rest) ∙ ap (λ (ms : List Move). end_of c opening (ms ++ rest)) (joined-run cut) ∙ ap (λ (ms : List Move). end_of c opening ms) (sym (parted s lines more e)) in
    let later : IsChosenIn n (end_of_run s) a.0 j x.0 = subst (λ (w : World). IsChosenIn n w a.0 j x.0) ends (chosen-stays c (end_of_run cut) rest a.0 j x.0 a.1) in
    let same : batch ≡ x.0 = one_is_chosen s reads is j b.0 a.0 batch x.0 b.1 later in
    subst (λ (y : Batch). In y (list_of_run cut)) (sym same) (get-in (list_of_run cut) j x.0 x.1)

-- what a state executed that stands on the shorter list
executed-asked : (s : Schedule) → StatesRead → (is : IsSchedule s) → (lines more : List Line) → s.lines ≡ lines ++ more → (x : State) → Stands (list_of_run (cut_at s lines)) x → ExecutedAreAsked s lines x
executed-asked s reads is lines more e x stands batch n request m =
    let p = in-take x.executed (list_of_run s) batch n in
    let lt = p.1 in
    let le = stands.within in
    cut-asked s lines request
    (list_is_asked (cut_at s lines) reads (cut-schedule s lines more e is) batch (front-listed s reads is lines more e p.0 batch (omega arith) p.2) request m)

pub stores_are_asked : (s : Schedule) → StatesRead → IsSchedule s → StoresAreAsked s
stores_are_asked s reads is lines more e r a up =
    executed-asked s reads is lines more e a.stage.life.service (one_list (cut_at s lines) reads (cut-schedule s lines more e is) lines [] (sym (append-nil lines)) r a up)

pub states_are_asked : (s : Schedule) → StatesRead → IsSchedule s → StatesAreAsked s
states_are_asked s reads is lines more e r a up x n =
    executed-asked s reads is lines more e x (states_listed (cut_at s lines) reads (cut-schedule s lines more e is) lines [] (sym (append-nil lines)) r a up x n)

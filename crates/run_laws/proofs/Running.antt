-- Each run of the code is the model's.
use Rattle.std.proofs.Common.{◌≡◌, ℕ, suc, ◌≤◌, true, false, List, [], ◌∷◌, ◌++◌, length, map, take, drop, nat_lt, Option, Some, None, slice_get, refl, sym, ap, subst, ◌∙◌, arith, append-nil, append_assoc}
use Rattle.std.proofs.lemmas.Bool.Decides.{nat_tests}
use Rattle.std.proofs.lemmas.List.{take-append-drop}
use Rattle.replica_node.specs.Whole.{Whole}
use Rattle.schedules.specs.declared.event.Event.{Event}
use Rattle.schedules.specs.declared.event.Run.{Run}
use Rattle.schedules.specs.declared.line.Line.{Line}
use Rattle.schedules.specs.declared.schedule.Schedule.{Schedule}
use Rattle.paxos_world.specs.Replica.{Running}
use Rattle.schedules.specs.Cluster.{Place, Cluster}
use Rattle.schedules.specs.Heads.{IsHead}
use Rattle.cluster.specs.Frames.{frame_limit}
use Rattle.cluster.specs.Machine.{Machine}
use Rattle.cluster.specs.Machines as machines
use Rattle.schedules.specs.Run.{event, cluster_after, event_of, events_of, first_event, run_of, last_of, sent_bytes, sends_too_much}
use Rattle.cluster.specs.Runs.{Goes, Reaches, Runs, RunsPast}
use Rattle.cluster.specs.Stepping.{Stepping, Happens, outcome_of, lasts_of}
use Rattle.cluster_laws.specs.Laws.{after_lines}
use Rattle.run_laws.specs.Laws.{IsRunnable, IsTheRun, RunsAlike, RunsPastAlike}
use Rattle.replica_node.specs.Resembling.{Resembles, AreAlike}
use Rattle.cluster.specs.Resembling.{IsCluster, Alike}
use Rattle.cluster.proofs.Fronts.{bytes-alike, after-append, front-past, reached-by}
use Rattle.cluster.proofs.Goals.{OpensAlike, EventAlike, RunsReady}
use Rattle.cluster.proofs.Whole.{event-is}

-- ---- Constants

-- the constants of a runnable schedule are within their limits
pub head-within : (schedule : Schedule) → IsRunnable schedule → IsHead schedule.head
head-within schedule is = record { some = is.more; few = is.schedule_is.few; open_window = is.some; window_limit = is.window }

-- the constants of a cluster of a runnable schedule's run are within their limits
pub head-at : (schedule : Schedule) → IsRunnable schedule → (lines more : List Line) → schedule.lines ≡ lines ++ more → IsHead (after_lines schedule lines).head
head-at schedule is lines more e = subst IsHead (sym (reached-by schedule is.schedule_is lines more e).head_is) (head-within schedule is)

-- ---- What each replica ends with

-- a replica of the code that resembles one of the model ends with the same
last-up : (a : Running) (w : Whole) → Resembles a w → machines.last_of (Some w) ≡ last_of (Some a)
last-up a w h =
    let life = h.stage.keeps.is in
    λ k. Some (record { phase = (life k).phase; view = (life k).view; state = h.service k })

-- so do both where they are alike
last-alike : (o : Option Running) (p : Option Whole) → AreAlike o p → machines.last_of p ≡ last_of o
last-alike None None h = refl
last-alike (Some a) (Some w) h = last-up a w h
last-alike None (Some w) h = absurd h
last-alike (Some a) None h = absurd h

-- two lists of the same length that agree at each place under two functions are mapped to the same
maps-alike : {A B C : Type 0} (f : A → C) (g : B → C) (xs : List A) (ys : List B) → length xs ≡ length ys
    → ((r : ℕ) (x : A) (y : B) → slice_get xs r ≡ Some x → slice_get ys r ≡ Some y → g y ≡ f x) → map g ys ≡ map f xs
maps-alike f g [] [] e h = refl
maps-alike f g [] (y ∷ ys) e h = absurd cc
maps-alike f g (x ∷ xs) [] e h = absurd cc
maps-alike f g (x ∷ xs) (y ∷ ys) e h =
    let head = h 0 x y refl refl in
    let rest = maps-alike f g xs ys (let d = e in omega arith) (λ r a b p q. h (suc r) a b p q) in
    λ k. head k ∷ rest k

-- the machines of a run end with what the replicas of the cluster end with
pub lasts-alike : (c : Cluster) (s : Stepping) → IsCluster c s → lasts_of s.machines ≡ map (λ place. last_of place.running) c.places
lasts-alike c s h =
    maps-alike (λ (place : Place). last_of place.running) (λ (m : Machine). machines.last_of m.running) c.places s.machines (h.count ∙ sym h.machines)
    (λ r place m p q. last-alike place.running m.running (h.places r place m p q).running)

-- ---- Lines

-- these events are the model's of these lines, and the run after them is the cluster
record Went (c : Cluster) (lines : List Line) (events : List Event) (after : Stepping) : Type 0 where
  events_are : events ≡ events_of c lines
  cluster : IsCluster (cluster_after c lines) after

module _ (opens : OpensAlike) (comes : EventAlike) (ready : RunsReady) where
  module _ (schedule : Schedule) (is : IsRunnable schedule) where
    -- what happens at a line behind a front of the schedule is the model's
    happens-alike : (done : List Line) (line : Line) (more : List Line) (s : Stepping) (e : Event) (next : Stepping) → schedule.lines ≡ done ++ line ∷ more
        → IsCluster (after_lines schedule done) s → Happens s line e next → Alike (event (after_lines schedule done) line) (outcome_of e next)
    happens-alike done line more s e next split cluster h =
        comes (after_lines schedule done) s line (outcome_of e next) (head-at schedule is done (line ∷ more) split) (ready schedule is.schedule_is done (line ∷ more) split) cluster h.1

    -- lines behind a front of the schedule, which more follow, go as the model's
    goes-alike : (done lines more : List Line) (c : Cluster) (s : Stepping) (events : List Event) (after : Stepping) → schedule.lines ≡ done ++ (lines ++ more) → after_lines schedule done ≡ c
        → IsCluster c s → Goes s lines events after → Went c lines events after
    goes-alike done [] more c s [] after split at cluster goes = record { events_are = refl; cluster = subst (λ (x : Stepping). IsCluster c x) (sym goes) cluster }
    goes-alike done [] more c s (e ∷ events) after split at cluster goes = absurd goes
    goes-alike done (line ∷ lines) more c s [] after split at cluster goes = absurd goes
    goes-alike done (line ∷ lines) more c s (e ∷ events) after split at cluster goes =
        let next = goes.0 in
        let happens = goes.1.0 in
        let here : Alike (event c line) (outcome_of e next)
        = subst (λ (x : Cluster). Alike (event x line) (outcome_of e next)) at (happens-alike done line (lines ++ more) s e next split (subst (λ (x : Cluster). IsCluster x s) (sym at) cluster) happens) in
        let front : schedule.lines ≡ (done ++ line ∷ []) ++ (lines ++ more) = split ∙ sym (append_assoc done (line ∷ []) (lines ++ more)) in
        let then_at : after_lines schedule (done ++ line ∷ []) ≡ (event c line).cluster
        = after-append (first_event schedule.head).cluster done (line ∷ []) ∙ ap (λ (x : Cluster). (event x line).cluster) at in
        let rest = goes-alike (done ++ line ∷ []) lines more (event c line).cluster next events after front then_at here.after goes.1.1 in
        let first = event-is e line c next happens.0 here in
        let others = rest.events_are in
        record { events_are = λ k. first k ∷ others k; cluster = rest.cluster }

    -- a front of the schedule, which more lines follow, goes as the model's
    reaches-alike : (lines more : List Line) (events : List Event) (after : Stepping) → schedule.lines ≡ lines ++ more → Reaches schedule.head lines events after
        → (events ≡ event_of (Line.Cluster schedule.head) (first_event schedule.head) ∷ events_of (first_event schedule.head).cluster lines) × IsCluster (after_lines schedule lines) after
    reaches-alike lines more events after split r =
        let first = opens schedule.head r.first r.begun (head-within schedule is) r.opens in
        let went = goes-alike [] lines more (first_event schedule.head).cluster r.begun r.more after split refl first.1 r.goes in
        let one = first.0 in
        let others = went.events_are in
        (r.events_are ∙ (λ k. one k ∷ others k), went.cluster)

    -- a run of the schedule is the one that the model gives, and does not send too much
    run-alike : (run : Run) → Runs schedule run → IsTheRun schedule run
    unfolding run_of sends_too_much
    run-alike run h =
        let alike = reaches-alike schedule.lines [] run.events h.after (sym (append-nil schedule.lines)) h.reaches in
        let events = alike.0 in
        let last = h.last ∙ lasts-alike (after_lines schedule schedule.lines) h.after alike.1 in
        let bytes : sent_bytes (after_lines schedule schedule.lines) ≤ frame_limit
        = subst (λ (n : ℕ). n ≤ frame_limit) (bytes-alike (after_lines schedule schedule.lines) h.after alike.1) h.within in
        record { run_is = λ k. record { events = events k; last = last k }; within = not-more frame_limit (sent_bytes (after_lines schedule schedule.lines)) bytes }
      where
        not-more : (limit n : ℕ) → n ≤ limit → nat_lt limit n ≡ false
        not-more limit n le = grind (arith, nat_tests)

    -- where the frames of a front of the schedule pass the limit, the model's run sends too much
    past-alike : RunsPast schedule → sends_too_much schedule ≡ true
    past-alike h =
        let lines = take h.count schedule.lines in
        let more = drop h.count schedule.lines in
        let split : schedule.lines ≡ lines ++ more = sym (take-append-drop h.count schedule.lines) in
        let alike = reaches-alike lines more h.events h.after split h.reaches in
        front-past schedule is.schedule_is lines more h.after split alike.1 h.past

  -- each run of the code is the model's
  pub runs-alike : RunsAlike
  runs-alike schedule run is h = run-alike schedule is run h

  -- where the frames of a run of the code pass the limit, those of the model's run do
  pub runs-past-alike : RunsPastAlike
  runs-past-alike schedule is h = past-alike schedule is h

-- The run of a schedule is a run of the world.
use Rattle.std.proofs.Common.{◌≡◌, ℕ, zero, suc, ◌≤◌, ◌<◌, List, [], ◌∷◌, ◌++◌, length, map, replicate, slice_get, Some, refl, sym, ap, subst, ◌∙◌, inl, inr, arith, append-nil, append_assoc}
use Rattle.std.specs.List.{flat_map}
use Rattle.jp_types.specs.Lists.{In}
use Rattle.paxos_world.specs.Setup.{Setup}
use Rattle.paxos_world.specs.World.{World, Move, after, opening}
use Rattle.paxos_world.specs.Trace.{IsRun, end_of}
use Rattle.turn_laws.proofs.Goods.{opening_good}
use Rattle.turn_laws.specs.Limits.{StatesRead}
use Rattle.turn_laws.proofs.Sane.{SaneRun, sane-append, opening_sane}
use Rattle.cluster_laws.specs.Laws.{IsLine, steps_over}
use Rattle.schedules.specs.declared.line.Head.{Head}
use Rattle.schedules.specs.declared.line.Line.{Line}
use Rattle.schedules.specs.declared.line.Word.TheVariants.{Done}
use Rattle.schedules.specs.declared.schedule.Schedule.{Schedule}
use Rattle.schedules.specs.Cluster.{Place, Cluster, Happened, config_of, fresh_place, fresh_cluster}
use Rattle.schedules.specs.Run.{refused, start_by, event, first_starts, first_event, happenings, cluster_after, moves_of_run}
use Rattle.cluster_laws.proofs.Beside.{setup_at, Beside, Matches, Happens}
use Rattle.cluster_laws.proofs.Lines.{happens-start, happens-event}

-- ---- Runs joined

pub run-append : (c : Setup) (w : World) (xs ys : List Move) → IsRun c w xs → IsRun c (end_of c w xs) ys → IsRun c w (xs ++ ys)
run-append c w [] ys h k = k
run-append c w (x ∷ xs) ys h k = (h.0, run-append c (after c w x) xs ys h.1 k)

pub end-append : (c : Setup) (w : World) (xs ys : List Move) → end_of c w (xs ++ ys) ≡ end_of c (end_of c w xs) ys
end-append c w [] ys = refl
end-append c w (x ∷ xs) ys = end-append c (after c w x) xs ys

-- ---- The first starts

replicate-fresh : (k r : ℕ) (place : Place) → slice_get (replicate k fresh_place) r ≡ Some place → (place ≡ fresh_place) × (r < k)
replicate-fresh zero r place e = cc
replicate-fresh (suc k) zero place e = ((let f : fresh_place ≡ place = cc in sym f), omega arith)
replicate-fresh (suc k) (suc r) place e = let h = replicate-fresh k r place e in let lt = h.1 in (h.0, omega arith)

pub matches-fresh : (head : Head) → Matches (fresh_cluster head) opening
matches-fresh head =
    record {
      good = opening_good (setup_at head);
      sane = opening_sane;
      places = λ r place e. subst (λ (p : Place). Beside (config_of head r) opening p) (sym (replicate-fresh head.n r place e).0)
          (record { starts = refl; stable = refl; down = λ f. refl; up = λ a f. absurd cc });
      within = λ r place e. (replicate-fresh head.n r place e).1;
      sent = refl;
    }

-- what has happened since the opening is a run, and the cluster matches the world that it leads to
pub record Reached (head : Head) (moves : List Move) (cl : Cluster) : Type 0 where
  pub head_is : cl.head ≡ head
  pub count : length cl.places ≡ head.n
  pub run : IsRun (setup_at head) opening moves
  pub along : SaneRun (setup_at head) opening moves
  pub matches : Matches cl (end_of (setup_at head) opening moves)

count-fresh : (k : ℕ) → length (replicate k fresh_place) ≡ k
count-fresh zero = refl
count-fresh (suc k) = ap suc (count-fresh k)

pub reached-fresh : (head : Head) → Reached head [] (fresh_cluster head)
reached-fresh head = record { head_is = refl; count = count-fresh head.n; run = tt; along = opening_sane; matches = matches-fresh head }

-- one thing more happens
pub reached-more : (head : Head) (moves : List Move) (cl : Cluster) (h : Happened) → Reached head moves cl → Happens cl (end_of (setup_at head) opening moves) h → Reached head (moves ++ h.moves) h.cluster
reached-more head moves cl h a b =
    record {
      head_is = b.head ∙ a.head_is;
      count = b.count ∙ a.count;
      run = run-append (setup_at head) opening moves h.moves a.run (subst (λ (k : Head). IsRun (setup_at k) (end_of (setup_at head) opening moves) h.moves) a.head_is b.run);
      along = sane-append (setup_at head) opening moves h.moves a.along (subst (λ (k : Head). SaneRun (setup_at k) (end_of (setup_at head) opening moves) h.moves) a.head_is b.along);
      matches = subst (λ (w : World). Matches h.cluster w) (sym (end-append (setup_at head) opening moves h.moves))
          (subst (λ (k : Head). Matches h.cluster (end_of (setup_at k) (end_of (setup_at head) opening moves) h.moves)) a.head_is b.matches);
    }

reached-starts : (head : Head) → StatesRead → 2 ≤ head.n → (k r : ℕ) (done : Happened) → Reached head done.moves done.cluster → Reached head (first_starts k r done).moves (first_starts k r done).cluster
reached-starts head reads two zero r done h = h
reached-starts head reads two (suc k) r done h =
    let next = start_by (slice_get done.cluster.places r) done.cluster r in
    let w = end_of (setup_at head) opening done.moves in
    let few : 2 ≤ done.cluster.head.n = subst (λ (x : Head). 2 ≤ x.n) (sym h.head_is) two in
    reached-starts head reads two k (suc r) (record { word = Done; steps = done.steps ++ next.steps; moves = done.moves ++ next.moves; cluster = next.cluster })
    (reached-more head done.moves done.cluster next h (happens-start done.cluster w reads h.matches few r))

pub reached-first : (head : Head) → StatesRead → 2 ≤ head.n → Reached head (first_event head).moves (first_event head).cluster
unfolding first_event
reached-first head reads two = reached-starts head reads two head.n 0 (refused Done (fresh_cluster head)) (reached-fresh head)

-- ---- The lines

-- each request of these lines is within the limits
abbrev pub LinesTrue : List Line → Type 0
LinesTrue lines = (line : Line) → In line lines → IsLine line

pub reached-lines : (head : Head) → StatesRead → 2 ≤ head.n → (lines : List Line) → LinesTrue lines → (moves : List Move) (cl : Cluster) → Reached head moves cl → Reached head (moves ++ steps_over cl lines) (cluster_after cl lines)
reached-lines head reads two [] are moves cl h = subst (λ (ms : List Move). Reached head ms cl) (sym (append-nil moves)) h
reached-lines head reads two (line ∷ lines) are moves cl h =
    let e = event cl line in
    let w = end_of (setup_at head) opening moves in
    let few : 2 ≤ cl.head.n = subst (λ (x : Head). 2 ≤ x.n) (sym h.head_is) two in
    let more = reached-more head moves cl e h (happens-event cl w reads h.matches few line (are line (inl refl))) in
    subst (λ (ms : List Move). Reached head ms (cluster_after e.cluster lines)) (append_assoc moves e.moves (steps_over e.cluster lines))
    (reached-lines head reads two lines (λ l n. are l (inr n)) (moves ++ e.moves) e.cluster more)

-- the steps of a run are those of the first line and those of the others
joined-happenings : (cl : Cluster) (lines : List Line) → flat_map (λ moves. moves) (map (λ (h : Happened). h.moves) (happenings cl lines)) ≡ steps_over cl lines
joined-happenings cl [] = refl
joined-happenings cl (line ∷ lines) = ap (λ ms. (event cl line).moves ++ ms) (joined-happenings (event cl line).cluster lines)

pub joined-run : (s : Schedule) → flat_map (λ moves. moves) (moves_of_run s) ≡ (first_event s.head).moves ++ steps_over (first_event s.head).cluster s.lines
unfolding moves_of_run
joined-run s = ap (λ ms. (first_event s.head).moves ++ ms) (joined-happenings (first_event s.head).cluster s.lines)

pub steps-append : (cl : Cluster) (xs ys : List Line) → steps_over cl (xs ++ ys) ≡ steps_over cl xs ++ steps_over (cluster_after cl xs) ys
steps-append cl [] ys = refl
steps-append cl (x ∷ xs) ys = ap (λ ms. (event cl x).moves ++ ms) (steps-append (event cl x).cluster xs ys) ∙ sym (append_assoc (event cl x).moves (steps_over (event cl x).cluster xs) (steps_over (cluster_after (event cl x).cluster xs) ys))

-- after any of its lines a schedule's cluster matches the world
pub reached : (head : Head) → StatesRead → 2 ≤ head.n → (lines : List Line) → LinesTrue lines → Reached head ((first_event head).moves ++ steps_over (first_event head).cluster lines) (cluster_after (first_event head).cluster lines)
reached head reads two lines are = reached-lines head reads two lines are (first_event head).moves (first_event head).cluster (reached-first head reads two)

-- Over each list of allowed steps the service states are those after prefixes of the computed list.
use Rattle.std.proofs.Common.{◌≡◌, ℕ, zero, suc, ◌≤◌, ◌<◌, ◌⊎◌, List, [], ◌∷◌, ◌++◌, length, take, drop, slice_get, Option, Some, refl, sym, ap, subst, ◌∙◌, inl, inr, arith, append-nil}
use Rattle.kv_service.specs.Service.{State}
use Rattle.paxos_world.proofs.Basics.{le_or_lt}
use Rattle.paxos_world.specs.Setup.{Setup}
use Rattle.paxos_world.specs.World.{World, Move, after, opening}
use Rattle.paxos_world.specs.Trace.{at, world_from, IsRun, end_of}
use Rattle.paxos_world.specs.Served.{Occurs, TellsStates, OccursIn, TellsStatesIn, ListedRunsStand}
use Rattle.paxos_world.specs.ListOf.{list_of}
use Rattle.paxos_world.proofs.Listed.{run_of, from-first, at-end}
use Rattle.paxos_world.proofs.Listing.{list_of-is}
use Rattle.paxos_world.proofs.Standing.{all_stand}

begin : (c : Setup) (w : World) (moves : ℕ → Option Move) → world_from c w moves 0 ≡ w
unfolding world_from
begin c w moves = refl

-- the world after the first steps of a list
part-from : (c : Setup) (w : World) (steps more : List Move) → world_from c w (slice_get (steps ++ more)) (length steps) ≡ end_of c w steps
part-from c w [] more = begin c w (slice_get more)
part-from c w (m ∷ steps) more = from-first c w (slice_get (m ∷ (steps ++ more))) (length steps) ∙ part-from c (after c w m) steps more

pub at-part : (c : Setup) (few : c.n ≤ 9) (steps more : List Move) (h : IsRun c opening (steps ++ more)) → at (run_of c few (steps ++ more) h) (length steps) ≡ end_of c opening steps
unfolding at
at-part c few steps more h = part-from c opening steps more

-- the world at a moment of a list of steps
from-take : (c : Setup) (w : World) (moves : List Move) (t : ℕ) → t ≤ length moves → world_from c w (slice_get moves) t ≡ end_of c w (take t moves)
from-take c w moves zero le = begin c w (slice_get moves)
from-take c w [] (suc t) le = absurd (omega arith)
from-take c w (m ∷ ms) (suc t) le = from-first c w (slice_get (m ∷ ms)) t ∙ from-take c (after c w m) ms t (omega arith)

reached : (c : Setup) (few : c.n ≤ 9) (moves : List Move) (h : IsRun c opening moves) (t : ℕ) → t ≤ length moves → at (run_of c few moves h) t ≡ end_of c opening (take t moves)
unfolding at
reached c few moves h t le = from-take c opening moves t le

take-drop : (t : ℕ) (moves : List Move) → take t moves ++ drop t moves ≡ moves
take-drop zero moves = refl
take-drop (suc t) [] = refl
take-drop (suc t) (m ∷ ms) = ap (λ xs. m ∷ xs) (take-drop t ms)

-- what occurs in the run of a list of steps occurs in the list
occurs-in : (c : Setup) (few : c.n ≤ 9) (moves : List Move) (h : IsRun c opening moves) (s : State) → Occurs (run_of c few moves h) s → OccursIn c moves s
occurs-in c few moves h s o = go (le_or_lt o.0 (length moves))
  where
    t : ℕ
    t = o.0

    go : (t ≤ length moves) ⊎ (length moves < t) → OccursIn c moves s
    go (inl le) =
        let whole : take t moves ++ drop t moves ≡ moves = take-drop t moves in
        let is : at (run_of c few moves h) t ≡ end_of c opening (take t moves) = reached c few moves h t le in
        (take t moves, drop t moves, whole, o.1, o.2, subst (λ (w : World). (w.replicas o.1).running ≡ Some o.2) is o.3, o.4)
    go (inr lt) =
        let is : at (run_of c few moves h) t ≡ end_of c opening moves = at-end c few moves h t (omega arith) in
        (moves, [], append-nil moves, o.1, o.2, subst (λ (w : World). (w.replicas o.1).running ≡ Some o.2) is o.3, o.4)

pub tells-of : (c : Setup) (few : c.n ≤ 9) (moves : List Move) (h : IsRun c opening moves) → TellsStatesIn c moves → TellsStates (run_of c few moves h)
tells-of c few moves h tells =
    record { same = λ a b x y. tells.same a b (occurs-in c few moves h a x) (occurs-in c few moves h b y); some = λ a x. tells.some a (occurs-in c few moves h a x) }

pub listed_runs_stand : ListedRunsStand
listed_runs_stand c few steps more tells h q l runs =
    let run = run_of c few (steps ++ more) h in
    all_stand run (tells-of c few (steps ++ more) h tells) (list_of c.n (end_of c opening (steps ++ more)).votes) (list_of-is c few (steps ++ more) h) (length steps) q l
    (subst (λ (w : World). (w.replicas q).running ≡ Some l) (sym (at-part c few steps more h)) runs)

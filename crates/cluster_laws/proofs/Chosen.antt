-- The one list is that of the chosen batches, and what is known is chosen; and the run tells what happens at each line.
use Rattle.std.proofs.Common.{◌≡◌, suc, List, [], ◌∷◌, ◌++◌, length, slice_get, Some, refl, ap, ◌∙◌}
use Rattle.paxos_world.proofs.Adopted.{one_chosen}
use Rattle.paxos_world.proofs.Chosen.{known_are_chosen}
use Rattle.paxos_world.proofs.Listing.{list_is_chosen}
use Rattle.turn_laws.specs.Limits.{StatesRead}
use Rattle.schedules.specs.declared.line.Line.{Line}
use Rattle.schedules.specs.declared.schedule.Schedule.{Schedule}
use Rattle.schedules.specs.Cluster.{Cluster}
use Rattle.schedules.specs.Run.{first_event, event, event_of, events_of, cluster_after, run_of}
use Rattle.cluster_laws.specs.Laws.{IsSchedule, setup_of_run, steps_of_run, steps_over, steps_after, after_lines, ListIsChosen, OneIsChosen, KnownIsChosen, IsTold}
use Rattle.cluster_laws.proofs.Whole.{world_run, trace, runs-part, parted, runs-life, reached-by, chosen-over, chosen-then}

-- the one list is the list of the chosen batches
pub list_chosen : (s : Schedule) → StatesRead → IsSchedule s → ListIsChosen s
list_chosen s reads is = list_is_chosen (setup_of_run s) is.few (steps_of_run s) (world_run s reads is)

-- an instance is chosen with one batch alone
pub one_is_chosen : (s : Schedule) → StatesRead → IsSchedule s → OneIsChosen s
one_is_chosen s reads is i view view' batch batch' h h' =
    one_chosen (trace s reads is) i view view' batch batch' (chosen-over s reads is view i batch h) (chosen-over s reads is view' i batch' h')

-- what a replica knows is chosen
pub known_is_chosen : (s : Schedule) → StatesRead → IsSchedule s → KnownIsChosen s
known_is_chosen s reads is lines more e r i a batch up k =
    let x = runs-part s reads is (steps_after s lines) (steps_over (after_lines s lines) more) r a.stage.life (parted s lines more e) (runs-life s (steps_after s lines) (after_lines s lines) (reached-by s reads is lines more e) r a up) in
    let p = known_are_chosen (trace s reads is) (length (steps_after s lines)) r a.stage.life i batch x k in
    (p.0, chosen-then s reads is p.0 i batch p.1)

-- ---- The events of a run

-- there is one event a line
events-count : (c : Cluster) (lines : List Line) → length (events_of c lines) ≡ length lines
events-count c [] = refl
events-count c (line ∷ lines) = ap suc (events-count (event c line).cluster lines)

-- the event of a line is what happens at it, after those before it
event-at : (c : Cluster) (lines more : List Line) (line : Line) → slice_get (events_of c (lines ++ line ∷ more)) (length lines) ≡ Some (event_of line (event (cluster_after c lines) line))
event-at c [] more line = refl
event-at c (first ∷ lines) more line = event-at (event c first).cluster lines more line

-- the run tells what happens at each line
pub is_told : (s : Schedule) → IsTold s
unfolding run_of
is_told s =
    record {
      first = refl;
      lines = λ lines more line e. ap (λ (ls : List Line). slice_get (events_of (first_event s.head).cluster ls) (length lines)) e ∙ event-at (first_event s.head).cluster lines more line;
      count = ap suc (events-count (first_event s.head).cluster s.lines);
      last = refl;
    }

-- What settling shows: a rejoin, a Prepared step and launches, by the stage after the item.
use Rattle.std.specs.Prelude.{ℕ, zero, suc, ◌+◌, ◌-◌, min, max, List, [], ◌∷◌, nat_lt, if◌then◌else◌, Option, Some, None}
use Rattle.jp_types.specs.Instances.{Batch}
use Rattle.paxos_world.specs.declared.step.Step.{Step}
use Rattle.paxos_world.specs.Adoption.{counted_report, adopted_by}
use Rattle.paxos_world.specs.Life.{Leading, No, Preparing, Leads}
use Rattle.paxos_world.specs.Logs.{first_undecided, span_end}
use Rattle.paxos_world.specs.Stage.{setup_of, Stage, Item}
use Rattle.paxos_world.specs.Settling.{is_prepared, adoption_end, settles_rejoin, settles_prepared}
use Rattle.paxos_world.specs.Turn.{on_item, untouched}
use Rattle.paxos_world.specs.Writing.{◌▹◌}

-- the stage after the item, before it settles
abbrev pub after_item : Stage → Item → Stage
after_item s item = (untouched s ▹ on_item item).stage

-- the stage after it rejoined, where it did
abbrev pub after_rejoin : Stage → Item → Stage
after_rejoin s item = (untouched s ▹ on_item item ▹ settles_rejoin).stage

-- the stage after it became Prepared, where it did
abbrev pub after_prepared : Stage → Item → Stage
after_prepared s item = (untouched s ▹ on_item item ▹ settles_rejoin ▹ settles_prepared).stage

-- the step of rejoining in a view, if there is one
abbrev pub rejoins_in : ℕ → Option ℕ → List Step
rejoins_in me None = []
rejoins_in me (Some view) = Step.Rejoin me view ∷ []

-- the Prepared step of a stage that leads so: in phase 1, where the condition holds
abbrev pub prepared_by : Leading → Stage → List Step
prepared_by No s = []
prepared_by (Preparing first) s = if is_prepared s first then Step.Prepared s.config.me s.life.view (max (adoption_end s first) (first_undecided s)) ∷ [] else []
prepared_by (Leads lead) s = []

-- the launches of k instances from i on, each with its adopted batch
abbrev pub adopted_launches : ℕ → Stage → ℕ → List Step
adopted_launches zero s i = []
adopted_launches (suc k) s i =
    Step.Launch s.config.me s.life.view i (adopted_by s.config.n (counted_report (setup_of s.config) s.config.me s.life) s.life i) ∷ adopted_launches k s (suc i)

-- the launches of a stage that becomes Prepared: from the first instance of its phase 1, and from its base, up to the adoption's end
abbrev pub launches_at_prepared : Leading → Stage → List Step
launches_at_prepared No s = []
launches_at_prepared (Preparing first) s = if is_prepared s first then adopted_launches (adoption_end s first - max first s.base) s (max first s.base) else []
launches_at_prepared (Leads lead) s = []

-- waiting batches are launched one after another from an instance on, while it lies below the limit
abbrev pub placed_from : ℕ → ℕ → ℕ → ℕ → List Batch → List Step
placed_from me view next limit [] = []
placed_from me view next limit (batch ∷ batches) = if nat_lt next limit then Step.Launch me view next batch ∷ placed_from me view (suc next) limit batches else []

-- the launches of waiting batches: of a Prepared leader, from `next` on, below the window's end and the span's
abbrev pub launches_of_waiting : Leading → Stage → List Step
launches_of_waiting No s = []
launches_of_waiting (Preparing first) s = []
launches_of_waiting (Leads lead) s = placed_from s.config.me s.life.view lead.next (min (first_undecided s + s.config.window) (span_end s)) s.waiting

-- The lines that the events of a run answer.
use Rattle.std.specs.Prelude.{◌≡◌, List, ◌∷◌, map}
use Rattle.schedules.specs.declared.line.Line.{Line}
use Rattle.schedules.specs.declared.event.Event.{Event}
use Rattle.schedules.specs.declared.event.Run.{Run}
use Rattle.schedules.specs.declared.schedule.Schedule.{Schedule}

-- the lines of these events, in order
abbrev pub lines_of_events : List Event → List Line
lines_of_events events = map (λ e. e.line) events

-- the events of a run answer the lines of a schedule, in order
abbrev pub HasLines : Schedule → Run → Type 0
HasLines s run = lines_of_events run.events ≡ Line.Cluster s.head ∷ s.lines

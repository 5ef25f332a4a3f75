-- Runs of schedules, each replica on a machine of its own.
use Rattle.std.specs.Prelude.{◌≡◌, ◌≤◌, ◌<◌, ℕ, List, [], ◌∷◌, ◌++◌, length, take}
use Rattle.schedules.specs.declared.event.Event.{Event}
use Rattle.schedules.specs.declared.event.Run.{Run}
use Rattle.schedules.specs.declared.line.Head.{Head}
use Rattle.schedules.specs.declared.line.Line.{Line}
use Rattle.schedules.specs.declared.schedule.Schedule.{Schedule}
use Rattle.cluster.specs.Frames.{frame_bytes, frame_limit}
use Rattle.cluster.specs.Stepping.{Stepping, Opens, Happens, lasts_of}

-- these lines after the first have these events, in order, and leave the run so
abbrev pub Goes : Stepping → List Line → List Event → Stepping → Type 0
Goes s [] [] after = after ≡ s
Goes s [] (e ∷ events) after = ⊥
Goes s (line ∷ lines) [] after = ⊥
Goes s (line ∷ lines) (e ∷ events) after = (next : Stepping) × (Happens s line e next × Goes next lines events after)

-- the first line and these lines after it have these events, in order, and leave the run so
pub record Reaches (head : Head) (lines : List Line) (events : List Event) (s : Stepping) : Type 0 where
  pub first : Event
  pub more : List Event
  pub begun : Stepping
  pub events_are : events ≡ first ∷ more
  pub opens : Opens head first begun
  pub goes : Goes begun lines more s

-- this is a run of a schedule, and its frames do not pass the limit
pub record Runs (schedule : Schedule) (run : Run) : Type 0 where
  pub after : Stepping
  pub reaches : Reaches schedule.head schedule.lines run.events after
  pub last : run.last ≡ lasts_of after.machines
  pub within : frame_bytes after.sent ≤ frame_limit

-- a line sends frames that pass the limit
pub record PassesAt (line : Line) (s : Stepping) : Type 0 where
  pub event : Event
  pub after : Stepping
  pub happens : Happens s line event after
  pub past : frame_limit < frame_bytes after.sent

-- a line is run, and it and its event are kept
pub record RunsLine (line : Line) (s : Stepping) (lines : List Line) (events : List Event) (after : Stepping) (lines_after : List Line) (events_after : List Event) : Type 0 where
  pub event : Event
  pub happens : Happens s line event after
  pub lines_are : lines_after ≡ lines ++ line ∷ []
  pub events_are : events_after ≡ events ++ event ∷ []

-- the first starts send frames that pass the limit
pub record OpensPast (head : Head) : Type 0 where
  pub event : Event
  pub after : Stepping
  pub opens : Opens head event after
  pub past : frame_limit < frame_bytes after.sent

-- a run of some front of a schedule sends frames that pass the limit
pub record RunsPast (schedule : Schedule) : Type 0 where
  pub count : ℕ
  pub front : count ≤ length schedule.lines
  pub events : List Event
  pub after : Stepping
  pub reaches : Reaches schedule.head (take count schedule.lines) events after
  pub past : frame_limit < frame_bytes after.sent

-- When a run that goes on line by line is that of the model.
use Rattle.std.specs.Prelude.{◌≡◌, List, [], ◌∷◌, ◌++◌}
use Rattle.schedules.specs.Run.{first_event, event, event_of}
use Rattle.schedules.specs.declared.event.Event.{Event}
use Rattle.schedules.specs.declared.line.Head.{Head}
use Rattle.schedules.specs.declared.line.Line.{Line}
use Rattle.cluster_laws.specs.Laws.{IsLine, IsSchedule, after_lines}
use Rattle.cluster.specs.Resembling.{IsCluster}
use Rattle.cluster.specs.Stepping.{Stepping}

-- a run stands where the model's run of these lines does: each replica that is up is that of the model, each disk holds the number that it has there, and the messages that were sent are those of the model
pub record StandsFor (head : Head) (lines : List Line) (s : Stepping) : Type 0 where
  pub schedule : IsSchedule (record { head = head; lines = lines })
  pub is : IsCluster (after_lines (record { head = head; lines = lines }) lines) s

-- the first line has the model's event, and the run stands behind it
abbrev pub FollowsFirst : Head → Event → Stepping → Type 0
FollowsFirst head e after = (e ≡ event_of (Line.Cluster head) (first_event head)) × StandsFor head [] after

-- where a run stands behind these lines, the next one has the model's event, and the run stands behind it
abbrev pub FollowsLine : Stepping → Line → Event → Stepping → Type 0
FollowsLine before line e after =
    (lines : List Line) → StandsFor before.head lines before → IsLine line
    → (e ≡ event_of line (event (after_lines (record { head = before.head; lines = lines }) lines) line)) × StandsFor before.head (lines ++ line ∷ []) after

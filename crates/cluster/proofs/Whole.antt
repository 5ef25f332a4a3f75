-- A run that goes on line by line is the model's.
use Rattle.std.proofs.Common.{◌≡◌, ◌≤◌, List, [], ◌∷◌, ◌++◌, sym, subst, inl, inr, arith, append-nil}
use Rattle.jp_types.specs.Lists.{In}
use Rattle.paxos_world.proofs.Basics.{In-append}
use Rattle.replica_node.proofs.Whole.{puts-follow, starts-follow, steps-follow}
use Rattle.schedules.specs.Cluster.{Cluster}
use Rattle.schedules.specs.Heads.{IsHead}
use Rattle.schedules.specs.Run.{event, event_of, first_event}
use Rattle.schedules.specs.declared.event.Event.{Event}
use Rattle.schedules.specs.declared.line.Head.{Head}
use Rattle.schedules.specs.declared.line.Line.{Line}
use Rattle.schedules.specs.declared.schedule.Schedule.{Schedule}
use Rattle.cluster_laws.specs.Laws.{IsLine, IsSchedule, after_lines}
use Rattle.cluster.specs.Resembling.{Alike, IsCluster}
use Rattle.cluster.specs.Standing.{StandsFor}
use Rattle.cluster.specs.Stepping.{Stepping, outcome_of}
use Rattle.cluster.proofs.Events as events
use Rattle.cluster.proofs.Fronts.{after-append}
use Rattle.cluster.proofs.Goals.{EventAlike, FirstFollows, LineFollows, OpensAlike, StartAlike, StepAlike}
use Rattle.cluster.proofs.Ready.{runs-ready}
use Rattle.cluster.proofs.Starting as starting
use Rattle.cluster.proofs.Steps as steps

-- ---- Lines

-- the schedule of these lines
abbrev schedule_of : Head → List Line → Schedule
schedule_of head lines = record { head = head; lines = lines }

-- one line more is within the limits if it is itself
one-more : (head : Head) (lines : List Line) (line : Line) → IsSchedule (schedule_of head lines) → IsLine line → IsSchedule (schedule_of head (lines ++ line ∷ []))
one-more head lines line is h = record { some = is.some; few = is.few; lines = each }
  where
    each : (x : Line) → In x (lines ++ line ∷ []) → IsLine x
    each x i = elim (In-append x lines (line ∷ []) i) [ inl a ↦ is.lines x a | inr b ↦ elim b [ inl e ↦ subst IsLine (sym e) h | inr none ↦ absurd none ] ]

-- an event with the model's word and steps is the model's
pub event-is : (e : Event) (line : Line) (c : Cluster) (next : Stepping) → e.line ≡ line → Alike (event c line) (outcome_of e next) → e ≡ event_of line (event c line)
event-is e line c next same h =
    let word = h.word in
    let steps = h.steps in
    λ k. record { line = same k; word = word k; steps = steps k }

-- the first line leaves the run standing for no line
begins-standing : (head : Head) (s : Stepping) → IsHead head → IsCluster (first_event head).cluster s → StandsFor head [] s
begins-standing head s h is = record { schedule = record { some = more; few = h.few; lines = λ line i. absurd i }; is = is }
  where
    more : 2 ≤ head.n
    more = let some = h.some in omega arith

-- ---- The whole

-- a step of a replica is the model's
pub step-alike : StepAlike
step-alike = steps.step-alike steps-follow

-- a start of a replica is the model's
pub start-alike : StartAlike
start-alike = starting.start-alike starts-follow

-- the first line is the model's
pub opens-alike : OpensAlike
opens-alike = starting.opens-alike starts-follow

-- each line after it is the model's
pub event-alike : EventAlike
event-alike = events.event-alike step-alike puts-follow start-alike

-- the first line of a run has the model's event, and the run stands behind it
pub first-follows : FirstFollows
first-follows head e after h opens = let first = opens-alike head e after h opens in (first.0, begins-standing head after h first.1)

-- where a run stands behind some lines, the next one has the model's event, and the run stands behind it
pub line-follows : LineFollows
line-follows before after line e head happens lines stands is =
    let schedule = schedule_of before.head lines in
    let c = after_lines schedule lines in
    let ready = runs-ready schedule stands.schedule lines [] (sym (append-nil lines)) in
    let alike : Alike (event c line) (outcome_of e after)
    = event-alike c before line (outcome_of e after) (subst IsHead stands.is.head head) ready stands.is happens.1 in
    let more = sym (after-append (first_event before.head).cluster lines (line ∷ [])) in
    (event-is e line c after happens.0 alike, record { schedule = one-more before.head lines line stands.schedule is; is = subst (λ (x : Cluster). IsCluster x after) more alike.after })

-- Runs of the code are those of the model.
use Rattle.std.specs.Prelude.{◌≡◌, ℕ, ◌≤◌, true, false}
use Rattle.schedules.specs.declared.event.Run.{Run}
use Rattle.schedules.specs.declared.schedule.Schedule.{Schedule}
use Rattle.cluster.specs.Drawing.{IsDrawn, IsDrawnPast}
use Rattle.schedules.specs.Generator.{generate}
use Rattle.schedules.specs.Run.{run_of, sends_too_much}
use Rattle.cluster.specs.Runs.{Runs, RunsPast}
use Rattle.cluster_laws.specs.Laws.{IsSchedule}

-- a schedule of 3 to 9 replicas with a window of 1 to 64, and requests within the limits
pub record IsRunnable (schedule : Schedule) : Type 0 where
  pub schedule_is : IsSchedule schedule
  pub more : 3 ≤ schedule.head.n
  pub some : 1 ≤ schedule.head.window
  pub window : schedule.head.window ≤ 64

-- a run of a schedule is the one that the model gives, and does not send too much
pub record IsTheRun (schedule : Schedule) (run : Run) : Type 0 where
  pub run_is : run ≡ run_of schedule
  pub within : sends_too_much schedule ≡ false

abbrev pub RunsAlike : Type 0
RunsAlike = (schedule : Schedule) (run : Run) → IsRunnable schedule → Runs schedule run → IsTheRun schedule run

-- where the frames of a run pass the limit, those of the model's run do
abbrev pub RunsPastAlike : Type 0
RunsPastAlike = (schedule : Schedule) → IsRunnable schedule → RunsPast schedule → sends_too_much schedule ≡ true

-- a schedule that a seed draws for 3 to 9 replicas, each line with the run's state at that point, is the one that the model draws
abbrev pub DrawnAlike : Type 0
DrawnAlike = (seed n steps : ℕ) (schedule : Schedule) (run : Run) → 3 ≤ n → n ≤ 9 → steps ≤ 99998 → IsDrawn seed n steps schedule run → schedule ≡ generate seed n steps

-- where what a seed draws sends frames that pass the limit, the model's run does
abbrev pub DrawnPastAlike : Type 0
DrawnPastAlike = (seed n steps : ℕ) → 3 ≤ n → n ≤ 9 → steps ≤ 99998 → IsDrawnPast seed n steps → sends_too_much (generate seed n steps) ≡ true

-- the schedule that the model draws is within the limits
abbrev pub DrawnWithin : Type 0
DrawnWithin = (seed n steps : ℕ) → 3 ≤ n → n ≤ 9 → steps ≤ 99998 → IsRunnable (generate seed n steps)

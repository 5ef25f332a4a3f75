-- What holds of the run of a schedule.
use Rattle.schedules.specs.declared.schedule.Schedule.{Schedule}
use Rattle.cluster_laws.specs.Laws as laws
use Rattle.due_laws.specs.Laws as due
use Rattle.request_laws.specs.Laws as requests
use Rattle.step_laws.specs.Laws as turns

-- the run has one event a line, which is what happens at it; the steps of the run are steps of the world, each allowed where it comes; after each line its messages, lives and numbers are the world's; and each line shows just its steps
pub record IsWorldRun (s : Schedule) : Type 0 where
  pub told : laws.IsTold s
  pub run : laws.WorldRun s
  pub same : laws.WorldSame s
  pub shown : laws.AllShown s

-- there is one list of batches, the chosen ones: after each line the store of each replica that is up is the sequential one after a prefix of it, so is each state that it had or installed, and no two replicas know an instance with different batches, nor one that is not chosen
pub record HasOneList (s : Schedule) : Type 0 where
  pub chosen : laws.ListIsChosen s
  pub one : laws.OneIsChosen s
  pub stand : laws.OneList s
  pub states : laws.StatesListed s
  pub known : laws.KnownSame s
  pub known_chosen : laws.KnownIsChosen s

-- each request was asked for: the one list has only requests for which a line asked that was answered `done`. What a replica knows after some lines has only such requests of these lines, and so have those batches of the one list that led to its store by then, and to each state that it had or installed
pub record RequestsAreAsked (s : Schedule) : Type 0 where
  pub list : requests.ListIsAsked s
  pub known : requests.KnownIsAsked s
  pub stores : requests.StoresAreAsked s
  pub states : requests.StatesAreAsked s

-- over that list each request takes effect once at most, and a life executes an instance once at most
pub record ExecutesOnce (s : Schedule) : Type 0 where
  pub first : laws.AtMostOnce s
  pub life : laws.ExecutesOnceIn s

-- each reply of an execution that is shown is the one of that list
pub record TellsReplies (s : Schedule) : Type 0 where
  pub shown : laws.Replies s
  pub first : laws.FirstShowsNone s

-- a life rejoins where the condition holds, and as soon as it holds
pub record RejoinsExactly (s : Schedule) : Type 0 where
  pub met : laws.Rejoins s
  pub due : laws.RejoinsDue s

-- the turns of a Protocol stage, of which the run of every schedule is made, do exactly what the protocol says: which steps a turn shows, each kind by its own condition, what it hands on, sends, saves, keeps waiting and counts, and what a repeat sends
pub record TurnsAreExact : Type 0 where
  pub enters : turns.EntersExactly
  pub promises : turns.PromisesExactly
  pub prepared : turns.PreparedExactly
  pub launches : turns.LaunchesExactly
  pub votes : turns.VotesExactly
  pub learns : turns.LearnsExactly
  pub installs : turns.InstallsExactly
  pub answers : turns.AnswersExactly
  pub rejoins : turns.RejoinsExactly
  pub no_other : turns.ShowsNoOther
  pub hands_on : turns.HandsOnExactly
  pub handed : turns.HandedExactly
  pub sends : turns.SendsExactly
  pub saves : turns.SavesExactly
  pub waits : turns.WaitsExactly
  pub quiet : turns.CountsQuietExactly
  pub repeats : turns.RepeatsExactly
  pub repeats_only : turns.RepeatsOnly

-- what may be done is done. After each line no life that runs could be Prepared and is not, each instance is known of which its notes show an acceptance by a majority, no batch waits where a launch may go, and a Protocol stage that took an item has nothing left to hand on, or its decision lane is full; a line of a Service stage executes or takes over what is due; and each turn notes what it took and launched
pub record LeavesNothingDue (s : Schedule) : Type 0 where
  pub prepares : due.PreparedDue s
  pub learns : due.LearnDue s
  pub notes : due.NoteDue
  pub launches : due.LaunchDue s
  pub hands_on : due.HandDue s
  pub serves : due.ServeDue s

-- what holds of the run of a schedule
pub record Headline (s : Schedule) : Type 0 where
  pub world_run : IsWorldRun s
  pub one_list : HasOneList s
  pub requests_are_asked : RequestsAreAsked s
  pub at_most_once : ExecutesOnce s
  pub replies : TellsReplies s
  -- a Recovering life does not promise, vote, launch, enter a view or answer a recovery
  pub recovering_is_silent : laws.RecoveringIsSilent s
  pub rejoins_exactly : RejoinsExactly s
  pub turns_are_exact : TurnsAreExact
  pub nothing_is_due : LeavesNothingDue s

-- For which requests a schedule asks, and that its run has no others: in the one list, in what a replica knows, and in what led to a store.
use Rattle.std.specs.Prelude.{◌≡◌, ℕ, ◌⊎◌, List, ◌∷◌, ◌++◌, take, Some}
use Rattle.jp_types.specs.declared.command.Request.{Request}
use Rattle.jp_types.specs.Instances.{Batch}
use Rattle.kv_service.specs.Service.{State}
use Rattle.paxos_world.specs.Replica.{Running}
use Rattle.jp_types.specs.Lists.{In}
use Rattle.schedules.specs.declared.line.Line.{Line}
use Rattle.schedules.specs.declared.line.Word.TheVariants.{Done}
use Rattle.schedules.specs.declared.schedule.Schedule.{Schedule}
use Rattle.schedules.specs.Run.{event}
use Rattle.cluster_laws.specs.Laws.{RunsAt, after_lines, list_of_run}

-- these first lines of the schedule ask some replica for the request, in a line that is answered `done`: the replica was up, and its lane took the request
pub record IsAsked (s : Schedule) (lines : List Line) (request : Request) : Type 0 where
  pub replica : ℕ
  pub before : List Line
  pub behind : List Line
  pub split : lines ≡ before ++ Line.Request replica request ∷ behind
  pub done : (event (after_lines s before) (Line.Request replica request)).word ≡ Done

-- they ask for each request of the batch
abbrev pub AreAsked : Schedule → List Line → Batch → Type 0
AreAsked s lines batch = (request : Request) → In request batch → IsAsked s lines request

-- the one list of the whole run has only requests that the schedule asks for
abbrev pub ListIsAsked : Schedule → Type 0
ListIsAsked s = (batch : Batch) → In batch (list_of_run s) → AreAsked s s.lines batch

-- what a replica knows of an instance after some lines has only requests that these lines ask for
abbrev pub KnownIsAsked : Schedule → Type 0
KnownIsAsked s =
    (lines more : List Line) → s.lines ≡ lines ++ more → (r i : ℕ) (a : Running) (batch : Batch) → RunsAt (after_lines s lines) r a → a.stage.life.known i ≡ Some batch → AreAsked s lines batch

-- of the one list of the whole run, the batches that this state has executed have only requests that these lines ask for
abbrev pub ExecutedAreAsked : Schedule → List Line → State → Type 0
ExecutedAreAsked s lines x = (batch : Batch) → In batch (take x.executed (list_of_run s)) → AreAsked s lines batch

-- so it is for the store of each replica that is up after some lines
abbrev pub StoresAreAsked : Schedule → Type 0
StoresAreAsked s = (lines more : List Line) → s.lines ≡ lines ++ more → (r : ℕ) (a : Running) → RunsAt (after_lines s lines) r a → ExecutedAreAsked s lines a.stage.life.service

-- and for each state that its service had in its life, or that the life installed
abbrev pub StatesAreAsked : Schedule → Type 0
StatesAreAsked s =
    (lines more : List Line) → s.lines ≡ lines ++ more → (r : ℕ) (a : Running) → RunsAt (after_lines s lines) r a → (x : State) → In x a.stage.life.states ⊎ In x a.stage.life.installed → ExecutedAreAsked s lines x

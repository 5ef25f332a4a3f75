-- The steps that the text of a run shows, by the steps of the world that they are.
use Rattle.std.specs.Prelude.{ℕ, List, [], ◌∷◌, ◌++◌, Option, Some, None}
use Rattle.kv_service.specs.declared.outcome.Outcome.{Outcome}
use Rattle.kv_service.specs.Service.{State, outcomes}
use Rattle.paxos_world.specs.declared.step.Step.{Step}
use Rattle.paxos_world.specs.Setup.{Setup}
use Rattle.paxos_world.specs.Life.{Life}
use Rattle.jp_types.specs.Instances.{Batch}
use Rattle.paxos_world.specs.World.{World, Sent, Deed, Take, Enter, Open, Promise, Prepared, Launch, Vote, Learn, Answer, Rejoin, Install, Execute, Restore, Say, Move, First, Return, Crash, Act, of_running, sends, after}
use Rattle.paxos_world.specs.Stage as stage

-- the outcomes of the known batch at a service state, and none where no batch is known
abbrev pub outcomes_with : State → Option Batch → List Outcome
outcomes_with s None = []
outcomes_with s (Some batch) = outcomes s batch

-- the step that the text shows of what a life of r does. Of taking a message it shows none, and of a Say only the message that is sent
abbrev pub shown_of_deed : ℕ → Life → Deed → List Step
shown_of_deed r l (Take from message) = []
shown_of_deed r l (Enter view) = Step.Enter r view ∷ []
shown_of_deed r l (Open view first) = Step.Promise r view ∷ []
shown_of_deed r l (Promise view first mark low report) = Step.Promise r view ∷ []
shown_of_deed r l (Prepared view x) = Step.Prepared r view x ∷ []
shown_of_deed r l (Launch view i batch) = Step.Launch r view i batch ∷ []
shown_of_deed r l (Vote view i batch) = Step.Vote r view i ∷ []
shown_of_deed r l (Learn i batch) = Step.Learn r i ∷ []
shown_of_deed r l (Answer to view next mark) = Step.Answer r to view next ∷ []
shown_of_deed r l (Rejoin view) = Step.Rejoin r view ∷ []
shown_of_deed r l (Install upto state) = Step.Install r upto ∷ []
shown_of_deed r l (Execute i) = Step.Execute r i (outcomes_with l.service (l.known i)) ∷ []
shown_of_deed r l (Restore upto state) = Step.Restore r upto ∷ []
shown_of_deed r l (Say to message) = []

-- the step that the text shows of a step of the world
abbrev pub shown_of : World → Move → List Step
shown_of w (First r) = Step.First r ∷ []
shown_of w (Return r mark) = Step.Return r mark ∷ []
shown_of w (Crash r) = Step.Crash r ∷ []
shown_of w (Act r deed) = of_running (w.replicas r).running (λ l. shown_of_deed r l deed)

-- the steps that the text shows of these steps of the world, one after another from w on
abbrev pub shown_along : Setup → World → List Move → List Step
shown_along c w [] = []
shown_along c w (m ∷ ms) = shown_of w m ++ shown_along c (after c w m) ms

-- the messages that these steps of the world add, one after another from w on
abbrev pub sends_along : Setup → World → List Move → List Sent
sends_along c w [] = []
sends_along c w (m ∷ ms) = sends c w m ++ sends_along c (after c w m) ms

-- the steps that acts show
abbrev pub shown_in : List stage.Act → List Step
shown_in [] = []
shown_in (stage.Show step ∷ acts) = step ∷ shown_in acts
shown_in (stage.Send to m ∷ acts) = shown_in acts
shown_in (stage.Hand d ∷ acts) = shown_in acts
shown_in (stage.Save k ∷ acts) = shown_in acts

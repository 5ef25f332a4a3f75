-- The one list of chosen batches, and service states that a prefix of it leads to.
use Rattle.std.specs.Prelude.{◌≡◌, ◌≢◌, ℕ, suc, ◌≤◌, List, [], ◌∷◌, length, take, ◌++◌, slice_get, Some, ◌⊎◌}
use Rattle.kv_service.specs.declared.outcome.Kind.{Kind}
use Rattle.kv_service.specs.declared.outcome.Outcome.{Outcome}
use Rattle.kv_service.specs.Service.{State, serve, start, execute, outcomes}
use Rattle.jp_types.specs.Lists.{In}
use Rattle.paxos_world.specs.Setup.{Setup}
use Rattle.paxos_world.specs.Life.{Life}
use Rattle.jp_types.specs.Instances.{Batch}
use Rattle.jp_types.specs.declared.mode.Phase.TheVariants.{Recovering}
use Rattle.paxos_world.specs.World.{World, Deed, Take, Enter, Open, Promise, Prepared, Launch, Vote, Learn, Answer, Rejoin, Install, Execute, Restore, Say, Act, Move, opening}
use Rattle.paxos_world.specs.Trace.{Trace, Runs, Does, IsChosen, IsChosenIn, IsRun, end_of}
use Rattle.paxos_world.specs.ListOf.{list_of}

-- these batches are chosen in the instances i, i + 1 and so on
abbrev pub AreChosenFrom : Trace → ℕ → List Batch → Type 0
AreChosenFrom run i [] = Unit {0}
AreChosenFrom run i (batch ∷ batches) = ((view : ℕ) × IsChosen run view i batch) × AreChosenFrom run (suc i) batches

-- the list of a run: the chosen batches up to the first instance that is not chosen
pub record IsList (run : Trace) (batches : List Batch) : Type 0 where
  pub chosen : AreChosenFrom run 0 batches
  pub ends : (view : ℕ) (batch : Batch) → ¬ IsChosen run view (length batches) batch

-- a service state is that of the sequential service after the first k batches of the list, where k is its executed number
pub record Stands (batches : List Batch) (state : State) : Type 0 where
  pub within : state.executed ≤ length batches
  pub state_is : state ≡ serve (take state.executed batches)

-- a service state that some life of the run had or installed
abbrev pub Occurs : Trace → State → Type 0
Occurs run s = (t : ℕ) × (q : ℕ) × (l : Life) × Runs run t q l × (In s l.states ⊎ In s l.installed)

-- the encoding gives different bytes for different states of the run, and never none
pub record TellsStates (run : Trace) : Type 0 where
  pub same : (a b : State) → Occurs run a → Occurs run b → run.setup.encode a ≡ run.setup.encode b → a ≡ b
  pub some : (a : State) → Occurs run a → run.setup.encode a ≢ []

-- a service state that a life had or installed, where the life runs after some prefix of these steps
abbrev pub OccursIn : Setup → List Move → State → Type 0
OccursIn c moves s =
    (steps : List Move) × (more : List Move) × (steps ++ more ≡ moves) × (q : ℕ) × (l : Life) × (((end_of c opening steps).replicas q).running ≡ Some l) × (In s l.states ⊎ In s l.installed)

-- the encoding gives different bytes for different states of these steps, and never none
pub record TellsStatesIn (c : Setup) (moves : List Move) : Type 0 where
  pub same : (a b : State) → OccursIn c moves a → OccursIn c moves b → c.encode a ≡ c.encode b → a ≡ b
  pub some : (a : State) → OccursIn c moves a → c.encode a ≢ []

-- the service state of each running life is that after a prefix of the one list, and so is each state that it had or installed
abbrev pub AllStand : Trace → Type 0
AllStand run = TellsStates run → (batches : List Batch) → IsList run batches → (t q : ℕ) (l : Life) → Runs run t q l
    → Stands batches l.service × ((s : State) → In s l.states → Stands batches s) × ((s : State) → In s l.installed → Stands batches s)

-- a life executes an instance at most once
abbrev pub ExecutesOnce : Trace → Type 0
ExecutesOnce run = (t t' q i : ℕ) (l l' : Life) → Does run t (Act q (Execute i)) → Does run t' (Act q (Execute i)) → Runs run t q l → Runs run t' q l' → l.number ≡ l'.number → t ≡ t'

-- the outcomes of these batches, one after another from s on
abbrev pub outcomes_from : State → List Batch → List Outcome
outcomes_from s [] = []
outcomes_from s (batch ∷ batches) = outcomes s batch ++ outcomes_from (execute s batch) batches

-- no two outcomes that are First have one client and number
abbrev pub FirstsDiffer : List Outcome → Type 0
FirstsDiffer [] = Unit {0}
FirstsDiffer (o ∷ os) = ((p : Outcome) → In p os → o.kind ≡ Kind.First → p.kind ≡ Kind.First → p.client ≡ o.client → p.number ≢ o.number) × FirstsDiffer os

-- each pair of client and number is First at one place at most, whatever the batches
abbrev pub FirstOnce : Type 0
FirstOnce = (batches : List Batch) → FirstsDiffer (outcomes_from start batches)

-- what a life executes is the batch of the list at that place, on the state that the batches before it give
pub record ExecutesListed (batches : List Batch) (i : ℕ) (l : Life) : Type 0 where
  pub batch : Batch
  pub known : l.known i ≡ Some batch
  pub listed : slice_get batches i ≡ Some batch
  pub state_is : l.service ≡ serve (take i batches)

-- each batch that is executed is the list's at that place
abbrev pub AllExecuteListed : Trace → Type 0
AllExecuteListed run = TellsStates run → (batches : List Batch) → IsList run batches → (t q i : ℕ) (l : Life) → Does run t (Act q (Execute i)) → Runs run t q l → ExecutesListed batches i l

-- what a Recovering life may do: it enters no view, begins no phase 1, promises, launches, votes and answers nothing, and does not become Prepared
abbrev pub IsSilent : Deed → Type 0
IsSilent (Enter view) = ⊥
IsSilent (Open view first) = ⊥
IsSilent (Promise view first mark low report) = ⊥
IsSilent (Prepared view x) = ⊥
IsSilent (Launch view i batch) = ⊥
IsSilent (Vote view i batch) = ⊥
IsSilent (Answer to view next mark) = ⊥
IsSilent (Take from message) = Unit {0}
IsSilent (Learn i batch) = Unit {0}
IsSilent (Rejoin view) = Unit {0}
IsSilent (Install upto state) = Unit {0}
IsSilent (Execute i) = Unit {0}
IsSilent (Restore upto state) = Unit {0}
IsSilent (Say to message) = Unit {0}

-- whatever a Recovering life does is one of these
abbrev pub RecoveringAreSilent : Trace → Type 0
RecoveringAreSilent run = (t q : ℕ) (d : Deed) (l : Life) → Does run t (Act q d) → Runs run t q l → l.phase ≡ Recovering → IsSilent d

-- these batches are chosen in the instances i, i + 1 and so on, by the votes of this world
abbrev pub AreChosenIn : ℕ → World → ℕ → List Batch → Type 0
AreChosenIn n w i [] = Unit {0}
AreChosenIn n w i (batch ∷ batches) = ((view : ℕ) × IsChosenIn n w view i batch) × AreChosenIn n w (suc i) batches

-- the list of a world: the batches chosen by its votes, up to the first instance that is not chosen
pub record IsListIn (n : ℕ) (w : World) (batches : List Batch) : Type 0 where
  pub chosen : AreChosenIn n w 0 batches
  pub ends : (view : ℕ) (batch : Batch) → ¬ IsChosenIn n w view (length batches) batch

-- over each list of allowed steps, the list of batches computed from the votes at its end is the list of that world
abbrev pub ListIsChosen : Type 0
ListIsChosen = (c : Setup) → c.n ≤ 9 → (steps : List Move) → IsRun c opening steps → IsListIn c.n (end_of c opening steps) (list_of c.n (end_of c opening steps).votes)

-- over each list of allowed steps, for the list of batches computed from the votes at its end: at each moment the service state of each running life is that after a prefix of this list, and so is each state that it had or installed
abbrev pub ListedRunsStand : Type 0
ListedRunsStand = (c : Setup) (few : c.n ≤ 9) (steps more : List Move) → TellsStatesIn c (steps ++ more) → IsRun c opening (steps ++ more) → (q : ℕ) (l : Life)
    → ((end_of c opening steps).replicas q).running ≡ Some l
    → Stands (list_of c.n (end_of c opening (steps ++ more)).votes) l.service
    × ((s : State) → In s l.states → Stands (list_of c.n (end_of c opening (steps ++ more)).votes) s)
    × ((s : State) → In s l.installed → Stands (list_of c.n (end_of c opening (steps ++ more)).votes) s)

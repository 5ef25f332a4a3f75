-- The laws of agreement, each over every run.
use Rattle.std.specs.Prelude.{◌≡◌, ◌≢◌, ℕ, ◌≤◌, ◌<◌, ◌⊎◌, List, [], Some}
use Rattle.jp_types.specs.declared.message.PrepareOk.{PrepareOk}
use Rattle.jp_types.specs.declared.message.RecoveryAnswer.{RecoveryAnswer}
use Rattle.jp_types.specs.declared.mode.Phase.TheVariants.{Working}
use Rattle.jp_types.specs.declared.mode.Mode.TheVariants.{ViewSs, EpochSs}
use Rattle.jp_types.specs.declared.message.Message.{Message}
use Rattle.jp_types.specs.Views.{leader}
use Rattle.jp_types.specs.Lists.{In}
use Rattle.paxos_world.specs.Setup.{Setup}
use Rattle.paxos_world.specs.Life.{Life}
use Rattle.jp_types.specs.Instances.{Batch}
use Rattle.paxos_world.specs.Counting.{Held, entry_in, counted_ok, counted_answer, ok_vectors, answer_vectors}
use Rattle.jp_types.specs.Vectors.{IsCrashConsistent}
use Rattle.paxos_world.specs.Adoption.{adopted_by, counted_report}
use Rattle.paxos_world.specs.World.{Prepared, Rejoin, Launch, Act, Move, opening, Sent}
use Rattle.paxos_world.specs.Trace.{Trace, at, Runs, Does, IsChosen, IsChosenIn, IsRun, end_of}

-- at moment t the life l of r rejoins in a view. l is the life before the step
pub record Rejoins (run : Trace) (t r : ℕ) (l : Life) (view : ℕ) : Type 0 where
  pub does : Does run t (Act r (Rejoin view))
  pub runs : Runs run t r l

-- at moment t the life l of r becomes Prepared in a view, with `next` x. l is the life before the step
pub record BecomesPrepared (run : Trace) (t r : ℕ) (l : Life) (view x : ℕ) : Type 0 where
  pub does : Does run t (Act r (Prepared view x))
  pub runs : Runs run t r l

-- a life l of r that becomes Prepared counts toward phase 1 the life of p with this number: its own life, or the one that sent a counted PrepareOk
abbrev pub CountsLife : Setup → ℕ → Life → ℕ → ℕ → Type 0
CountsLife c r l p number = ((p ≡ r) × (number ≡ l.number)) ⊎ ((h : Held PrepareOk) × (counted_ok c r l p ≡ Some h) × (number ≡ h.from.number))

-- In EpochSS: if the rejoin of a life of r counted an answer of a life of y, each later life of y that rejoins has by then an entry for r of at least the first one's mark
abbrev pub RejoinsAreSeen : Trace → Type 0
RejoinsAreSeen run = (t r : ℕ) (l : Life) (view y : ℕ) (h : Held RecoveryAnswer) (t' : ℕ) (l' : Life) (view' : ℕ) → run.setup.mode ≡ EpochSs
    → Rejoins run t r l view → counted_answer run.setup r l y ≡ Some h → Rejoins run t' y l' view' → h.from.number < l'.number → l.mark ≤ entry_in run.setup.mode y l' r

-- if a Prepared step of v counted a reply of a life of p, each later life of p that rejoins does so in a view at least v
abbrev pub CountedComeBack : Trace → Type 0
CountedComeBack run = (t r : ℕ) (l : Life) (v x p number t' : ℕ) (l' : Life) (u : ℕ)
    → BecomesPrepared run t r l v x → CountsLife run.setup r l p number → Rejoins run t' p l' u → number < l'.number → v ≤ u

-- a life that returned after a Prepared step of v rejoins in a view at least v
abbrev pub ReturnedComeBack : Trace → Type 0
ReturnedComeBack run = (t r : ℕ) (l : Life) (v x t' p : ℕ) (l' : Life) (u : ℕ)
    → BecomesPrepared run t r l v x → Rejoins run t' p l' u → ((at run t).replicas p).starts < l'.number → v ≤ u

-- at most one step makes a life Prepared in a view
abbrev pub OnePrepared : Trace → Type 0
OnePrepared run = (t r : ℕ) (l : Life) (x t' r' : ℕ) (l' : Life) (x' v : ℕ) → BecomesPrepared run t r l v x → BecomesPrepared run t' r' l' v x' → t ≡ t'

-- a view has at most one batch for an instance
abbrev pub OneBatch : Trace → Type 0
OneBatch run = (t r t' r' v i : ℕ) (batch batch' : Batch) → Does run t (Act r (Launch v i batch)) → Does run t' (Act r' (Launch v i batch')) → batch ≡ batch'

-- a life that becomes Prepared in w has adopted, or knows, each batch that is chosen in the whole run in a view below w, or knows the instance by an installed state
abbrev pub ChosenAreAdopted : Trace → Type 0
ChosenAreAdopted run = (t r : ℕ) (l : Life) (w x v i : ℕ) (batch : Batch) → BecomesPrepared run t r l w x → IsChosen run v i batch → v < w
    → (i < x) × ((i < l.below) ⊎ (adopted_by run.setup.n (counted_report run.setup r l) l i ≡ batch))

-- an instance is chosen with at most one batch
abbrev pub OneChosen : Trace → Type 0
OneChosen run = (i v v' : ℕ) (batch batch' : Batch) → IsChosen run v i batch → IsChosen run v' i batch' → batch ≡ batch'

-- each known batch is chosen
abbrev pub KnownAreChosen : Trace → Type 0
KnownAreChosen run = (t r : ℕ) (l : Life) (i : ℕ) (batch : Batch) → Runs run t r l → l.known i ≡ Some batch → (v : ℕ) × IsChosen run v i batch

-- some allowed steps of three replicas in EpochSS choose a batch that is not empty in view 0, and a second life works and knows it
pub record SomeRunChooses : Type 0 where
  pub setup : Setup
  pub steps : List Move
  pub allowed : IsRun setup opening steps
  pub three : setup.n ≡ 3
  pub epochs : setup.mode ≡ EpochSs
  pub batch : Batch
  pub some : batch ≢ []
  pub chosen : IsChosenIn setup.n (end_of setup opening steps) 0 0 batch
  pub life : Life
  pub runs : ((end_of setup opening steps).replicas 2).running ≡ Some life
  pub second : life.number ≡ 2
  pub works : life.phase ≡ Working
  pub known : life.known 0 ≡ Some batch

-- some allowed steps of three replicas in ViewSS choose a batch that is not empty in view 0 and choose it again in view 1, and a second life works in view 1 and knows it
pub record SomeRunAdopts : Type 0 where
  pub setup : Setup
  pub steps : List Move
  pub allowed : IsRun setup opening steps
  pub three : setup.n ≡ 3
  pub views : setup.mode ≡ ViewSs
  pub batch : Batch
  pub some : batch ≢ []
  pub chosen : IsChosenIn setup.n (end_of setup opening steps) 0 0 batch
  pub again : IsChosenIn setup.n (end_of setup opening steps) 1 0 batch
  pub life : Life
  pub runs : ((end_of setup opening steps).replicas 2).running ≡ Some life
  pub second : life.number ≡ 2
  pub works : life.phase ≡ Working
  pub view : life.view ≡ 1
  pub known : life.known 0 ≡ Some batch

-- the PrepareOks that a running life counts are crash-consistent, and so are the RecoveryAnswers that it counts
abbrev pub CountedAreConsistent : Trace → Type 0
CountedAreConsistent run = (t r : ℕ) (l : Life) → Runs run t r l → IsCrashConsistent (ok_vectors run.setup r l) × IsCrashConsistent (answer_vectors run.setup r l)

-- no message is sent to its sender
abbrev pub SentToOthers : Trace → Type 0
SentToOthers run = (t : ℕ) (x : Sent) → In x (at run t).sent → x.from.replica ≢ x.to

-- a Prepare, a Propose and an Alive come from the view's leader, and a PrepareOk goes to it
abbrev pub IsOfLeader : ℕ → Sent → Message → Type 0
IsOfLeader n x (Message.Prepare m) = leader n m.view ≡ x.from.replica
IsOfLeader n x (Message.Propose m) = leader n m.view ≡ x.from.replica
IsOfLeader n x (Message.Alive m) = leader n m.view ≡ x.from.replica
IsOfLeader n x (Message.PrepareOk m) = leader n m.view ≡ x.to
IsOfLeader n x _ = Unit {0}

-- each message that was sent comes from, or goes to, the leader of its view as its kind asks
abbrev pub LeadersLead : Trace → Type 0
LeadersLead run = (t : ℕ) (x : Sent) → In x (at run t).sent → IsOfLeader run.setup.n x x.message

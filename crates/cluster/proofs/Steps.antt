-- A step of a stage is the model's.
use Rattle.std.proofs.Common.{◌≡◌, ℕ, Bool, true, false, ◌&&◌, List, [], ◌∷◌, nat_lt, slice_get, Option, Some, None, refl, sym, ap, subst, ◌∙◌}
use Rattle.kv_service.specs.Dues.{is_due}
use Rattle.kv_service.specs.Service.{outcomes}
use Rattle.paxos_world.specs.Batching.{Fed, is_closed_by}
use Rattle.paxos_world.specs.Replica.{Running, Stepped, Idle, Blocked, Quiet, Did, is_full, batched, on_batch, on_service, repeated, unless_full}
use Rattle.paxos_world.specs.Serving.{makes_snapshot, serves}
use Rattle.paxos_world.specs.Stage.{Decision, Decided, Installed}
use Rattle.paxos_world.specs.Stage as model
use Rattle.paxos_world.specs.Turn.{untouched, retransmit}
use Rattle.paxos_world.specs.World.{Deed}
use Rattle.paxos_world.specs.Writing.{when, shows}
use Rattle.paxos_world.specs.declared.step.Step.{Step}
use Rattle.protocol_core.specs.declared.act.Act.{Act}
use Rattle.protocol_core.specs.declared.life.Life.{Life}
use Rattle.protocol_laws.specs.Coming.{SendsFitly}
use Rattle.replica_node.specs.Following.{FollowsStep, IsDone, step_of}
use Rattle.replica_node.specs.Resembling.{Resembles, AreAlike}
use Rattle.replica_node.specs.Whole.{Whole}
use Rattle.replica_node.specs.declared.stage.Stage.{Stage}
use Rattle.replica_node.specs.declared.stage.Stage.TheVariants as stage
use Rattle.replica_node.specs.declared.stage.Stepped as code
use Rattle.replica_node.specs.declared.stage.Stepped.TheVariants as answer
use Rattle.replica_node.proofs.Goals.{StepsFollow}
use Rattle.schedules.specs.Cluster.{Place, Cluster, Happened, config_of, with_running}
use Rattle.schedules.specs.Run as run
use Rattle.schedules.specs.declared.line.Word.{Word}
use Rattle.cluster.specs.Machine.{Machine}
use Rattle.cluster.specs.Machines.{IsAnswered, KeepsDisk, stored_on}
use Rattle.cluster.specs.Resembling.{IsPlace, IsCluster, Alike}
use Rattle.cluster.specs.Stepping.{Stepping, acted}
use Rattle.cluster.proofs.Goals.{StepAlike}
use Rattle.cluster.proofs.Going.{resembles-at, placed-at, stays-alike, quiet-alike, done-alike}

-- ---- The number on the disk

-- a replica has the number of another one, unless a step of the Protocol stage lies between them
abbrev SameNumber : Stage → Running → Running → Type 0
SameNumber stage.Batch a b = b.stage.stable ≡ a.stage.stable
SameNumber stage.Protocol a b = Unit {0}
SameNumber stage.Service a b = b.stage.stable ≡ a.stage.stable
SameNumber stage.Retransmit a b = b.stage.stable ≡ a.stage.stable

-- a replica has its own number
same-number : (at : Stage) (a : Running) → SameNumber at a a
same-number stage.Batch a = refl
same-number stage.Protocol a = tt
same-number stage.Service a = refl
same-number stage.Retransmit a = refl

-- a step of a stage but Protocol leaves that number, where it leaves a replica that changed
abbrev LeavesNumber : Stage → Running → Stepped → Type 0
LeavesNumber at a Idle = Unit {0}
LeavesNumber at a Blocked = Unit {0}
LeavesNumber at a (Quiet b) = SameNumber at a b
LeavesNumber at a (Did t b) = SameNumber at a b

-- so does a step that a full lane may block, if it does where no lane is full
unless-number : (at : Stage) (a : Running) (full : Bool) (step : Stepped) → LeavesNumber at a step → LeavesNumber at a (unless_full full step)
unless-number at a true step h = tt
unless-number at a false step h = h

-- the Batcher leaves the number, whether it closes a batch or not
batched-number : (a : Running) (closes : Bool) (fed : Fed) (more : List Fed) → LeavesNumber stage.Batch a (batched closes fed more a)
batched-number a true fed more = unless-number stage.Batch a (is_full a.dispatcher) _ refl
batched-number a false fed more = refl

-- the Batcher leaves the number
batch-number : (a : Running) (requests : List Fed) → LeavesNumber stage.Batch a (on_batch requests a)
batch-number a [] = tt
batch-number a (fed ∷ more) = batched-number a (is_closed_by a.held fed) fed more

-- a step that is shown where a test passes leaves the number
shown-number : (b : Bool) (step : Step) (d : Deed) (t : model.Turned) → (when b (shows step d) t).stage.stable ≡ t.stage.stable
shown-number true step d t = refl
shown-number false step d t = refl

-- a decision that is served leaves the number
serves-number : (d : Decision) (t : model.Turned) → (serves d t).stage.stable ≡ t.stage.stable
serves-number (Decided i batch) t =
    let state = t.stage.life.service in
    shown-number (is_due state i) (Step.Execute t.stage.config.me i (outcomes state batch)) (Deed.Execute i) t
serves-number (Installed upto state) t = shown-number (nat_lt t.stage.life.service.executed upto) (Step.Restore t.stage.config.me upto) (Deed.Restore upto state) t

-- the Service stage leaves the number
service-number : (a : Running) (decisions : List Decision) → LeavesNumber stage.Service a (on_service decisions a)
service-number a [] = tt
service-number a (d ∷ more) = unless-number stage.Service a (makes_snapshot a.stage.life.service d && is_full a.dispatcher) _ (serves-number d (untouched a.stage))

-- the Retransmitter leaves the number
retransmit-number : (a : Running) (found : Option (ℕ × model.Turned)) → LeavesNumber stage.Retransmit a (repeated found a)
retransmit-number a None = tt
retransmit-number a (Some found) = refl

-- each stage does but Protocol
step-number : (at : Stage) (a : Running) → LeavesNumber at a (step_of at a)
step-number stage.Batch a = batch-number a a.requests
step-number stage.Protocol a = go (step_of stage.Protocol a)
  where
    go : (x : Stepped) → LeavesNumber stage.Protocol a x
    go Idle = tt
    go Blocked = tt
    go (Quiet b) = tt
    go (Did t b) = tt
step-number stage.Service a = service-number a a.decisions
step-number stage.Retransmit a = retransmit-number a (retransmit a.stage a.cursor)

-- ---- Steps

module _ (c : Cluster) (s : Stepping) (r : ℕ) (place : Place) (m : Machine) (a : Running) (h : IsCluster c s) (there : slice_get c.places r ≡ Some place) (on : slice_get s.machines r ≡ Some m)
    (up : place.running ≡ Some a) (at : Stage) (word : Word) (acts : List Act) (new : Machine) (after : Whole) (runs : new.running ≡ Some after) (disk : KeepsDisk at m.disk after new.disk) where
  -- the constants and the number of the replica
  placed : (a.stage.config ≡ config_of c.head r) × (place.stable ≡ Some a.stage.stable)
  placed = placed-at c s r place a h there up

  -- a disk that is as it was holds the number of its replica
  stored-same : (b : Running) → b.stage.stable ≡ a.stage.stable → new.disk ≡ m.disk → stored_on new.disk ≡ Some b.stage.stable
  stored-same b same kept = ap stored_on kept ∙ (h.places r place m there on).stored ∙ placed.1 ∙ ap (λ n. Some n) (sym same)

  -- after a step the disk holds the number of the replica that it left
  stored-after : (b : Running) → Resembles b after → (x : Stage) → SameNumber x a b → KeepsDisk x m.disk after new.disk → stored_on new.disk ≡ Some b.stage.stable
  stored-after b is stage.Batch same kept = stored-same b same kept
  stored-after b is stage.Protocol same kept = kept.1 ∙ ap (λ (l : Life). Some l.stable) is.stage.keeps.is
  stored-after b is stage.Service same kept = stored-same b same kept
  stored-after b is stage.Retransmit same kept = stored-same b same kept

  -- the machine after a step is that of the replica that the step left
  place-after : (b : Running) → Resembles b after → SameNumber at a b → IsPlace (with_running b place) new
  place-after b is same = record { stored = stored-after b is at same disk; running = subst (λ (o : Option Whole). AreAlike (Some b) o) (sym runs) is }

  -- a replica that a step left as it was is that of its place
  place-still : Resembles a after → IsPlace place new
  place-still is =
      record {
        stored = stored-after a is at (same-number at a) disk ∙ sym placed.1;
        running = subst (λ (o : Option Running). AreAlike o new.running) (sym up) (subst (λ (o : Option Whole). AreAlike (Some a) o) (sym runs) is);
      }

  -- what comes of a step is what its answer says
  by-answer : (happened : Happened) (answered : Word) (done : List Act) → word ≡ answered → acts ≡ done → Alike happened (acted s r answered done new) → Alike happened (acted s r word acts new)
  by-answer happened answered done word_is acts_are alike =
      subst (λ (x : Word). Alike happened (acted s r x acts new)) (sym word_is) (subst (λ (xs : List Act). Alike happened (acted s r answered xs new)) (sym acts_are) alike)

  -- a step that takes nothing is the model's
  refused-alike : (step : Stepped) (why : Stepped) (answered : Word) → step ≡ why → run.happens_by why c r place ≡ run.refused answered c → Resembles a after → word ≡ answered → acts ≡ []
      → Alike (run.happens_by step c r place) (acted s r word acts new)
  refused-alike step why answered e refuses is word_is acts_are =
      by-answer (run.happens_by step c r place) answered [] word_is acts_are
      (subst (λ (x : Happened). Alike x (acted s r answered [] new)) (sym (ap (λ (x : Stepped). run.happens_by x c r place) e ∙ refuses)) (stays-alike c s r place m h there on answered new (place-still is)))

  -- a step that is done is the model's
  done-is-alike : (step : Stepped) (done : List Act) → LeavesNumber at a step → IsDone step a done after → word ≡ Word.Done → acts ≡ done → Alike (run.happens_by step c r place) (acted s r word acts new)
  done-is-alike Idle done number follows word_is acts_are = absurd follows
  done-is-alike Blocked done number follows word_is acts_are = absurd follows
  done-is-alike (Quiet b) done number (none, config, is) word_is acts_are =
      by-answer (run.quietly c r place b) Word.Done [] word_is (acts_are ∙ none) (quiet-alike c s r place m h there on b new (place-after b is number) (config ∙ placed.0))
  done-is-alike (Did t b) done number (same, fit, config, is) word_is acts_are =
      by-answer (run.done_by c r place b t) Word.Done done word_is acts_are
      (done-alike c s r place m h there on place b t done new (place-after b is number) (config ∙ placed.0) same (subst (λ (k : model.Config). SendsFitly k done) placed.0 fit))

  -- a step that follows the model's is the model's, whatever it answers
  answered-alike : (step : Stepped) (x : code.Stepped) → LeavesNumber at a step → FollowsStep step a x after → IsAnswered x word acts → Alike (run.happens_by step c r place) (acted s r word acts new)
  answered-alike step (answer.Done done) number follows is = done-is-alike step done number follows is.0 is.1
  answered-alike step answer.Empty number follows is = refused-alike step Idle Word.Empty follows.0 refl follows.1 is.0 is.1
  answered-alike step answer.Full number follows is = refused-alike step Blocked Word.Full follows.0 refl follows.1 is.0 is.1
  answered-alike step answer.Down number follows is = absurd is
  answered-alike step answer.StoreFault number follows is = absurd is
  answered-alike step answer.NoMemory number follows is = absurd is

-- a step of a stage is the model's
pub step-alike : StepsFollow → StepAlike
step-alike steps-follow at c s r place m a w word acts new h there on up runs may steps =
    answered-alike c s r place m a h there on up at word acts new steps.after steps.up steps.disk (step_of at a) steps.stepped (step-number at a)
    (steps-follow at a w steps.after steps.stepped (resembles-at c s r place m a w h there on up runs) may steps.does) steps.answered

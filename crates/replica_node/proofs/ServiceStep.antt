-- The Service stage's step goes as the model's.
use Rattle.std.proofs.Common.{◌≡◌, ℕ, ◌≤◌, ◌^◌, Bool, true, false, ◌&&◌, nat_lt, List, [], ◌∷◌, ◌++◌, length, map, if◌then◌else◌, Option, Some, None, refl, sym, ap, subst, ◌∙◌, inl, inr, arith}
use Rattle.std.proofs.lemmas.Bool.Decides.{nat_tests}
use Rattle.std.proofs.lemmas.List.{map-append}
use Rattle.jp_types.specs.Instances.{Batch}
use Rattle.kv_service.specs.Dues.{is_due}
use Rattle.kv_service.specs.Service.{State, execute, outcomes}
use Rattle.kv_service.specs.StateBytes.{state_bytes}
use Rattle.kv_service.proofs.Requests.{executed-take_requests}
use Rattle.paxos_world.specs.Replica as replica
use Rattle.paxos_world.specs.Replica.{Running, is_full}
use Rattle.paxos_world.specs.declared.step.Step.{Step}
use Rattle.jp_types.specs.Lists.{In}
use Rattle.paxos_world.specs.Serving as model_serving
use Rattle.paxos_world.specs.Serving.{serves}
use Rattle.paxos_world.specs.Stage.{Came, Closed, Tick, Suspect, Snapped}
use Rattle.paxos_world.specs.Stage as model
use Rattle.paxos_world.specs.Turn.{untouched}
use Rattle.paxos_world.specs.World as world
use Rattle.paxos_world.specs.World.{executed_with}
use Rattle.paxos_world.specs.Writing.{◌▹◌, when, shows}
use Rattle.paxos_world.proofs.Basics.{In-append}
use Rattle.protocol_core.specs.declared.act.Act.{Act}
use Rattle.protocol_core.specs.declared.item.Item.{Item}
use Rattle.protocol_laws.specs.Acting.{model_acts, model_decision, item_of}
use Rattle.protocol_laws.specs.Coming.{Comes, SendsFitly}
use Rattle.protocol_laws.specs.Keeping.{Cores}
use Rattle.protocol_stage.specs.Running as core
use Rattle.protocol_stage.specs.Standing.{Stands}
use Rattle.service_manager.specs.Serving.{makes_snapshot, state_after}
use Rattle.service_manager.specs.declared.decision.Decision.{Decision}
use Rattle.turn_laws.specs.Nodes.{DecisionComes}
use Rattle.replica_node.specs.Answers.{answer_of}
use Rattle.replica_node.specs.Following.{leaving, FollowsStep, MayServe}
use Rattle.replica_node.specs.Lane as lane
use Rattle.replica_node.specs.Resembling.{model_place, WaitsFitly, Resembles}
use Rattle.replica_node.specs.Serving.{with_snapshot, served_acts, service_step}
use Rattle.replica_node.specs.Stepping.{Stepping, Is, done, refused}
use Rattle.replica_node.specs.Whole.{Whole}
use Rattle.replica_node.specs.declared.stages.Stages.{Stages}
use Rattle.replica_node.specs.declared.stages.Taken.{Taken}
use Rattle.replica_node.proofs.BatchStep.{full-alike}
use Rattle.replica_node.proofs.Going.{up-with, still, by-step}

-- ---- A stage whose service changes

-- a stage with this state of its service, and these that it had
abbrev pub with_service : model.Stage → State → List State → model.Stage
with_service s x xs = record s { life = record s.life { service = x; states = xs } }

-- the cores keep what they kept
abbrev pub cores-served : (s : model.Stage) (x : State) (xs : List State) → Cores s → Cores (with_service s x xs)
cores-served s x xs c =
    record {
      within = c.within;
      log = c.log;
      promises = c.promises;
      answers = c.answers;
      kept = record { n = c.kept.n; base = c.kept.base; votes = c.kept.votes; known = c.kept.known; tallies = c.kept.tallies };
      promise_places = c.promise_places;
      answer_places = c.answer_places;
      promised = c.promised;
      answered = λ r. let held = c.answered r in record { none = held.none; held = held.held };
      fit =
          record {
            sane = record { most = c.fit.sane.most; me = c.fit.sane.me; notes = c.fit.sane.notes };
            led = c.fit.led;
            untaken = c.fit.untaken;
            below = c.fit.below;
            base = c.fit.base;
            newest = λ snapshot e. let is = c.fit.newest snapshot e in record { size = is.size; own = is.own };
            joiner = c.fit.joiner;
          };
    }

-- a life is that of the stage still
pub stands-served : (s : model.Stage) (p : core.Running) (x : State) (xs : List State) → Stands s p → Stands (with_service s x xs) p
stands-served s p x xs h =
    record { keeps = record { cores = cores-served s x xs h.keeps.cores; is = h.keeps.is }; arming = h.arming; tight = h.tight; fitly = h.fitly; up = h.up }

-- what may come to a stage still may
pub comes-served : (s : model.Stage) (x : State) (xs : List State) (item : model.Item) → Comes s item → Comes (with_service s x xs) item
comes-served s x xs (Came from message) h = h
comes-served s x xs (Closed batch) h = h
comes-served s x xs Tick h = h
comes-served s x xs Suspect h = h
comes-served s x xs (Snapped upto bytes) h = h

-- ---- What a decision does

-- a snapshot is made where the model makes one
makes-alike : (s : State) (d : Decision) → makes_snapshot s d ≡ model_serving.makes_snapshot s (model_decision d)
makes-alike s (Decision.Decided i batch) = refl
makes-alike s (Decision.Install upto state) = refl

-- a turn leaves the stage with this state of its service, and shows what these acts show
record Serves (s : model.Stage) (x : State) (shown : List Act) (t : model.Turned) : Type 0 where
  states : List State
  is : t.stage ≡ with_service s x states
  acts : t.acts ≡ model_acts shown

-- a batch that the life knows is executed, where it is due
decided-by : (s : model.Stage) (i : ℕ) (batch : Batch) (step : Step) (b : Bool) → s.life.known i ≡ Some batch
    → Serves s (if b then execute s.life.service batch else s.life.service) (if b then Act.Step step ∷ [] else []) (when b (shows step (world.Execute i)) (untouched s))
decided-by s i batch step true knows =
    record {
      states = execute s.life.service batch ∷ s.life.states;
      is = ap (λ (o : Option Batch). with_service s (executed_with s.life.service o) (executed_with s.life.service o ∷ s.life.states)) knows;
      acts = refl;
    }
decided-by s i batch step false knows = record { states = s.life.states; is = refl; acts = refl }

-- a state is restored, where it is ahead
installed-by : (s : model.Stage) (upto : ℕ) (state : State) (step : Step) (b : Bool)
    → Serves s (if b then state else s.life.service) (if b then Act.Step step ∷ [] else []) (when b (shows step (world.Restore upto state)) (untouched s))
installed-by s upto state step true = record { states = state ∷ s.life.states; is = refl; acts = refl }
installed-by s upto state step false = record { states = s.life.states; is = refl; acts = refl }

-- a decision leaves the stage with the service's next state, where it is of what the life knows
serves-alike : (s : model.Stage) (d : Decision) → DecisionComes s.life (model_decision d)
    → Serves s (state_after s.life.service d) (served_acts s.config.me s.life.service d) (untouched s ▹ serves (model_decision d))
serves-alike s (Decision.Decided i batch) knows = decided-by s i batch (Step.Execute s.config.me i (outcomes s.life.service batch)) (is_due s.life.service i) knows
serves-alike s (Decision.Install upto state) knows = installed-by s upto state (Step.Restore s.config.me upto) (nat_lt s.life.service.executed upto)

-- ---- How far the service comes

-- an instance that is due is the next one
due-is : (s : State) (i : ℕ) → is_due s i ≡ true → i ≡ s.executed
due-is s i e = grind (arith, nat_tests)

-- the service executed at most what was handed on
executed-within : (s : model.Stage) (d : Decision) → DecisionComes s.life (model_decision d) → model_place (model_decision d) ≤ s.handed → s.life.service.executed ≤ s.handed → (state_after s.life.service d).executed ≤ s.handed
executed-within s (Decision.Decided i batch) knows le up = go (is_due s.life.service i) refl
  where
    go : (b : Bool) → is_due s.life.service i ≡ b → (if b then execute s.life.service batch else s.life.service).executed ≤ s.handed
    go true e = let a = due-is s.life.service i e in let n = executed-take_requests s.life.service batch in omega arith
    go false e = up
executed-within s (Decision.Install upto state) knows le up = go (nat_lt s.life.service.executed upto)
  where
    go : (b : Bool) → (if b then state else s.life.service).executed ≤ s.handed
    go true = let e = knows.1 in omega arith
    go false = up

-- ---- Steps

-- a step of the Service stage where nothing waits
step-empty : (s : Stages) → s.decisions ≡ [] → service_step s ≡ refused Taken.Empty s
step-empty s e = rw e refl

-- the stages after a decision
abbrev stages-served : Bool → Decision → List Decision → Stages → Stages
stages-served snaps d ds s =
    record s {
      decisions = ds;
      service = state_after s.service d;
      dispatcher = with_snapshot s.dispatcher (state_after s.service d).executed (if snaps then Some (state_bytes (state_after s.service d)) else None);
    }

-- a step of the Service stage where this waits in front
step-front : (s : Stages) (d : Decision) (ds : List Decision) (snaps full : Bool) → s.decisions ≡ d ∷ ds → makes_snapshot s.service d ≡ snaps → lane.is_full s.dispatcher ≡ full
    → service_step s ≡ (if snaps && full then refused Taken.Full s else done (served_acts s.me s.service d) (stages-served snaps d ds s))
step-front s d ds snaps full e m f = rw e (rw m (rw f refl))

-- ---- Replicas after a step

-- the replica after a decision, whose service has this state
abbrev served : Bool → State → List State → List model.Decision → Running → Running
served snaps x xs more a = record a { stage = with_service a.stage x xs; decisions = more; dispatcher = replica.with_snapshot snaps (with_service a.stage x xs) a.dispatcher }

-- the dispatcher lane has a snapshot behind, where one is made
dispatcher-served : (snaps : Bool) (x y : State) (s : model.Stage) (xs : List State) (lane : List Item) (items : List model.Item) → lane ≡ map item_of items → y ≡ x
    → with_snapshot lane y.executed (if snaps then Some (state_bytes y) else None) ≡ map item_of (replica.with_snapshot snaps (with_service s x xs) items)
dispatcher-served true x y s xs lane items e f =
    ap (λ zs. zs ++ Item.Snapshot y.executed (state_bytes y) ∷ []) e ∙ ap (λ (z : State). map item_of items ++ Item.Snapshot z.executed (state_bytes z) ∷ []) f
    ∙ sym (map-append item_of items (Snapped x.executed (state_bytes x) ∷ []))
dispatcher-served false x y s xs lane items e f = e

-- a snapshot that is made may come to the stage, as what waits already may
waits-served : (snaps : Bool) (x : State) (xs : List State) (a : Running) → WaitsFitly a → x.executed ≤ a.stage.handed → length (state_bytes x) ≤ 2 ^ 28
    → (item : model.Item) → In item (replica.with_snapshot snaps (with_service a.stage x xs) a.dispatcher) → Comes (with_service a.stage x xs) item
waits-served true x xs a h up small item i =
    elim (In-append item a.dispatcher (Snapped x.executed (state_bytes x) ∷ []) i) [
      | inl o ↦ comes-served a.stage x xs item (h.items item o)
      | inr n ↦ elim n [ inl e ↦ subst (Comes (with_service a.stage x xs)) (sym e) (up, small) | inr z ↦ absurd z ]
    ]
waits-served false x xs a h up small item i = comes-served a.stage x xs item (h.items item i)

-- the Service stage took the front decision of both
served-resembles : (snaps : Bool) (d : Decision) (ds : List Decision) (xs : List State) (a : Running) (w : Whole) → Resembles a w → a.decisions ≡ model_decision d ∷ map model_decision ds
    → (state_after a.stage.life.service d).executed ≤ a.stage.handed → length (state_bytes (state_after a.stage.life.service d)) ≤ 2 ^ 28
    → Resembles (served snaps (state_after a.stage.life.service d) xs (map model_decision ds) a) (up-with (stages-served snaps d ds w.stages))
served-resembles snaps d ds xs a w h e up small =
    record {
      stage = stands-served a.stage w.stages.protocol x xs h.stage;
      me = h.me;
      requests = h.requests;
      held = h.held;
      dispatcher = dispatcher-served snaps x (state_after w.stages.service d) a.stage xs w.stages.dispatcher a.dispatcher h.dispatcher next;
      decisions = refl;
      service = next;
      cursor = h.cursor;
      up = refl;
      waits =
          record {
            items = waits-served snaps x xs a h.waits up small;
            decisions = λ o i. h.waits.decisions o (subst (λ (os : List model.Decision). In o os) (sym e) (inr i));
            executed = up;
          };
    }
  where
    x : State
    x = state_after a.stage.life.service d

    next : state_after w.stages.service d ≡ x
    next = ap (λ (s : State). state_after s d) h.service

-- ---- What leaves the replica

-- a step that may be shown leaves the replica in the model too, and nothing is sent
shows-one : (c : model.Config) (b : Bool) (step : Step) → (model_acts (if b then Act.Step step ∷ [] else []) ≡ leaving (model_acts (if b then Act.Step step ∷ [] else []))) × SendsFitly c (if b then Act.Step step ∷ [] else [])
shows-one c true step = (refl, tt)
shows-one c false step = (refl, tt)

-- what the Service stage shows of a decision leaves the replica in the model too, and it sends nothing
shows-alike : (c : model.Config) (me : ℕ) (x : State) (d : Decision) → (model_acts (served_acts me x d) ≡ leaving (model_acts (served_acts me x d))) × SendsFitly c (served_acts me x d)
shows-alike c me x (Decision.Decided i batch) = shows-one c (is_due x i) (Step.Execute me i (outcomes x batch))
shows-alike c me x (Decision.Install upto state) = shows-one c (nat_lt x.executed upto) (Step.Restore me upto)

-- ---- The step

module _ (a : Running) (w new : Whole) (answer : Taken) (h : Resembles a w) (may : MayServe a a.decisions) (up : new.down ≡ false) (is : Is (service_step w.stages) answer new.stages) where
  -- what the model does follows for what the step answered, where it does for a step that is known
  known : (step : replica.Stepped) (x : Stepping) → service_step w.stages ≡ x → FollowsStep step a (answer_of x.answer) (up-with x.stages) → FollowsStep step a (answer_of answer) new
  known step x e f = by-step (λ (t : Taken) (v : Whole). FollowsStep step a (answer_of t) v) (service_step w.stages) x answer new is up e f

  module _ (d : Decision) (ds : List Decision) (waiting : a.decisions ≡ model_decision d ∷ map model_decision ds) where
    -- what the model does with the front decision
    abbrev turn-of : model.Turned
    turn-of = untouched a.stage ▹ serves (model_decision d)

    -- the replica of the model after it
    abbrev after-of : Bool → Running
    after-of snaps = record a { stage = turn-of.stage; decisions = map model_decision ds; dispatcher = replica.with_snapshot snaps turn-of.stage a.dispatcher }

    -- the front decision may be served
    ready : MayServe a (model_decision d ∷ map model_decision ds)
    ready = subst (MayServe a) waiting may

    -- what is served leaves the stage with the service's next state
    leaves : Serves a.stage (state_after a.stage.life.service d) (served_acts a.stage.config.me a.stage.life.service d) turn-of
    leaves = serves-alike a.stage d ready.0

    -- the service executed no more than what was handed on
    within : (state_after a.stage.life.service d).executed ≤ a.stage.handed
    within = executed-within a.stage d ready.0 (h.waits.decisions (model_decision d) (subst (λ (xs : List model.Decision). In (model_decision d) xs) (sym waiting) (inl refl))) h.waits.executed

    -- its state is within the limit
    small : length (state_bytes (state_after a.stage.life.service d)) ≤ 2 ^ 28
    small = subst (λ (x : model.Stage). length (state_bytes x.life.service) ≤ 2 ^ 28) leaves.is ready.1

    -- the replica after it is that of the model
    resembles : (snaps : Bool) → Resembles (after-of snaps) (up-with (stages-served snaps d ds w.stages))
    resembles snaps =
        subst (λ (x : model.Stage). Resembles (record a { stage = x; decisions = map model_decision ds; dispatcher = replica.with_snapshot snaps x a.dispatcher }) (up-with (stages-served snaps d ds w.stages)))
        (sym leaves.is) (served-resembles snaps d ds leaves.states a w h waiting within small)

    -- its acts are those that leave the replica in the model
    acts-are : model_acts (served_acts w.stages.me w.stages.service d) ≡ leaving turn-of.acts
    acts-are = (shows-alike a.stage.config w.stages.me w.stages.service d).0 ∙ ap leaving (sym (leaves.acts ∙ (λ k. model_acts (served_acts (sym h.me k) (sym h.service k) d))))

    -- a step that takes the front decision is the model's
    took : (snaps : Bool) → service_step w.stages ≡ done (served_acts w.stages.me w.stages.service d) (stages-served snaps d ds w.stages) → FollowsStep (replica.Did turn-of (after-of snaps)) a (answer_of answer) new
    took snaps e = known (replica.Did turn-of (after-of snaps)) _ e (acts-are, (shows-alike a.stage.config w.stages.me w.stages.service d).1, ap (λ (x : model.Stage). x.config) leaves.is, resembles snaps)

    -- a step that finds a decision is the model's
    by : w.stages.decisions ≡ d ∷ ds → (snaps fills : Bool) → makes_snapshot a.stage.life.service d ≡ snaps → is_full a.dispatcher ≡ fills → FollowsStep (replica.on_service (model_decision d ∷ map model_decision ds) a) a (answer_of answer) new
    by e snaps fills ma fu =
        subst (λ (x : Bool). FollowsStep (outcome x (is_full a.dispatcher)) a (answer_of answer) new) (sym (sym (makes-alike a.stage.life.service d) ∙ ma))
        (subst (λ (x : Bool). FollowsStep (outcome snaps x) a (answer_of answer) new) (sym fu)
        (go snaps fills (step-front w.stages d ds snaps fills e (ap (λ (x : State). makes_snapshot x d) h.service ∙ ma) (full-alike item_of w.stages.dispatcher a.dispatcher h.dispatcher ∙ fu))))
      where
        outcome : Bool → Bool → replica.Stepped
        outcome x y = replica.unless_full (x && y) (replica.Did turn-of (after-of x))

        go : (x y : Bool) → service_step w.stages ≡ (if x && y then refused Taken.Full w.stages else done (served_acts w.stages.me w.stages.service d) (stages-served x d ds w.stages)) → FollowsStep (outcome x y) a (answer_of answer) new
        go true true e = known replica.Blocked _ e (refl, still a w h)
        go true false e = took true e
        go false y e = took false e

  -- a step of the Service stage is the model's
  pub service-follows : FollowsStep (replica.service_step a) a (answer_of answer) new
  service-follows = front w.stages.decisions refl
    where
      front : (ds : List Decision) → w.stages.decisions ≡ ds → FollowsStep (replica.on_service a.decisions a) a (answer_of answer) new
      front [] e =
          subst (λ (xs : List model.Decision). FollowsStep (replica.on_service xs a) a (answer_of answer) new) (ap (λ xs. map model_decision xs) (sym e) ∙ h.decisions)
          (known replica.Idle _ (step-empty w.stages e) (refl, still a w h))
      front (d ∷ ds) e =
          let waiting : a.decisions ≡ model_decision d ∷ map model_decision ds = sym h.decisions ∙ ap (λ xs. map model_decision xs) e in
          subst (λ (xs : List model.Decision). FollowsStep (replica.on_service xs a) a (answer_of answer) new) (sym waiting)
          (by d ds waiting e (makes_snapshot a.stage.life.service d) (is_full a.dispatcher) refl refl)

-- The Batcher's step goes as the model's.
use Rattle.std.proofs.Common.{◌≡◌, Bool, true, false, ◌&&◌, List, [], ◌∷◌, ◌++◌, length, map, nat_le, if◌then◌else◌, refl, sym, ap, subst, ◌∙◌, inl, inr}
use Rattle.std.proofs.lemmas.List.{map-append, length-map}
use Rattle.batcher.specs.Cut as cut
use Rattle.batcher.specs.declared.fed.Fed.{Fed}
use Rattle.jp_types.specs.Instances.{Batch}
use Rattle.paxos_world.specs.Batching as batching
use Rattle.paxos_world.specs.Replica as replica
use Rattle.paxos_world.specs.Replica.{Running, is_full}
use Rattle.jp_types.specs.Lists.{In}
use Rattle.paxos_world.specs.Stage.{Closed}
use Rattle.paxos_world.specs.Stage as model
use Rattle.paxos_world.proofs.Basics.{In-append}
use Rattle.protocol_core.specs.declared.item.Item.{Item}
use Rattle.protocol_laws.specs.Acting.{item_of}
use Rattle.protocol_laws.specs.Coming.{Comes}
use Rattle.replica_node.specs.Answers.{answer_of}
use Rattle.replica_node.specs.Batching.{with_batch, batch_step}
use Rattle.replica_node.specs.Following.{FollowsStep}
use Rattle.replica_node.specs.Lane as lane
use Rattle.replica_node.specs.Resembling.{fed_of, WaitsFitly, Resembles}
use Rattle.replica_node.specs.Stepping.{Stepping, Is, done, refused}
use Rattle.replica_node.specs.Whole.{Whole}
use Rattle.replica_node.specs.declared.stages.Stages.{Stages}
use Rattle.replica_node.specs.declared.stages.Taken.{Taken}
use Rattle.replica_node.proofs.Going.{up-with, still, by-step}

-- ---- What the Batcher makes

-- what comes next closes a batch where it does in the model
closed-alike : (batch : Batch) (fed : batching.Fed) → cut.is_closed_by batch (fed_of fed) ≡ batching.is_closed_by batch fed
closed-alike [] fed = refl
closed-alike (x ∷ xs) (batching.Asked request) = refl
closed-alike (x ∷ xs) batching.Tick = refl

-- the batch that is being made next is the model's
held-alike : (closes : Bool) (batch : Batch) (fed : batching.Fed) → cut.held_after closes batch (fed_of fed) ≡ batching.held_after closes batch fed
held-alike true batch (batching.Asked request) = refl
held-alike true batch batching.Tick = refl
held-alike false batch (batching.Asked request) = refl
held-alike false batch batching.Tick = refl

-- a lane is full where the model's is
pub full-alike : {A B : Type 0} (f : A → B) (xs : List B) (ys : List A) → xs ≡ map f ys → lane.is_full xs ≡ is_full ys
full-alike f xs ys e = ap (λ n. nat_le 64 n) (ap length e ∙ length-map ys f)

-- a step of the Batcher where nothing waits
step-empty : (s : Stages) → s.requests ≡ [] → batch_step s ≡ refused Taken.Empty s
step-empty s e = rw e refl

-- the stages after the Batcher took the front item, with these behind it
abbrev stages-taken : Bool → Fed → List Fed → Stages → Stages
stages-taken closes x xs s = record s { requests = xs; batcher = cut.held_after closes s.batcher x; dispatcher = with_batch s.dispatcher (cut.closed_if closes s.batcher) }

-- a step of the Batcher where this waits in front
step-front : (s : Stages) (x : Fed) (xs : List Fed) (closes full : Bool) → s.requests ≡ x ∷ xs → cut.is_closed_by s.batcher x ≡ closes → lane.is_full s.dispatcher ≡ full
    → batch_step s ≡ (if closes && full then refused Taken.Full s else done [] (stages-taken closes x xs s))
step-front s x xs closes full e c f = rw e (rw c (rw f refl))

-- ---- Replicas after a step

-- the replica after the Batcher took the front item, which closes a batch or not
abbrev taken : Bool → batching.Fed → List batching.Fed → Running → Running
taken true fed more a = record a { requests = more; held = batching.held_after true a.held fed; dispatcher = a.dispatcher ++ Closed a.held ∷ [] }
taken false fed more a = record a { requests = more; held = batching.held_after false a.held fed }

-- an item that may come to a stage waits behind what waits already
pub waits-item : (a : Running) (new : model.Item) → WaitsFitly a → Comes a.stage new → (item : model.Item) → In item (a.dispatcher ++ new ∷ []) → Comes a.stage item
waits-item a new h comes item i = elim (In-append item a.dispatcher (new ∷ []) i) [ inl x ↦ h.items item x | inr y ↦ elim y [ inl e ↦ subst (Comes a.stage) (sym e) comes | inr z ↦ absurd z ] ]

-- the Batcher took the front item of both
taken-resembles : (closes : Bool) (fed : batching.Fed) (more : List batching.Fed) (a : Running) (w : Whole) → Resembles a w
    → Resembles (taken closes fed more a) (up-with (stages-taken closes (fed_of fed) (map fed_of more) w.stages))
taken-resembles true fed more a w h =
    record {
      stage = h.stage;
      me = h.me;
      requests = refl;
      held = ap (λ b. cut.held_after true b (fed_of fed)) h.held ∙ held-alike true a.held fed;
      dispatcher = ap (λ xs. xs ++ Item.Batch w.stages.batcher ∷ []) h.dispatcher ∙ ap (λ b. map item_of a.dispatcher ++ Item.Batch b ∷ []) h.held ∙ sym (map-append item_of a.dispatcher (Closed a.held ∷ []));
      decisions = h.decisions;
      service = h.service;
      cursor = h.cursor;
      up = refl;
      waits = record { items = waits-item a (Closed a.held) h.waits tt; decisions = h.waits.decisions; executed = h.waits.executed };
    }
taken-resembles false fed more a w h =
    record {
      stage = h.stage;
      me = h.me;
      requests = refl;
      held = ap (λ b. cut.held_after false b (fed_of fed)) h.held ∙ held-alike false a.held fed;
      dispatcher = h.dispatcher;
      decisions = h.decisions;
      service = h.service;
      cursor = h.cursor;
      up = refl;
      waits = record { items = h.waits.items; decisions = h.waits.decisions; executed = h.waits.executed };
    }

-- ---- The step

module _ (a : Running) (w new : Whole) (answer : Taken) (h : Resembles a w) (up : new.down ≡ false) (is : Is (batch_step w.stages) answer new.stages) where
  -- what the model does follows for what the step answered, where it does for a step that is known
  known : (step : replica.Stepped) (x : Stepping) → batch_step w.stages ≡ x → FollowsStep step a (answer_of x.answer) (up-with x.stages) → FollowsStep step a (answer_of answer) new
  known step x e f = by-step (λ (t : Taken) (v : Whole). FollowsStep step a (answer_of t) v) (batch_step w.stages) x answer new is up e f

  -- a step that takes the front item is the model's
  took : (closes : Bool) (fed : batching.Fed) (more : List batching.Fed) → batch_step w.stages ≡ done [] (stages-taken closes (fed_of fed) (map fed_of more) w.stages) → FollowsStep (replica.Quiet (taken closes fed more a)) a (answer_of answer) new
  took closes fed more e = known (replica.Quiet (taken closes fed more a)) _ e (refl, same closes, taken-resembles closes fed more a w h)
    where
      same : (closes : Bool) → (taken closes fed more a).stage.config ≡ a.stage.config
      same true = refl
      same false = refl

  -- a step that finds an item is the model's
  by : (fed : batching.Fed) (more : List batching.Fed) → w.stages.requests ≡ fed_of fed ∷ map fed_of more → (closes fills : Bool) → batching.is_closed_by a.held fed ≡ closes → is_full a.dispatcher ≡ fills
      → FollowsStep (replica.batched closes fed more a) a (answer_of answer) new
  by fed more e closes fills cl fu = go closes fills fu (step-front w.stages (fed_of fed) (map fed_of more) closes fills e (ap (λ b. cut.is_closed_by b (fed_of fed)) h.held ∙ closed-alike a.held fed ∙ cl) (full-alike item_of w.stages.dispatcher a.dispatcher h.dispatcher ∙ fu))
    where
      go : (closes fills : Bool) → is_full a.dispatcher ≡ fills
          → batch_step w.stages ≡ (if closes && fills then refused Taken.Full w.stages else done [] (stages-taken closes (fed_of fed) (map fed_of more) w.stages))
          → FollowsStep (replica.batched closes fed more a) a (answer_of answer) new
      go true true fu e =
          subst (λ (b : Bool). FollowsStep (replica.unless_full b (replica.Quiet (taken true fed more a))) a (answer_of answer) new) (sym fu) (known replica.Blocked _ e (refl, still a w h))
      go true false fu e = subst (λ (b : Bool). FollowsStep (replica.unless_full b (replica.Quiet (taken true fed more a))) a (answer_of answer) new) (sym fu) (took true fed more e)
      go false fills fu e = took false fed more e

  -- a step of the Batcher is the model's
  pub batch-follows : FollowsStep (replica.batch_step a) a (answer_of answer) new
  batch-follows = front a.requests refl
    where
      front : (xs : List batching.Fed) → a.requests ≡ xs → FollowsStep (replica.on_batch xs a) a (answer_of answer) new
      front [] e = known replica.Idle _ (step-empty w.stages (h.requests ∙ ap (λ xs. map fed_of xs) e)) (refl, still a w h)
      front (fed ∷ more) e = by fed more (h.requests ∙ ap (λ xs. map fed_of xs) e) (batching.is_closed_by a.held fed) (is_full a.dispatcher) refl refl

-- What is put in a lane of a replica is put in that of the model.
use Rattle.std.proofs.Common.{◌≡◌, Bool, true, false, not, List, [], ◌∷◌, ◌++◌, map, if◌then◌else◌, refl, sym, ap, subst, ◌∙◌, inl, inr, ◌≤◌}
use Rattle.std.proofs.lemmas.List.{map-append}
use Rattle.batcher.specs.declared.fed.Fed.{Fed}
use Rattle.paxos_world.specs.Batching as batching
use Rattle.paxos_world.specs.Replica.{Running, is_full}
use Rattle.jp_types.specs.Lists.{In}
use Rattle.paxos_world.specs.Stage as model
use Rattle.paxos_world.proofs.Basics.{In-append}
use Rattle.protocol_core.specs.declared.item.Item.{Item}
use Rattle.protocol_laws.specs.Acting.{item_of, model_decision}
use Rattle.protocol_laws.specs.Coming.{Comes}
use Rattle.service_manager.specs.declared.decision.Decision.{Decision}
use Rattle.replica_node.specs.Following.{PutsIn}
use Rattle.replica_node.specs.Lane as lane
use Rattle.replica_node.specs.Resembling.{fed_of, model_place, Resembles}
use Rattle.replica_node.specs.Whole.{Whole}
use Rattle.replica_node.specs.declared.stage.LaneItem.{LaneItem}
use Rattle.replica_node.specs.declared.stage.Stage.TheVariants as stage
use Rattle.replica_node.proofs.BatchStep.{full-alike, waits-item}
use Rattle.replica_node.proofs.Goals.{PutsFollow}

-- ---- Lanes

-- what is put in a lane that has a place is behind the others
put-behind : {A : Type 0} (xs : List A) (x : A) → lane.is_full xs ≡ false → lane.with_item xs x ≡ xs ++ x ∷ []
put-behind xs x e = rw e refl

-- nothing is put in a lane that has none
put-nowhere : {A : Type 0} (xs : List A) (x : A) → lane.is_full xs ≡ true → lane.with_item xs x ≡ xs
put-nowhere xs x e = rw e refl

-- an item is put in a lane of both, where it has a place
puts-in : {A B : Type 0} (xs : List A) (ys : List B) (x : A) (a b : Running) (v : List A → Whole) → lane.is_full xs ≡ is_full ys → Resembles a (v xs) → Resembles b (v (xs ++ x ∷ []))
    → PutsIn ys a b (not (lane.is_full xs)) (v (lane.with_item xs x))
puts-in xs ys x a b v same old new = (ap not same, go (is_full ys) refl)
  where
    go : (full : Bool) → is_full ys ≡ full → Resembles (if is_full ys then a else b) (v (lane.with_item xs x))
    go true e = subst (λ (c : Bool). Resembles (if c then a else b) (v (lane.with_item xs x))) (sym e) (subst (λ zs. Resembles a (v zs)) (sym (put-nowhere xs x (same ∙ e))) old)
    go false e = subst (λ (c : Bool). Resembles (if c then a else b) (v (lane.with_item xs x))) (sym e) (subst (λ zs. Resembles b (v zs)) (sym (put-behind xs x (same ∙ e))) new)

-- ---- Replicas

-- a lane of the code with one item more is the model's with one more
one-more : {A B : Type 0} (f : B → A) (xs : List A) (ys : List B) (y : B) → xs ≡ map f ys → xs ++ f y ∷ [] ≡ map f (ys ++ y ∷ [])
one-more f xs ys y e = ap (λ zs. zs ++ f y ∷ []) e ∙ sym (map-append f ys (y ∷ []))

-- what comes next waits in the request lane of both
request-resembles : (fed : batching.Fed) (a : Running) (w : Whole) → Resembles a w
    → Resembles (record a { requests = a.requests ++ fed ∷ [] }) (record w { stages = record w.stages { requests = w.stages.requests ++ fed_of fed ∷ [] } })
request-resembles fed a w h =
    record {
      stage = h.stage;
      me = h.me;
      requests = one-more fed_of w.stages.requests a.requests fed h.requests;
      held = h.held;
      dispatcher = h.dispatcher;
      decisions = h.decisions;
      service = h.service;
      cursor = h.cursor;
      up = h.up;
      waits = record { items = h.waits.items; decisions = h.waits.decisions; executed = h.waits.executed };
    }

-- an item that may come waits in the dispatcher lane of both
item-resembles : (item : model.Item) (a : Running) (w : Whole) → Comes a.stage item → Resembles a w
    → Resembles (record a { dispatcher = a.dispatcher ++ item ∷ [] }) (record w { stages = record w.stages { dispatcher = w.stages.dispatcher ++ item_of item ∷ [] } })
item-resembles item a w comes h =
    record {
      stage = h.stage;
      me = h.me;
      requests = h.requests;
      held = h.held;
      dispatcher = one-more item_of w.stages.dispatcher a.dispatcher item h.dispatcher;
      decisions = h.decisions;
      service = h.service;
      cursor = h.cursor;
      up = h.up;
      waits = record { items = waits-item a item h.waits comes; decisions = h.waits.decisions; executed = h.waits.executed };
    }

-- a decision of what was handed on waits in the decision lane of both
decision-resembles : (d : Decision) (a : Running) (w : Whole) → model_place (model_decision d) ≤ a.stage.handed → Resembles a w
    → Resembles (record a { decisions = a.decisions ++ model_decision d ∷ [] }) (record w { stages = record w.stages { decisions = w.stages.decisions ++ d ∷ [] } })
decision-resembles d a w le h =
    record {
      stage = h.stage;
      me = h.me;
      requests = h.requests;
      held = h.held;
      dispatcher = h.dispatcher;
      decisions = map-append model_decision w.stages.decisions (d ∷ []) ∙ ap (λ (xs : List model.Decision). xs ++ model_decision d ∷ []) h.decisions;
      service = h.service;
      cursor = h.cursor;
      up = h.up;
      waits = record { items = h.waits.items; decisions = within; executed = h.waits.executed };
    }
  where
    within : (x : model.Decision) → In x (a.decisions ++ model_decision d ∷ []) → model_place x ≤ a.stage.handed
    within x i = elim (In-append x a.decisions (model_decision d ∷ []) i) [
      | inl o ↦ h.waits.decisions x o
      | inr n ↦ elim n [ inl e ↦ subst (λ (y : model.Decision). model_place y ≤ a.stage.handed) (sym e) le | inr z ↦ absurd z ]
    ]

-- ---- Items

-- the code's decision lane is full where the model's is
decisions-full : (xs : List Decision) (ys : List model.Decision) → map model_decision xs ≡ ys → lane.is_full xs ≡ is_full ys
decisions-full xs ys e = sym (full-alike model_decision (map model_decision xs) xs refl) ∙ ap (λ (zs : List model.Decision). lane.is_full zs) e

-- an item that is put in a lane is put in that of the model
pub puts-follow : PutsFollow
puts-follow a stage.Batch (LaneItem.Fed fed) w h = λ x e.
    puts-in w.stages.requests a.requests fed a (record a { requests = a.requests ++ x ∷ [] }) (λ xs. record w { stages = record w.stages { requests = xs } })
    (full-alike fed_of w.stages.requests a.requests h.requests) h
    (subst (λ (f : Fed). Resembles (record a { requests = a.requests ++ x ∷ [] }) (record w { stages = record w.stages { requests = w.stages.requests ++ f ∷ [] } })) e (request-resembles x a w h))
puts-follow a stage.Protocol (LaneItem.Item item) w h = λ x e comes.
    puts-in w.stages.dispatcher a.dispatcher item a (record a { dispatcher = a.dispatcher ++ x ∷ [] }) (λ xs. record w { stages = record w.stages { dispatcher = xs } })
    (full-alike item_of w.stages.dispatcher a.dispatcher h.dispatcher) h
    (subst (λ (i : Item). Resembles (record a { dispatcher = a.dispatcher ++ x ∷ [] }) (record w { stages = record w.stages { dispatcher = w.stages.dispatcher ++ i ∷ [] } })) e (item-resembles x a w comes h))
puts-follow a stage.Service (LaneItem.Decision d) w h = λ le.
    puts-in w.stages.decisions a.decisions d a (record a { decisions = a.decisions ++ model_decision d ∷ [] }) (λ xs. record w { stages = record w.stages { decisions = xs } })
    (decisions-full w.stages.decisions a.decisions h.decisions) h (decision-resembles d a w le h)
puts-follow a stage.Batch (LaneItem.Item item) w h = h
puts-follow a stage.Batch (LaneItem.Decision d) w h = h
puts-follow a stage.Protocol (LaneItem.Fed fed) w h = h
puts-follow a stage.Protocol (LaneItem.Decision d) w h = h
puts-follow a stage.Service (LaneItem.Fed fed) w h = h
puts-follow a stage.Service (LaneItem.Item item) w h = h
puts-follow a stage.Retransmit (LaneItem.Fed fed) w h = h
puts-follow a stage.Retransmit (LaneItem.Item item) w h = h
puts-follow a stage.Retransmit (LaneItem.Decision d) w h = h

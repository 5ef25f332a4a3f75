-- The Protocol stage's step goes as the model's.
use Rattle.std.proofs.Common.{◌≡◌, ◌≢◌, ℕ, ◌-◌, ◌≤◌, ◌<◌, false, List, [], ◌∷◌, ◌++◌, drop, length, map, slice_get, inl, inr, refl, sym, ap, subst, ◌∙◌, le_trans, ⊎_elim}
use Rattle.std.proofs.lemmas.List.{length-map, map-append}
use Rattle.kv_service.specs.Service.{State}
use Rattle.paxos_world.specs.Replica as replica
use Rattle.paxos_world.specs.Replica.{Running, lane_limit}
use Rattle.jp_types.specs.Lists.{In}
use Rattle.paxos_world.specs.Stage.{Config, Stage, Item, Came, Closed, Tick, Suspect, Snapped}
use Rattle.paxos_world.specs.Stage as model
use Rattle.paxos_world.specs.Turn.{untouched, turn}
use Rattle.paxos_world.proofs.Basics.{In-append}
use Rattle.protocol_core.specs.declared.act.Act.{Act}
use Rattle.protocol_core.specs.declared.item.Item as code_item
use Rattle.protocol_core.specs.Turned.{Turned}
use Rattle.protocol_core.specs.Turning as code
use Rattle.protocol_laws.specs.Acting.{item_of, model_acts, model_decision}
use Rattle.protocol_laws.specs.Coming.{IsSendable, SendsFitly, Comes, HandsBelow, place_behind}
use Rattle.protocol_laws.specs.Following.{Follows}
use Rattle.protocol_laws.proofs.Whole.{turns_alike}
use Rattle.protocol_stage.specs.Arming.{takes_least}
use Rattle.protocol_stage.specs.Following.{Took}
use Rattle.protocol_stage.specs.Performing.{outward}
use Rattle.protocol_stage.specs.Standing.{Stands}
use Rattle.protocol_stage.proofs.Goals.{TurnsFollow}
use Rattle.service_manager.specs.declared.decision.Decision.{Decision}
use Rattle.replica_node.specs.Answers.{answer_of}
use Rattle.replica_node.specs.Following.{leaving, FollowsStep}
use Rattle.replica_node.specs.Resembling.{model_place, WaitsFitly, Resembles}
use Rattle.replica_node.specs.Taking.{TakesFront, TakesItem, turned, handed_of}
use Rattle.replica_node.specs.Whole.{Whole}
use Rattle.replica_node.specs.declared.stages.Stages.{Stages}
use Rattle.replica_node.specs.declared.stages.Taken.{Taken}
use Rattle.replica_node.proofs.Acts.{handed, kept-leaving, kept-fit}
use Rattle.replica_node.proofs.Going.{whole-is}

-- what may come to a stage may come to a later one, to which no less was handed
comes-on : (s t : Stage) (item : Item) → t.config ≡ s.config → s.handed ≤ t.handed → Comes s item → Comes t item
comes-on s t (Came from message) e le h = subst (λ (c : Config). (from.replica < c.n) × (from.replica ≢ c.me) × IsSendable c.mode message) (sym e) h
comes-on s t (Closed batch) e le h = tt
comes-on s t Tick e le h = tt
comes-on s t Suspect e le h = tt
comes-on s t (Snapped upto bytes) e le h = (le_trans h.0 le, h.1)

-- a decision lies where the code has it
place-behind : (x : Decision) (place : ℕ) → place_behind x ≤ place → model_place (model_decision x) ≤ place
place-behind (Decision.Decided i batch) place le = le
place-behind (Decision.Install upto state) place le = le

-- the decisions that acts hand on lie below the place that bounds them
handed-below : (place : ℕ) (acts : List Act) (d : model.Decision) → HandsBelow place acts → In d (replica.handed_by (model_acts acts)) → model_place d ≤ place
handed-below place [] d h i = absurd i
handed-below place (Act.Step x ∷ acts) d h i = handed-below place acts d h i
handed-below place (Act.Send to m ∷ acts) d h i = handed-below place acts d h i
handed-below place (Act.Hand x ∷ acts) d h (inl e) = subst (λ (y : model.Decision). model_place y ≤ place) (sym e) (place-behind x place h.0)
handed-below place (Act.Hand x ∷ acts) d h (inr i) = handed-below place acts d h.1 i
handed-below place (Act.Save x ∷ acts) d h i = handed-below place acts d h i
handed-below place (Act.Arm topic o ∷ acts) d h i = handed-below place acts d h i
handed-below place (Act.Cancel x ∷ acts) d h i = handed-below place acts d h i
handed-below place (Act.CancelProposes ∷ acts) d h i = handed-below place acts d h i

module _ (turns : TurnsFollow) where
  -- an item at the front of the dispatcher lane is taken by a replica of the model, and by one of the code
  module _ (a : Running) (w v : Whole) (item : Item) (more : List Item) (out : List Act) (h : Resembles a w) (front : a.dispatcher ≡ item ∷ more)
      (takes : TakesItem (record w.stages { dispatcher = drop 1 w.stages.dispatcher }) (item_of item) out v.stages) (is-up : v.down ≡ false) where
    -- the model's turn
    abbrev turn-of : model.Turned
    turn-of = turn a.stage item (lane_limit - length a.decisions)

    -- the code's turn
    abbrev did-of : Turned
    did-of = turned (record w.stages { dispatcher = drop 1 w.stages.dispatcher }) (item_of item)

    -- the replica of the model after it
    abbrev after-of : Running
    after-of = record a { stage = turn-of.stage; dispatcher = more; decisions = a.decisions ++ replica.handed_by turn-of.acts }

    -- the item may come to the stage
    comes : Comes a.stage item
    comes = h.waits.items item (subst (λ (xs : List Item). In item xs) (sym front) (inl refl))

    -- the decision lane of the code has as many places as that of the model
    long : length w.stages.decisions ≡ length a.decisions
    long = sym (length-map w.stages.decisions model_decision) ∙ ap (λ (xs : List model.Decision). length xs) h.decisions

    -- the code's turn follows the model's
    follows : Follows (untouched a.stage) turn-of did-of
    follows = subst (λ k. Follows (untouched a.stage) turn-of (code.turn w.stages.protocol.life (item_of item) (64 - k))) (sym long) (turns_alike a.stage w.stages.protocol.life item (lane_limit - length a.decisions) h.stage.keeps comes)

    -- and so does the stage of the code
    took : Took takes_least a.stage item (lane_limit - length a.decisions) w.stages.protocol (outward did-of.acts) v.stages.protocol
    took =
        subst (λ k. Took takes_least a.stage item (64 - k) w.stages.protocol (outward did-of.acts) v.stages.protocol) long
        (turns takes_least (item_of item) (64 - length w.stages.decisions) w.stages.protocol v.stages.protocol (outward did-of.acts) takes.life refl takes.repeating takes.up a.stage item
        (record { keeps = h.stage.keeps; fitly = h.stage.fitly; up = h.stage.up }) comes refl)

    -- the stage after the turn is that of the model
    stands : Stands turn-of.stage v.stages.protocol
    stands = took.stands (λ slots k free. free) h.stage

    -- what waits in the lanes after the turn may come
    waits : WaitsFitly after-of
    waits = record { items = items; decisions = decisions; executed = executed }
      where
        items : (x : Item) → In x more → Comes turn-of.stage x
        items x i = comes-on a.stage turn-of.stage x follows.config follows.handed (h.waits.items x (subst (λ (xs : List Item). In x xs) (sym front) (inr i)))

        decisions : (d : model.Decision) → In d (a.decisions ++ replica.handed_by turn-of.acts) → model_place d ≤ turn-of.stage.handed
        decisions d i =
            ⊎_elim (λ m. le_trans (h.waits.decisions d m) follows.handed)
            (λ m. handed-below turn-of.stage.handed did-of.acts d follows.hands (subst (λ (xs : List model.Act). In d (replica.handed_by xs)) follows.acts m))
            (In-append d a.decisions (replica.handed_by turn-of.acts) i)

        executed : turn-of.stage.life.service.executed ≤ turn-of.stage.handed
        executed = subst (λ (x : State). x.executed ≤ turn-of.stage.handed) (sym follows.service) (le_trans h.waits.executed follows.handed)

    -- the replica after the turn is that of the model
    resembles : Resembles after-of v
    resembles =
        record {
          stage = stands;
          me = ap (λ (x : Stages). x.me) takes.rest ∙ h.me ∙ sym (ap (λ (x : Config). x.me) follows.config);
          requests = ap (λ (x : Stages). x.requests) takes.rest ∙ h.requests;
          held = ap (λ (x : Stages). x.batcher) takes.rest ∙ h.held;
          dispatcher = ap (λ (x : Stages). x.dispatcher) takes.rest ∙ ap (λ xs. drop 1 xs) (h.dispatcher ∙ ap (λ (xs : List Item). map item_of xs) front);
          decisions = ap (λ (x : Stages). map model_decision x.decisions) takes.rest ∙ handed-on;
          service = ap (λ (x : Stages). x.service) takes.rest ∙ h.service ∙ sym follows.service;
          cursor = ap (λ (x : Stages). x.cursor) takes.rest ∙ h.cursor;
          up = is-up;
          waits = waits;
        }
      where
        handed-on : map model_decision (w.stages.decisions ++ handed_of did-of.acts) ≡ a.decisions ++ replica.handed_by turn-of.acts
        handed-on =
            map-append model_decision w.stages.decisions (handed_of did-of.acts)
            ∙ ap (λ (xs : List model.Decision). xs ++ map model_decision (handed_of did-of.acts)) h.decisions
            ∙ ap (λ (xs : List model.Decision). a.decisions ++ xs) (handed did-of.acts ∙ ap (λ (xs : List model.Act). replica.handed_by xs) (sym follows.acts))

    -- its acts are those that leave the replica in the model
    acts-are : model_acts out ≡ leaving turn-of.acts
    acts-are = ap model_acts takes.acts_are ∙ kept-leaving did-of.acts ∙ ap leaving (sym follows.acts)

    -- and they are sent fitly
    sends : SendsFitly a.stage.config out
    sends = subst (SendsFitly a.stage.config) (sym takes.acts_are) (kept-fit a.stage.config (outward did-of.acts) took.sends)

    -- a step that takes an item is that of the model
    taken-follows : FollowsStep (replica.on_protocol (item ∷ more) a) a (answer_of (Taken.Done out)) v
    taken-follows = (acts-are, sends, follows.config, resembles)

  module _ (a : Running) (w new : Whole) (h : Resembles a w) (up : new.down ≡ false) where
    -- a step is the model's, where these items wait
    by : (items : List Item) (taken : Taken) → a.dispatcher ≡ items → TakesFront (slice_get (map item_of items) 0) w.stages taken new.stages → FollowsStep (replica.on_protocol items a) a (answer_of taken) new
    by [] taken e front =
        subst (λ (t : Taken). FollowsStep replica.Idle a (answer_of t) new) (sym front.0)
        (refl, subst (Resembles a) (whole-is w w.stages h.up refl ∙ sym (whole-is new w.stages up front.1)) h)
    by (item ∷ more) taken e front =
        subst (λ (t : Taken). FollowsStep (replica.on_protocol (item ∷ more) a) a (answer_of t) new) (sym front.1) (taken-follows a w new item more front.0 h e front.2 up)

    -- a step of the Protocol stage is the model's
    pub protocol-follows : (taken : Taken) → TakesFront (slice_get w.stages.dispatcher 0) w.stages taken new.stages → FollowsStep (replica.protocol_step a) a (answer_of taken) new
    protocol-follows taken front = by a.dispatcher taken refl (subst (λ (xs : List code_item.Item). TakesFront (slice_get xs 0) w.stages taken new.stages) h.dispatcher front)

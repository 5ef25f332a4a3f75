-- What each line of a schedule does is a run of the world.
use Rattle.std.proofs.Common.{◌≡◌, ℕ, suc, ◌-◌, ◌≤◌, Bool, true, false, ◌&&◌, ◌||◌, List, [], ◌∷◌, ◌++◌, length, slice_get, slice_set, if◌then◌else◌, ◌==◌, Option, Some, None, refl, sym, ap, subst, ◌∙◌, inl, inr, ⊎_elim, append-nil}
use Rattle.jp_types.specs.declared.command.Request.{Request}
use Rattle.jp_types.specs.Lists.{In}
use Rattle.paxos_world.specs.Setup.{Setup}
use Rattle.paxos_world.specs.World.{Replica, World, Sent, Move, Crash, Allowed, id_of, after, replica_after}
use Rattle.paxos_world.specs.Trace.{end_of}
use Rattle.paxos_world.specs.Stage.{Config, free_slots, Item, Came, Closed, Suspect, Decision, Turned}
use Rattle.paxos_world.specs.Turn.{untouched, turn, Opened, opening_moves, moves_of, retransmit}
use Rattle.paxos_world.specs.Turn as T
use Rattle.paxos_world.specs.Serving.{makes_snapshot, serves, snapshot_of}
use Rattle.paxos_world.proofs.Basics.{with_at-same, In-append}
use Rattle.paxos_world.proofs.Replies.{same}
use Rattle.turn_laws.specs.Nodes as F
use Rattle.turn_laws.proofs.Fitting.{Within}
use Rattle.turn_laws.proofs.Goods.{step_good}
use Rattle.turn_laws.proofs.Going.{In-snoc}
use Rattle.jp_types.specs.Limits.{IsRequest, IsBatch}
use Rattle.turn_laws.specs.Limits.{StatesRead}
use Rattle.turn_laws.proofs.Sane.{life_sane}
use Rattle.turn_laws.proofs.Joining.{get-in}
use Rattle.turn_laws.proofs.Sitting.{Placed, Over, over-turn, over-serves, over-retransmit}
use Rattle.turn_laws.proofs.Opening.{Opens, opens}
use Rattle.paxos_world.specs.declared.step.Step.{Step}
use Rattle.paxos_world.specs.Shown.{shown_of, shown_along, shown_in}
use Rattle.paxos_world.proofs.Turning.{turn-told, serves-told, retransmit-told}
use Rattle.paxos_world.proofs.Turning.{along-over}
use Rattle.cluster_laws.proofs.Showing.{shows-acts}
use Rattle.turn_laws.proofs.Settled.{turn-settled}
use Rattle.turn_laws.proofs.Rejoinable.{serves-none}
use Rattle.paxos_world.specs.Settling.{rejoin_view}
use Rattle.cluster_laws.specs.Laws.{IsLine}
use Rattle.schedules.specs.declared.line.Line.{Line}
use Rattle.schedules.specs.declared.line.Word.TheVariants.{Done, Empty, Full, Down, Up, Unsent}
use Rattle.paxos_world.specs.Batching.{Fed, Asked, is_closed_by, held_after}
use Rattle.paxos_world.specs.Replica.{Running, lane_limit, is_full, handed_by, started, Stepped, unless_full, batched, on_batch, on_protocol, with_snapshot, on_service, repeated, batch_step, protocol_step, service_step, retransmit_step}
use Rattle.schedules.specs.Cluster.{Place, Cluster, Happened, config_of, with_running, sent_by}
use Rattle.schedules.specs.Run.{refused, puts_request, puts_item, puts_tick, happens_by, takes_step, on_crash, begins_by, begins, if_running, up_at, at_running, start_by, delivers, event}
use Rattle.cluster_laws.proofs.Beside.{setup_at, FedTrue, IsUp, Beside, Matches, length-set, Rest, rest-of, of-deeds, starts-kept, item-more, decision-more, matches-change, Happens, happens-refused, happens-quietly, happens-done, sent-same, handed-same}
use Rattle.turn_laws.specs.Nodes.{DecisionComes, ItemComes}

either-way : (cl : Cluster) (w : World) (b : Bool) (x y : Happened) → Happens cl w x → Happens cl w y → Happens cl w (if b then x else y)
either-way cl w true x y h k = h
either-way cl w false x y h k = k

-- a step that a full lane may stop
stopped-or : (cl : Cluster) (w : World) (r : ℕ) (place : Place) (b : Bool) (step : Stepped) → Matches cl w → Happens cl w (happens_by step cl r place) → Happens cl w (happens_by (unless_full b step) cl r place)
stopped-or cl w r place true step h k = happens-refused cl w Full h
stopped-or cl w r place false step h k = k

module _ (cl : Cluster) (w : World) (r : ℕ) (place : Place) (a : Running) (h : Matches cl w) (there : slice_get cl.places r ≡ Some place) (up : place.running ≡ Some a) where
  my_up : IsUp (config_of cl.head r) place.starts w a
  my_up = (h.places r place there).up a up

  fed-more : (fed : Fed) → FedTrue fed → (x : Fed) → In x (a.requests ++ fed ∷ []) → FedTrue x
  fed-more fed is x n = In-snoc x fed a.requests n (my_up.requests x) (λ e. subst (λ (y : Fed). FedTrue y) (sym e) is)

  happens-puts_request : (fed : Fed) → FedTrue fed → Happens cl w (puts_request fed cl r place a)
  happens-puts_request fed is =
      either-way cl w (is_full a.requests) _ _ (happens-refused cl w Full h)
      (happens-quietly cl w r place a h there up (record a { requests = a.requests ++ fed ∷ [] }) refl my_up.items refl (fed-more fed is) my_up.held)

  pushed : (item : Item) → ItemComes w r a.stage.life item → (x : Item) → In x (a.dispatcher ++ item ∷ []) → ItemComes w r a.stage.life x
  pushed item is x n = In-snoc x item a.dispatcher n (λ m. my_up.items x m) (λ e. subst (λ (y : Item). ItemComes w r a.stage.life y) (sym e) is)

  happens-puts_item : (item : Item) → ItemComes w r a.stage.life item → Happens cl w (puts_item item cl r place a)
  happens-puts_item item is =
      either-way cl w (is_full a.dispatcher) _ _ (happens-refused cl w Full h)
      (happens-quietly cl w r place a h there up (record a { dispatcher = a.dispatcher ++ item ∷ [] }) refl (pushed item is) refl my_up.requests my_up.held)

  happens-puts_tick : Happens cl w (puts_tick cl r place a)
  happens-puts_tick =
      either-way cl w (is_full a.requests || is_full a.dispatcher) _ _ (happens-refused cl w Full h)
      (happens-quietly cl w r place a h there up (record a { requests = a.requests ++ Fed.Tick ∷ []; dispatcher = a.dispatcher ++ Item.Tick ∷ [] }) refl (pushed Item.Tick tt) refl (fed-more Fed.Tick tt) my_up.held)

  held-true : (b : Bool) (fed : Fed) → FedTrue fed → IsBatch (held_after b a.held fed)
  held-true true (Asked request) is = λ x n. ⊎_elim (λ e. subst (λ (y : Request). IsRequest y) (sym e) is) (λ m. absurd m) n
  held-true true Fed.Tick is = λ x n. absurd n
  held-true false (Asked request) is = λ x n. In-snoc x request a.held n (my_up.held x) (λ e. subst (λ (y : Request). IsRequest y) (sym e) is)
  held-true false Fed.Tick is = my_up.held

  happens-batches : (b : Bool) (fed : Fed) (more : List Fed) → ((x : Fed) → In x (fed ∷ more) → FedTrue x) → Happens cl w (happens_by (batched b fed more a) cl r place)
  happens-batches true fed more are =
      stopped-or cl w r place (is_full a.dispatcher) _ h
      (happens-quietly cl w r place a h there up (record a { requests = more; held = held_after true a.held fed; dispatcher = a.dispatcher ++ Closed a.held ∷ [] }) refl (pushed (Closed a.held) my_up.held) refl (λ x n. are x (inr n)) (held-true true fed (are fed (inl refl))))
  happens-batches false fed more are = happens-quietly cl w r place a h there up (record a { requests = more; held = held_after false a.held fed }) refl my_up.items refl (λ x n. are x (inr n)) (held-true false fed (are fed (inl refl)))

  happens-on_batch : (fed : List Fed) → a.requests ≡ fed → Happens cl w (happens_by (on_batch fed a) cl r place)
  happens-on_batch [] e = happens-refused cl w Empty h
  happens-on_batch (fed ∷ more) e = happens-batches (is_closed_by a.held fed) fed more (λ x n. my_up.requests x (subst (λ (xs : List Fed). In x xs) (sym e) n))

  module _ (reads : StatesRead) (two : 2 ≤ cl.head.n) where
    my_place : Placed (config_of cl.head r)
    my_place = record { me = h.within r place there; more = two; reads = reads }

    grown : (o : World) (ds : _) → end_of (setup_at cl.head) w (moves_of r ds) ≡ o → Within w.sent o.sent
    grown o ds e = (subst (λ (v : World). Rest r w v) e (rest-of (setup_at cl.head) r w (moves_of r ds) (of-deeds r ds))).sent

    happens-on_protocol : (items : List Item) → a.dispatcher ≡ items → Happens cl w (happens_by (on_protocol items a) cl r place)
    happens-on_protocol [] e = happens-refused cl w Empty h
    happens-on_protocol (item ∷ more) e =
        happens-done cl w r place a h there up b t refl o items decisions refl refl (turn-settled (config_of cl.head r) place.starts w a.stage item room my_place my_up.sits h.good h.sane (was item (inl refl))) (turn-told a.stage item room)
      where
        room : ℕ
        room = lane_limit - length a.decisions

        t : Turned
        t = turn a.stage item room

        b : Running
        b = record a { stage = t.stage; dispatcher = more; decisions = a.decisions ++ handed_by t.acts }

        was : (x : Item) → In x (item ∷ more) → ItemComes w r a.stage.life x
        was x n = my_up.items x (subst (λ (xs : List Item). In x xs) (sym e) n)

        o : Over (config_of cl.head r) place.starts w a.stage.life t
        o = (over-turn (config_of cl.head r) place.starts w a.stage item room my_place my_up.sits h.good h.sane (was item (inl refl))).0

        items : (x : Item) → In x more → ItemComes o.world r t.stage.life x
        items x n = item-more w o.world r a.stage.life t.stage.life x (grown o.world t.deeds o.ends) o.onward (was x (inr n))

        decisions : (d : Decision) → In d (a.decisions ++ handed_by t.acts) → DecisionComes t.stage.life d
        decisions d n =
            ⊎_elim (λ m. decision-more a.stage.life t.stage.life d o.onward (my_up.decisions d m)) (λ m. o.handed d (subst (λ (ds : List Decision). In d ds) (handed-same t.acts) m))
            (In-append d a.decisions (handed_by t.acts) n)

    happens-on_service : (ds : List Decision) → a.decisions ≡ ds → Happens cl w (happens_by (on_service ds a) cl r place)
    happens-on_service [] e = happens-refused cl w Empty h
    happens-on_service (d ∷ more) e = stopped-or cl w r place (snaps && is_full a.dispatcher) _ h (happens-done cl w r place a h there up b t refl o (items snaps) decisions refl refl (serves-none d a.stage my_up.settled) (serves-told d a.stage (λ i batch f. subst (λ (x : Decision). DecisionComes a.stage.life x) f (was d (inl refl)))))
      where
        snaps : Bool
        snaps = makes_snapshot a.stage.life.service d

        t : Turned
        t = serves d (untouched a.stage)

        b : Running
        b = record a { stage = t.stage; decisions = more; dispatcher = with_snapshot snaps t.stage a.dispatcher }

        was : (x : Decision) → In x (d ∷ more) → DecisionComes a.stage.life x
        was x n = my_up.decisions x (subst (λ (xs : List Decision). In x xs) (sym e) n)

        o : Over (config_of cl.head r) place.starts w a.stage.life t
        o = over-serves (config_of cl.head r) place.starts w a.stage d my_place my_up.sits h.good h.sane (was d (inl refl))

        old : (x : Item) → In x a.dispatcher → ItemComes o.world r t.stage.life x
        old x n = item-more w o.world r a.stage.life t.stage.life x (grown o.world t.deeds o.ends) o.onward (my_up.items x n)

        items : (s : Bool) (x : Item) → In x (with_snapshot s t.stage a.dispatcher) → ItemComes o.world r t.stage.life x
        items true x n =
            In-snoc x (snapshot_of t.stage.life.service) a.dispatcher n (old x)
            (λ f. subst (λ (y : Item). ItemComes o.world r t.stage.life y) (sym f) (t.stage.life.service, o.sits.served, refl, refl))
        items false x n = old x n

        decisions : (x : Decision) → In x more → DecisionComes t.stage.life x
        decisions x n = decision-more a.stage.life t.stage.life x o.onward (was x (inr n))

    happens-on_retransmit : Happens cl w (happens_by (retransmit_step a) cl r place)
    happens-on_retransmit = go (retransmit a.stage a.cursor) refl
      where
        go : (f : Option (ℕ × Turned)) → retransmit a.stage a.cursor ≡ f → Happens cl w (happens_by (repeated f a) cl r place)
        go None e = happens-refused cl w Empty h
        go (Some found) e =
            let k = over-retransmit (config_of cl.head r) place.starts w a.stage a.cursor found my_place my_up.sits h.good h.sane e in
            let o = k.0 in
            happens-done cl w r place a h there up (record a { cursor = found.0 }) found.1 (sym k.1) o
            (λ x n. item-more w o.world r a.stage.life found.1.stage.life x (grown o.world found.1.deeds o.ends) o.onward (my_up.items x n))
            (λ d n. decision-more a.stage.life found.1.stage.life d o.onward (my_up.decisions d n)) refl refl (ap rejoin_view k.1 ∙ my_up.settled) (retransmit-told a.stage a.cursor found e)

    happens-on_crash : Happens cl w (on_crash cl r place a)
    happens-on_crash =
        record {
          head = refl;
          count = length-set cl.places r new;
          shows = record { steps = refl; sends = refl };
          run = (allowed, tt);
          along = (h.sane, life_sane c w m tt h.sane);
          matches = matches-change cl w v r place new cl.sent h there rest (step_good c w m h.good allowed.meets) (life_sane c w m tt h.sane) beside (append-nil w.sent ∙ h.sent);
        }
      where
        c : Setup
        c = setup_at cl.head

        m : Move
        m = Crash r

        v : World
        v = after c w m

        new : Place
        new = record place { running = None }

        old : Beside (config_of cl.head r) w place
        old = h.places r place there

        runs : (w.replicas r).running ≡ Some a.stage.life
        runs = subst (λ (k : Config). (w.replicas k.me).running ≡ Some a.stage.life) my_up.sits.config my_up.sits.running

        allowed : Allowed c w m
        allowed = record { within = h.within r place there; meets = record { life = a.stage.life; running = runs } }

        acted : v.replicas r ≡ replica_after c (w.replicas r) m
        acted = with_at-same w.replicas r (replica_after c (w.replicas r) m)

        rest : Rest r w v
        rest = rest-of c r w (m ∷ []) (refl, tt)

        beside : Beside (config_of cl.head r) v new
        beside = record {
          starts = old.starts ∙ ap (λ (x : Replica). x.starts) (sym acted);
          stable = old.stable ∙ ap (λ (x : Replica). x.stable) (sym acted);
          down = λ e. ap (λ (x : Replica). x.running) acted;
          up = λ x e. absurd cc;
        }

-- ---- Starts

module _ (cl : Cluster) (w : World) (r : ℕ) (place : Place) (h : Matches cl w) (there : slice_get cl.places r ≡ Some place) (down : place.running ≡ None) (reads : StatesRead) (two : 2 ≤ cl.head.n) where
  abbrev c : Setup
  c = setup_at cl.head

  happens-opened : (o : Opened) → T.opening (config_of cl.head r) free_slots (suc place.starts) place.stable ≡ Some o → Happens cl w (begins_by (Some o) cl r place)
  happens-opened o e =
      record {
        head = refl;
        count = length-set cl.places r new;
        shows = shows-acts c w (length cl.sent) (id_of r t.stage.life) t.acts (begins_by (Some o) cl r place) refl shown said (ap length (sym h.sent));
        run = (k.allowed, k.over.run);
        along = (h.sane, k.over.along);
        matches = subst (λ (v : World). Matches (record cl { places = slice_set cl.places r new; sent = sent }) v) (sym k.over.ends)
            (matches-change cl w k.over.world r place new sent h there rest k.over.good k.over.sane beside sent_is);
      }
    where
      old : Beside (config_of cl.head r) w place
      old = h.places r place there

      k : Opens (config_of cl.head r) (suc place.starts) w o
      k = opens (config_of cl.head r) (suc place.starts) place.stable w o (record { me = h.within r place there; more = two; reads = reads }) h.good h.sane (old.down down) (sym old.stable) (ap suc (sym old.starts)) e

      t : Turned
      t = o.turned

      a : Running
      a = started t.stage

      new : Place
      new = with_running a (record place { starts = suc place.starts })

      sent : List Sent
      sent = cl.sent ++ sent_by (id_of r t.stage.life) t.acts

      first : World
      first = after c w o.move

      rest : Rest r w k.over.world
      rest = subst (λ (v : World). Rest r w v) k.over.ends (rest-of c r w (o.move ∷ moves_of r t.deeds) (k.mine, of-deeds r t.deeds))

      sent_is : k.over.world.sent ≡ sent
      sent_is =
          k.over.sent ∙ ap (λ (xs : List Sent). xs ++ F.sent_by (record { replica = r; number = suc place.starts }) t.acts) (k.silent ∙ h.sent)
          ∙ ap (λ (n : ℕ). cl.sent ++ F.sent_by (record { replica = r; number = n }) t.acts) (sym k.over.sits.number_is)
          ∙ ap (λ (xs : List Sent). cl.sent ++ xs) (sym (sent-same (id_of r t.stage.life) t.acts))

      shown : shown_in t.acts ≡ shown_along c w (o.move ∷ moves_of r t.deeds)
      shown = k.told.shown ∙ ap (λ (xs : List Step). shown_of w o.move ++ xs) (sym (along-over (config_of cl.head r) first k.life t.deeds k.born))

      said : (end_of c w (o.move ∷ moves_of r t.deeds)).sent ≡ w.sent ++ sent_by (id_of r t.stage.life) t.acts
      said = ap (λ (v : World). v.sent) k.over.ends ∙ sent_is ∙ ap (λ (xs : List Sent). xs ++ sent_by (id_of r t.stage.life) t.acts) (sym h.sent)

      up : IsUp (config_of cl.head r) (suc place.starts) k.over.world a
      up = record { sits = k.over.sits; items = λ x n. absurd n; decisions = λ d n. absurd n; requests = λ x n. absurd n; held = λ x n. absurd n; settled = k.settled }

      starts : suc place.starts ≡ (k.over.world.replicas r).starts
      starts = sym k.starts ∙ sym (starts-kept c r first t.deeds) ∙ ap (λ (v : World). (v.replicas r).starts) k.over.ends

      beside : Beside (config_of cl.head r) k.over.world new
      beside = record {
        starts = starts;
        stable = sym (subst (λ (x : Config). (k.over.world.replicas x.me).stable ≡ Some t.stage.stable) k.over.sits.config k.over.sits.stable);
        down = λ e. absurd cc;
        up = λ x e. (let f : a ≡ x = cc in subst (λ (y : Running). IsUp (config_of cl.head r) (suc place.starts) k.over.world y) f up);
      }

  happens-begins : Happens cl w (begins cl r place)
  happens-begins = go (T.opening (config_of cl.head r) free_slots (suc place.starts) place.stable) refl
    where
      go : (o : Option Opened) → T.opening (config_of cl.head r) free_slots (suc place.starts) place.stable ≡ o → Happens cl w (begins_by o cl r place)
      go None e = happens-refused cl w Down h
      go (Some o) e = happens-opened o e

-- ---- Events

module _ (cl : Cluster) (w : World) (reads : StatesRead) (h : Matches cl w) (two : 2 ≤ cl.head.n) where
  -- what holds of each replica that is up holds where the line is
  happens-at : (f : Cluster → ℕ → Place → Running → Happened) (r : ℕ)
      → ((place : Place) (a : Running) → slice_get cl.places r ≡ Some place → place.running ≡ Some a → Happens cl w (f cl r place a)) → Happens cl w (at_running f cl r)
  happens-at f r each = go (slice_get cl.places r) refl
    where
      inner : (place : Place) → slice_get cl.places r ≡ Some place → (o : Option Running) → place.running ≡ o → Happens cl w (if_running o (λ a. f cl r place a) (refused Down cl))
      inner place there None e = happens-refused cl w Down h
      inner place there (Some a) e = each place a there e

      go : (o : Option Place) → slice_get cl.places r ≡ o → Happens cl w (up_at o (f cl r) cl)
      go None e = happens-refused cl w Down h
      go (Some place) e = inner place e place.running refl

  pub happens-start : (r : ℕ) → Happens cl w (start_by (slice_get cl.places r) cl r)
  happens-start r = go (slice_get cl.places r) refl
    where
      inner : (place : Place) → slice_get cl.places r ≡ Some place → (o : Option Running) → place.running ≡ o → Happens cl w (if_running o (λ a. refused Up cl) (begins cl r place))
      inner place there None e = happens-begins cl w r place h there e reads two
      inner place there (Some a) e = happens-refused cl w Up h

      go : (o : Option Place) → slice_get cl.places r ≡ o → Happens cl w (start_by o cl r)
      go None e = happens-refused cl w Up h
      go (Some place) e = inner place e place.running refl

  happens-delivers : (o : Option Sent) (r k : ℕ) → slice_get cl.sent k ≡ o → Happens cl w (delivers o cl r)
  happens-delivers None r k e = happens-refused cl w Unsent h
  happens-delivers (Some m) r k e = go (m.to == r) refl
    where
      there : In m w.sent
      there = subst (λ (xs : List Sent). In m xs) (sym h.sent) (get-in cl.sent k m e)

      go : (b : Bool) → (m.to == r) ≡ b → Happens cl w (if b then at_running (puts_item (Came m.from m.message)) cl r else refused Unsent cl)
      go true f =
          let is : In (record { from = m.from; to = r; message = m.message }) w.sent = subst (λ n. In (record { from = m.from; to = n; message = m.message }) w.sent) (same m.to r f) there in
          happens-at (puts_item (Came m.from m.message)) r (λ place a p q. happens-puts_item cl w r place a h p q (Came m.from m.message) is)
      go false f = happens-refused cl w Unsent h

  pub happens-event : (line : Line) → IsLine line → Happens cl w (event cl line)
  unfolding event
  happens-event (Line.Cluster head) is = happens-refused cl w Done h
  happens-event (Line.Request r request) is = happens-at (puts_request (Asked request)) r (λ place a p q. happens-puts_request cl w r place a h p q (Asked request) is)
  happens-event (Line.Batch r) is = happens-at (takes_step batch_step) r (λ place a p q. happens-on_batch cl w r place a h p q a.requests refl)
  happens-event (Line.Tick r) is = happens-at puts_tick r (λ place a p q. happens-puts_tick cl w r place a h p q)
  happens-event (Line.Suspect r) is = happens-at (puts_item Suspect) r (λ place a p q. happens-puts_item cl w r place a h p q Suspect tt)
  happens-event (Line.Deliver r m) is = happens-delivers (slice_get cl.sent m) r m refl
  happens-event (Line.Protocol r) is = happens-at (takes_step protocol_step) r (λ place a p q. happens-on_protocol cl w r place a h p q reads two a.dispatcher refl)
  happens-event (Line.Service r) is = happens-at (takes_step service_step) r (λ place a p q. happens-on_service cl w r place a h p q reads two a.decisions refl)
  happens-event (Line.Retransmit r) is = happens-at (takes_step retransmit_step) r (λ place a p q. happens-on_retransmit cl w r place a h p q reads two)
  happens-event (Line.Crash r) is = happens-at on_crash r (λ place a p q. happens-on_crash cl w r place a h p q reads two)
  happens-event (Line.Start r) is = happens-start r
  happens-event Line.End is = happens-refused cl w Done h

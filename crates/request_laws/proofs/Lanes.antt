-- What holds of each request that was asked for holds, after each line, of all requests in what a cluster has sent and in what waits at its replicas.
use Rattle.std.proofs.Common.{◌≡◌, ℕ, suc, ◌-◌, ◌≤◌, Bool, true, false, ◌&&◌, ◌||◌, List, [], ◌∷◌, ◌++◌, length, slice_get, slice_set, if◌then◌else◌, ◌==◌, nat_lt, Option, Some, None, option_map, refl, sym, ap, subst, ◌∙◌, inl, inr, ⊎_elim}
use Rattle.jp_types.specs.declared.command.Request.{Request}
use Rattle.jp_types.specs.declared.message.Message.{Message}
use Rattle.jp_types.specs.declared.message.Propose.{Propose}
use Rattle.jp_types.specs.Instances.{Batch}
use Rattle.kv_service.specs.Dues.{is_due}
use Rattle.kv_service.specs.Service.{outcomes}
use Rattle.paxos_world.specs.declared.step.Step.{Step}
use Rattle.paxos_world.specs.Adoption.{counted_report, adopted_by}
use Rattle.paxos_world.specs.Batching.{Fed, Asked, is_closed_by, held_after}
use Rattle.paxos_world.specs.Life.{LifeId}
use Rattle.paxos_world.specs.Replica.{Running, lane_limit, is_full, handed_by, started, Stepped, unless_full, batched, on_batch, on_protocol, with_snapshot, on_service, repeated, batch_step, protocol_step, service_step, retransmit_step}
use Rattle.paxos_world.specs.Retransmitting.{claim, cursor_after}
use Rattle.paxos_world.specs.Serving.{makes_snapshot, serves, snapshot_of}
use Rattle.paxos_world.specs.Settling.{settles_rejoin}
use Rattle.jp_types.specs.Lists.{In}
use Rattle.paxos_world.specs.Stage.{Config, setup_of, free_slots, Outgoing, Stage, Item, Came, Closed, Suspect, Decision, Decided, Installed, Act, Turned}
use Rattle.paxos_world.specs.Trace.{IsRun, end_of}
use Rattle.paxos_world.specs.Turn.{untouched, on_item, turn, Opened, moves_of, retransmit}
use Rattle.paxos_world.specs.Turn as T
use Rattle.paxos_world.specs.World.{World, Sent, Move, Deed, id_of, opening}
use Rattle.paxos_world.specs.Writing.{when, shows}
use Rattle.paxos_world.proofs.Basics.{In-append}
use Rattle.schedules.specs.declared.line.Line.{Line}
use Rattle.schedules.specs.declared.line.Word.{Word}
use Rattle.schedules.specs.declared.line.Word.TheVariants.{Done, Empty, Full, Down, Up, Unsent}
use Rattle.schedules.specs.Cluster.{Place, Cluster, Happened, config_of, with_running, sent_by}
use Rattle.schedules.specs.Run.{refused, quietly, done_by, puts_request, puts_item, puts_tick, happens_by, takes_step, on_crash, begins_by, begins, if_running, up_at, at_running, start_by, delivers, event}
use Rattle.step_laws.specs.Kinds.{sent_in}
use Rattle.step_laws.specs.Sent.{to_each}
use Rattle.step_laws.specs.Settled.{after_rejoin}
use Rattle.step_laws.proofs.Sending.{repeats_exactly}
use Rattle.turn_laws.specs.Limits.{StatesRead}
use Rattle.turn_laws.specs.Nodes.{ItemComes}
use Rattle.turn_laws.specs.Nodes as F
use Rattle.turn_laws.proofs.Going.{In-snoc}
use Rattle.turn_laws.proofs.Sitting.{Placed}
use Rattle.turn_laws.proofs.Fitting.{MayRepeat}
use Rattle.turn_laws.proofs.Slots.{claim-live}
use Rattle.cluster_laws.proofs.Beside.{setup_at, IsUp, Matches, set-cases, sent-same}
use Rattle.cluster_laws.proofs.Schedules.{run-append, end-append}
use Rattle.request_laws.proofs.Origin.{SentMeet, adopted-in, launched-in}
use Rattle.request_laws.proofs.Messages.{each-is, none-of, sent-of, AllMeet, AdoptedMeet}
use Rattle.request_laws.proofs.Turning.{ItemMeets, over-rejoined, rejoined-sends, turn-waits, turn-sends, begins-opened}

-- it holds of each request of this batch
abbrev pub Meets : (Request → Type 0) → Batch → Type 0
Meets P batch = (request : Request) → In request batch → P request

-- it holds of what the Batcher takes
abbrev pub FedMeets : (Request → Type 0) → Fed → Type 0
FedMeets P (Asked request) = P request
FedMeets P Fed.Tick = Unit {0}

-- it holds of all that waits at a replica that is up
pub record PlaceMeets (P : Request → Type 0) (a : Running) : Type 0 where
  pub waiting : AllMeet (λ batch. Meets P batch) a.stage.waiting
  pub items : (item : Item) → In item a.dispatcher → ItemMeets (λ batch. Meets P batch) item
  pub requests : (fed : Fed) → In fed a.requests → FedMeets P fed
  pub held : Meets P a.held

-- it holds of each Propose that was sent, and of all that waits
pub record ClusterMeets (P : Request → Type 0) (cl : Cluster) : Type 0 where
  pub sent : SentMeet (λ batch. Meets P batch) cl.sent
  pub places : (r : ℕ) (place : Place) (a : Running) → slice_get cl.places r ≡ Some place → place.running ≡ Some a → PlaceMeets P a

-- the same after what happens
pub record After (P : Request → Type 0) (h : Happened) : Type 0 where
  pub meets : ClusterMeets P h.cluster

-- what has happened so far is a run of the world, and the cluster matches the world that it leads to
pub record Present (cl : Cluster) : Type 0 where
  pub moves : List Move
  pub run : IsRun (setup_at cl.head) opening moves
  pub matches : Matches cl (end_of (setup_at cl.head) opening moves)
  pub two : 2 ≤ cl.head.n
  pub few : cl.head.n ≤ 9

-- it holds of the request of a line that is answered `done` where the line comes, if it has one
abbrev pub LineMeets : (Request → Type 0) → Cluster → Line → Type 0
LineMeets P cl (Line.Request r request) = (event cl (Line.Request r request)).word ≡ Done → P request
LineMeets P cl _ = Unit {0}

-- no request is none
no-request : (P : Request → Type 0) → Meets P []
no-request P request n = absurd n

module _ (P : Request → Type 0) (cl : Cluster) (h : ClusterMeets P cl) where
  after-refused : (word : Word) → After P (refused word cl)
  after-refused word = record { meets = h }

  either-way : (b : Bool) (x y : Happened) → After P x → After P y → After P (if b then x else y)
  either-way true x y a b = a
  either-way false x y a b = b

  stopped-or : (r : ℕ) (place : Place) (b : Bool) (step : Stepped) → After P (happens_by step cl r place) → After P (happens_by (unless_full b step) cl r place)
  stopped-or r place true step k = after-refused Full
  stopped-or r place false step k = k

  -- one replica changes, and more is sent
  place-changes : (r : ℕ) (new : Place) (sent : List Sent) → SentMeet (λ batch. Meets P batch) sent → ((a : Running) → new.running ≡ Some a → PlaceMeets P a)
      → ClusterMeets P (record cl { places = slice_set cl.places r new; sent = sent })
  place-changes r new sent meets fresh =
      record {
        sent = meets;
        places = λ q p a e f. ⊎_elim (λ k. fresh a (subst (λ (x : Place). x.running ≡ Some a) k.1 f)) (λ k. h.places q p a k.1 f) (set-cases cl.places r q new p e);
      }

  -- what runs there is this
  runs-then : (a : Running) → PlaceMeets P a → (b : Running) → Some a ≡ Some b → PlaceMeets P b
  runs-then a k b e = let f : a ≡ b = cc in subst (λ (x : Running). PlaceMeets P x) f k

  after-quietly : (r : ℕ) (place : Place) (a : Running) → PlaceMeets P a → After P (quietly cl r place a)
  after-quietly r place a k = record { meets = place-changes r (with_running a place) cl.sent h.sent (runs-then a k) }

  -- more Proposes are sent
  sends-more : (from : LifeId) (acts : List Act) → ((x : Sent) (m : Propose) → In x (sent_by from acts) → x.message ≡ Message.Propose m → Meets P m.batch)
      → SentMeet (λ batch. Meets P batch) (cl.sent ++ sent_by from acts)
  sends-more from acts new x m n e = ⊎_elim (λ a. h.sent x m a e) (λ a. new x m a e) (In-append x cl.sent (sent_by from acts) n)

  after-done : (r : ℕ) (place : Place) (a : Running) (t : Turned)
      → ((x : Sent) (m : Propose) → In x (sent_by (id_of r t.stage.life) t.acts) → x.message ≡ Message.Propose m → Meets P m.batch) → PlaceMeets P a → After P (done_by cl r place a t)
  after-done r place a t new k =
      record { meets = place-changes r (with_running a place) (cl.sent ++ sent_by (id_of r t.stage.life) t.acts) (sends-more (id_of r t.stage.life) t.acts new) (runs-then a k) }

  -- ---- What each line does at a replica that is up

  module _ (r : ℕ) (place : Place) (a : Running) (there : slice_get cl.places r ≡ Some place) (up : place.running ≡ Some a) where
    ours : PlaceMeets P a
    ours = h.places r place a there up

    fed-more : (fed : Fed) → FedMeets P fed → (x : Fed) → In x (a.requests ++ fed ∷ []) → FedMeets P x
    fed-more fed is x n = In-snoc x fed a.requests n (λ m. ours.requests x m) (λ e. subst (λ (y : Fed). FedMeets P y) (sym e) is)

    item-more : (item : Item) → ItemMeets (λ batch. Meets P batch) item → (x : Item) → In x (a.dispatcher ++ item ∷ []) → ItemMeets (λ batch. Meets P batch) x
    item-more item is x n = In-snoc x item a.dispatcher n (λ m. ours.items x m) (λ e. subst (λ (y : Item). ItemMeets (λ batch. Meets P batch) y) (sym e) is)

    -- a request that is refused is in no lane
    after-request : (request : Request) → ((puts_request (Asked request) cl r place a).word ≡ Done → P request) → After P (puts_request (Asked request) cl r place a)
    after-request request = go (is_full a.requests)
      where
        b : Running
        b = record a { requests = a.requests ++ Asked request ∷ [] }

        go : (full : Bool) → ((if full then refused Full cl else quietly cl r place b).word ≡ Done → P request) → After P (if full then refused Full cl else quietly cl r place b)
        go true is = after-refused Full
        go false is = after-quietly r place b (record { waiting = ours.waiting; items = ours.items; requests = fed-more (Asked request) (is refl); held = ours.held })

    after-item : (item : Item) → ItemMeets (λ batch. Meets P batch) item → After P (puts_item item cl r place a)
    after-item item is =
        either-way (is_full a.dispatcher) _ _ (after-refused Full)
        (after-quietly r place (record a { dispatcher = a.dispatcher ++ item ∷ [] }) (record { waiting = ours.waiting; items = item-more item is; requests = ours.requests; held = ours.held }))

    after-tick : After P (puts_tick cl r place a)
    after-tick =
        either-way (is_full a.requests || is_full a.dispatcher) _ _ (after-refused Full)
        (after-quietly r place (record a { requests = a.requests ++ Fed.Tick ∷ []; dispatcher = a.dispatcher ++ Item.Tick ∷ [] })
        (record { waiting = ours.waiting; items = item-more Item.Tick tt; requests = fed-more Fed.Tick tt; held = ours.held }))

    held-meets : (b : Bool) (fed : Fed) → FedMeets P fed → Meets P (held_after b a.held fed)
    held-meets true (Asked request) is = λ x n. ⊎_elim (λ e. subst P (sym e) is) (λ m. absurd m) n
    held-meets true Fed.Tick is = no-request P
    held-meets false (Asked request) is = λ x n. In-snoc x request a.held n (λ m. ours.held x m) (λ e. subst P (sym e) is)
    held-meets false Fed.Tick is = ours.held

    after-batched : (b : Bool) (fed : Fed) (more : List Fed) → ((x : Fed) → In x (fed ∷ more) → FedMeets P x) → After P (happens_by (batched b fed more a) cl r place)
    after-batched true fed more are =
        stopped-or r place (is_full a.dispatcher) _
        (after-quietly r place (record a { requests = more; held = held_after true a.held fed; dispatcher = a.dispatcher ++ Closed a.held ∷ [] })
        (record { waiting = ours.waiting; items = item-more (Closed a.held) ours.held; requests = λ x n. are x (inr n); held = held-meets true fed (are fed (inl refl)) }))
    after-batched false fed more are =
        after-quietly r place (record a { requests = more; held = held_after false a.held fed })
        (record { waiting = ours.waiting; items = ours.items; requests = λ x n. are x (inr n); held = held-meets false fed (are fed (inl refl)) })

    after-batch : (fed : List Fed) → a.requests ≡ fed → After P (happens_by (on_batch fed a) cl r place)
    after-batch [] e = after-refused Empty
    after-batch (fed ∷ more) e = after-batched (is_closed_by a.held fed) fed more (λ x n. ours.requests x (subst (λ (xs : List Fed). In x xs) (sym e) n))

    after-crash : After P (on_crash cl r place a)
    after-crash = record { meets = place-changes r (record place { running = None }) cl.sent h.sent (λ b e. absurd cc) }

    -- the service shows what it does, and what waits stays
    served-waits : (d : Decision) → (serves d (untouched a.stage)).stage.waiting ≡ a.stage.waiting
    served-waits (Decided i batch) = go (is_due a.stage.life.service i)
      where
        go : (b : Bool) → (when b (shows (Step.Execute a.stage.config.me i (outcomes a.stage.life.service batch)) (Deed.Execute i)) (untouched a.stage)).stage.waiting ≡ a.stage.waiting
        go true = refl
        go false = refl
    served-waits (Installed upto state) = go (nat_lt a.stage.life.service.executed upto)
      where
        go : (b : Bool) → (when b (shows (Step.Restore a.stage.config.me upto) (Deed.Restore upto state)) (untouched a.stage)).stage.waiting ≡ a.stage.waiting
        go true = refl
        go false = refl

    served-sends : (d : Decision) (from : LifeId) → sent_by from (serves d (untouched a.stage)).acts ≡ []
    served-sends (Decided i batch) from = go (is_due a.stage.life.service i)
      where
        go : (b : Bool) → sent_by from (when b (shows (Step.Execute a.stage.config.me i (outcomes a.stage.life.service batch)) (Deed.Execute i)) (untouched a.stage)).acts ≡ []
        go true = refl
        go false = refl
    served-sends (Installed upto state) from = go (nat_lt a.stage.life.service.executed upto)
      where
        go : (b : Bool) → sent_by from (when b (shows (Step.Restore a.stage.config.me upto) (Deed.Restore upto state)) (untouched a.stage)).acts ≡ []
        go true = refl
        go false = refl

    snapped-items : (b : Bool) (s : Stage) (x : Item) → In x (with_snapshot b s a.dispatcher) → ItemMeets (λ batch. Meets P batch) x
    snapped-items true s x n = item-more (snapshot_of s.life.service) tt x n
    snapped-items false s x n = ours.items x n

    after-service : (ds : List Decision) → After P (happens_by (on_service ds a) cl r place)
    after-service [] = after-refused Empty
    after-service (d ∷ more) =
        let snaps = makes_snapshot a.stage.life.service d in
        let t = serves d (untouched a.stage) in
        let from = id_of r t.stage.life in
        stopped-or r place (snaps && is_full a.dispatcher) _
        (after-done r place (record a { stage = t.stage; decisions = more; dispatcher = with_snapshot snaps t.stage a.dispatcher }) t
        (λ x m n e. absurd (subst (λ (xs : List Sent). In x xs) (served-sends d from) n))
        (record { waiting = subst (λ (xs : List Batch). AllMeet (λ batch. Meets P batch) xs) (sym (served-waits d)) ours.waiting; items = snapped-items snaps t.stage; requests = ours.requests; held = ours.held }))

    -- ---- The Protocol stage and the Retransmitter, in the world

    module _ (p : Present cl) (reads : StatesRead) where
      abbrev now : World
      now = end_of (setup_at cl.head) opening p.moves

      mine : IsUp (config_of cl.head r) place.starts now a
      mine = (p.matches.places r place there).up a up

      my_place : Placed (config_of cl.head r)
      my_place = record { me = p.matches.within r place there; more = p.two; reads = reads }

      sent_now : SentMeet (λ batch. Meets P batch) now.sent
      sent_now = subst (λ (xs : List Sent). SentMeet (λ batch. Meets P batch) xs) (sym p.matches.sent) h.sent

      -- what would be adopted after the item
      adopts : (item : Item) → ItemComes now r a.stage.life item → AdoptedMeet (λ batch. Meets P batch) (after_rejoin a.stage item)
      adopts item is i =
          let u = settles_rejoin (on_item item (untouched a.stage)) in
          let c = setup_at cl.head in
          let o = over-rejoined (config_of cl.head r) place.starts now a.stage item my_place mine.sits p.matches.good p.matches.sane is in
          let who : LifeId = record { replica = r; number = place.starts } in
          let ms = moves_of r u.deeds in
          let run : IsRun c opening (p.moves ++ ms) = run-append c opening p.moves ms p.run o.run in
          let ends : end_of c opening (p.moves ++ ms) ≡ o.world = end-append c opening p.moves ms ∙ o.ends in
          let sent : SentMeet (λ batch. Meets P batch) (now.sent ++ F.sent_by who u.acts)
          = λ x m n e. ⊎_elim (λ k. sent_now x m k e)
          (λ k. absurd (none-of who u.acts x m (rejoined-sends a.stage item) (subst (λ (xs : List Sent). In x xs) (sym (sent-same who u.acts)) k) e)) (In-append x now.sent (F.sent_by who u.acts) n) in
          let sent_then : SentMeet (λ batch. Meets P batch) (end_of c opening (p.moves ++ ms)).sent
          = subst (λ (xs : List Sent). SentMeet (λ batch. Meets P batch) xs) (sym (ap (λ (v : World). v.sent) ends ∙ o.sent)) sent in
          let runs : ((end_of c opening (p.moves ++ ms)).replicas r).running ≡ Some u.stage.life
          = ap (λ (v : World). (v.replicas r).running) ends ∙ subst (λ (k : Config). (o.world.replicas k.me).running ≡ Some u.stage.life) o.sits.config o.sits.running in
          subst (λ (k : Config). Meets P (adopted_by k.n (counted_report (setup_of k) k.me u.stage.life) u.stage.life i)) (sym o.sits.config)
          (adopted-in (λ batch. Meets P batch) (no-request P) c p.few p.two (p.moves ++ ms) run sent_then r u.stage.life runs i)

      after-protocol : (items : List Item) → a.dispatcher ≡ items → After P (happens_by (on_protocol items a) cl r place)
      after-protocol [] e = after-refused Empty
      after-protocol (item ∷ more) e =
          let room = lane_limit - length a.decisions in
          let t = turn a.stage item room in
          let from = id_of r t.stage.life in
          let is : ItemMeets (λ batch. Meets P batch) item = ours.items item (subst (λ (xs : List Item). In item xs) (sym e) (inl refl)) in
          let comes : ItemComes now r a.stage.life item = mine.items item (subst (λ (xs : List Item). In item xs) (sym e) (inl refl)) in
          after-done r place (record a { stage = t.stage; dispatcher = more; decisions = a.decisions ++ handed_by t.acts }) t
          (λ x m n f. turn-sends (λ batch. Meets P batch) a.stage item room ours.waiting is (adopts item comes) from x m n f)
          (record {
            waiting = turn-waits (λ batch. Meets P batch) a.stage item room ours.waiting is;
            items = λ x n. ours.items x (subst (λ (xs : List Item). In x xs) (sym e) (inr n));
            requests = ours.requests;
            held = ours.held;
          })

      -- what a slot repeats
      slot-meets : (k : ℕ) (o : Outgoing) → claim a.stage.slots a.cursor ≡ Some (k, o) → (m : Propose) → o.message ≡ Message.Propose m → Meets P m.batch
      slot-meets k o e m f =
          let c = config_of cl.head r in
          let slot = mine.sits.fits.slots k o (claim-live a.stage.slots a.cursor (k, o) e) in
          let runs : (now.replicas r).running ≡ Some a.stage.life = subst (λ (x : Config). (now.replicas x.me).running ≡ Some a.stage.life) mine.sits.config mine.sits.running in
          launched-in (λ batch. Meets P batch) (no-request P) (setup_at cl.head) p.few p.two p.moves p.run sent_now r a.stage.life runs m.view m.instance m.batch
          (subst (λ (x : Message). MayRepeat a.stage.life a.stage.armed_prepare true k x) f slot.1)

      repeated-meets : (found : ℕ × Turned) → retransmit a.stage a.cursor ≡ Some found → (from : LifeId) (x : Sent) (m : Propose) → In x (sent_by from found.1.acts) → x.message ≡ Message.Propose m → Meets P m.batch
      repeated-meets found e from x m n f = go (claim a.stage.slots a.cursor) refl (sym (ap sent_of_found e) ∙ repeats_exactly a.stage a.cursor)
        where
          sent_of_found : Option (ℕ × Turned) → Option (ℕ × List (ℕ × Message))
          sent_of_found o = option_map {U = ℕ × List (ℕ × Message)} (λ y. (y.0, sent_in y.1.acts)) o

          go : (o : Option (ℕ × Outgoing)) → claim a.stage.slots a.cursor ≡ o
              → Some (found.0, sent_in found.1.acts) ≡ option_map {U = ℕ × List (ℕ × Message)} (λ y. (cursor_after y.0, to_each y.1.to y.1.message)) o → Meets P m.batch
          go None g k = absurd cc
          go (Some y) g k =
              let same : sent_in found.1.acts ≡ to_each y.1.to y.1.message = ap (λ (z : Option (ℕ × List (ℕ × Message))). sent_of_some z) k in
              let is : x.message ≡ y.1.message = each-is y.1.to y.1.message (x.to, x.message) (subst (λ (xs : List (ℕ × Message)). In {X = ℕ × Message} (x.to, x.message) xs) same (sent-of from found.1.acts x n)) in
              slot-meets y.0 y.1 g m (sym is ∙ f)
            where
              sent_of_some : Option (ℕ × List (ℕ × Message)) → List (ℕ × Message)
              sent_of_some None = []
              sent_of_some (Some z) = z.1

      after-retransmit : After P (happens_by (retransmit_step a) cl r place)
      after-retransmit = go (retransmit a.stage a.cursor) refl
        where
          go : (f : Option (ℕ × Turned)) → retransmit a.stage a.cursor ≡ f → After P (happens_by (repeated f a) cl r place)
          go None e = after-refused Empty
          go (Some found) e =
              after-done r place (record a { cursor = found.0 }) found.1 (repeated-meets found e (id_of r found.1.stage.life))
              (record { waiting = ours.waiting; items = ours.items; requests = ours.requests; held = ours.held })

  -- ---- Lives, and all lines

  after-opened : (r : ℕ) (place : Place) (number : ℕ) (o : Option Opened) → T.opening (config_of cl.head r) free_slots number place.stable ≡ o → After P (begins_by o cl r place)
  after-opened r place number None e = after-refused Down
  after-opened r place number (Some o) e =
      let t = o.turned in
      let b = begins-opened (config_of cl.head r) free_slots number place.stable o e in
      let from = id_of r t.stage.life in
      record {
        meets = place-changes r (with_running (started t.stage) (record place { starts = suc place.starts })) (cl.sent ++ sent_by from t.acts)
            (sends-more from t.acts (λ x m n f. absurd (none-of from t.acts x m b.sends n f)))
            (runs-then (started t.stage)
            (record {
              waiting = λ batch n. absurd (subst (λ (xs : List Batch). In batch xs) b.waits n);
              items = λ x n. absurd n;
              requests = λ x n. absurd n;
              held = no-request P;
            }));
      }

  pub after-start : (r : ℕ) → After P (start_by (slice_get cl.places r) cl r)
  after-start r = go (slice_get cl.places r)
    where
      inner : (place : Place) (o : Option Running) → After P (if_running o (λ a. refused Up cl) (begins cl r place))
      inner place None = after-opened r place (suc place.starts) (T.opening (config_of cl.head r) free_slots (suc place.starts) place.stable) refl
      inner place (Some a) = after-refused Up

      go : (o : Option Place) → After P (start_by o cl r)
      go None = after-refused Up
      go (Some place) = inner place place.running

  -- what holds of each replica that is up holds where the line is
  after-at : (f : Cluster → ℕ → Place → Running → Happened) (r : ℕ)
      → ((place : Place) (a : Running) → slice_get cl.places r ≡ Some place → place.running ≡ Some a → After P (f cl r place a)) → After P (at_running f cl r)
  after-at f r each = go (slice_get cl.places r) refl
    where
      inner : (place : Place) → slice_get cl.places r ≡ Some place → (o : Option Running) → place.running ≡ o → After P (if_running o (λ a. f cl r place a) (refused Down cl))
      inner place there None e = after-refused Down
      inner place there (Some a) e = each place a there e

      go : (o : Option Place) → slice_get cl.places r ≡ o → After P (up_at o (f cl r) cl)
      go None e = after-refused Down
      go (Some place) e = inner place e place.running refl

  after-delivers : (o : Option Sent) (r : ℕ) → After P (delivers o cl r)
  after-delivers None r = after-refused Unsent
  after-delivers (Some m) r =
      either-way (m.to == r) _ _ (after-at (puts_item (Came m.from m.message)) r (λ place a there up. after-item r place a there up (Came m.from m.message) tt)) (after-refused Unsent)

  after-asked : (r : ℕ) (request : Request) → ((at_running (puts_request (Asked request)) cl r).word ≡ Done → P request) → After P (at_running (puts_request (Asked request)) cl r)
  after-asked r request = go (slice_get cl.places r) refl
    where
      inner : (place : Place) → slice_get cl.places r ≡ Some place → (o : Option Running) → place.running ≡ o
          → ((if_running o (λ a. puts_request (Asked request) cl r place a) (refused Down cl)).word ≡ Done → P request) → After P (if_running o (λ a. puts_request (Asked request) cl r place a) (refused Down cl))
      inner place there None e is = after-refused Down
      inner place there (Some a) e is = after-request r place a there e request is

      go : (o : Option Place) → slice_get cl.places r ≡ o → ((up_at o (puts_request (Asked request) cl r) cl).word ≡ Done → P request) → After P (up_at o (puts_request (Asked request) cl r) cl)
      go None e is = after-refused Down
      go (Some place) e is = inner place e place.running refl is

  pub after-event : Present cl → StatesRead → (line : Line) → LineMeets P cl line → After P (event cl line)
  unfolding event
  after-event p reads (Line.Cluster head) is = after-refused Done
  after-event p reads (Line.Request r request) is = after-asked r request is
  after-event p reads (Line.Batch r) is = after-at (takes_step batch_step) r (λ place a there up. after-batch r place a there up a.requests refl)
  after-event p reads (Line.Tick r) is = after-at puts_tick r (λ place a there up. after-tick r place a there up)
  after-event p reads (Line.Suspect r) is = after-at (puts_item Suspect) r (λ place a there up. after-item r place a there up Suspect tt)
  after-event p reads (Line.Deliver r m) is = after-delivers (slice_get cl.sent m) r
  after-event p reads (Line.Protocol r) is = after-at (takes_step protocol_step) r (λ place a there up. after-protocol r place a there up p reads a.dispatcher refl)
  after-event p reads (Line.Service r) is = after-at (takes_step service_step) r (λ place a there up. after-service r place a there up a.decisions)
  after-event p reads (Line.Retransmit r) is = after-at (takes_step retransmit_step) r (λ place a there up. after-retransmit r place a there up p reads)
  after-event p reads (Line.Crash r) is = after-at on_crash r (λ place a there up. after-crash r place a there up)
  after-event p reads (Line.Start r) is = after-start r
  after-event p reads Line.End is = after-refused Done

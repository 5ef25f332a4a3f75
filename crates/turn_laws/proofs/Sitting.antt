-- A stage sits in a world; a turn that is over; and the turns of a stage.
use Rattle.std.proofs.Common.{◌≡◌, ℕ, zero, suc, ◌≤◌, ◌<◌, Bool, true, false, ◌&&◌, not, List, [], ◌∷◌, ◌++◌, nat_lt, ◌==◌, length, if◌then◌else◌, Option, Some, None, option_map, refl, sym, ap, subst, ◌∙◌, inl, inr, ⊎_elim, append-nil}
use Rattle.jp_types.specs.declared.message.Message.{Message}
use Rattle.jp_types.specs.declared.mode.Phase.{Phase}
use Rattle.jp_types.specs.declared.mode.Phase.TheVariants.{Recovering}
use Rattle.jp_types.specs.declared.mode.Mode.TheVariants.{ViewSs}
use Rattle.kv_service.specs.Service.{State, outcomes}
use Rattle.kv_service.specs.StateReading.{state_in}
use Rattle.paxos_world.specs.declared.step.Step.{Step}
use Rattle.jp_types.specs.Views.{leader, number_limit}
use Rattle.jp_types.specs.Lists.{In}
use Rattle.paxos_world.specs.Setup.{Setup}
use Rattle.paxos_world.specs.Life.{LifeId, Life}
use Rattle.jp_types.specs.Instances.{Batch}
use Rattle.paxos_world.specs.World.{World, Sent, Take, Execute, Restore, CanExecute, CanRestore, MaySay}
use Rattle.paxos_world.specs.Trace.{IsRun, end_of}
use Rattle.paxos_world.specs.Stage.{Config, setup_of, Outgoing, Snapshot, Stage, Item, Came, Closed, Tick, Suspect, Snapped, Decision, Decided, Installed, Show, Hand, Turned}
use Rattle.paxos_world.specs.Writing.{◌▹◌, when, with_stage, acts, does, shows, hands, says_to_all}
use Rattle.paxos_world.specs.Leading.{works, leads, leads_own, is_leading, suspect}
use Rattle.paxos_world.specs.Retransmitting.{claim, cursor_after}
use Rattle.paxos_world.specs.Messages.{on_kind, on_message}
use Rattle.paxos_world.specs.Settling.{settles_rejoin, settles_prepared, settles_waiting, Handing, install_above, handing_of, next_handing, hands_on}
use Rattle.paxos_world.specs.Serving.{serves}
use Rattle.kv_service.specs.Dues.{is_due}
use Rattle.paxos_world.specs.Turn.{quiet_limit, waiting_limit, alive_of, counts_quiet, on_tick_working, on_tick, on_batch, on_item, untouched, turn, moves_of, repeats, retransmit}
use Rattle.paxos_world.proofs.Replies.{same}
use Rattle.turn_laws.proofs.Fitting.{MayRepeat, SnapshotTrue, Fits, Good, ballot_of, shown_by, Frame, who_of, Goes}
use Rattle.jp_types.specs.Limits.{IsBatch}
use Rattle.turn_laws.specs.Limits.{StatesRead}
use Rattle.turn_laws.proofs.Sane.{Sane, SaneRun}
use Rattle.turn_laws.proofs.Going.{keep-when, keep-some, sent_by-append, handed_by-append, shown_by-append, In-snoc, stage_after, turned_to}
use Rattle.turn_laws.proofs.Words.{goes-freely, goes-waiting, goes-plain, goes-says-each, goes-says-all, onward-refl}
use Rattle.turn_laws.proofs.Scanning.{lt-of, and-of}
use Rattle.turn_laws.proofs.Slots.{claim-live}
use Rattle.turn_laws.proofs.Arming.{still}
use Rattle.turn_laws.proofs.Raising.{working-of, goes-suspect}
use Rattle.turn_laws.proofs.Messages as M
use Rattle.turn_laws.proofs.Messages.{taking, goes-take, came-other, goes-on_prepare, goes-on_prepare_ok, goes-on_propose, goes-on_accept, goes-on_recovery, goes-on_recovery_answer, goes-on_alive}
use Rattle.turn_laws.proofs.Catching.{goes-query_where_due, goes-on_query, goes-on_batches, goes-on_part, goes-on_snapshot}
use Rattle.turn_laws.proofs.Settling.{in_phase, goes-settles_rejoin, goes-settles_prepared, goes-launches_waiting}
use Rattle.turn_laws.specs.Nodes.{ItemComes, Onward, sent_by, handed_by, DecisionComes}

-- ---- Sitting

-- the stage of the life with this number sits in a world: its life runs there, the number on its disk is the stable one there, and it fits
pub record Sits (c : Config) (number : ℕ) (w : World) (s : Stage) : Type 0 where
  pub config : s.config ≡ c
  pub number_is : s.life.number ≡ number
  pub running : (w.replicas s.config.me).running ≡ Some s.life
  pub stable : (w.replicas s.config.me).stable ≡ Some s.stable
  pub fresh : s.life.phase ≡ Recovering → s.config.mode ≡ ViewSs → s.stable ≡ s.life.mark
  pub fits : Fits (setup_of s.config) w s.config.me true s
  pub cast : (i : ℕ) (vote : ℕ × Batch) → s.life.votes i ≡ Some vote → In (ballot_of s.config.me s.life i vote) w.votes
  pub served : In s.life.service s.life.states

-- the constants are those of a replica among at least two
pub record Placed (c : Config) : Type 0 where
  pub me : c.me < c.n
  pub more : 2 ≤ c.n
  pub reads : StatesRead

-- a lawful turn that is over: its steps of the world are a run from `from` to a world in which its stage sits, and the world's new messages are those of its acts
pub record Over (c : Config) (number : ℕ) (from : World) (life : Life) (t : Turned) : Type 0 where
  pub world : World
  pub sits : Sits c number world t.stage
  pub good : Good (setup_of c) world
  pub sane : Sane world
  pub along : SaneRun (setup_of c) from (moves_of c.me t.deeds)
  pub run : IsRun (setup_of c) from (moves_of c.me t.deeds)
  pub ends : end_of (setup_of c) from (moves_of c.me t.deeds) ≡ world
  pub sent : world.sent ≡ from.sent ++ sent_by (record { replica = c.me; number = number }) t.acts
  pub handed : (d : Decision) → In d (handed_by t.acts) → DecisionComes t.stage.life d
  pub onward : Onward life t.stage.life

-- the frame in which a turn begins
abbrev pub frame_of : World → Stage → Frame
frame_of w s =
    record { world = w; life = s.life; sent = w.sent; config = s.config; number = s.life.number; taken = s.life.taken; phase = s.life.phase; clean = true; ahead = None }

unfoldable pub goes-untouched : (c : Config) (number : ℕ) (w : World) (s : Stage) → Placed c → Sits c number w s → Good (setup_of c) w → Sane w → Goes (frame_of w s) [] (untouched s)
goes-untouched c number w s place h good sane =
    record {
      config = refl;
      number = refl;
      taken = refl;
      phase = refl;
      me = subst (λ (k : Config). k.me < k.n) (sym h.config) place.me;
      more = subst (λ (k : Config). 2 ≤ k.n) (sym h.config) place.more;
      world = w;
      run = tt;
      ends = refl;
      good = subst (λ (k : Config). Good (setup_of k) w) (sym h.config) good;
      running = h.running;
      stable = h.stable;
      fresh = λ a. h.fresh;
      fits = h.fits;
      cast = h.cast;
      served = h.served;
      reads = place.reads;
      sane = sane;
      along = sane;
      sent = sym (append-nil (w.sent ++ []) ∙ append-nil w.sent);
      handed = (refl, refl);
      onward = onward-refl s.life;
    }

-- a turn that is lawful so far and ends is over
pub over-of : (c : Config) (number : ℕ) (w : World) (s : Stage) (f : Frame) (p : Phase) (t : Turned) → s.config ≡ c → s.life.number ≡ number → f.world ≡ w → f.life ≡ s.life → f.sent ≡ w.sent → f.config ≡ s.config → f.number ≡ s.life.number
    → Goes (in_phase f p) [] t → Over c number w s.life t
over-of c number w s f p t config num world life sent same_config same_number h =
    record {
      world = h.world;
      sits = record {
        config = here;
        number_is = h.number ∙ same_number ∙ num;
        running = h.running;
        stable = h.stable;
        fresh = λ a. h.fresh refl (sym h.phase ∙ a);
        fits = h.fits;
        cast = h.cast;
        served = h.served;
      };
      good = subst (λ (k : Config). Good (setup_of k) h.world) here h.good;
      sane = h.sane;
      along = subst (λ (k : Config). SaneRun (setup_of k) w (moves_of k.me t.deeds)) here (subst (λ (x : World). SaneRun (setup_of t.stage.config) x (moves_of t.stage.config.me t.deeds)) world h.along);
      run = subst (λ (k : Config). IsRun (setup_of k) w (moves_of k.me t.deeds)) here (subst (λ (x : World). IsRun (setup_of t.stage.config) x (moves_of t.stage.config.me t.deeds)) world h.run);
      ends = subst (λ (k : Config). end_of (setup_of k) w (moves_of k.me t.deeds) ≡ h.world) here (subst (λ (x : World). end_of (setup_of t.stage.config) x (moves_of t.stage.config.me t.deeds) ≡ h.world) world h.ends);
      sent = h.sent ∙ append-nil _ ∙ ap (λ (xs : List Sent). xs ++ sent_by (who_of f) t.acts) sent ∙ ap (λ (i : LifeId). w.sent ++ sent_by i t.acts) who;
      handed = λ d n. absurd (subst (λ (xs : List Decision). In d xs) h.handed.0 n);
      onward = subst (λ (l : Life). Onward l t.stage.life) life h.onward;
    }
  where
    here : t.stage.config ≡ c
    here = h.config ∙ same_config ∙ config

    who : who_of f ≡ record { replica = c.me; number = number }
    who = ap (λ (k : Config). record { replica = k.me; number = f.number }) (same_config ∙ config) ∙ ap (λ (n : ℕ). record { replica = c.me; number = n }) (same_number ∙ num)

-- ---- Handing on

-- the next decision that is handed on is what the life knows or installed
handing-true : (s : Stage) (handing : Handing) → ((n : Snapshot) → s.newest ≡ Some n → SnapshotTrue s.life n) → next_handing s ≡ Some handing → DecisionComes s.life handing.0
handing-true s handing newest e = go (install_above s.newest s.handed) refl e
  where
    above : (o : Option Snapshot) (n : Snapshot) → install_above o s.handed ≡ Some n → (o ≡ Some n) × (n.installed ≡ true)
    above None n g = absurd cc
    above (Some m) n g = inner (m.installed && nat_lt s.handed m.place) refl g
      where
        inner : (b : Bool) → (m.installed && nat_lt s.handed m.place) ≡ b → (if b then Some m else None) ≡ Some n → (Some m ≡ Some n) × (n.installed ≡ true)
        inner true f g = let k : m ≡ n = cc in (g, subst (λ (x : Snapshot). x.installed ≡ true) k (and-of m.installed (nat_lt s.handed m.place) f).0)
        inner false f g = absurd cc

    installed : (n : Snapshot) (o : Option State) → state_in n.bytes ≡ o → SnapshotTrue s.life n → n.installed ≡ true → option_map (λ state. (Installed n.place state, n.place)) o ≡ Some handing → DecisionComes s.life handing.0
    installed n None f h i g = absurd cc
    installed n (Some state) f h i g =
        let k = h.4 i in
        let same_state : h.0 ≡ state = let x = k.1 in cc in
        let d : (Installed n.place state, n.place) ≡ handing = cc in
        subst (λ (x : Handing). DecisionComes s.life x.0) d (subst (λ (x : State). In x s.life.installed × (x.executed ≡ n.place)) same_state (k.0, h.2))

    decided : (o : Option Batch) → s.life.known s.handed ≡ o → option_map (λ batch. (Decided s.handed batch, suc s.handed)) o ≡ Some handing → DecisionComes s.life handing.0
    decided None f g = absurd cc
    decided (Some batch) f g = let d : (Decided s.handed batch, suc s.handed) ≡ handing = cc in subst (λ (x : Handing). DecisionComes s.life x.0) d f

    go : (o : Option Snapshot) → install_above s.newest s.handed ≡ o → handing_of o s ≡ Some handing → DecisionComes s.life handing.0
    go None f g = decided (s.life.known s.handed) refl g
    go (Some n) f g = let a = above s.newest n f in installed n (state_in n.bytes) refl (newest n a.0) a.1 g

over-hands : (c : Config) (number : ℕ) (w : World) (life : Life) (t : Turned) (k : ℕ) (d : Decision) → Over c number w life t → DecisionComes t.stage.life d
    → Over c number w life (t ▹ with_stage (λ s. record s { handed = k }) ▹ hands d)
over-hands c number w life t k d h is =
    record {
      world = h.world;
      sits = record { config = h.sits.config; number_is = h.sits.number_is; running = h.sits.running; stable = h.sits.stable; fresh = h.sits.fresh; fits = fits; cast = h.sits.cast; served = h.sits.served };
      good = h.good;
      sane = h.sane;
      along = h.along;
      run = h.run;
      ends = h.ends;
      sent = h.sent ∙ sym (ap (λ (xs : List Sent). w.sent ++ xs) (sent_by-append who t.acts (Hand d ∷ []) ∙ append-nil _));
      handed = λ x n. In-snoc x d (handed_by t.acts) (subst (λ (xs : List Decision). In x xs) (handed_by-append t.acts (Hand d ∷ [])) n) (λ m. h.handed x m) (λ e. subst (λ (y : Decision). DecisionComes t.stage.life y) (sym e) is);
      onward = h.onward;
    }
  where
    who : LifeId
    who = record { replica = c.me; number = number }

    fits : Fits (setup_of t.stage.config) h.world t.stage.config.me true (record t.stage { handed = k })
    fits = let g = h.sits.fits in assumption g

hands-shown : (t : Turned) (k : ℕ) (d : Decision) → shown_by t.acts ≡ [] → shown_by (t ▹ with_stage (λ s. record s { handed = k }) ▹ hands d).acts ≡ []
hands-shown t k d e = shown_by-append t.acts (Hand d ∷ []) ∙ append-nil _ ∙ e

over-hands_on : (c : Config) (number : ℕ) (w : World) (life : Life) (room : ℕ) (t : Turned) → Over c number w life t × (shown_by t.acts ≡ []) → Over c number w life (hands_on room t) × (shown_by (hands_on room t).acts ≡ [])
over-hands_on c number w life zero t h = h
over-hands_on c number w life (suc room) t h =
    keep-some (λ x. Over c number w life x × (shown_by x.acts ≡ [])) (next_handing t.stage) (λ handing t. hands_on room (t ▹ with_stage (λ s. record s { handed = handing.1 }) ▹ hands handing.0)) t
    (λ handing e. over-hands_on c number w life room (t ▹ with_stage (λ s. record s { handed = handing.1 }) ▹ hands handing.0)
    (over-hands c number w life t handing.1 handing.0 h.0 (handing-true t.stage handing h.0.sits.fits.newest e), hands-shown t handing.1 handing.0 h.1)) (λ e. h)

-- ---- The turn

goes-on_kind : (f : Frame) (t : Turned) (p : ℕ) (m : Message) → Goes (still f) [] t → M.Came f p m → Goes (still f) [] (on_kind p m t)
goes-on_kind f t p (Message.Prepare m) h came = goes-on_prepare f t p m h came
goes-on_kind f t p (Message.PrepareOk m) h came = goes-on_prepare_ok f t m h
goes-on_kind f t p (Message.Propose m) h came = goes-on_propose f t p m h came
goes-on_kind f t p (Message.Accept m) h came = goes-on_accept f t p m.view m.instance h came
goes-on_kind f t p (Message.Recovery m) h came = goes-on_recovery f t p m.mark h came
goes-on_kind f t p (Message.RecoveryAnswer m) h came = goes-on_recovery_answer f t m h
goes-on_kind f t p (Message.CatchUpQuery m) h came = goes-on_query f t p m.first h (came-other (still f) [] t p (Message.CatchUpQuery m) h came)
goes-on_kind f t p (Message.CatchUpReply m) h came = goes-on_batches f t p m.first m.batches h came
goes-on_kind f t p (Message.SnapshotPart m) h came = goes-on_part f t p m h came
goes-on_kind f t p (Message.Alive m) h came = goes-on_alive f t p m h came

goes-on_message : (f : Frame) (t : Turned) (from : LifeId) (m : Message) → (h : Goes (still f) [] t) → In (record { from = from; to = t.stage.config.me; message = m }) h.world.sent
    → Goes (still (taking f t.stage.life from m)) [] (on_message from m t)
goes-on_message f t from m h sent =
    let a = goes-take f t from m h sent in
    let g = taking f t.stage.life from m in
    let u = does (Take from m) t in
    let b = leads u.stage from.replica u.stage.life.view in
    let quiet : Goes (still g) [] (when b (with_stage (λ s. record s { quiet = 0 })) u)
    = keep-when (Goes (still g) []) b (with_stage (λ s. record s { quiet = 0 })) u (λ e. goes-freely (still g) [] u (record u.stage { quiet = 0 }) a.0) (λ e. a.0) in
    goes-on_kind g (when b (with_stage (λ s. record s { quiet = 0 })) u) from.replica m quiet a.1

goes-counts_quiet : (f : Frame) (t : Turned) → Goes (still f) [] t → Goes (still f) [] (counts_quiet t)
goes-counts_quiet f t h =
    let k = suc t.stage.quiet in
    let u = with_stage (λ s. record s { quiet = k }) t in
    let a = goes-freely (still f) [] t (record t.stage { quiet = k }) h in
    keep-when (Goes (still f) []) (k == quiet_limit) suspect u (λ e. goes-suspect f u a) (λ e. a)

goes-on_tick_working : (f : Frame) (t : Turned) → Goes (still f) [] t → works t.stage ≡ true → Goes (still f) [] (on_tick_working t)
goes-on_tick_working f t h w =
    let s = t.stage in
    let m = alive_of s in
    let u = when (leads_own s) (says_to_all m) t in
    let a : Goes (still f) [] u
    = keep-when (Goes (still f) []) (leads_own s) (says_to_all m) t (λ e. (goes-says-all (still f) m t h (working-of s.life.phase w, refl, same (leader s.config.n s.life.view) s.config.me e)).0) (λ e. h) in
    keep-when (Goes (still f) []) (not (leads_own s) && nat_lt s.quiet quiet_limit) counts_quiet u (λ e. goes-counts_quiet f u a) (λ e. a)

goes-on_tick : (f : Frame) (t : Turned) → Goes (still f) [] t → Goes (still f) [] (on_tick t)
goes-on_tick f t h =
    let u = when (works t.stage) on_tick_working t in
    goes-query_where_due f u (keep-when (Goes (still f) []) (works t.stage) on_tick_working t (λ e. goes-on_tick_working f t h e) (λ e. h))

goes-on_batch : (f : Frame) (t : Turned) (batch : Batch) → Goes (still f) [] t → IsBatch batch → Goes (still f) [] (on_batch batch t)
goes-on_batch f t batch h is =
    let s = t.stage in
    keep-when (Goes (still f) []) (works s && is_leading s.life.leading && nat_lt (length s.waiting) waiting_limit) (with_stage (λ s. record s { waiting = s.waiting ++ batch ∷ [] })) t
    (λ e. goes-waiting (still f) [] t (s.waiting ++ batch ∷ []) h (λ b n. In-snoc b batch s.waiting n (h.fits.waiting b) (λ g. subst (λ (x : Batch). IsBatch x) (sym g) is))) (λ e. h)

-- a turn is lawful so far, whatever its life has taken
abbrev pub GoesFrom : Frame → Turned → Type 0
GoesFrom f t = (taken : _) × Goes (still (turned_to f taken f.phase true None)) [] t

pub goes-on_item : (f : Frame) (t : Turned) (item : Item) → (h : Goes (still f) [] t) → ItemComes h.world t.stage.config.me t.stage.life item → GoesFrom f (on_item item t)
goes-on_item f t (Came from m) h is = (_, goes-on_message f t from m h is)
goes-on_item f t (Closed batch) h is = (f.taken, goes-on_batch f t batch h is)
goes-on_item f t Tick h is = (f.taken, goes-on_tick f t h)
goes-on_item f t Suspect h is = (f.taken, goes-suspect f t h)
goes-on_item f t (Snapped upto bytes) h is = (f.taken, goes-on_snapshot f t upto bytes h is)

-- a turn of a stage that sits is a run of the world, and its stage sits afterwards
pub over-turn : (c : Config) (number : ℕ) (w : World) (s : Stage) (item : Item) (room : ℕ) → Placed c → Sits c number w s → Good (setup_of c) w → Sane w → ItemComes w c.me s.life item
    → Over c number w s.life (turn s item room) × (shown_by (turn s item room).acts ≡ [])
unfolding turn goes-untouched
over-turn c number w s item room place h good sane is =
    let f = frame_of w s in
    let a = goes-untouched c number w s place h good sane in
    let b = goes-on_item f (untouched s) item a (subst (λ (k : Config). ItemComes w k.me s.life item) (sym h.config) is) in
    let t = on_item item (untouched s) in
    let g = turned_to f b.0 f.phase true None in
    let d = goes-settles_rejoin g t b.1 in
    let u = settles_rejoin t in
    let k = in_phase g d.0 in
    let e = goes-settles_prepared k u d.1 in
    let v = settles_prepared u in
    let x = goes-launches_waiting k v.stage.waiting v e e.fits.waiting in
    over-hands_on c number w s.life room (settles_waiting v) (over-of c number w s k d.0 (settles_waiting v) h.config h.number_is refl refl refl refl refl x, x.handed.1)

-- ---- The service

-- a step that is shown
over-show : (c : Config) (number : ℕ) (w : World) (life : Life) (t : Turned) (step : Step) → Over c number w life t → Over c number w life (acts (Show step) t)
over-show c number w life t step h =
    let who : LifeId = record { replica = c.me; number = number } in
    record {
      world = h.world;
      sits = h.sits;
      good = h.good;
      sane = h.sane;
      along = h.along;
      run = h.run;
      ends = h.ends;
      sent = h.sent ∙ sym (ap (λ (xs : List Sent). w.sent ++ xs) (sent_by-append who t.acts (Show step ∷ []) ∙ append-nil _));
      handed = λ x n. h.handed x (subst (λ (xs : List Decision). In x xs) (handed_by-append t.acts (Show step ∷ []) ∙ append-nil _) n);
      onward = h.onward;
    }

goes-executes : (f : Frame) (t : Turned) (i : ℕ) (batch : Batch) (h : Goes (still f) [] t) → i ≡ t.stage.life.service.executed → t.stage.life.known i ≡ Some batch → t.stage.life.service.executed < number_limit
    → Goes (still f) [] (does (Execute i) t)
goes-executes f t i batch h place known low =
    let s = t.stage in
    let can : CanExecute s.life i = record { place = place; batch = batch; known = known } in
    let newest : (n : Snapshot) → s.newest ≡ Some n → SnapshotTrue (stage_after s (Execute i)).life n
    = λ n e. let a = h.fits.newest n e in (a.0, ⊎_elim (λ b. inl (inr b)) (λ b. inr b) a.1, a.2, a.3, a.4) in
    let g = h.fits in
    let fits : Fits (setup_of s.config) h.world s.config.me true (stage_after s (Execute i)) = assumption (newest, g) in
    goes-plain (still f) [] t (Execute i) h tt tt low can fits

goes-restores : (f : Frame) (t : Turned) (upto : ℕ) (state : State) (h : Goes (still f) [] t) → state.executed ≡ upto → t.stage.life.service.executed < upto → In state t.stage.life.installed
    → Goes (still f) [] (does (Restore upto state) t)
goes-restores f t upto state h place above installed =
    let s = t.stage in
    let can : CanRestore s.life upto state = record { place = place; above = above; installed = installed } in
    let newest : (n : Snapshot) → s.newest ≡ Some n → SnapshotTrue (stage_after s (Restore upto state)).life n
    = λ n e. let a = h.fits.newest n e in (a.0, ⊎_elim (λ b. inl (inr b)) (λ b. inr b) a.1, a.2, a.3, a.4) in
    let g = h.fits in
    let fits : Fits (setup_of s.config) h.world s.config.me true (stage_after s (Restore upto state)) = assumption (newest, g) in
    goes-plain (still f) [] t (Restore upto state) h tt tt tt can fits

pub over-serves : (c : Config) (number : ℕ) (w : World) (s : Stage) (d : Decision) → Placed c → Sits c number w s → Good (setup_of c) w → Sane w → DecisionComes s.life d → Over c number w s.life (serves d (untouched s))
over-serves c number w s d place h good sane is = go d is
  where
    f : Frame
    f = frame_of w s

    t : Turned
    t = untouched s

    a : Goes (frame_of w s) [] (untouched s)
    a = goes-untouched c number w s place h good sane

    ended : (u : Turned) → Goes (in_phase (frame_of w s) s.life.phase) [] u → Over c number w s.life u
    ended u g = over-of c number w s (frame_of w s) s.life.phase u h.config h.number_is refl refl refl refl refl g

    go : (d : Decision) → DecisionComes s.life d → Over c number w s.life (serves d (untouched s))
    go (Decided i batch) is =
        let step = Step.Execute s.config.me i (outcomes s.life.service batch) in
        keep-when (Over c number w s.life) (is_due s.life.service i) (shows step (Execute i)) (untouched s)
        (λ e. let b = and-of (i == s.life.service.executed) (nat_lt i number_limit) e in
        let p = same i s.life.service.executed b.0 in
        let q = lt-of i number_limit b.1 in
        over-show c number w s.life (does (Execute i) (untouched s)) step (ended (does (Execute i) (untouched s)) (goes-executes (frame_of w s) (untouched s) i batch a p is (subst (λ k. k < number_limit) p q)))) (λ e. ended (untouched s) a)
    go (Installed upto state) is =
        let step = Step.Restore s.config.me upto in
        keep-when (Over c number w s.life) (nat_lt s.life.service.executed upto) (shows step (Restore upto state)) (untouched s)
        (λ e. over-show c number w s.life (does (Restore upto state) (untouched s)) step
        (ended (does (Restore upto state) (untouched s)) (goes-restores (frame_of w s) (untouched s) upto state a is.1 (lt-of s.life.service.executed upto e) is.0))) (λ e. ended (untouched s) a)

-- ---- Retransmitting

repeat-said : (c : Setup) (r : ℕ) (l : Life) (armed : _) (k : ℕ) (m : Message) → MayRepeat l armed true k m → MaySay c r l m
repeat-said c r l armed k (Message.Prepare m) h = h.1 refl
repeat-said c r l armed k (Message.Recovery m) h = h
repeat-said c r l armed k (Message.Propose m) h = h
repeat-said c r l armed k (Message.CatchUpQuery m) h = tt
repeat-said c r l armed k (Message.PrepareOk m) h = absurd h
repeat-said c r l armed k (Message.Accept m) h = absurd h
repeat-said c r l armed k (Message.RecoveryAnswer m) h = absurd h
repeat-said c r l armed k (Message.CatchUpReply m) h = absurd h
repeat-said c r l armed k (Message.SnapshotPart m) h = absurd h
repeat-said c r l armed k (Message.Alive m) h = absurd h

pub over-retransmit : (c : Config) (number : ℕ) (w : World) (s : Stage) (cursor : ℕ) (found : ℕ × Turned) → Placed c → Sits c number w s → Good (setup_of c) w → Sane w → retransmit s cursor ≡ Some found → Over c number w s.life found.1 × (found.1.stage ≡ s) × (shown_by found.1.acts ≡ [])
unfolding retransmit
over-retransmit c number w s cursor found place h good sane e = go (claim s.slots cursor) refl e
  where
    go : (o : Option (ℕ × Outgoing)) → claim s.slots cursor ≡ o → option_map (λ x. (cursor_after x.0, untouched s ▹ repeats x.1)) o ≡ Some found → Over c number w s.life found.1 × (found.1.stage ≡ s) × (shown_by found.1.acts ≡ [])
    go None f g = absurd cc
    go (Some x) f g =
        let slot = h.fits.slots x.0 x.1 (claim-live s.slots cursor x f) in
        let fr = frame_of w s in
        let a = goes-untouched c number w s place h good sane in
        let b = (goes-says-each (still fr) x.1.to x.1.message (untouched s) a slot.0 (repeat-said (setup_of s.config) s.config.me s.life s.armed_prepare x.0 x.1.message slot.1)) in
        let over = over-of c number w s fr s.life.phase (untouched s ▹ repeats x.1) h.config h.number_is refl refl refl refl refl b.0 in
        let k : (cursor_after x.0, untouched s ▹ repeats x.1) ≡ found = cc in
        subst (λ (y : ℕ × Turned). Over c number w s.life y.1 × (y.1.stage ≡ s) × (shown_by y.1.acts ≡ [])) k (over, b.1, b.0.handed.1)

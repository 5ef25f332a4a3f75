-- What holds before a turn, and is kept by each word of the writer, holds after it. So the life after a turn is the life before it after the turn's steps of the world, and the turn shows these steps.
use Rattle.std.proofs.Common.{◌≡◌, ℕ, zero, suc, max, Bool, true, false, not, ◌&&◌, nat_lt, is_some, ◌==◌, ◌-◌, List, [], ◌∷◌, ◌++◌, Option, Some, None, refl, sym, ap, subst, ◌∙◌, append-nil, append_assoc}
use Rattle.jp_types.specs.declared.message.Message.{Message}
use Rattle.jp_types.specs.declared.message.Prepare.{Prepare}
use Rattle.jp_types.specs.declared.message.PrepareOk.{PrepareOk}
use Rattle.jp_types.specs.declared.message.Propose.{Propose}
use Rattle.jp_types.specs.declared.message.RecoveryAnswer.{RecoveryAnswer}
use Rattle.jp_types.specs.declared.message.SnapshotPart.{SnapshotPart}
use Rattle.jp_types.specs.declared.message.Alive.{Alive}
use Rattle.std.specs.Option.{option_map}
use Rattle.kv_service.specs.Service.{State, outcomes}
use Rattle.kv_service.specs.StateReading.{state_in}
use Rattle.paxos_world.specs.declared.step.Step.{Step}
use Rattle.paxos_world.specs.Life.{LifeId, Lead, Leading, No, Preparing, Leads, Life, next_of}
use Rattle.jp_types.specs.Instances.{Batch}
use Rattle.paxos_world.specs.World.{Replica, World, Deed, Move, of_running, life_after, replica_after, sends as sends_in, after}
use Rattle.paxos_world.specs.World as W
use Rattle.paxos_world.specs.Setup.{Setup}
use Rattle.paxos_world.specs.Trace.{end_of}
use Rattle.paxos_world.proofs.Basics.{with_at-same}
use Rattle.paxos_world.proofs.Sound.{act-is}
use Rattle.paxos_world.specs.Stage.{Config, setup_of, Stage, Item, Came, Closed, Tick, Suspect, Snapped, Decision, Decided, Installed, Act, Show, Send, Hand, Save, Outgoing, Slot, Turned}
use Rattle.kv_service.specs.Parts.{Joiner}
use Rattle.paxos_world.specs.Writing.{◌▹◌, when, when_some, for_each, for_range, with_stage, acts, does, shows, sends, says, saves, hands, others, sends_to_all, says_to_all}
use Rattle.paxos_world.specs.Shown.{outcomes_with, shown_of_deed, shown_along, sends_along, shown_in}
use Rattle.paxos_world.specs.Serving.{serves}
use Rattle.kv_service.specs.Dues.{is_due}
use Rattle.paxos_world.specs.Retransmitting.{cursor_after, claim, arms_recovery, arms_prepare, arms_query, arms_propose, cancels_prepare, cancels_recovery, cancels_query, cancels_propose, cancels_proposes}
use Rattle.paxos_world.specs.Logs.{is_known, first_undecided, report_from}
use Rattle.paxos_world.specs.Leading.{works, leads, leads_own, is_view_ss, prepare_of, begin_from, begin_phase_1, drop_waiting, raise_to, raise_up_to, suspect}
use Rattle.paxos_world.specs.Learning.{horizon_to, notes, learns, learn_check, votes_for, propose_of, launches}
use Rattle.paxos_world.specs.CatchingUp.{query_of, replied_batches, parts_of, queries_peer, query_where_due, on_query, learns_each, on_batches, keeps_joiner, installs, installs_if, has_part, puts_part, on_part, on_snapshot}
use Rattle.jp_types.specs.Instances.{peer}
use Rattle.kv_service.specs.Parts.{is_joined, joined_bytes, takes_part, with_part}
use Rattle.paxos_world.specs.Messages.{vector_of, promises, promises_if, on_prepare, on_prepare_ok, votes_on, votes_if, on_propose, on_accept, answers, on_recovery, on_recovery_answer, on_alive, on_kind, on_message}
use Rattle.paxos_world.specs.Settling.{adoption_end, open_place, next_handing, rejoins, settles_rejoin, adopts, adopts_where, becomes_prepared, settles_leading, launches_waiting, hands_on, settles}
use Rattle.paxos_world.specs.Turn.{quiet_limit, alive_of, counts_quiet, on_tick_working, on_item, untouched, turn, begun, moves_of, repeats, retransmit}

-- two turns with the same life, constants, acts and steps of the world
pub record SameLife (t u : Turned) : Type 0 where
  pub life : u.stage.life ≡ t.stage.life
  pub config : u.stage.config ≡ t.stage.config
  pub acts : u.acts ≡ t.acts
  pub deeds : u.deeds ≡ t.deeds

-- by_shows: a step of the world that the text shows. by_silent: one that it does not show. by_act: an act that shows none. by_stage: a change of the stage that leaves the life
module _ (P : Turned → Type 0) (me : ℕ) (mine : (t : Turned) → P t → t.stage.config.me ≡ me)
    (by_shows : (step : Step) (d : Deed) (t : Turned) → ((l : Life) → shown_of_deed me l d ≡ step ∷ []) → P t → P (shows step d t))
    (by_silent : (d : Deed) (t : Turned) → ((l : Life) → shown_of_deed me l d ≡ []) → P t → P (does d t)) (by_act : (a : Act) (t : Turned) → shown_in (a ∷ []) ≡ [] → P t → P (acts a t))
    (by_stage : (t u : Turned) → SameLife t u → P t → P u) where
  -- a word keeps what holds
  abbrev Keeps : (Turned → Turned) → Type 0
  Keeps f = (t : Turned) → P t → P (f t)

  k-when : (b : Bool) (f : Turned → Turned) → Keeps f → Keeps (when b f)
  k-when true f k t h = k t h
  k-when false f k t h = h

  k-some : {A : Type 0} (o : Option A) (f : A → Turned → Turned) → ((x : A) → Keeps (f x)) → Keeps (when_some o f)
  k-some None f k t h = h
  k-some (Some x) f k t h = k x t h

  k-each : {A : Type 0} (xs : List A) (f : A → Turned → Turned) → ((x : A) → Keeps (f x)) → Keeps (for_each xs f)
  k-each [] f k t h = h
  k-each (x ∷ xs) f k t h = k-each xs f k (f x t) (k x t h)

  k-range : (n a : ℕ) (f : ℕ → Turned → Turned) → ((x : ℕ) → Keeps (f x)) → Keeps (for_range n a f)
  k-range zero a f k t h = h
  k-range (suc n) a f k t h = k-range n (suc a) f k (f a t) (k a t h)

  k-sends : (to : ℕ) (m : Message) → Keeps (sends to m)
  k-sends to m t h = by_act _ _ refl h

  k-says : (to : ℕ) (m : Message) → Keeps (says to m)
  k-says to m t h = by_act _ _ refl (by_silent (Deed.Say to m) t (λ l. refl) h)

  k-saves : (n : ℕ) → Keeps (saves n)
  k-saves n t h = by_act _ _ refl (by_stage t _ (record { life = refl; config = refl; acts = refl; deeds = refl }) h)

  k-hands : (d : Decision) → Keeps (hands d)
  k-hands d t h = by_act _ _ refl h

  k-sends_to_all : (m : Message) → Keeps (sends_to_all m)
  k-sends_to_all m t h = k-each (others t.stage.config) _ (λ q. k-sends q m) t h

  k-says_to_all : (m : Message) → Keeps (says_to_all m)
  k-says_to_all m t h = k-each (others t.stage.config) _ (λ q. k-says q m) t h

  -- ---- The retransmitter

  k-arms_prepare : (m : Message) → Keeps (arms_prepare m)
  k-arms_prepare m t h = by_stage t _ (record { life = refl; config = refl; acts = refl; deeds = refl }) h

  k-arms_query : (m : Message) (to : ℕ) → Keeps (arms_query m to)
  k-arms_query m to t h = by_stage t _ (record { life = refl; config = refl; acts = refl; deeds = refl }) h

  k-arms_propose : (i : ℕ) (m : Message) → Keeps (arms_propose i m)
  k-arms_propose i m t h = by_stage t _ (record { life = refl; config = refl; acts = refl; deeds = refl }) h

  k-cancels_prepare : Keeps cancels_prepare
  k-cancels_prepare t h = by_stage t _ (record { life = refl; config = refl; acts = refl; deeds = refl }) h

  k-cancels_recovery : Keeps cancels_recovery
  k-cancels_recovery t h = by_stage t _ (record { life = refl; config = refl; acts = refl; deeds = refl }) h

  k-cancels_query : Keeps cancels_query
  k-cancels_query t h = by_stage t _ (record { life = refl; config = refl; acts = refl; deeds = refl }) h

  k-cancels_propose : (i : ℕ) → Keeps (cancels_propose i)
  k-cancels_propose i t h = by_stage t _ (record { life = refl; config = refl; acts = refl; deeds = refl }) h

  k-cancels_proposes : Keeps cancels_proposes
  k-cancels_proposes t h = by_stage t _ (record { life = refl; config = refl; acts = refl; deeds = refl }) h

  -- ---- Leading

  k-begin_from : (first : ℕ) → Keeps (begin_from first)
  k-begin_from first t h =
      let m = prepare_of t.stage first in
      k-arms_prepare m _ (k-says_to_all m _ (by_shows (Step.Promise t.stage.config.me t.stage.life.view) (Deed.Open t.stage.life.view first) t (λ l. ap (λ (k : ℕ). Step.Promise k t.stage.life.view ∷ []) (sym (mine t h))) h))

  k-begin : Keeps begin_phase_1
  k-begin t h = k-begin_from _ t h

  k-drop_waiting : Keeps drop_waiting
  k-drop_waiting t h = by_stage t _ (record { life = refl; config = refl; acts = refl; deeds = refl }) h

  k-quiet : (k : ℕ) → Keeps (with_stage (λ s. record s { quiet = k }))
  k-quiet k t h = by_stage t _ (record { life = refl; config = refl; acts = refl; deeds = refl }) h

  k-raise_to : (view : ℕ) → Keeps (raise_to view)
  k-raise_to view t h =
      let s = t.stage in
      let leads_it = leads s s.config.me view in
      k-when (not leads_it) drop_waiting k-drop_waiting _
      (k-when leads_it begin_phase_1 k-begin _
      (k-quiet 0 _ (k-cancels_proposes _ (k-cancels_prepare _
      (by_shows (Step.Enter s.config.me view) (Deed.Enter view) _ (λ l. ap (λ (k : ℕ). Step.Enter k view ∷ []) (sym (mine t h)))
      (k-when (is_view_ss s.config.mode && nat_lt s.stable view) (saves view) (k-saves view) t h))))))

  k-raise_up_to : (view : ℕ) → Keeps (raise_up_to view)
  k-raise_up_to view t h = k-when _ _ (k-raise_to view) t h

  k-suspect : Keeps suspect
  k-suspect t h = k-when _ _ (k-some _ _ k-raise_to) t h

  -- ---- Learning

  k-horizon_to : (i : ℕ) → Keeps (horizon_to i)
  k-horizon_to i t h = by_stage t _ (record { life = refl; config = refl; acts = refl; deeds = refl }) h

  k-notes : (i view p : ℕ) (batch : Option Batch) → Keeps (notes i view p batch)
  k-notes i view p batch t h = by_stage t _ (record { life = refl; config = refl; acts = refl; deeds = refl }) h

  k-learns : (i : ℕ) (batch : Batch) → Keeps (learns i batch)
  k-learns i batch t h = k-cancels_propose i _ (by_shows (Step.Learn t.stage.config.me i) (Deed.Learn i batch) t (λ l. ap (λ (k : ℕ). Step.Learn k i ∷ []) (sym (mine t h))) h)

  k-learn_check : (i : ℕ) → Keeps (learn_check i)
  k-learn_check i t h = k-some _ _ (k-learns i) t h

  k-votes_for : (view i : ℕ) (batch : Batch) → Keeps (votes_for view i batch)
  k-votes_for view i batch t h = by_shows (Step.Vote t.stage.config.me view i) (Deed.Vote view i batch) t (λ l. ap (λ (k : ℕ). Step.Vote k view i ∷ []) (sym (mine t h))) h

  k-launches : (i : ℕ) (batch : Batch) → Keeps (launches i batch)
  k-launches i batch t h =
      let s = t.stage in
      let view = s.life.view in
      let m = propose_of view i batch in
      k-when (not (is_known s i)) (arms_propose i m) (k-arms_propose i m) _
      (k-sends_to_all m _ (k-notes i view s.config.me (Some batch) _ (k-votes_for view i batch _ (by_shows (Step.Launch s.config.me view i batch) (Deed.Launch view i batch) t (λ l. ap (λ (k : ℕ). Step.Launch k view i batch ∷ []) (sym (mine t h))) h))))

  -- ---- Catching up

  k-queries_peer : Keeps queries_peer
  k-queries_peer t h =
      let s = t.stage in
      let query = query_of (first_undecided s) in
      let to = peer s.config.me s.config.n s.queries in
      by_stage (arms_query query to (says to query (cancels_query t))) _ (record { life = refl; config = refl; acts = refl; deeds = refl }) (k-arms_query query to _ (k-says to query _ (k-cancels_query t h)))

  k-query_where_due : Keeps query_where_due
  k-query_where_due t h = k-when _ _ k-queries_peer t h

  k-on_query : (p first : ℕ) → Keeps (on_query p first)
  k-on_query p first t h =
      let s = t.stage in
      k-when (not (nat_lt first s.base) && is_some (s.life.known first)) _ (k-says p (Message.CatchUpReply (record { first = first; batches = replied_batches s first }))) _
      (k-when (nat_lt first s.base) _ (k-some s.newest _ (λ snapshot. k-each (parts_of snapshot) _ (k-says p))) t h)

  k-learns_each : (batches : List Batch) (i : ℕ) → Keeps (learns_each i batches)
  k-learns_each [] i t h = h
  k-learns_each (batch ∷ batches) i t h = k-learns_each batches (suc i) _ (k-when _ _ (k-learns i batch) t h)

  k-on_batches : (first : ℕ) (batches : List Batch) → Keeps (on_batches first batches)
  k-on_batches first batches t h = k-learns_each batches first _ (k-cancels_query t h)

  k-keeps_joiner : (j : Option Joiner) → Keeps (keeps_joiner j)
  k-keeps_joiner j t h = by_stage t _ (record { life = refl; config = refl; acts = refl; deeds = refl }) h

  k-installs : (upto : ℕ) (bytes : List ℕ) (state : State) → Keeps (installs upto bytes state)
  k-installs upto bytes state t h =
      by_shows (Step.Install t.stage.config.me upto) (Deed.Install upto state) _ (λ l. ap (λ (k : ℕ). Step.Install k upto ∷ []) (sym (mine t h))) (by_stage _ _ (record { life = refl; config = refl; acts = refl; deeds = refl }) (k-cancels_query t h))

  k-installs_if : (upto : ℕ) (bytes : List ℕ) (state : State) → Keeps (installs_if upto bytes state)
  k-installs_if upto bytes state t h = k-when _ _ (k-installs upto bytes state) t h

  k-has_part : (j : Joiner) → Keeps (has_part j)
  k-has_part j t h =
      k-when (is_joined j) (λ t. t ▹ keeps_joiner None ▹ when_some (state_in (joined_bytes j)) (installs_if j.upto (joined_bytes j)))
      (λ u i. k-some (state_in (joined_bytes j)) _ (k-installs_if j.upto (joined_bytes j)) _ (k-keeps_joiner None u i)) _
      (k-when (not (is_joined j)) _ (k-keeps_joiner (Some j)) t h)

  k-puts_part : (j : Joiner) (m : SnapshotPart) → Keeps (puts_part j m)
  k-puts_part j m t h =
      k-when (not (takes_part j m)) _ (k-keeps_joiner (Some j)) _ (k-when (takes_part j m) _ (k-has_part (with_part j m)) t h)

  k-on_part : (m : SnapshotPart) → Keeps (on_part m)
  k-on_part m t h = k-when _ _ (k-puts_part _ m) t h

  k-on_snapshot : (upto : ℕ) (bytes : List ℕ) → Keeps (on_snapshot upto bytes)
  k-on_snapshot upto bytes t h = k-when _ _ (λ u i. by_stage u _ (record { life = refl; config = refl; acts = refl; deeds = refl }) i) t h

  -- ---- Messages

  k-promises : (p : ℕ) (m : Prepare) → Keeps (promises p m)
  k-promises p m t h =
      let s = t.stage in
      let report = report_from s m.first in
      k-sends p (Message.PrepareOk (record { view = m.view; mark = m.mark; vector = vector_of s; low = s.base; report = report })) _
      (by_shows (Step.Promise s.config.me m.view) (Deed.Promise m.view m.first m.mark s.base report) t (λ l. ap (λ (k : ℕ). Step.Promise k m.view ∷ []) (sym (mine t h))) h)

  k-promises_if : (p : ℕ) (m : Prepare) → Keeps (promises_if p m)
  k-promises_if p m t h = k-when (t.stage.life.view == m.view) (promises p m) (k-promises p m) t h

  k-on_prepare : (p : ℕ) (m : Prepare) → Keeps (on_prepare p m)
  k-on_prepare p m t h =
      k-when (works t.stage && leads t.stage p m.view) (λ t. t ▹ raise_up_to m.view ▹ promises_if p m) (λ u i. k-promises_if p m _ (k-raise_up_to m.view u i)) t h

  k-on_prepare_ok : (m : PrepareOk) → Keeps (on_prepare_ok m)
  k-on_prepare_ok m t h = k-when _ _ (k-horizon_to _) t h

  k-votes_on : (m : Propose) → Keeps (votes_on m)
  k-votes_on m t h = k-sends_to_all _ _ (k-notes _ _ _ _ _ (k-votes_for _ _ _ t h))

  k-votes_if : (m : Propose) → Keeps (votes_if m)
  k-votes_if m t h = k-when _ _ (k-votes_on m) t h

  k-on_propose : (p : ℕ) (m : Propose) → Keeps (on_propose p m)
  k-on_propose p m t h =
      k-when (leads t.stage p m.view)
      (λ t. t ▹ horizon_to (suc m.instance) ▹ raise_up_to m.view ▹ notes m.instance m.view p (Some m.batch) ▹ votes_if m ▹ learn_check m.instance)
      (λ u i. k-learn_check m.instance _ (k-votes_if m _ (k-notes m.instance m.view p (Some m.batch) _ (k-raise_up_to m.view _ (k-horizon_to (suc m.instance) u i))))) t h

  k-on_accept : (p view i : ℕ) → Keeps (on_accept p view i)
  k-on_accept p view i t h = k-learn_check _ _ (k-notes _ _ _ _ _ (k-horizon_to _ t h))

  k-answers : (p mark : ℕ) → Keeps (answers p mark)
  k-answers p mark t h =
      let s = t.stage in
      let next = next_of s.life.leading in
      k-sends _ _ _ (by_shows (Step.Answer s.config.me p s.life.view next) (Deed.Answer p s.life.view next mark) t (λ l. ap (λ (k : ℕ). Step.Answer k p s.life.view next ∷ []) (sym (mine t h))) h)

  k-on_recovery : (p mark : ℕ) → Keeps (on_recovery p mark)
  k-on_recovery p mark t h =
      k-when (works t.stage) (λ t. t ▹ when (is_view_ss t.stage.config.mode) (raise_up_to mark) ▹ answers p mark)
      (λ u i. k-answers p mark _ (k-when (is_view_ss u.stage.config.mode) _ (k-raise_up_to mark) u i)) t h

  k-on_recovery_answer : (m : RecoveryAnswer) → Keeps (on_recovery_answer m)
  k-on_recovery_answer m t h = k-when _ _ (k-some _ _ k-horizon_to) t h

  k-on_alive : (p : ℕ) (m : Alive) → Keeps (on_alive p m)
  k-on_alive p m t h =
      k-when (leads t.stage p m.view) (λ t. t ▹ horizon_to m.first_undecided ▹ raise_up_to m.view) (λ u i. k-raise_up_to m.view _ (k-horizon_to m.first_undecided u i)) t h

  k-on_kind : (p : ℕ) (m : Message) → Keeps (on_kind p m)
  k-on_kind p (Message.Prepare m) = k-on_prepare p m
  k-on_kind p (Message.PrepareOk m) = k-on_prepare_ok m
  k-on_kind p (Message.Propose m) = k-on_propose p m
  k-on_kind p (Message.Accept m) = k-on_accept p m.view m.instance
  k-on_kind p (Message.Recovery m) = k-on_recovery p m.mark
  k-on_kind p (Message.RecoveryAnswer m) = k-on_recovery_answer m
  k-on_kind p (Message.CatchUpQuery m) = k-on_query p m.first
  k-on_kind p (Message.CatchUpReply m) = k-on_batches m.first m.batches
  k-on_kind p (Message.SnapshotPart m) = k-on_part m
  k-on_kind p (Message.Alive m) = k-on_alive p m

  k-on_message : (from : LifeId) (m : Message) → Keeps (on_message from m)
  k-on_message from m t h = k-on_kind _ m _ (k-when _ _ (k-quiet 0) _ (by_silent (Deed.Take from m) t (λ l. refl) h))

  -- ---- Settling

  k-rejoins : (view : ℕ) → Keeps (rejoins view)
  k-rejoins view t h =
      by_shows (Step.Rejoin t.stage.config.me view) (Deed.Rejoin view) _ (λ l. ap (λ (k : ℕ). Step.Rejoin k view ∷ []) (sym (mine t h))) (k-cancels_recovery _ (k-quiet 0 _ (k-when _ _ (k-saves view) t h)))

  k-settles_rejoin : Keeps settles_rejoin
  k-settles_rejoin t h = k-some _ _ k-rejoins t h

  k-adopts : (lead : Lead) (i : ℕ) → Keeps (adopts lead i)
  k-adopts lead i t h = k-launches i _ _ (k-when _ _ (k-some _ _ (k-learns i)) t h)

  k-adopts_where : (leading : Leading) (from end : ℕ) → Keeps (adopts_where leading from end)
  k-adopts_where No from end t h = h
  k-adopts_where (Preparing first) from end t h = h
  k-adopts_where (Leads lead) from end t h = k-range (end - from) from _ (k-adopts lead) t h

  k-becomes_prepared : (first : ℕ) → Keeps (becomes_prepared first)
  k-becomes_prepared first t h =
      let s = t.stage in
      let end = adoption_end s first in
      let next = max end (first_undecided s) in
      let u = t ▹ cancels_prepare ▹ shows (Step.Prepared s.config.me s.life.view next) (Deed.Prepared s.life.view next) in
      k-adopts_where u.stage.life.leading (max first s.base) end u (by_shows (Step.Prepared s.config.me s.life.view next) (Deed.Prepared s.life.view next) _ (λ l. ap (λ (k : ℕ). Step.Prepared k s.life.view next ∷ []) (sym (mine t h))) (k-cancels_prepare t h))

  k-settles_leading : (leading : Leading) → Keeps (settles_leading leading)
  k-settles_leading No t h = h
  k-settles_leading (Preparing first) t h = k-when _ _ (k-becomes_prepared first) t h
  k-settles_leading (Leads lead) t h = h

  k-launches_waiting : (batches : List Batch) → Keeps (launches_waiting batches)
  k-launches_waiting [] t h = h
  k-launches_waiting (batch ∷ batches) t h =
      k-some (open_place t.stage) (λ i t. launches_waiting batches (t ▹ with_stage (λ s. record s { waiting = batches }) ▹ launches i batch))
      (λ i u j. k-launches_waiting batches _ (k-launches i batch _ (by_stage u (with_stage (λ s. record s { waiting = batches }) u) (record { life = refl; config = refl; acts = refl; deeds = refl }) j))) t h

  k-hands_on : (room : ℕ) → Keeps (hands_on room)
  k-hands_on zero t h = h
  k-hands_on (suc room) t h =
      k-some (next_handing t.stage) (λ handing t. hands_on room (t ▹ with_stage (λ s. record s { handed = handing.1 }) ▹ hands handing.0))
      (λ handing u j. k-hands_on room _ (k-hands handing.0 _ (by_stage u (with_stage (λ s. record s { handed = handing.1 }) u) (record { life = refl; config = refl; acts = refl; deeds = refl }) j))) t h

  k-settles : (room : ℕ) → Keeps (settles room)
  k-settles room t h = k-hands_on room _ (k-launches_waiting _ _ (k-settles_leading _ _ (k-settles_rejoin t h)))

  -- ---- Items

  k-counts_quiet : Keeps counts_quiet
  k-counts_quiet t h = k-when _ _ k-suspect _ (k-quiet _ t h)

  k-on_tick_working : Keeps on_tick_working
  k-on_tick_working t h =
      let s = t.stage in
      k-when (not (leads_own s) && nat_lt s.quiet quiet_limit) _ k-counts_quiet _ (k-when (leads_own s) _ (k-says_to_all (alive_of s)) t h)

  k-on_item : (item : Item) → Keeps (on_item item)
  k-on_item (Came from message) = k-on_message from message
  k-on_item (Closed batch) = λ t h. k-when _ _ (λ u i. by_stage u _ (record { life = refl; config = refl; acts = refl; deeds = refl }) i) t h
  k-on_item Tick = λ t h. k-query_where_due _ (k-when _ _ k-on_tick_working t h)
  k-on_item Suspect = k-suspect
  k-on_item (Snapped upto bytes) = k-on_snapshot upto bytes

  -- what holds before a turn, holds after it
  pub turn-keeps : (s : Stage) (item : Item) (room : ℕ) → P (untouched s) → P (turn s item room)
  unfolding turn
  turn-keeps s item room h = k-settles room _ (k-on_item item _ h)

  -- what holds before phase 1 begins, holds after it
  pub begin-keeps : (b : Bool) (t : Turned) → P t → P (when b begin_phase_1 t)
  begin-keeps b t h = k-when b begin_phase_1 k-begin t h

  -- what holds before a Recovery goes out and is armed, holds after it
  pub recovery-keeps : (m : Message) (t : Turned) → P t → P (arms_recovery m (says_to_all m t))
  recovery-keeps m t h = by_stage (says_to_all m t) _ (record { life = refl; config = refl; acts = refl; deeds = refl }) (k-says_to_all m t h)

  -- what holds before a message is repeated, holds after it
  pub repeats-keeps : (m : Outgoing) (t : Turned) → P t → P (repeats m t)
  repeats-keeps m t h = k-each m.to _ (λ q. k-says q m.message) t h

-- a life after these steps
abbrev pub lives : Config → Life → List Deed → Life
lives c l [] = l
lives c l (d ∷ deeds) = lives c (life_after (setup_of c) c.me l d) deeds

lives-append : (c : Config) (l : Life) (deeds : List Deed) (d : Deed) → lives c l (deeds ++ d ∷ []) ≡ life_after (setup_of c) c.me (lives c l deeds) d
lives-append c l [] d = refl
lives-append c l (e ∷ deeds) d = lives-append c (life_after (setup_of c) c.me l e) deeds d

-- the constants are these, and the life is that after the steps so far
pub record Follows (c : Config) (l : Life) (t : Turned) : Type 0 where
  pub config : t.stage.config ≡ c
  pub life : t.stage.life ≡ lives c l t.deeds

follows-deed : (c : Config) (l : Life) (d : Deed) (t : Turned) → Follows c l t → Follows c l (does d t)
follows-deed c l d t h =
    record {
      config = h.config;
      life = ap (λ (k : Config). life_after (setup_of k) k.me t.stage.life d) h.config ∙ ap (λ (x : Life). life_after (setup_of c) c.me x d) h.life ∙ sym (lives-append c l t.deeds d);
    }

follows-same : (c : Config) (l : Life) (t u : Turned) → SameLife t u → Follows c l t → Follows c l u
follows-same c l t u same h = record { config = same.config ∙ h.config; life = same.life ∙ h.life ∙ ap (λ (ds : List Deed). lives c l ds) (sym same.deeds) }

-- the life after a turn is the life before it after the turn's steps
pub turn-follows : (s : Stage) (item : Item) (room : ℕ) → Follows s.config s.life (turn s item room)
turn-follows s item room =
    turn-keeps (Follows s.config s.life) s.config.me (λ t h. ap (λ (c : Config). c.me) h.config)
    (λ step d t is h. let k = follows-deed s.config s.life d t h in record { config = k.config; life = k.life }) (λ d t is h. follows-deed s.config s.life d t h)
    (λ a t is h. record { config = h.config; life = h.life }) (follows-same s.config s.life) s item room (record { config = refl; life = refl })

-- ---- What a turn shows

-- the steps that the text shows of what a life does, one after another
abbrev pub shown_over : Config → Life → List Deed → List Step
shown_over c l [] = []
shown_over c l (d ∷ deeds) = shown_of_deed c.me l d ++ shown_over c (life_after (setup_of c) c.me l d) deeds

shown_over-append : (c : Config) (l : Life) (deeds : List Deed) (d : Deed) → shown_over c l (deeds ++ d ∷ []) ≡ shown_over c l deeds ++ shown_of_deed c.me (lives c l deeds) d
shown_over-append c l [] d = append-nil (shown_of_deed c.me l d)
shown_over-append c l (e ∷ deeds) d =
    let k = life_after (setup_of c) c.me l e in
    ap (λ (xs : List Step). shown_of_deed c.me l e ++ xs) (shown_over-append c k deeds d)
    ∙ sym (append_assoc (shown_of_deed c.me l e) (shown_over c k deeds) (shown_of_deed c.me (lives c k deeds) d))

pub shown_in-append : (xs ys : List Act) → shown_in (xs ++ ys) ≡ shown_in xs ++ shown_in ys
shown_in-append [] ys = refl
shown_in-append (Show step ∷ xs) ys = ap (λ zs. step ∷ zs) (shown_in-append xs ys)
shown_in-append (Send to m ∷ xs) ys = shown_in-append xs ys
shown_in-append (Hand d ∷ xs) ys = shown_in-append xs ys
shown_in-append (Save k ∷ xs) ys = shown_in-append xs ys

-- a turn so far, or a start behind its first step: its acts show these steps and then what its steps of the world show
pub record Told (c : Config) (l : Life) (before : List Step) (t : Turned) : Type 0 where
  pub follows : Follows c l t
  pub shown : shown_in t.acts ≡ before ++ shown_over c l t.deeds

-- one more step of the world, with what its act shows
pub told-deed : (c : Config) (l : Life) (before : List Step) (d : Deed) (t : Turned) (added : List Act) → shown_of_deed c.me (lives c l t.deeds) d ≡ shown_in added → Told c l before t
    → Told c l before (record (does d t) { acts = t.acts ++ added })
told-deed c l before d t added is h =
    let f = follows-deed c l d t h.follows in
    let over = shown_over c l t.deeds in
    record {
      follows = record { config = f.config; life = f.life };
      shown = shown_in-append t.acts added ∙ ap (λ (xs : List Step). xs ++ shown_in added) h.shown ∙ append_assoc before over (shown_in added)
          ∙ ap (λ (xs : List Step). before ++ (over ++ xs)) (sym is) ∙ ap (λ (xs : List Step). before ++ xs) (sym (shown_over-append c l t.deeds d));
    }

told-silent : (c : Config) (l : Life) (before : List Step) (d : Deed) (t : Turned) → ((m : Life) → shown_of_deed c.me m d ≡ []) → Told c l before t → Told c l before (does d t)
told-silent c l before d t is h =
    let k = told-deed c l before d t [] (is (lives c l t.deeds)) h in
    record { follows = record { config = k.follows.config; life = k.follows.life }; shown = ap shown_in (sym (append-nil t.acts)) ∙ k.shown }

told-act : (c : Config) (l : Life) (before : List Step) (a : Act) (t : Turned) → shown_in (a ∷ []) ≡ [] → Told c l before t → Told c l before (acts a t)
told-act c l before a t is h =
    record {
      follows = record { config = h.follows.config; life = h.follows.life };
      shown = shown_in-append t.acts (a ∷ []) ∙ ap (λ (xs : List Step). shown_in t.acts ++ xs) is ∙ append-nil (shown_in t.acts) ∙ h.shown;
    }

told-same : (c : Config) (l : Life) (before : List Step) (t u : Turned) → SameLife t u → Told c l before t → Told c l before u
told-same c l before t u same h =
    record { follows = follows-same c l t u same h.follows; shown = ap shown_in same.acts ∙ h.shown ∙ ap (λ (ds : List Deed). before ++ shown_over c l ds) (sym same.deeds) }

pub told-untouched : (s : Stage) → Told s.config s.life [] (untouched s)
told-untouched s = record { follows = record { config = refl; life = refl }; shown = refl }

-- the acts of a turn show its steps of the world
pub turn-told : (s : Stage) (item : Item) (room : ℕ) → Told s.config s.life [] (turn s item room)
turn-told s item room =
    let c = s.config in
    let l = s.life in
    turn-keeps (Told c l []) c.me (λ t h. ap (λ (k : Config). k.me) h.follows.config) (λ step d t is h. told-deed c l [] d t (Show step ∷ []) (is (lives c l t.deeds)) h) (told-silent c l []) (told-act c l []) (told-same c l [])
    s item room (told-untouched s)

-- the acts of a repetition show none
pub repeats-told : (s : Stage) (m : Outgoing) → Told s.config s.life [] (repeats m (untouched s))
repeats-told s m =
    let c = s.config in
    let l = s.life in
    repeats-keeps (Told c l []) c.me (λ t h. ap (λ (k : Config). k.me) h.follows.config) (λ step d t is h. told-deed c l [] d t (Show step ∷ []) (is (lives c l t.deeds)) h) (told-silent c l []) (told-act c l []) (told-same c l [])
    m (untouched s) (told-untouched s)

-- the acts of a retransmission show none
pub retransmit-told : (s : Stage) (cursor : ℕ) (found : ℕ × Turned) → retransmit s cursor ≡ Some found → Told s.config s.life [] found.1
unfolding retransmit
retransmit-told s cursor found e = go (claim s.slots cursor) e
  where
    go : (o : Option (ℕ × Outgoing)) → option_map (λ (x : ℕ × Outgoing). (cursor_after x.0, untouched s ▹ repeats x.1)) o ≡ Some found → Told s.config s.life [] found.1
    go None f = absurd cc
    go (Some x) f = let k : (cursor_after x.0, untouched s ▹ repeats x.1) ≡ found = cc in subst (λ (y : ℕ × Turned). Told s.config s.life [] y.1) k (repeats-told s x.1)

-- the acts of the service's step show it
pub serves-told : (d : Decision) (s : Stage) → ((i : ℕ) (batch : Batch) → d ≡ Decided i batch → s.life.known i ≡ Some batch) → Told s.config s.life [] (serves d (untouched s))
serves-told (Decided i batch) s known = go (is_due s.life.service i)
  where
    step : Step
    step = Step.Execute s.config.me i (outcomes s.life.service batch)

    go : (b : Bool) → Told s.config s.life [] (when b (shows step (Deed.Execute i)) (untouched s))
    go true =
        told-deed s.config s.life [] (Deed.Execute i) (untouched s) (Show step ∷ []) (ap (λ (o : Option Batch). Step.Execute s.config.me i (outcomes_with s.life.service o) ∷ []) (known i batch refl)) (told-untouched s)
    go false = told-untouched s
serves-told (Installed upto state) s known = go (nat_lt s.life.service.executed upto)
  where
    go : (b : Bool) → Told s.config s.life [] (when b (shows (Step.Restore s.config.me upto) (Deed.Restore upto state)) (untouched s))
    go true = told-deed s.config s.life [] (Deed.Restore upto state) (untouched s) (Show (Step.Restore s.config.me upto) ∷ []) refl (told-untouched s)
    go false = told-untouched s

told-begun : (c : Config) (slots : List Slot) (l : Life) (step : Step) → Told c l (step ∷ []) (begun c slots l step)
told-begun c slots l step = record { follows = record { config = refl; life = refl }; shown = refl }

-- the acts of a first start show it and then its steps of the world
pub first-told : (c : Config) (slots : List Slot) (l : Life) → Told c l (Step.First c.me ∷ []) (when (leads_own (begun c slots l (Step.First c.me)).stage) begin_phase_1 (begun c slots l (Step.First c.me)))
first-told c slots l =
    let b : List Step = Step.First c.me ∷ [] in
    begin-keeps (Told c l b) c.me (λ t h. ap (λ (k : Config). k.me) h.follows.config) (λ step d t is h. told-deed c l b d t (Show step ∷ []) (is (lives c l t.deeds)) h) (told-silent c l b) (told-act c l b) (told-same c l b)
    (leads_own (begun c slots l (Step.First c.me)).stage) (begun c slots l (Step.First c.me)) (told-begun c slots l (Step.First c.me))

-- the acts of a later start show it and then its steps of the world
pub later-told : (c : Config) (slots : List Slot) (l : Life) (mark : ℕ) (m : Message) → Told c l (Step.Return c.me mark ∷ []) (arms_recovery m (says_to_all m (begun c slots l (Step.Return c.me mark))))
later-told c slots l mark m =
    let b : List Step = Step.Return c.me mark ∷ [] in
    recovery-keeps (Told c l b) c.me (λ t h. ap (λ (k : Config). k.me) h.follows.config) (λ step d t is h. told-deed c l b d t (Show step ∷ []) (is (lives c l t.deeds)) h) (told-silent c l b) (told-act c l b) (told-same c l b)
    m (begun c slots l (Step.Return c.me mark)) (told-begun c slots l (Step.Return c.me mark))

-- ---- In the world

-- the messages of the world after these steps
pub end-sent : (c : Setup) (w : World) (ms : List Move) → (end_of c w ms).sent ≡ w.sent ++ sends_along c w ms
end-sent c w [] = sym (append-nil w.sent)
end-sent c w (m ∷ ms) = end-sent c (after c w m) ms ∙ append_assoc w.sent (sends_in c w m) (sends_along c (after c w m) ms)

-- what the life that runs does, shown in the world
pub along-over : (c : Config) (w : World) (l : Life) (ds : List Deed) → (w.replicas c.me).running ≡ Some l → shown_along (setup_of c) w (moves_of c.me ds) ≡ shown_over c l ds
along-over c w l [] e = refl
along-over c w l (d ∷ ds) e =
    let k = setup_of c in
    let v = after k w (W.Act c.me d) in
    let m = life_after k c.me l d in
    let runs : (v.replicas c.me).running ≡ Some m
    = ap (λ (a : Replica). a.running) (with_at-same w.replicas c.me (replica_after k (w.replicas c.me) (W.Act c.me d)) ∙ act-is k c.me (w.replicas c.me) d l e) in
    ap (λ (o : Option Life). of_running o (λ x. shown_of_deed c.me x d) ++ shown_along k v (moves_of c.me ds)) e ∙ ap (λ (xs : List Step). shown_of_deed c.me l d ++ xs) (along-over c v m ds runs)

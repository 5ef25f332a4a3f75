-- What is kept by an act that shows neither a vote nor a launch, is kept by each word of a turn that shows neither.
use Rattle.std.proofs.Common.{◌≡◌, ℕ, zero, suc, max, Bool, true, false, not, ◌&&◌, nat_lt, is_some, ◌==◌, ◌-◌, List, [], ◌∷◌, Option, Some, None, refl}
use Rattle.jp_types.specs.declared.message.Message.{Message}
use Rattle.jp_types.specs.declared.message.Prepare.{Prepare}
use Rattle.jp_types.specs.declared.message.PrepareOk.{PrepareOk}
use Rattle.jp_types.specs.declared.message.RecoveryAnswer.{RecoveryAnswer}
use Rattle.jp_types.specs.declared.message.SnapshotPart.{SnapshotPart}
use Rattle.jp_types.specs.declared.message.Alive.{Alive}
use Rattle.kv_service.specs.Service.{State}
use Rattle.kv_service.specs.StateReading.{state_in}
use Rattle.paxos_world.specs.declared.step.Step.{Step}
use Rattle.paxos_world.specs.Life.{Lead, Leading, No, Preparing, Leads, next_of}
use Rattle.jp_types.specs.Instances.{Batch}
use Rattle.paxos_world.specs.World.{Deed}
use Rattle.paxos_world.specs.Stage.{Decision, Act, Turned}
use Rattle.kv_service.specs.Parts.{Joiner}
use Rattle.paxos_world.specs.Writing.{◌▹◌, when, when_some, for_each, for_range, with_stage, acts, does, shows, sends, says, saves, hands, others, sends_to_all, says_to_all}
use Rattle.paxos_world.specs.Shown.{shown_in}
use Rattle.paxos_world.specs.Retransmitting.{arms_prepare, arms_query, arms_propose, cancels_prepare, cancels_recovery, cancels_query, cancels_propose, cancels_proposes}
use Rattle.paxos_world.specs.Logs.{first_undecided, report_from}
use Rattle.paxos_world.specs.Leading.{works, leads, leads_own, is_view_ss, prepare_of, begin_from, begin_phase_1, drop_waiting, raise_to, raise_up_to, suspect}
use Rattle.paxos_world.specs.Learning.{horizon_to, notes, learns, learn_check, launches}
use Rattle.paxos_world.specs.CatchingUp.{query_of, replied_batches, parts_of, queries_peer, query_where_due, on_query, learns_each, on_batches, keeps_joiner, installs, installs_if, has_part, puts_part, on_part, on_snapshot}
use Rattle.jp_types.specs.Instances.{peer}
use Rattle.kv_service.specs.Parts.{is_joined, joined_bytes, takes_part, with_part}
use Rattle.paxos_world.specs.Messages.{vector_of, promises, promises_if, on_prepare, on_prepare_ok, on_accept, answers, on_recovery, on_recovery_answer, on_alive}
use Rattle.paxos_world.specs.Settling.{adoption_end, open_place, next_handing, rejoins, settles_rejoin, adopts, adopts_where, becomes_prepared, settles_leading, launches_waiting, hands_on, settles}
use Rattle.paxos_world.specs.Turn.{quiet_limit, alive_of, counts_quiet, on_tick_working}
use Rattle.paxos_world.proofs.Turning.{SameLife}
use Rattle.step_laws.specs.Kinds.{is_launch, is_vote}

-- what is kept by a step that is neither a vote nor a launch, by one that is not shown, by an act that shows none, and by a change of the stage alone
pub record Quiet (P : Turned → Type 0) : Type 0 where
  pub shown : (step : Step) (d : Deed) (t : Turned) → is_vote step ≡ false → is_launch step ≡ false → P t → P (shows step d t)
  pub silent : (d : Deed) (t : Turned) → P t → P (does d t)
  pub other : (a : Act) (t : Turned) → shown_in (a ∷ []) ≡ [] → P t → P (acts a t)
  pub same : (t u : Turned) → SameLife t u → P t → P u

module _ (P : Turned → Type 0) (quiet : Quiet P) where
  -- a step that is neither a vote nor a launch
  by_shows : (step : Step) (d : Deed) (t : Turned) → is_vote step ≡ false → is_launch step ≡ false → P t → P (shows step d t)
  by_shows = quiet.shown

  -- a step that is not shown
  by_silent : (d : Deed) (t : Turned) → P t → P (does d t)
  by_silent = quiet.silent

  -- an act that shows none
  by_act : (a : Act) (t : Turned) → shown_in (a ∷ []) ≡ [] → P t → P (acts a t)
  by_act = quiet.other

  -- a change of the stage alone
  by_stage : (t u : Turned) → SameLife t u → P t → P u
  by_stage = quiet.same

  -- a word keeps what holds
  abbrev pub Keeps : (Turned → Turned) → Type 0
  Keeps f = (t : Turned) → P t → P (f t)

  -- launching keeps what holds
  abbrev pub Launching : Type 0
  Launching = (i : ℕ) (batch : Batch) → Keeps (launches i batch)

  pub k-when : (b : Bool) (f : Turned → Turned) → Keeps f → Keeps (when b f)
  k-when true f k t h = k t h
  k-when false f k t h = h

  pub k-some : {A : Type 0} (o : Option A) (f : A → Turned → Turned) → ((x : A) → Keeps (f x)) → Keeps (when_some o f)
  k-some None f k t h = h
  k-some (Some x) f k t h = k x t h

  pub k-each : {A : Type 0} (xs : List A) (f : A → Turned → Turned) → ((x : A) → Keeps (f x)) → Keeps (for_each xs f)
  k-each [] f k t h = h
  k-each (x ∷ xs) f k t h = k-each xs f k (f x t) (k x t h)

  pub k-range : (n a : ℕ) (f : ℕ → Turned → Turned) → ((x : ℕ) → Keeps (f x)) → Keeps (for_range n a f)
  k-range zero a f k t h = h
  k-range (suc n) a f k t h = k-range n (suc a) f k (f a t) (k a t h)

  pub k-sends : (to : ℕ) (m : Message) → Keeps (sends to m)
  k-sends to m t h = by_act _ _ refl h

  pub k-says : (to : ℕ) (m : Message) → Keeps (says to m)
  k-says to m t h = by_act _ _ refl (by_silent (Deed.Say to m) t h)

  pub k-saves : (n : ℕ) → Keeps (saves n)
  k-saves n t h = by_act _ _ refl (by_stage t _ (record { life = refl; config = refl; acts = refl; deeds = refl }) h)

  pub k-hands : (d : Decision) → Keeps (hands d)
  k-hands d t h = by_act _ _ refl h

  pub k-sends_to_all : (m : Message) → Keeps (sends_to_all m)
  k-sends_to_all m t h = k-each (others t.stage.config) _ (λ q. k-sends q m) t h

  pub k-says_to_all : (m : Message) → Keeps (says_to_all m)
  k-says_to_all m t h = k-each (others t.stage.config) _ (λ q. k-says q m) t h

  -- ---- The retransmitter

  pub k-arms_prepare : (m : Message) → Keeps (arms_prepare m)
  k-arms_prepare m t h = by_stage t _ (record { life = refl; config = refl; acts = refl; deeds = refl }) h

  pub k-arms_query : (m : Message) (to : ℕ) → Keeps (arms_query m to)
  k-arms_query m to t h = by_stage t _ (record { life = refl; config = refl; acts = refl; deeds = refl }) h

  pub k-arms_propose : (i : ℕ) (m : Message) → Keeps (arms_propose i m)
  k-arms_propose i m t h = by_stage t _ (record { life = refl; config = refl; acts = refl; deeds = refl }) h

  pub k-cancels_prepare : Keeps cancels_prepare
  k-cancels_prepare t h = by_stage t _ (record { life = refl; config = refl; acts = refl; deeds = refl }) h

  pub k-cancels_recovery : Keeps cancels_recovery
  k-cancels_recovery t h = by_stage t _ (record { life = refl; config = refl; acts = refl; deeds = refl }) h

  pub k-cancels_query : Keeps cancels_query
  k-cancels_query t h = by_stage t _ (record { life = refl; config = refl; acts = refl; deeds = refl }) h

  pub k-cancels_propose : (i : ℕ) → Keeps (cancels_propose i)
  k-cancels_propose i t h = by_stage t _ (record { life = refl; config = refl; acts = refl; deeds = refl }) h

  pub k-cancels_proposes : Keeps cancels_proposes
  k-cancels_proposes t h = by_stage t _ (record { life = refl; config = refl; acts = refl; deeds = refl }) h

  -- ---- Leading

  pub k-begin_from : (first : ℕ) → Keeps (begin_from first)
  k-begin_from first t h =
      let m = prepare_of t.stage first in
      k-arms_prepare m _ (k-says_to_all m _ (by_shows (Step.Promise t.stage.config.me t.stage.life.view) (Deed.Open t.stage.life.view first) t refl refl h))

  pub k-begin : Keeps begin_phase_1
  k-begin t h = k-begin_from _ t h

  pub k-drop_waiting : Keeps drop_waiting
  k-drop_waiting t h = by_stage t _ (record { life = refl; config = refl; acts = refl; deeds = refl }) h

  pub k-quiet : (k : ℕ) → Keeps (with_stage (λ s. record s { quiet = k }))
  k-quiet k t h = by_stage t _ (record { life = refl; config = refl; acts = refl; deeds = refl }) h

  pub k-raise_to : (view : ℕ) → Keeps (raise_to view)
  k-raise_to view t h =
      let s = t.stage in
      let leads_it = leads s s.config.me view in
      k-when (not leads_it) drop_waiting k-drop_waiting _
      (k-when leads_it begin_phase_1 k-begin _
      (k-quiet 0 _ (k-cancels_proposes _ (k-cancels_prepare _
      (by_shows (Step.Enter s.config.me view) (Deed.Enter view) _ refl refl
      (k-when (is_view_ss s.config.mode && nat_lt s.stable view) (saves view) (k-saves view) t h))))))

  pub k-raise_up_to : (view : ℕ) → Keeps (raise_up_to view)
  k-raise_up_to view t h = k-when _ _ (k-raise_to view) t h

  pub k-suspect : Keeps suspect
  k-suspect t h = k-when _ _ (k-some _ _ k-raise_to) t h

  -- ---- Learning

  pub k-horizon_to : (i : ℕ) → Keeps (horizon_to i)
  k-horizon_to i t h = by_stage t _ (record { life = refl; config = refl; acts = refl; deeds = refl }) h

  pub k-notes : (i view p : ℕ) (batch : Option Batch) → Keeps (notes i view p batch)
  k-notes i view p batch t h = by_stage t _ (record { life = refl; config = refl; acts = refl; deeds = refl }) h

  pub k-learns : (i : ℕ) (batch : Batch) → Keeps (learns i batch)
  k-learns i batch t h = k-cancels_propose i _ (by_shows (Step.Learn t.stage.config.me i) (Deed.Learn i batch) t refl refl h)

  pub k-learn_check : (i : ℕ) → Keeps (learn_check i)
  k-learn_check i t h = k-some _ _ (k-learns i) t h

  -- ---- Catching up

  pub k-queries_peer : Keeps queries_peer
  k-queries_peer t h =
      let s = t.stage in
      let query = query_of (first_undecided s) in
      let to = peer s.config.me s.config.n s.queries in
      by_stage (arms_query query to (says to query (cancels_query t))) _ (record { life = refl; config = refl; acts = refl; deeds = refl }) (k-arms_query query to _ (k-says to query _ (k-cancels_query t h)))

  pub k-query_where_due : Keeps query_where_due
  k-query_where_due t h = k-when _ _ k-queries_peer t h

  pub k-on_query : (p first : ℕ) → Keeps (on_query p first)
  k-on_query p first t h =
      let s = t.stage in
      k-when (not (nat_lt first s.base) && is_some (s.life.known first)) _ (k-says p (Message.CatchUpReply (record { first = first; batches = replied_batches s first }))) _
      (k-when (nat_lt first s.base) _ (k-some s.newest _ (λ snapshot. k-each (parts_of snapshot) _ (k-says p))) t h)

  pub k-learns_each : (batches : List Batch) (i : ℕ) → Keeps (learns_each i batches)
  k-learns_each [] i t h = h
  k-learns_each (batch ∷ batches) i t h = k-learns_each batches (suc i) _ (k-when _ _ (k-learns i batch) t h)

  pub k-on_batches : (first : ℕ) (batches : List Batch) → Keeps (on_batches first batches)
  k-on_batches first batches t h = k-learns_each batches first _ (k-cancels_query t h)

  pub k-keeps_joiner : (j : Option Joiner) → Keeps (keeps_joiner j)
  k-keeps_joiner j t h = by_stage t _ (record { life = refl; config = refl; acts = refl; deeds = refl }) h

  pub k-installs : (upto : ℕ) (bytes : List ℕ) (state : State) → Keeps (installs upto bytes state)
  k-installs upto bytes state t h =
      by_shows (Step.Install t.stage.config.me upto) (Deed.Install upto state) _ refl refl (by_stage _ _ (record { life = refl; config = refl; acts = refl; deeds = refl }) (k-cancels_query t h))

  pub k-installs_if : (upto : ℕ) (bytes : List ℕ) (state : State) → Keeps (installs_if upto bytes state)
  k-installs_if upto bytes state t h = k-when _ _ (k-installs upto bytes state) t h

  pub k-has_part : (j : Joiner) → Keeps (has_part j)
  k-has_part j t h =
      k-when (is_joined j) (λ t. t ▹ keeps_joiner None ▹ when_some (state_in (joined_bytes j)) (installs_if j.upto (joined_bytes j)))
      (λ u i. k-some (state_in (joined_bytes j)) _ (k-installs_if j.upto (joined_bytes j)) _ (k-keeps_joiner None u i)) _
      (k-when (not (is_joined j)) _ (k-keeps_joiner (Some j)) t h)

  pub k-puts_part : (j : Joiner) (m : SnapshotPart) → Keeps (puts_part j m)
  k-puts_part j m t h =
      k-when (not (takes_part j m)) _ (k-keeps_joiner (Some j)) _ (k-when (takes_part j m) _ (k-has_part (with_part j m)) t h)

  pub k-on_part : (m : SnapshotPart) → Keeps (on_part m)
  k-on_part m t h = k-when _ _ (k-puts_part _ m) t h

  pub k-on_snapshot : (upto : ℕ) (bytes : List ℕ) → Keeps (on_snapshot upto bytes)
  k-on_snapshot upto bytes t h = k-when _ _ (λ u i. by_stage u _ (record { life = refl; config = refl; acts = refl; deeds = refl }) i) t h

  -- ---- Messages

  pub k-promises : (p : ℕ) (m : Prepare) → Keeps (promises p m)
  k-promises p m t h =
      let s = t.stage in
      let report = report_from s m.first in
      k-sends p (Message.PrepareOk (record { view = m.view; mark = m.mark; vector = vector_of s; low = s.base; report = report })) _
      (by_shows (Step.Promise s.config.me m.view) (Deed.Promise m.view m.first m.mark s.base report) t refl refl h)

  pub k-promises_if : (p : ℕ) (m : Prepare) → Keeps (promises_if p m)
  k-promises_if p m t h = k-when (t.stage.life.view == m.view) (promises p m) (k-promises p m) t h

  pub k-on_prepare : (p : ℕ) (m : Prepare) → Keeps (on_prepare p m)
  k-on_prepare p m t h =
      k-when (works t.stage && leads t.stage p m.view) (λ t. t ▹ raise_up_to m.view ▹ promises_if p m) (λ u i. k-promises_if p m _ (k-raise_up_to m.view u i)) t h

  pub k-on_prepare_ok : (m : PrepareOk) → Keeps (on_prepare_ok m)
  k-on_prepare_ok m t h = k-when _ _ (k-horizon_to _) t h

  pub k-on_accept : (p view i : ℕ) → Keeps (on_accept p view i)
  k-on_accept p view i t h = k-learn_check _ _ (k-notes _ _ _ _ _ (k-horizon_to _ t h))

  pub k-answers : (p mark : ℕ) → Keeps (answers p mark)
  k-answers p mark t h =
      let s = t.stage in
      let next = next_of s.life.leading in
      k-sends _ _ _ (by_shows (Step.Answer s.config.me p s.life.view next) (Deed.Answer p s.life.view next mark) t refl refl h)

  pub k-on_recovery : (p mark : ℕ) → Keeps (on_recovery p mark)
  k-on_recovery p mark t h =
      k-when (works t.stage) (λ t. t ▹ when (is_view_ss t.stage.config.mode) (raise_up_to mark) ▹ answers p mark)
      (λ u i. k-answers p mark _ (k-when (is_view_ss u.stage.config.mode) _ (k-raise_up_to mark) u i)) t h

  pub k-on_recovery_answer : (m : RecoveryAnswer) → Keeps (on_recovery_answer m)
  k-on_recovery_answer m t h = k-when _ _ (k-some _ _ k-horizon_to) t h

  pub k-on_alive : (p : ℕ) (m : Alive) → Keeps (on_alive p m)
  k-on_alive p m t h =
      k-when (leads t.stage p m.view) (λ t. t ▹ horizon_to m.first_undecided ▹ raise_up_to m.view) (λ u i. k-raise_up_to m.view _ (k-horizon_to m.first_undecided u i)) t h

  -- ---- Settling

  pub k-rejoins : (view : ℕ) → Keeps (rejoins view)
  k-rejoins view t h =
      by_shows (Step.Rejoin t.stage.config.me view) (Deed.Rejoin view) _ refl refl (k-cancels_recovery _ (k-quiet 0 _ (k-when _ _ (k-saves view) t h)))

  pub k-settles_rejoin : Keeps settles_rejoin
  k-settles_rejoin t h = k-some _ _ k-rejoins t h

  pub k-adopts : Launching → (lead : Lead) (i : ℕ) → Keeps (adopts lead i)
  k-adopts launch lead i t h = launch i _ _ (k-when _ _ (k-some _ _ (k-learns i)) t h)

  pub k-adopts_where : Launching → (leading : Leading) (from end : ℕ) → Keeps (adopts_where leading from end)
  k-adopts_where launch No from end t h = h
  k-adopts_where launch (Preparing first) from end t h = h
  k-adopts_where launch (Leads lead) from end t h = k-range (end - from) from _ (k-adopts launch lead) t h

  pub k-becomes_prepared : Launching → (first : ℕ) → Keeps (becomes_prepared first)
  k-becomes_prepared launch first t h =
      let s = t.stage in
      let end = adoption_end s first in
      let next = max end (first_undecided s) in
      let u = t ▹ cancels_prepare ▹ shows (Step.Prepared s.config.me s.life.view next) (Deed.Prepared s.life.view next) in
      k-adopts_where launch u.stage.life.leading (max first s.base) end u (by_shows (Step.Prepared s.config.me s.life.view next) (Deed.Prepared s.life.view next) _ refl refl (k-cancels_prepare t h))

  pub k-settles_leading : Launching → (leading : Leading) → Keeps (settles_leading leading)
  k-settles_leading launch No t h = h
  k-settles_leading launch (Preparing first) t h = k-when _ _ (k-becomes_prepared launch first) t h
  k-settles_leading launch (Leads lead) t h = h

  pub k-launches_waiting : Launching → (batches : List Batch) → Keeps (launches_waiting batches)
  k-launches_waiting launch [] t h = h
  k-launches_waiting launch (batch ∷ batches) t h =
      k-some (open_place t.stage) (λ i t. launches_waiting batches (t ▹ with_stage (λ s. record s { waiting = batches }) ▹ launches i batch))
      (λ i u j. k-launches_waiting launch batches _ (launch i batch _ (by_stage u (with_stage (λ s. record s { waiting = batches }) u) (record { life = refl; config = refl; acts = refl; deeds = refl }) j))) t h

  pub k-hands_on : (room : ℕ) → Keeps (hands_on room)
  k-hands_on zero t h = h
  k-hands_on (suc room) t h =
      k-some (next_handing t.stage) (λ handing t. hands_on room (t ▹ with_stage (λ s. record s { handed = handing.1 }) ▹ hands handing.0))
      (λ handing u j. k-hands_on room _ (k-hands handing.0 _ (by_stage u (with_stage (λ s. record s { handed = handing.1 }) u) (record { life = refl; config = refl; acts = refl; deeds = refl }) j))) t h

  -- ---- Items

  pub k-counts_quiet : Keeps counts_quiet
  k-counts_quiet t h = k-when _ _ k-suspect _ (k-quiet _ t h)

  pub k-on_tick_working : Keeps on_tick_working
  k-on_tick_working t h =
      let s = t.stage in
      k-when (not (leads_own s) && nat_lt s.quiet quiet_limit) _ k-counts_quiet _ (k-when (leads_own s) _ (k-says_to_all (alive_of s)) t h)

  -- what is kept by launching, is kept by settling
  pub settles-keeps : Launching → (room : ℕ) → Keeps (settles room)
  settles-keeps launch room t h = k-hands_on room _ (k-launches_waiting launch _ _ (k-settles_leading launch _ _ (k-settles_rejoin t h)))

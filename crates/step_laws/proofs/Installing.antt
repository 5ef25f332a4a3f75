-- What is kept by an act that shows no Install and hands nothing on, is kept by each word of a turn that does neither. A turn installs exactly the state that its item completes.
use Rattle.std.proofs.Common.{◌≡◌, ℕ, zero, suc, max, Bool, true, false, not, ◌&&◌, nat_le, nat_lt, is_some, ◌==◌, ◌-◌, List, [], ◌∷◌, ◌++◌, length, Option, Some, None, if◌then◌else◌, refl, sym, ap, ◌∙◌, append-nil}
use Rattle.jp_types.specs.declared.message.Message.{Message}
use Rattle.jp_types.specs.declared.message.Prepare.{Prepare}
use Rattle.jp_types.specs.declared.message.PrepareOk.{PrepareOk}
use Rattle.jp_types.specs.declared.message.Propose.{Propose}
use Rattle.jp_types.specs.declared.message.RecoveryAnswer.{RecoveryAnswer}
use Rattle.jp_types.specs.declared.message.SnapshotPart.{SnapshotPart}
use Rattle.jp_types.specs.declared.message.Alive.{Alive}
use Rattle.jp_types.specs.Instances.{Batch, peer}
use Rattle.kv_service.specs.Service.{State}
use Rattle.kv_service.specs.StateReading.{state_in}
use Rattle.kv_service.specs.Parts.{Joiner, is_joined, joined_bytes, takes_part, with_part}
use Rattle.paxos_world.specs.declared.step.Step.{Step}
use Rattle.paxos_world.specs.Life.{LifeId, Lead, Leading, No, Preparing, Leads, next_of}
use Rattle.paxos_world.specs.World.{Deed}
use Rattle.paxos_world.specs.Stage.{Stage, Item, Came, Closed, Tick, Suspect, Snapped, Show, Send, Hand, Save, Turned}
use Rattle.paxos_world.specs.Writing.{◌▹◌, when, when_some, for_each, for_range, with_stage, acts, does, shows, sends, says, saves, hands, others, sends_to_all, says_to_all}
use Rattle.paxos_world.specs.Retransmitting.{arms_propose, cancels_prepare, cancels_recovery, cancels_query, cancels_propose, cancels_proposes}
use Rattle.paxos_world.specs.Logs.{first_undecided, report_from, is_known}
use Rattle.paxos_world.specs.Leading.{works, leads, leads_own, is_leading, is_view_ss, prepare_of, begin_from, begin_phase_1, drop_waiting, raise_to, raise_up_to, suspect}
use Rattle.paxos_world.specs.Learning.{horizon_to, notes, learns, learn_check, votes_for, propose_of, accept_of, launches}
use Rattle.paxos_world.specs.CatchingUp.{query_of, replied_batches, parts_of, queries_peer, query_where_due, on_query, learns_each, on_batches, is_joining_above, joiner_for, keeps_joiner, installs, installs_if, has_part, puts_part, on_part, on_snapshot, place_of}
use Rattle.paxos_world.specs.Messages.{vector_of, promises, promises_if, on_prepare, on_prepare_ok, votes_on, votes_if, on_propose, on_accept, answers, on_recovery, on_recovery_answer, on_alive, on_kind, on_message}
use Rattle.paxos_world.specs.Settling.{adoption_end, open_place, next_handing, rejoins, settles_rejoin, adopts, adopts_where, becomes_prepared, settles_leading, settles_prepared, launches_waiting, settles_waiting, hands_on}
use Rattle.paxos_world.specs.Turn.{quiet_limit, waiting_limit, alive_of, counts_quiet, on_tick_working, on_tick, on_batch, on_item, untouched, turn}
use Rattle.step_laws.specs.Kinds.{shown_where, is_install}
use Rattle.step_laws.specs.Installed.{installed_at, installed_of, installed_with, installed_by}
use Rattle.step_laws.specs.Laws.{InstallsExactly}
use Rattle.step_laws.proofs.Viewing.{quiet-act, quiet-show, quiet-some}
use Rattle.step_laws.proofs.Quieting.{shows-adds}
use Rattle.step_laws.proofs.Launching.{undecided-same}

-- what is kept by showing a step that is no Install, by sending, by saving, and by what leaves the acts and `handed` as they are
pub record Plain (P : Turned → Type 0) : Type 0 where
  pub shown : (step : Step) (t : Turned) → is_install step ≡ false → P t → P (acts (Show step) t)
  pub sent : (to : ℕ) (m : Message) (t : Turned) → P t → P (acts (Send to m) t)
  pub saved : (n : ℕ) (t : Turned) → P t → P (acts (Save n) t)
  pub same : (t u : Turned) → u.acts ≡ t.acts → u.stage.handed ≡ t.stage.handed → P t → P u

module _ (P : Turned → Type 0) (plain : Plain P) where
  -- a change of the stage that leaves `handed`
  by_stage : (t u : Turned) → u.acts ≡ t.acts → u.stage.handed ≡ t.stage.handed → P t → P u
  by_stage = plain.same

  -- a step that is no Install
  by_shows : (step : Step) (d : Deed) (t : Turned) → is_install step ≡ false → P t → P (shows step d t)
  by_shows step d t e h = plain.shown step (does d t) e (plain.same t (does d t) refl refl h)

  -- a word keeps what holds
  abbrev pub Keeps : (Turned → Turned) → Type 0
  Keeps f = (t : Turned) → P t → P (f t)

  -- installing keeps what holds
  abbrev pub Joins : Type 0
  Joins = (upto : ℕ) (bytes : List ℕ) (state : State) → Keeps (installs upto bytes state)

  -- ---- The words that keep what holds: those that join others, and those that send and save

  -- what is done where a test passes
  pub k-when : (b : Bool) (f : Turned → Turned) → Keeps f → Keeps (when b f)
  k-when true f k t h = k t h
  k-when false f k t h = h

  -- what is done with a value, where there is one
  pub k-some : {A : Type 0} (o : Option A) (f : A → Turned → Turned) → ((x : A) → Keeps (f x)) → Keeps (when_some o f)
  k-some None f k t h = h
  k-some (Some x) f k t h = k x t h

  -- what is done with each
  pub k-each : {A : Type 0} (xs : List A) (f : A → Turned → Turned) → ((x : A) → Keeps (f x)) → Keeps (for_each xs f)
  k-each [] f k t h = h
  k-each (x ∷ xs) f k t h = k-each xs f k (f x t) (k x t h)

  -- what is done with each number of a range
  pub k-range : (n a : ℕ) (f : ℕ → Turned → Turned) → ((x : ℕ) → Keeps (f x)) → Keeps (for_range n a f)
  k-range zero a f k t h = h
  k-range (suc n) a f k t h = k-range n (suc a) f k (f a t) (k a t h)

  -- a message is sent
  pub k-sends : (to : ℕ) (m : Message) → Keeps (sends to m)
  k-sends to m t h = plain.sent to m t h

  -- a message is sent with no step of its own
  pub k-says : (to : ℕ) (m : Message) → Keeps (says to m)
  k-says to m t h = plain.sent to m (does (Deed.Say to m) t) (by_stage t _ refl refl h)

  -- the number is saved
  pub k-saves : (n : ℕ) → Keeps (saves n)
  k-saves n t h = plain.saved n (with_stage (λ s. record s { stable = n }) t) (by_stage t _ refl refl h)

  -- a message goes to all others
  pub k-sends_to_all : (m : Message) → Keeps (sends_to_all m)
  k-sends_to_all m t h = k-each (others t.stage.config) _ (λ q. k-sends q m) t h

  -- a message goes to all others, with no step of its own
  pub k-says_to_all : (m : Message) → Keeps (says_to_all m)
  k-says_to_all m t h = k-each (others t.stage.config) _ (λ q. k-says q m) t h

  -- ---- Leading

  -- phase 1 begins from an instance on
  pub k-begin_from : (first : ℕ) → Keeps (begin_from first)
  k-begin_from first t h =
      let m = prepare_of t.stage first in
      let u = t ▹ shows (Step.Promise t.stage.config.me t.stage.life.view) (Deed.Open t.stage.life.view first) ▹ says_to_all m in
      by_stage u _ refl refl (k-says_to_all m _ (by_shows (Step.Promise t.stage.config.me t.stage.life.view) (Deed.Open t.stage.life.view first) t refl h))

  -- phase 1 begins
  pub k-begin : Keeps begin_phase_1
  k-begin t h = k-begin_from _ t h

  -- the waiting batches are dropped
  pub k-drop_waiting : Keeps drop_waiting
  k-drop_waiting t h = by_stage t _ refl refl h

  -- the count of quiet ticks is changed
  pub k-quiet : (k : ℕ) → Keeps (with_stage (λ s. record s { quiet = k }))
  k-quiet k t h = by_stage t _ refl refl h

  -- the view is raised
  pub k-raise_to : (view : ℕ) → Keeps (raise_to view)
  k-raise_to view t h =
      let s = t.stage in
      let leads_it = leads s s.config.me view in
      let a = t ▹ when (is_view_ss s.config.mode && nat_lt s.stable view) (saves view) ▹ shows (Step.Enter s.config.me view) (Deed.Enter view) in
      let b = a ▹ cancels_prepare ▹ cancels_proposes ▹ with_stage (λ s. record s { quiet = 0 }) in
      k-when (not leads_it) drop_waiting k-drop_waiting _
      (k-when leads_it begin_phase_1 k-begin b
      (by_stage a b refl refl
      (by_shows (Step.Enter s.config.me view) (Deed.Enter view) _ refl
      (k-when (is_view_ss s.config.mode && nat_lt s.stable view) (saves view) (k-saves view) t h))))

  -- the view is raised, where it is lower
  pub k-raise_up_to : (view : ℕ) → Keeps (raise_up_to view)
  k-raise_up_to view t h = k-when _ _ (k-raise_to view) t h

  -- the leader is suspected
  pub k-suspect : Keeps suspect
  k-suspect t h = k-when _ _ (k-some _ _ k-raise_to) t h

  -- ---- Learning, voting and launching

  -- the horizon rises
  pub k-horizon_to : (i : ℕ) → Keeps (horizon_to i)
  k-horizon_to i t h = by_stage t _ refl refl h

  -- an acceptance is noted
  pub k-notes : (i view p : ℕ) (batch : Option Batch) → Keeps (notes i view p batch)
  k-notes i view p batch t h = by_stage t _ refl refl h

  -- a batch is learned
  pub k-learns : (i : ℕ) (batch : Batch) → Keeps (learns i batch)
  k-learns i batch t h =
      let u = t ▹ shows (Step.Learn t.stage.config.me i) (Deed.Learn i batch) in
      by_stage u (cancels_propose i u) refl refl (by_shows (Step.Learn t.stage.config.me i) (Deed.Learn i batch) t refl h)

  -- an instance is learned where its tally is full
  pub k-learn_check : (i : ℕ) → Keeps (learn_check i)
  k-learn_check i t h = k-some _ _ (k-learns i) t h

  -- a vote
  pub k-votes_for : (view i : ℕ) (batch : Batch) → Keeps (votes_for view i batch)
  k-votes_for view i batch t h = by_shows (Step.Vote t.stage.config.me view i) (Deed.Vote view i batch) t refl h

  -- a batch is launched
  pub k-launches : (i : ℕ) (batch : Batch) → Keeps (launches i batch)
  k-launches i batch t h =
      let s = t.stage in
      let view = s.life.view in
      let m = propose_of view i batch in
      k-when (not (is_known s i)) (arms_propose i m) (λ u j. by_stage u (arms_propose i m u) refl refl j) _
      (k-sends_to_all m _
      (k-notes i view s.config.me (Some batch) _
      (k-votes_for view i batch _ (by_shows (Step.Launch s.config.me view i batch) (Deed.Launch view i batch) t refl h))))

  -- ---- Catching up

  -- a query goes out
  pub k-queries_peer : Keeps queries_peer
  k-queries_peer t h =
      let s = t.stage in
      let query = query_of (first_undecided s) in
      let to = peer s.config.me s.config.n s.queries in
      by_stage (says to query (cancels_query t)) _ refl refl (k-says to query _ (by_stage t (cancels_query t) refl refl h))

  -- a query goes out where one is due
  pub k-query_where_due : Keeps query_where_due
  k-query_where_due t h = k-when _ _ k-queries_peer t h

  -- a query is answered
  pub k-on_query : (p first : ℕ) → Keeps (on_query p first)
  k-on_query p first t h =
      let s = t.stage in
      k-when (not (nat_lt first s.base) && is_some (s.life.known first)) _ (k-says p (Message.CatchUpReply (record { first = first; batches = replied_batches s first }))) _
      (k-when (nat_lt first s.base) _ (k-some s.newest _ (λ snapshot. k-each (parts_of snapshot) _ (k-says p))) t h)

  -- each batch is learned where it may be
  pub k-learns_each : (batches : List Batch) (i : ℕ) → Keeps (learns_each i batches)
  k-learns_each [] i t h = h
  k-learns_each (batch ∷ batches) i t h = k-learns_each batches (suc i) _ (k-when _ _ (k-learns i batch) t h)

  -- known batches come
  pub k-on_batches : (first : ℕ) (batches : List Batch) → Keeps (on_batches first batches)
  k-on_batches first batches t h = k-learns_each batches first (cancels_query t) (by_stage t (cancels_query t) refl refl h)

  -- the joiner is changed
  pub k-keeps_joiner : (j : Option Joiner) → Keeps (keeps_joiner j)
  k-keeps_joiner j t h = by_stage t _ refl refl h

  -- a joiner has one part more
  pub k-has_part : Joins → (j : Joiner) → Keeps (has_part j)
  k-has_part joins j t h =
      k-when (is_joined j) (λ t. t ▹ keeps_joiner None ▹ when_some (state_in (joined_bytes j)) (installs_if j.upto (joined_bytes j)))
      (λ u i. k-some (state_in (joined_bytes j)) _ (λ state v. k-when _ _ (joins j.upto (joined_bytes j) state) v) _ (k-keeps_joiner None u i)) _
      (k-when (not (is_joined j)) _ (k-keeps_joiner (Some j)) t h)

  -- a part is put into the joiner
  pub k-puts_part : Joins → (j : Joiner) (m : SnapshotPart) → Keeps (puts_part j m)
  k-puts_part joins j m t h =
      k-when (not (takes_part j m)) _ (k-keeps_joiner (Some j)) _ (k-when (takes_part j m) _ (k-has_part joins (with_part j m)) t h)

  -- a part comes
  pub k-on_part : Joins → (m : SnapshotPart) → Keeps (on_part m)
  k-on_part joins m t h = k-when _ _ (k-puts_part joins _ m) t h

  -- a snapshot of the own service comes
  pub k-on_snapshot : (upto : ℕ) (bytes : List ℕ) → Keeps (on_snapshot upto bytes)
  k-on_snapshot upto bytes t h =
      let f : Turned → Turned = with_stage (λ s. record s { base = place_of s.newest; newest = Some (record { place = upto; bytes = bytes; installed = false }) }) in
      k-when (nat_lt (place_of t.stage.newest) upto && nat_le upto (first_undecided t.stage)) f (λ u i. by_stage u (f u) refl refl i) t h

  -- ---- Messages

  -- the own view is promised to who asked
  pub k-promises : (p : ℕ) (m : Prepare) → Keeps (promises p m)
  k-promises p m t h =
      let s = t.stage in
      let report = report_from s m.first in
      k-sends p (Message.PrepareOk (record { view = m.view; mark = m.mark; vector = vector_of s; low = s.base; report = report })) _
      (by_shows (Step.Promise s.config.me m.view) (Deed.Promise m.view m.first m.mark s.base report) t refl h)

  -- the same, where it is the asked one
  pub k-promises_if : (p : ℕ) (m : Prepare) → Keeps (promises_if p m)
  k-promises_if p m t h = k-when (t.stage.life.view == m.view) (promises p m) (k-promises p m) t h

  -- a Prepare comes
  pub k-on_prepare : (p : ℕ) (m : Prepare) → Keeps (on_prepare p m)
  k-on_prepare p m t h =
      k-when (works t.stage && leads t.stage p m.view) (λ t. t ▹ raise_up_to m.view ▹ promises_if p m) (λ u i. k-promises_if p m _ (k-raise_up_to m.view u i)) t h

  -- a PrepareOk comes
  pub k-on_prepare_ok : (m : PrepareOk) → Keeps (on_prepare_ok m)
  k-on_prepare_ok m t h = k-when _ _ (k-horizon_to _) t h

  -- a proposal is voted on
  pub k-votes_on : (m : Propose) → Keeps (votes_on m)
  k-votes_on m t h = k-sends_to_all (accept_of m.view m.instance) _ (k-notes m.instance m.view t.stage.config.me None _ (k-votes_for m.view m.instance m.batch t h))

  -- a proposal is voted on where it may be
  pub k-votes_if : (m : Propose) → Keeps (votes_if m)
  k-votes_if m t h = k-when _ _ (k-votes_on m) t h

  -- a Propose comes
  pub k-on_propose : (p : ℕ) (m : Propose) → Keeps (on_propose p m)
  k-on_propose p m t h =
      k-when (leads t.stage p m.view) (λ t. t ▹ horizon_to (suc m.instance) ▹ raise_up_to m.view ▹ notes m.instance m.view p (Some m.batch) ▹ votes_if m ▹ learn_check m.instance)
      (λ u i. k-learn_check m.instance _ (k-votes_if m _ (k-notes m.instance m.view p (Some m.batch) _ (k-raise_up_to m.view _ (k-horizon_to (suc m.instance) u i))))) t h

  -- an Accept comes
  pub k-on_accept : (p view i : ℕ) → Keeps (on_accept p view i)
  k-on_accept p view i t h = k-learn_check _ _ (k-notes _ _ _ _ _ (k-horizon_to _ t h))

  -- a recovery is answered
  pub k-answers : (p mark : ℕ) → Keeps (answers p mark)
  k-answers p mark t h =
      let s = t.stage in
      let next = next_of s.life.leading in
      k-sends _ _ _ (by_shows (Step.Answer s.config.me p s.life.view next) (Deed.Answer p s.life.view next mark) t refl h)

  -- a Recovery comes
  pub k-on_recovery : (p mark : ℕ) → Keeps (on_recovery p mark)
  k-on_recovery p mark t h =
      k-when (works t.stage) (λ t. t ▹ when (is_view_ss t.stage.config.mode) (raise_up_to mark) ▹ answers p mark)
      (λ u i. k-answers p mark _ (k-when (is_view_ss u.stage.config.mode) _ (k-raise_up_to mark) u i)) t h

  -- a RecoveryAnswer comes
  pub k-on_recovery_answer : (m : RecoveryAnswer) → Keeps (on_recovery_answer m)
  k-on_recovery_answer m t h = k-when _ _ (k-some _ _ k-horizon_to) t h

  -- an Alive comes
  pub k-on_alive : (p : ℕ) (m : Alive) → Keeps (on_alive p m)
  k-on_alive p m t h =
      k-when (leads t.stage p m.view) (λ t. t ▹ horizon_to m.first_undecided ▹ raise_up_to m.view) (λ u i. k-raise_up_to m.view _ (k-horizon_to m.first_undecided u i)) t h

  -- a message keeps what holds, where what its kind asks for does
  pub k-on_message : (from : LifeId) (m : Message) → Keeps (on_kind from.replica m) → Keeps (on_message from m)
  k-on_message from m k t h =
      k _ (k-when (leads (does (Deed.Take from m) t).stage from.replica (does (Deed.Take from m) t).stage.life.view) (with_stage (λ s. record s { quiet = 0 })) (k-quiet 0) _ (by_stage t (does (Deed.Take from m) t) refl refl h))

  -- ---- Other items

  -- a tick is counted
  pub k-counts_quiet : Keeps counts_quiet
  k-counts_quiet t h = k-when _ _ k-suspect _ (k-quiet _ t h)

  -- a tick at a Working stage
  pub k-on_tick_working : Keeps on_tick_working
  k-on_tick_working t h =
      let s = t.stage in
      k-when (not (leads_own s) && nat_lt s.quiet quiet_limit) _ k-counts_quiet _ (k-when (leads_own s) _ (k-says_to_all (alive_of s)) t h)

  -- a tick
  pub k-on_tick : Keeps on_tick
  k-on_tick t h = k-query_where_due _ (k-when (works t.stage) _ k-on_tick_working t h)

  -- a closed batch comes
  pub k-on_batch : (batch : Batch) → Keeps (on_batch batch)
  k-on_batch batch t h =
      let s = t.stage in
      let f : Turned → Turned = with_stage (λ s. record s { waiting = s.waiting ++ batch ∷ [] }) in
      k-when (works s && is_leading s.life.leading && nat_lt (length s.waiting) waiting_limit) f (λ u i. by_stage u (f u) refl refl i) t h

  -- ---- Settling

  -- the stage rejoins
  pub k-rejoins : (view : ℕ) → Keeps (rejoins view)
  k-rejoins view t h =
      let s = t.stage in
      let a = t ▹ when (is_view_ss s.config.mode && nat_lt s.life.mark view) (saves view) in
      by_shows (Step.Rejoin s.config.me view) (Deed.Rejoin view) _ refl (by_stage a (a ▹ with_stage (λ s. record s { quiet = 0 }) ▹ cancels_recovery) refl refl (k-when _ _ (k-saves view) t h))

  -- the stage rejoins where the condition holds
  pub k-settles_rejoin : Keeps settles_rejoin
  k-settles_rejoin t h = k-some _ _ k-rejoins t h

  -- an instance is launched with its adopted batch
  pub k-adopts : (lead : Lead) (i : ℕ) → Keeps (adopts lead i)
  k-adopts lead i t h = k-launches i _ _ (k-when _ _ (k-some _ _ (k-learns i)) t h)

  -- a range of instances is launched with their adopted batches
  pub k-adopts_where : (leading : Leading) (from end : ℕ) → Keeps (adopts_where leading from end)
  k-adopts_where No from end t h = h
  k-adopts_where (Preparing first) from end t h = h
  k-adopts_where (Leads lead) from end t h = k-range (end - from) from _ (k-adopts lead) t h

  -- the stage becomes Prepared
  pub k-becomes_prepared : (first : ℕ) → Keeps (becomes_prepared first)
  k-becomes_prepared first t h =
      let s = t.stage in
      let end = adoption_end s first in
      let next = max end (first_undecided s) in
      let u = t ▹ cancels_prepare ▹ shows (Step.Prepared s.config.me s.life.view next) (Deed.Prepared s.life.view next) in
      k-adopts_where u.stage.life.leading (max first s.base) end u
      (by_shows (Step.Prepared s.config.me s.life.view next) (Deed.Prepared s.life.view next) _ refl (by_stage t (cancels_prepare t) refl refl h))

  -- the stage becomes Prepared where the condition holds
  pub k-settles_leading : (leading : Leading) → Keeps (settles_leading leading)
  k-settles_leading No t h = h
  k-settles_leading (Preparing first) t h = k-when _ _ (k-becomes_prepared first) t h
  k-settles_leading (Leads lead) t h = h

  -- the waiting batches are launched
  pub k-launches_waiting : (batches : List Batch) → Keeps (launches_waiting batches)
  k-launches_waiting [] t h = h
  k-launches_waiting (batch ∷ batches) t h =
      k-some (open_place t.stage) (λ i t. launches_waiting batches (t ▹ with_stage (λ s. record s { waiting = batches }) ▹ launches i batch))
      (λ i u j. k-launches_waiting batches _ (k-launches i batch _ (by_stage u (with_stage (λ s. record s { waiting = batches }) u) refl refl j))) t h

  -- settling up to handing on keeps what holds
  pub k-settles : (t : Turned) → P t → P (t ▹ settles_rejoin ▹ settles_prepared ▹ settles_waiting)
  k-settles t h =
      let a = t ▹ settles_rejoin in
      let b = a ▹ settles_prepared in
      k-launches_waiting b.stage.waiting b (k-settles_leading a.stage.life.leading a (k-settles_rejoin t h))

-- ---- Installs

-- the shown Installs are these
abbrev pub Installs : List Step → Turned → Type 0
Installs steps t = shown_where is_install t.acts ≡ steps

-- the shown Installs are kept
pub installs-plain : (steps : List Step) → Plain (Installs steps)
installs-plain steps =
    record {
      shown = λ step t e h. quiet-show is_install step t.acts e ∙ h;
      sent = λ to m t h. quiet-act is_install (Send to m) t.acts refl ∙ h;
      saved = λ n t h. quiet-act is_install (Save n) t.acts refl ∙ h;
      same = λ t u e f h. ap (shown_where is_install) e ∙ h;
    }

-- handing on shows no Install
pub hands-shows : (room : ℕ) (t : Turned) → shown_where is_install (hands_on room t).acts ≡ shown_where is_install t.acts
hands-shows zero t = refl
hands-shows (suc room) t =
    quiet-some is_install (next_handing t.stage) (λ handing u. hands_on room (u ▹ with_stage (λ s. record s { handed = handing.1 }) ▹ hands handing.0))
    (λ handing u. hands-shows room (u ▹ with_stage (λ s. record s { handed = handing.1 }) ▹ hands handing.0) ∙ quiet-act is_install (Hand handing.0) u.acts refl) t

-- ---- A part

-- what joined bytes show: the Install where they are a state of this place
pub state-shows : (upto : ℕ) (bytes : List ℕ) (o : Option State) (t : Turned)
    → shown_where is_install (when_some o (installs_if upto bytes) t).acts ≡ shown_where is_install t.acts ++ installed_at t.stage.config.me upto o
state-shows upto bytes None t = sym (append-nil (shown_where is_install t.acts))
state-shows upto bytes (Some state) t = go (state.executed == upto)
  where
    go : (b : Bool) → shown_where is_install (when b (installs upto bytes state) t).acts ≡ shown_where is_install t.acts ++ (if b then Step.Install t.stage.config.me upto ∷ [] else [])
    go true =
        let u = t ▹ cancels_query ▹ with_stage (λ s. record s { base = upto; newest = Some (record { place = upto; bytes = bytes; installed = true }) }) in
        shows-adds is_install (Step.Install t.stage.config.me upto) (Deed.Install upto state) u refl
    go false = sym (append-nil (shown_where is_install t.acts))

-- what a joiner with one part more shows
pub has-shows : (j : Joiner) (t : Turned) → shown_where is_install (has_part j t).acts ≡ shown_where is_install t.acts ++ installed_of t.stage.config.me j
has-shows j t = go (is_joined j)
  where
    go : (b : Bool) → shown_where is_install
        (t ▹ when (not b) (keeps_joiner (Some j)) ▹ when b (λ t. t ▹ keeps_joiner None ▹ when_some (state_in (joined_bytes j)) (installs_if j.upto (joined_bytes j)))).acts
        ≡ shown_where is_install t.acts ++ (if b then installed_at t.stage.config.me j.upto (state_in (joined_bytes j)) else [])
    go true = state-shows j.upto (joined_bytes j) (state_in (joined_bytes j)) (keeps_joiner None t)
    go false = sym (append-nil (shown_where is_install t.acts))

-- what a part that is put into the joiner shows
pub puts-shows : (j : Joiner) (m : SnapshotPart) (t : Turned) → shown_where is_install (puts_part j m t).acts ≡ shown_where is_install t.acts ++ installed_with t.stage.config.me j m
puts-shows j m t = go (takes_part j m)
  where
    go : (b : Bool) → shown_where is_install (t ▹ when b (has_part (with_part j m)) ▹ when (not b) (keeps_joiner (Some j))).acts
        ≡ shown_where is_install t.acts ++ (if b then installed_of t.stage.config.me (with_part j m) else [])
    go true = has-shows (with_part j m) t
    go false = sym (append-nil (shown_where is_install t.acts))

-- what a part shows
pub part-shows : (from : LifeId) (m : SnapshotPart) (t : Turned)
    → shown_where is_install (on_part m t).acts ≡ shown_where is_install t.acts ++ installed_by t.stage (Came from (Message.SnapshotPart m))
part-shows from m t = go (nat_lt (first_undecided t.stage) m.upto && not (is_joining_above t.stage.joiner m.upto))
  where
    go : (b : Bool) → shown_where is_install (when b (puts_part (joiner_for t.stage.joiner m.upto m.total) m) t).acts
        ≡ shown_where is_install t.acts ++ (if b then installed_with t.stage.config.me (joiner_for t.stage.joiner m.upto m.total) m else [])
    go true = puts-shows (joiner_for t.stage.joiner m.upto m.total) m t
    go false = sym (append-nil (shown_where is_install t.acts))

-- a part installs the same by stages with the same joiner, where the same is known
pub part-same : (s u : Stage) (from : LifeId) (m : SnapshotPart) → u.config ≡ s.config → u.joiner ≡ s.joiner → u.life.known ≡ s.life.known → u.base ≡ s.base
    → installed_by u (Came from (Message.SnapshotPart m)) ≡ installed_by s (Came from (Message.SnapshotPart m))
part-same s u from m config joiner known base = let e = undecided-same s u known base in cc

-- what a part that comes shows
pub part-comes : (s : Stage) (from : LifeId) (m : SnapshotPart)
    → shown_where is_install (on_message from (Message.SnapshotPart m) (untouched s)).acts ≡ installed_by s (Came from (Message.SnapshotPart m))
part-comes s from m = go (leads s from.replica s.life.view)
  where
    go : (b : Bool) → shown_where is_install (on_part m (when b (with_stage (λ s. record s { quiet = 0 })) (does (Deed.Take from (Message.SnapshotPart m)) (untouched s)))).acts
        ≡ installed_by s (Came from (Message.SnapshotPart m))
    go true =
        let t = with_stage (λ s. record s { quiet = 0 }) (does (Deed.Take from (Message.SnapshotPart m)) (untouched s)) in
        part-shows from m t ∙ part-same s t.stage from m refl refl refl refl
    go false =
        let t = does (Deed.Take from (Message.SnapshotPart m)) (untouched s) in
        part-shows from m t ∙ part-same s t.stage from m refl refl refl refl

-- ---- The law

-- an item installs exactly the state that it completes
pub item-installs : (s : Stage) (item : Item) → shown_where is_install (on_item item (untouched s)).acts ≡ installed_by s item
item-installs s (Came from (Message.Prepare m)) = k-on_message (Installs []) (installs-plain []) from (Message.Prepare m) (k-on_prepare (Installs []) (installs-plain []) from.replica m) (untouched s) refl
item-installs s (Came from (Message.PrepareOk m)) = k-on_message (Installs []) (installs-plain []) from (Message.PrepareOk m) (k-on_prepare_ok (Installs []) (installs-plain []) m) (untouched s) refl
item-installs s (Came from (Message.Propose m)) = k-on_message (Installs []) (installs-plain []) from (Message.Propose m) (k-on_propose (Installs []) (installs-plain []) from.replica m) (untouched s) refl
item-installs s (Came from (Message.Accept m)) = k-on_message (Installs []) (installs-plain []) from (Message.Accept m) (k-on_accept (Installs []) (installs-plain []) from.replica m.view m.instance) (untouched s) refl
item-installs s (Came from (Message.Recovery m)) = k-on_message (Installs []) (installs-plain []) from (Message.Recovery m) (k-on_recovery (Installs []) (installs-plain []) from.replica m.mark) (untouched s) refl
item-installs s (Came from (Message.RecoveryAnswer m)) = k-on_message (Installs []) (installs-plain []) from (Message.RecoveryAnswer m) (k-on_recovery_answer (Installs []) (installs-plain []) m) (untouched s) refl
item-installs s (Came from (Message.CatchUpQuery m)) = k-on_message (Installs []) (installs-plain []) from (Message.CatchUpQuery m) (k-on_query (Installs []) (installs-plain []) from.replica m.first) (untouched s) refl
item-installs s (Came from (Message.CatchUpReply m)) = k-on_message (Installs []) (installs-plain []) from (Message.CatchUpReply m) (k-on_batches (Installs []) (installs-plain []) m.first m.batches) (untouched s) refl
item-installs s (Came from (Message.SnapshotPart m)) = part-comes s from m
item-installs s (Came from (Message.Alive m)) = k-on_message (Installs []) (installs-plain []) from (Message.Alive m) (k-on_alive (Installs []) (installs-plain []) from.replica m) (untouched s) refl
item-installs s (Closed batch) = k-on_batch (Installs []) (installs-plain []) batch (untouched s) refl
item-installs s Tick = k-on_tick (Installs []) (installs-plain []) (untouched s) refl
item-installs s Suspect = k-suspect (Installs []) (installs-plain []) (untouched s) refl
item-installs s (Snapped upto bytes) = k-on_snapshot (Installs []) (installs-plain []) upto bytes (untouched s) refl

-- a turn installs exactly the state that its item completes
pub installs_exactly : InstallsExactly
unfolding turn
installs_exactly s item room =
    let t = untouched s ▹ on_item item in
    hands-shows room (t ▹ settles_rejoin ▹ settles_prepared ▹ settles_waiting)
    ∙ k-settles (Installs (shown_where is_install t.acts)) (installs-plain (shown_where is_install t.acts)) t refl
    ∙ item-installs s item

-- Messages: taking them, promising, voting, accepting, answering.
use Rattle.std.proofs.Common.{◌≡◌, ◌≢◌, ℕ, suc, ◌+◌, ◌≤◌, ◌<◌, Bool, true, false, ◌&&◌, not, List, [], ◌∷◌, nat_lt, ◌==◌, if◌then◌else◌, Option, Some, None, refl, sym, ap, subst, ◌∙◌, inl, inr, ⊎_elim, arith, le_refl}
use Rattle.std.proofs.lemmas.Bool.Decides.{eqb_tells}
use Rattle.jp_types.specs.declared.message.Message.{Message}
use Rattle.jp_types.specs.declared.message.Prepare.{Prepare}
use Rattle.jp_types.specs.declared.message.PrepareOk.{PrepareOk}
use Rattle.jp_types.specs.declared.message.Propose.{Propose}
use Rattle.jp_types.specs.declared.message.RecoveryAnswer.{RecoveryAnswer}
use Rattle.jp_types.specs.declared.message.Alive.{Alive}
use Rattle.jp_types.specs.declared.mode.Phase.TheVariants.{Working}
use Rattle.jp_types.specs.declared.mode.Mode.{Mode}
use Rattle.jp_types.specs.declared.mode.Mode.TheVariants.{ViewSs, EpochSs}
use Rattle.paxos_world.specs.declared.step.Step.{Step}
use Rattle.jp_types.specs.Views.{leader}
use Rattle.jp_types.specs.Lists.{In}
use Rattle.paxos_world.specs.Life.{LifeId, Taken, Life, Took, preparing_in, next_of}
use Rattle.jp_types.specs.Instances.{Batch}
use Rattle.paxos_world.specs.Counting.{is_recovering}
use Rattle.paxos_world.specs.World.{Sent, Take, Promise, Vote, Answer, Enter, Open, CanPromise, CanVote, CanAnswer, id_of, sends_of, to_others, stable_after}
use Rattle.paxos_world.specs.Stage.{Config, setup_of, Note, Stage, Turned}
use Rattle.paxos_world.specs.Writing.{◌▹◌, when, when_some, with_stage, does, shows, saves, says, says_to_all, others}
use Rattle.paxos_world.specs.Logs.{is_in_span, report_from, first_undecided}
use Rattle.jp_types.specs.Instances.{span}
use Rattle.paxos_world.specs.Retransmitting.{cancels_prepare, cancels_proposes}
use Rattle.paxos_world.specs.Leading.{works, is_view_ss, leads, raise_to, raise_up_to, begin_phase_1, prepare_of, drop_waiting}
use Rattle.paxos_world.specs.Learning.{horizon_to, notes, learn_check, votes_for, accept_of}
use Rattle.paxos_world.specs.Messages.{vector_of, promises, promises_if, on_prepare, prepares, on_prepare_ok, votes_on, votes_if, on_propose, on_accept, answers, on_recovery, on_recovery_answer, on_alive}
use Rattle.paxos_world.proofs.Basics.{with_at-same}
use Rattle.paxos_world.proofs.Replies.{same}
use Rattle.turn_laws.proofs.Fitting.{NoteTrue, JoinerTrue, IsLimited, Fits, Frame, Goes, to_all}
use Rattle.turn_laws.proofs.Goods.{took-other, took-limited}
use Rattle.turn_laws.proofs.Going.{keep-when, keep-some, keep-each, note-more, joiner-more, stage_after, Follows, turned_to, goes-does}
use Rattle.turn_laws.proofs.Words.{goes-send, goes-shows, goes-owed, who-is, to_all-is, goes-sends-all, onward-deed}
use Rattle.turn_laws.proofs.Scanning.{not-lt-of, and-of, in-span, report-is}
use Rattle.turn_laws.proofs.Arming.{still}
use Rattle.turn_laws.proofs.Raising.{phase-of, goes-raise_up_to}
use Rattle.turn_laws.proofs.Learning.{goes-horizon, goes-notes, goes-learn_check, goes-votes_for, own-accepted}

-- ---- What was taken

-- a message from replica p is among what was taken
abbrev pub Came : Frame → ℕ → Message → Type 0
Came f p m = (x : Taken) × In x f.taken × (x.from.replica ≡ p) × (x.message ≡ m)

pub took-at : (f : Frame) (owed : List Sent) (t : Turned) (p : ℕ) (m : Message) → Goes f owed t → Came f p m → Took t.stage.life p m
took-at f owed t p m h came = (came.0, subst (λ (xs : List Taken). In came.0 xs) (sym h.taken) came.1, came.2, came.3)

pub came-other : (f : Frame) (owed : List Sent) (t : Turned) (p : ℕ) (m : Message) → Goes f owed t → Came f p m → p ≢ t.stage.config.me
came-other f owed t p m h came = took-other (setup_of t.stage.config) h.world t.stage.config.me t.stage.life h.good h.running p m (took-at f owed t p m h came)

pub came-limited : (f : Frame) (owed : List Sent) (t : Turned) (p : ℕ) (m : Message) → Goes f owed t → Came f p m → IsLimited m
came-limited f owed t p m h came = took-limited (setup_of t.stage.config) h.world t.stage.config.me t.stage.life h.good h.running p m (took-at f owed t p m h came)

-- who leads a view is the same throughout a turn
pub leader-same : (f : Frame) (owed : List Sent) (t : Turned) (p view : ℕ) → Goes f owed t → leads t.stage p view ≡ true → leader f.config.n view ≡ p
leader-same f owed t p view h e = subst (λ (k : Config). leader k.n view ≡ p) h.config (same (leader t.stage.config.n view) p e)

pub leader-at : (f : Frame) (owed : List Sent) (t : Turned) (p view : ℕ) → Goes f owed t → leader f.config.n view ≡ p → leader t.stage.config.n view ≡ p
leader-at f owed t p view h e = subst (λ (k : Config). leader k.n view ≡ p) (sym h.config) e

-- the frame after a message was taken
abbrev pub taking : Frame → Life → LifeId → Message → Frame
taking f l from m = turned_to f (record { from = from; message = m; phase = l.phase; preparing = preparing_in l.leading l.view } ∷ l.taken) f.phase f.clean f.ahead

pub goes-take : (f : Frame) (t : Turned) (from : LifeId) (m : Message) (h : Goes (still f) [] t) → In (record { from = from; to = t.stage.config.me; message = m }) h.world.sent
    → Goes (taking (still f) t.stage.life from m) [] (does (Take from m) t) × Came (taking (still f) t.stage.life from m) from.replica m
goes-take f t from m h sent =
    let s = t.stage in
    let l = s.life in
    let c = setup_of s.config in
    let x : Taken = record { from = from; message = m; phase = l.phase; preparing = preparing_in l.leading l.view } in
    let new : Life = record l { taken = x ∷ l.taken } in
    let noted : (y : Note) → In y s.noted → NoteTrue c h.world s.config.me new (s.base + span) y
    = λ y n. note-more c h.world h.world s.config.me l new (s.base + span) (s.base + span) y (λ z j. inr j) (λ z j. j) (λ z j. j) refl (le_refl _) (h.fits.noted y n) in
    let joiner : (j : _) → s.joiner ≡ Some j → JoinerTrue new j = λ j e. joiner-more l new j (λ z i. inr i) (h.fits.joiner j e) in
    let g = h.fits in
    let fits : Fits c h.world s.config.me true (stage_after s (Take from m)) = assumption (noted, joiner, g) in
    let n : Follows (still f) (taking (still f) l from m) h.world s (Take from m) = record {
      can = record { sent = sent };
      fits = fits;
      onward = onward-deed c s.config.me l (Take from m) tt;
      valid = tt;
      taken = refl;
      phase = h.phase;
      stable = λ number a. subst (λ (o : Option ℕ). o ≡ Some s.stable) (sym (take-stable s.config.mode number)) a;
      fresh = λ a p q. h.fresh a p q;
    } in
    (goes-does (still f) (x ∷ l.taken) f.phase true None [] t (Take from m) h n, (x, inl refl, refl, refl))
  where
    take-stable : (mode : Mode) (number : Option ℕ) → stable_after mode number (Take from m) ≡ number
    take-stable ViewSs number = refl
    take-stable EpochSs number = refl

-- ---- Prepare

pub goes-promises : (f : Frame) (t : Turned) (p : ℕ) (m : Prepare) (h : Goes (still f) [] t) → f.phase ≡ Working → t.stage.life.view ≡ m.view → leader f.config.n m.view ≡ p → Came f p (Message.Prepare m)
    → Goes (still f) [] (promises p m t)
goes-promises f t p m h working view led came =
    let s = t.stage in
    let c = setup_of s.config in
    let report = report_from s m.first in
    let leads_here : leader s.config.n m.view ≡ p = leader-at (still f) [] t p m.view h led in
    let asked : Took s.life (leader s.config.n m.view) (Message.Prepare m)
    = subst (λ q. Took s.life q (Message.Prepare m)) (sym leads_here) (took-at (still f) [] t p (Message.Prepare m) h came) in
    let can : CanPromise c s.config.me s.life m.view m.first m.mark s.base report
    = record {
      working = h.phase ∙ working;
      in_view = view;
      asked = asked;
      low_from = h.fits.below;
      low_known = h.fits.base_known;
      reported = report-is c h.world s.config.me true s m.first h.fits;
    } in
    let step = Step.Promise s.config.me m.view in
    let deed = Promise m.view m.first m.mark s.base report in
    let ok = Message.PrepareOk (record { view = m.view; mark = m.mark; vector = vector_of s; low = s.base; report = report }) in
    let g = goes-shows (still f) [] t step deed h tt tt tt can h.fits refl in
    goes-send (still f) [] (shows step deed t) p ok _ (ap (λ (q : ℕ). record { from = id_of s.config.me s.life; to = q; message = ok }) leads_here ∙ ap (λ (i : LifeId). record { from = i; to = p; message = ok }) (who-is (still f) [] t h)) g

pub goes-on_prepare : (f : Frame) (t : Turned) (p : ℕ) (m : Prepare) → Goes (still f) [] t → Came f p (Message.Prepare m) → Goes (still f) [] (on_prepare p m t)
goes-on_prepare f t p m h came =
    keep-when (Goes (still f) []) (works t.stage && leads t.stage p m.view) (λ t. t ▹ raise_up_to m.view ▹ promises_if p m) t
    (λ e. let a = and-of (works t.stage) (leads t.stage p m.view) e in
    let u = raise_up_to m.view t in
    let g = goes-raise_up_to f t m.view h (came-limited (still f) [] t p (Message.Prepare m) h came) in
    keep-when (Goes (still f) []) (u.stage.life.view == m.view) (promises p m) u
    (λ v. goes-promises f u p m g (phase-of (still f) [] t h a.0) (same u.stage.life.view m.view v) (leader-same (still f) [] t p m.view h a.1) came) (λ v. g)) (λ e. h)

pub goes-on_prepare_ok : (f : Frame) (t : Turned) (m : PrepareOk) → Goes (still f) [] t → Goes (still f) [] (on_prepare_ok m t)
goes-on_prepare_ok f t m h = keep-when (Goes (still f) []) (prepares t.stage m.view m.mark) (horizon_to m.low) t (λ e. goes-horizon (still f) [] t m.low h) (λ e. h)

-- ---- Propose and Accept

pub goes-votes_on : (f : Frame) (t : Turned) (p : ℕ) (m : Propose) (h : Goes (still f) [] t) → f.phase ≡ Working → t.stage.life.view ≡ m.view → m.instance < t.stage.base + span → leader f.config.n m.view ≡ p
    → Came f p (Message.Propose m) → Goes (still f) [] (votes_on m t)
goes-votes_on f t p m h working view inside led came =
    let s = t.stage in
    let c = setup_of s.config in
    let r = s.config.me in
    let leads_here : leader s.config.n m.view ≡ p = leader-at (still f) [] t p m.view h led in
    let asked : Took s.life (leader s.config.n m.view) (Message.Propose m)
    = subst (λ q. Took s.life q (Message.Propose m)) (sym leads_here) (took-at (still f) [] t p (Message.Propose m) h came) in
    let accept = accept_of m.view m.instance in
    let other : r ≢ leader s.config.n m.view = λ e. came-other (still f) [] t p (Message.Propose m) h came (sym leads_here ∙ sym e) in
    let can : CanVote c s.life m.view m.instance m.batch = record { working = h.phase ∙ working; in_view = view; proposal = inr asked } in
    let u = votes_for m.view m.instance m.batch t in
    let spoken : sends_of c r s.life (Vote m.view m.instance m.batch) ≡ to_others s.config.n r (id_of r s.life) accept
    = ⊎_elim (λ a. absurd (other a.1)) (λ a. ap (λ (b : Bool). if b then [] else to_others s.config.n r (id_of r s.life) accept) a.0) (eqb_tells r (leader s.config.n m.view)) in
    let g : Goes (still f) (to_all f accept) u
    = goes-owed (still f) _ _ u (spoken ∙ to_all-is (still f) [] t accept h) (goes-votes_for (still f) [] t m.view m.instance m.batch h inside can) in
    let voted : u.stage.life.votes m.instance ≡ Some (m.view, m.batch) = with_at-same s.life.votes m.instance (Some (m.view, m.batch)) in
    let v = notes m.instance m.view r None u in
    let k : Goes (still f) (to_all f accept) v
    = goes-notes (still f) (to_all f accept) u m.instance m.view r None g (λ b e. absurd cc) (own-accepted (still f) (to_all f accept) u m.view m.instance m.batch g voted) in
    (goes-sends-all (still f) accept v k).0

pub goes-votes_if : (f : Frame) (t : Turned) (p : ℕ) (m : Propose) → Goes (still f) [] t → leader f.config.n m.view ≡ p → Came f p (Message.Propose m) → Goes (still f) [] (votes_if m t)
goes-votes_if f t p m h led came =
    keep-when (Goes (still f) []) (works t.stage && (t.stage.life.view == m.view) && is_in_span t.stage m.instance) (votes_on m) t
    (λ e. let a = and-of (works t.stage && (t.stage.life.view == m.view)) (is_in_span t.stage m.instance) e in
    let b = and-of (works t.stage) (t.stage.life.view == m.view) a.0 in
    goes-votes_on f t p m h (phase-of (still f) [] t h b.0) (same t.stage.life.view m.view b.1) (in-span t.stage m.instance a.1).1 led came) (λ e. h)

pub goes-on_propose : (f : Frame) (t : Turned) (p : ℕ) (m : Propose) → Goes (still f) [] t → Came f p (Message.Propose m) → Goes (still f) [] (on_propose p m t)
goes-on_propose f t p m h came =
    keep-when (Goes (still f) []) (leads t.stage p m.view) (λ t. t ▹ horizon_to (suc m.instance) ▹ raise_up_to m.view ▹ notes m.instance m.view p (Some m.batch) ▹ votes_if m ▹ learn_check m.instance) t
    (λ e. let led = leader-same (still f) [] t p m.view h e in
    let a = goes-horizon (still f) [] t (suc m.instance) h in
    let u = horizon_to (suc m.instance) t in
    let b = goes-raise_up_to f u m.view a (came-limited (still f) [] t p (Message.Propose m) h came) in
    let v = raise_up_to m.view u in
    let took : Took v.stage.life p (Message.Propose m) = took-at (still f) [] v p (Message.Propose m) b came in
    let w = notes m.instance m.view p (Some m.batch) v in
    let d : Goes (still f) [] w
    = goes-notes (still f) [] v m.instance m.view p (Some m.batch) b
    (λ x i. let k : m.batch ≡ x = cc in inr (p, subst (λ (y : Batch). Took v.stage.life p (Message.Propose (record m { batch = y }))) k took))
    (inl (sym (leader-at (still f) [] v p m.view b led))) in
    let k = goes-votes_if f w p m d led came in
    goes-learn_check (still f) (votes_if m w) m.instance k) (λ e. h)

pub goes-on_accept : (f : Frame) (t : Turned) (p view i : ℕ) → Goes (still f) [] t → Came f p (Message.Accept (record { view = view; instance = i })) → Goes (still f) [] (on_accept p view i t)
goes-on_accept f t p view i h came =
    let u = horizon_to (suc i) t in
    let a = goes-horizon (still f) [] t (suc i) h in
    let took = took-at (still f) [] u p (Message.Accept (record { view = view; instance = i })) a came in
    let b = goes-notes (still f) [] u i view p None a (λ x e. absurd cc) (inr (inl took)) in
    goes-learn_check (still f) (notes i view p None u) i b

-- ---- Recovery

pub says-all-stage : (m : Message) (t : Turned) → (says_to_all m t).stage ≡ t.stage
says-all-stage m t = keep-each (λ u. u.stage ≡ t.stage) (others t.stage.config) (λ q. says q m) (λ q i u e. e) t refl

-- the view that a stage is raised to
pub raise_to-view : (view : ℕ) (t : Turned) → (raise_to view t).stage.life.view ≡ view
raise_to-view view t =
    let s = t.stage in
    let u = when (is_view_ss s.config.mode && nat_lt s.stable view) (saves view) t in
    let y = u ▹ shows (Step.Enter s.config.me view) (Enter view) ▹ cancels_prepare ▹ cancels_proposes ▹ with_stage (λ s. record s { quiet = 0 }) in
    let z = when (leads s s.config.me view) begin_phase_1 y in
    let opened = λ (first : ℕ). shows (Step.Promise y.stage.config.me y.stage.life.view) (Open y.stage.life.view first) y in
    let e : z.stage.life.view ≡ view
    = keep-when (λ x. x.stage.life.view ≡ view) (leads s s.config.me view) begin_phase_1 y
    (λ b. ap (λ (x : Stage). x.life.view) (says-all-stage (prepare_of y.stage (first_undecided y.stage)) (opened (first_undecided y.stage)))) (λ b. refl) in
    keep-when (λ x. x.stage.life.view ≡ view) (not (leads s s.config.me view)) drop_waiting z (λ b. e) (λ b. e)

pub raise_up_to-view : (view : ℕ) (t : Turned) → works t.stage ≡ true → view ≤ (raise_up_to view t).stage.life.view
raise_up_to-view view t w =
    keep-when (λ x. view ≤ x.stage.life.view) (works t.stage && nat_lt t.stage.life.view view) (raise_to view) t
    (λ e. let a = raise_to-view view t in omega arith)
    (λ e. let b : nat_lt t.stage.life.view view ≡ false = subst (λ (x : Bool). (x && nat_lt t.stage.life.view view) ≡ false) w e in not-lt-of t.stage.life.view view b)

view-of : (mode : Mode) (b : Bool) → is_view_ss mode ≡ b → mode ≡ ViewSs → b ≡ true
view-of ViewSs b e m = sym e
view-of EpochSs b e m = cc

pub goes-answers : (f : Frame) (t : Turned) (p mark : ℕ) (h : Goes (still f) [] t) → f.phase ≡ Working → (t.stage.config.mode ≡ ViewSs → mark ≤ t.stage.life.view) → Came f p (Message.Recovery (record { mark = mark }))
    → Goes (still f) [] (answers p mark t)
goes-answers f t p mark h working high came =
    let s = t.stage in
    let c = setup_of s.config in
    let next = next_of s.life.leading in
    let step = Step.Answer s.config.me p s.life.view next in
    let deed = Answer p s.life.view next mark in
    let can : CanAnswer c s.config.me s.life p s.life.view next mark
    = record { working = h.phase ∙ working; in_view = refl; asked = took-at (still f) [] t p (Message.Recovery (record { mark = mark })) h came; at_least = high; next_is = refl } in
    let k = h.fits in
    let fits : Fits c h.world s.config.me true (stage_after s deed) = assumption k in
    let g = goes-shows (still f) [] t step deed h tt tt tt can fits refl in
    let u = shows step deed t in
    let m = Message.RecoveryAnswer (record { mark = mark; view = s.life.view; vector = vector_of u.stage; next = next }) in
    goes-send (still f) [] u p m _ (ap (λ (i : LifeId). record { from = i; to = p; message = m }) (who-is (still f) [] t h)) g

pub goes-on_recovery : (f : Frame) (t : Turned) (p mark : ℕ) → Goes (still f) [] t → Came f p (Message.Recovery (record { mark = mark })) → Goes (still f) [] (on_recovery p mark t)
goes-on_recovery f t p mark h came =
    keep-when (Goes (still f) []) (works t.stage) (λ t. t ▹ when (is_view_ss t.stage.config.mode) (raise_up_to mark) ▹ answers p mark) t
    (λ e. let limit = came-limited (still f) [] t p (Message.Recovery (record { mark = mark })) h came in
    let b = is_view_ss t.stage.config.mode in
    let u = when b (raise_up_to mark) t in
    let a : Goes (still f) [] u × (b ≡ true → mark ≤ u.stage.life.view)
    = keep-when (λ x. Goes (still f) [] x × (b ≡ true → mark ≤ x.stage.life.view)) b (raise_up_to mark) t
    (λ g. (goes-raise_up_to f t mark h limit, λ k. raise_up_to-view mark t e)) (λ g. (h, λ k. absurd cc)) in
    let config = h.config ∙ sym a.0.config in
    goes-answers f u p mark a.0 (phase-of (still f) [] t h e) (λ m. a.1 (view-of t.stage.config.mode b refl (ap (λ (k : Config). k.mode) config ∙ m))) came) (λ e. h)

pub goes-on_recovery_answer : (f : Frame) (t : Turned) (m : RecoveryAnswer) → Goes (still f) [] t → Goes (still f) [] (on_recovery_answer m t)
goes-on_recovery_answer f t m h =
    keep-when (Goes (still f) []) (is_recovering t.stage.life.phase && (t.stage.life.mark == m.mark)) (when_some m.next horizon_to) t
    (λ e. keep-some (Goes (still f) []) m.next horizon_to t (λ i g. goes-horizon (still f) [] t i h) (λ g. h)) (λ e. h)

pub goes-on_alive : (f : Frame) (t : Turned) (p : ℕ) (m : Alive) → Goes (still f) [] t → Came f p (Message.Alive m) → Goes (still f) [] (on_alive p m t)
goes-on_alive f t p m h came =
    keep-when (Goes (still f) []) (leads t.stage p m.view) (λ t. t ▹ horizon_to m.first_undecided ▹ raise_up_to m.view) t
    (λ e. goes-raise_up_to f (horizon_to m.first_undecided t) m.view (goes-horizon (still f) [] t m.first_undecided h) (came-limited (still f) [] t p (Message.Alive m) h came)) (λ e. h)

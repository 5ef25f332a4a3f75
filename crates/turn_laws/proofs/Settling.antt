-- Settling: rejoining, becoming Prepared, launching what waits, handing on.
use Rattle.std.proofs.Common.{◌≡◌, ℕ, zero, suc, ◌+◌, ◌-◌, ◌≤◌, ◌<◌, ◌⊎◌, max, Bool, true, false, ◌&&◌, ◌||◌, not, List, [], ◌∷◌, nat_le, nat_lt, ◌==◌, if◌then◌else◌, Option, Some, None, is_some, refl, sym, ap, subst, ◌∙◌, inl, inr, ⊎_elim, arith, le_refl, le_trans}
use Rattle.std.proofs.lemmas.Bool.Decides.{eqb_tells}
use Rattle.jp_types.specs.declared.message.Message.{Message}
use Rattle.jp_types.specs.declared.message.Entry.{Entry}
use Rattle.jp_types.specs.declared.message.PrepareOk.{PrepareOk}
use Rattle.jp_types.specs.declared.message.RecoveryAnswer.{RecoveryAnswer}
use Rattle.jp_types.specs.declared.mode.Phase.{Phase}
use Rattle.jp_types.specs.declared.mode.Phase.TheVariants.{Recovering, Working}
use Rattle.jp_types.specs.declared.mode.Mode.{Mode}
use Rattle.jp_types.specs.declared.mode.Mode.TheVariants.{ViewSs, EpochSs}
use Rattle.paxos_world.specs.declared.step.Step.{Step}
use Rattle.jp_types.specs.Views.{leader, majority, count_below, number_if}
use Rattle.jp_types.specs.Lists.{In}
use Rattle.paxos_world.specs.Setup.{Setup}
use Rattle.paxos_world.specs.Life.{Launched, Lead, Leading, No, Preparing, Leads, Life, IsFirstUnknown}
use Rattle.jp_types.specs.Instances.{Batch}
use Rattle.paxos_world.specs.Counting.{Held, is_recovering, counted_ok, is_promised, is_answered}
use Rattle.paxos_world.specs.Adoption.{counted_report}
use Rattle.jp_types.specs.Reports.{decided_below}
use Rattle.jp_types.specs.Reports.{decided_entry, decided_in}
use Rattle.paxos_world.specs.World.{Sent, Rejoin, Prepared, CanRejoin, CanPrepared, CanLaunch, By_report, lead_of, lead_after, stable_after, Enter}
use Rattle.paxos_world.specs.Stage.{Config, setup_of, Outgoing, Stage, Turned}
use Rattle.paxos_world.specs.Writing.{◌▹◌, when, when_some, for_range, with_stage, does, shows, saves}
use Rattle.paxos_world.specs.Logs.{span_end, is_known, first_undecided}
use Rattle.jp_types.specs.Instances.{span}
use Rattle.paxos_world.specs.Retransmitting.{live_at, cancels_prepare, cancels_recovery}
use Rattle.paxos_world.specs.Leading.{is_view_ss}
use Rattle.paxos_world.specs.Learning.{learns, launches}
use Rattle.paxos_world.specs.Settling.{answer_from, view_of_answer, highest_answered, is_next_known, is_leader_ready, is_answered_enough, rejoin_view, rejoins, settles_rejoin, own_end, reported_end, adoption_end, is_promised_enough, low_of, greatest_low, is_prepared, adopts, becomes_prepared, settles_leading, settles_prepared, place_in, open_place, launches_waiting}
use Rattle.paxos_world.proofs.Basics.{lt_or_le}
use Rattle.paxos_world.proofs.Replies.{same}
use Rattle.paxos_world.proofs.Adopting.{decided_in-from, or-some}
use Rattle.paxos_world.proofs.Sound.{top, LifeSound, LaunchedSo, tops_of}
use Rattle.turn_laws.proofs.Fitting.{MayRepeat, SlotTrue, Fits, executions, Frame, Goes}
use Rattle.jp_types.specs.Limits.{IsBatch}
use Rattle.turn_laws.proofs.Sane.{IsSaneLead}
use Rattle.turn_laws.proofs.Going.{keep-when, keep-some, keep-range, stage_after, Follows, turned_to, goes-does}
use Rattle.turn_laws.proofs.Words.{goes-freely, goes-waiting, goes-show, goes-shows, onward-deed}
use Rattle.turn_laws.proofs.Scanning.{le-of, lt-of, and-of, not-known, known-split, span_end-le, undecided-base, undecided-is, report_end-above, own_end-above}
use Rattle.turn_laws.proofs.Arming.{still, Unprepared, goes-cancels_prepare, goes-cancels_recovery}
use Rattle.turn_laws.proofs.Raising.{saved, goes-saves, any-armed, fits-leading}
use Rattle.turn_laws.proofs.Learning.{goes-learns, goes-launches}

-- the life of a turn is sound
pub sound-of : (f : Frame) (owed : List Sent) (t : Turned) (h : Goes f owed t)
    → LifeSound (setup_of t.stage.config) t.stage.config.me (h.world.replicas t.stage.config.me).starts (top (h.world.replicas t.stage.config.me).stable) (tops_of h.world) h.world.sent t.stage.life
sound-of f owed t h = (h.good.sound.replica t.stage.config.me).life t.stage.life h.running

-- the frame with this phase
abbrev pub in_phase : Frame → Phase → Frame
in_phase f phase = turned_to f f.taken phase true None

-- ---- Rejoining

recovering-of : (p : Phase) → is_recovering p ≡ true → p ≡ Recovering
recovering-of Recovering e = refl
recovering-of Working e = cc

pub highest-above : (k : ℕ) (s : Stage) (p : ℕ) (h : Held RecoveryAnswer) → p < k → answer_from s p ≡ Some h → h.body.view ≤ highest_answered k s
highest-above zero s p h lt e = absurd (omega arith)
highest-above (suc k) s p h lt e =
    elim (eqb_tells p k) [
      | inl a ↦ (let f : answer_from s k ≡ Some h = subst (λ x. answer_from s x ≡ Some h) a.1 e in let g : view_of_answer (answer_from s k) ≡ h.body.view = ap view_of_answer f in omega arith)
      | inr a ↦ (let ne = a.1 in let g = highest-above k s p h (omega arith) e in omega arith)
    ]

-- what the answer of a leader says where the test of it passes
record Ready (o : Option (Held RecoveryAnswer)) (view undecided : ℕ) : Type 0 where
  answer : Held RecoveryAnswer
  is : o ≡ Some answer
  view_is : answer.body.view ≡ view
  next : ℕ
  next_is : answer.body.next ≡ Some next
  low : next ≤ undecided

next-of : (o : Option ℕ) (undecided : ℕ) → is_next_known o undecided ≡ true → (next : ℕ) × (o ≡ Some next) × (next ≤ undecided)
next-of None undecided e = absurd cc
next-of (Some next) undecided e = (next, refl, le-of next undecided e)

ready-of : (o : Option (Held RecoveryAnswer)) (view undecided : ℕ) → is_leader_ready o view undecided ≡ true → Ready o view undecided
ready-of None view undecided e = absurd cc
ready-of (Some h) view undecided e =
    let a = and-of (h.body.view == view) (is_next_known h.body.next undecided) e in
    let b = next-of h.body.next undecided a.1 in
    record { answer = h; is = refl; view_is = same h.body.view view a.0; next = b.0; next_is = b.1; low = b.2 }

number-of : (b : Bool) (k view : ℕ) → number_if b k ≡ Some view → (b ≡ true) × (k ≡ view)
number-of true k view e = (refl, cc)
number-of false k view e = absurd cc

rejoin-can : (f : Frame) (t : Turned) (view : ℕ) (h : Goes (still f) [] t) → rejoin_view t.stage ≡ Some view → CanRejoin (setup_of t.stage.config) t.stage.config.me t.stage.life view
rejoin-can f t view h e =
    let s = t.stage in
    let top_view = highest_answered s.config.n s in
    let leader_answer = answer_from s (leader s.config.n top_view) in
    let a = number-of (is_recovering s.life.phase && is_answered_enough s && is_leader_ready leader_answer top_view (first_undecided s)) top_view view e in
    let b = and-of (is_recovering s.life.phase && is_answered_enough s) (is_leader_ready leader_answer top_view (first_undecided s)) a.0 in
    let d = and-of (is_recovering s.life.phase) (is_answered_enough s) b.0 in
    let r = ready-of leader_answer top_view (first_undecided s) b.1 in
    let c = setup_of s.config in
    let can : CanRejoin c s.config.me s.life top_view = record {
      recovering = recovering-of s.life.phase d.0;
      quorum = le-of (majority s.config.n) (count_below s.config.n (is_answered c s.config.me s.life)) d.1;
      highest = λ p k lt g. highest-above s.config.n s p k lt g;
      leader_answer = r.answer;
      leader_counted = r.is;
      leader_view = r.view_is;
      next = r.next;
      leader_next = r.next_is;
      known = λ i lt. (let low = r.low in (undecided-is c h.world s.config.me true s h.fits).below i (omega arith));
    } in
    subst (λ v. CanRejoin c s.config.me s.life v) a.1 can

-- the test whether to save, by the mark or by the number on the disk, which are the same
test-same : (mode : Mode) (stable mark view : ℕ) → (mode ≡ ViewSs → stable ≡ mark) → (is_view_ss mode && nat_lt stable view) ≡ (is_view_ss mode && nat_lt mark view)
test-same ViewSs stable mark view e = ap (λ k. nat_lt k view) (e refl)
test-same EpochSs stable mark view e = refl

-- a slot that repeats no Prepare, after the life's phase and view changed
phase-slot : (r : ℕ) (l : Life) (phase : Phase) (view k : ℕ) (o : Outgoing) → SlotTrue r l None true k o → SlotTrue r (record l { phase = phase; view = view }) None true k o
phase-slot r l phase view k o h = (h.0, go o.message h.1)
  where
    go : (x : Message) → MayRepeat l None true k x → MayRepeat (record l { phase = phase; view = view }) None true k x
    go (Message.Prepare x) a = absurd a.0
    go (Message.Recovery x) a = a
    go (Message.Propose x) a = a
    go (Message.CatchUpQuery x) a = tt
    go (Message.PrepareOk x) a = absurd a
    go (Message.Accept x) a = absurd a
    go (Message.RecoveryAnswer x) a = absurd a
    go (Message.CatchUpReply x) a = absurd a
    go (Message.SnapshotPart x) a = absurd a
    go (Message.Alive x) a = absurd a

rejoin-stable : (mode : Mode) (number : Option ℕ) (view s : ℕ) → stable_after mode number (Enter view) ≡ Some s → stable_after mode number (Rejoin view) ≡ Some s
rejoin-stable ViewSs number view s e = e
rejoin-stable EpochSs number view s e = e

goes-rejoin : (f : Frame) (t : Turned) (view : ℕ) (step : Step) → executions step ≡ [] → (h : Goes (saved f view) [] t) → CanRejoin (setup_of t.stage.config) t.stage.config.me t.stage.life view → Goes (in_phase f Working) [] (shows step (Rejoin view) t)
goes-rejoin f t view step quiet h can =
    let s = t.stage in
    let c = setup_of s.config in
    let r = s.config.me in
    let l : Life = record s.life { phase = Working; view = view } in
    let idle : s.life.leading ≡ No = ((sound-of (saved f view) [] t h).waiting can.recovering).1 in
    let none : Unprepared s = λ k o e. let a = h.fits.slots k o e in
    (a.0, none-of k o.message a.1 idle) in
    let slots : (k : ℕ) (o : Outgoing) → live_at s.slots k ≡ Some o → SlotTrue r l s.armed_prepare true k o
    = λ k o e. any-armed r l s.armed_prepare true k o (phase-slot r s.life Working view k o (none k o e)) in
    let g = h.fits in
    let fits : Fits c h.world r true (stage_after s (Rejoin view)) = assumption (slots, g) in
    let n : Follows (saved f view) (in_phase f Working) h.world s (Rejoin view) = record {
      can = can;
      fits = fits;
      onward = onward-deed c r s.life (Rejoin view) tt;
      valid = tt;
      taken = h.taken;
      phase = refl;
      stable = λ number a. rejoin-stable s.config.mode number view s.stable a;
      fresh = λ a p. absurd cc;
    } in
    goes-show (in_phase f Working) [] (does (Rejoin view) t) step quiet (goes-does (saved f view) f.taken Working true None [] t (Rejoin view) h n)
  where
    none-of : (k : ℕ) (x : Message) → MayRepeat t.stage.life t.stage.armed_prepare true k x → t.stage.life.leading ≡ No → MayRepeat t.stage.life None true k x
    none-of k (Message.Prepare x) a idle = absurd (let b = (a.1 refl).0 in cc)
    none-of k (Message.Recovery x) a idle = a
    none-of k (Message.Propose x) a idle = a
    none-of k (Message.CatchUpQuery x) a idle = tt
    none-of k (Message.PrepareOk x) a idle = absurd a
    none-of k (Message.Accept x) a idle = absurd a
    none-of k (Message.RecoveryAnswer x) a idle = absurd a
    none-of k (Message.CatchUpReply x) a idle = absurd a
    none-of k (Message.SnapshotPart x) a idle = absurd a
    none-of k (Message.Alive x) a idle = absurd a

pub goes-rejoins : (f : Frame) (t : Turned) (view : ℕ) (h : Goes (still f) [] t) → rejoin_view t.stage ≡ Some view → Goes (in_phase f Working) [] (rejoins view t)
goes-rejoins f t view h e =
    let s = t.stage in
    let can = rejoin-can f t view h e in
    let recovering : f.phase ≡ Recovering = sym h.phase ∙ can.recovering in
    let b = is_view_ss s.config.mode && nat_lt s.life.mark view in
    let test : (is_view_ss s.config.mode && nat_lt s.stable view) ≡ b = test-same s.config.mode s.stable s.life.mark view (λ m. h.fresh refl recovering m) in
    let a = goes-saves f t view b h test in
    let u = when b (saves view) t in
    let config : s.config ≡ u.stage.config = h.config ∙ sym a.0.config in
    let v = with_stage (λ s. record s { quiet = 0 }) u in
    let d = goes-freely (saved f view) [] u (record u.stage { quiet = 0 }) a.0 in
    let w = cancels_recovery v in
    let g = goes-cancels_recovery (saved f view) [] v d in
    let can_here : CanRejoin (setup_of u.stage.config) u.stage.config.me u.stage.life view
    = subst (λ (k : Config). CanRejoin (setup_of k) k.me u.stage.life view) config (subst (λ (l : Life). CanRejoin (setup_of s.config) s.config.me l view) (sym a.1) can) in
    goes-rejoin f w view (Step.Rejoin s.config.me view) refl g can_here

-- a turn is lawful so far, in some phase
abbrev pub GoesOn : Frame → Turned → Type 0
GoesOn f t = (p : Phase) × Goes (in_phase f p) [] t

pub goes-settles_rejoin : (f : Frame) (t : Turned) → Goes (still f) [] t → GoesOn f (settles_rejoin t)
goes-settles_rejoin f t h =
    keep-some (GoesOn f) (rejoin_view t.stage) rejoins t (λ view e. (Working, goes-rejoins f t view h e)) (λ e. (f.phase, h))

-- ---- Becoming Prepared

adoption_end-is : (s : Stage) (first : ℕ) → adoption_end s first ≡ max (reported_end s.config.n s) (own_end span s.life s.base first)
unfolding adoption_end
adoption_end-is s first = refl

low-below : (k : ℕ) (s : Stage) (p : ℕ) (h : Held PrepareOk) → p < k → counted_ok (setup_of s.config) s.config.me s.life p ≡ Some h → h.body.low ≤ greatest_low k s
low-below zero s p h lt e = absurd (omega arith)
low-below (suc k) s p h lt e =
    elim (eqb_tells p k) [
      | inl a ↦ (let f : counted_ok (setup_of s.config) s.config.me s.life k ≡ Some h = subst (λ x. counted_ok (setup_of s.config) s.config.me s.life x ≡ Some h) a.1 e in let g : low_of (counted_ok (setup_of s.config) s.config.me s.life k) ≡ h.body.low = ap low_of f in omega arith)
      | inr a ↦ (let ne = a.1 in let g = low-below k s p h (omega arith) e in omega arith)
    ]

reported-above : (k : ℕ) (s : Stage) (p : ℕ) (e : Entry) → p < k → In e (counted_report (setup_of s.config) s.config.me s.life p) → e.instance < reported_end k s
reported-above zero s p e lt n = absurd (omega arith)
reported-above (suc k) s p e lt n =
    elim (eqb_tells p k) [
      | inl a ↦ (let m : In e (counted_report (setup_of s.config) s.config.me s.life k) = subst (λ x. In e (counted_report (setup_of s.config) s.config.me s.life x)) a.1 n in let g = report_end-above (counted_report (setup_of s.config) s.config.me s.life k) e m in omega arith)
      | inr a ↦ (let ne = a.1 in let g = reported-above k s p e (omega arith) n in omega arith)
    ]

or-right-true : (a : Bool) → (a || true) ≡ true
or-right-true true = refl
or-right-true false = refl

-- `next` of a stage that becomes Prepared
abbrev next_of : Stage → ℕ → ℕ
next_of s first = max (adoption_end s first) (first_undecided s)

prepared-can : (f : Frame) (t : Turned) (first : ℕ) (h : Goes (still f) [] t) → t.stage.life.leading ≡ Preparing first → is_prepared t.stage first ≡ true
    → CanPrepared (setup_of t.stage.config) t.stage.config.me t.stage.life t.stage.life.view (next_of t.stage first)
prepared-can f t first h preparing e =
    record {
      in_view = refl;
      first = first;
      preparing = preparing;
      quorum = le-of (majority s.config.n) (count_below s.config.n (is_promised c s.config.me s.life)) tests.0;
      lows = λ p k lt g i less. (let low = low-below s.config.n s p k lt g in let b = le-of (greatest_low s.config.n s) (first_undecided s) tests.1 in unknown.below i (omega arith));
      above_reports = λ p e lt n. (let a = reported-above s.config.n s p e lt n in let b = adoption_end-is s first in omega arith);
      above_known = λ i lo k. ⊎_elim (λ a. low i a) (λ a. high i lo (h.fits.known_end i a.0 a.1) (subst (λ (o : Option Batch). (is_some (s.life.votes i) || is_some o) ≡ true) (sym a.1) (or-right-true (is_some (s.life.votes i))))) (known-split c h.world s.config.me true s i h.fits k);
      above_voted = λ i v lo g. high i lo (h.fits.voted_end i v g) (subst (λ (o : Option (ℕ × Batch)). (is_some o || is_some (s.life.known i)) ≡ true) (sym g) refl);
      unknown = first_undecided s;
      first_unknown = unknown;
      at_least = omega arith;
    }
  where
    s : Stage
    s = t.stage

    c : Setup
    c = setup_of s.config

    unknown : IsFirstUnknown s.life (first_undecided s)
    unknown = undecided-is c h.world s.config.me true s h.fits

    tests : (is_promised_enough s ≡ true) × (nat_le (greatest_low s.config.n s) (first_undecided s) ≡ true) × (nat_le (adoption_end s first) (span_end s) ≡ true)
    tests =
        let a = and-of (is_promised_enough s && nat_le (greatest_low s.config.n s) (first_undecided s)) (nat_le (adoption_end s first) (span_end s)) e in
        let b = and-of (is_promised_enough s) (nat_le (greatest_low s.config.n s) (first_undecided s)) a.0 in
        (b.0, b.1, a.1)

    low : (i : ℕ) → i < s.base → i < next_of s first
    low i lt = let a = undecided-base s in omega arith

    high : (i : ℕ) → first ≤ i → i < s.base + span → (is_some (s.life.votes i) || is_some (s.life.known i)) ≡ true → i < next_of s first
    high i lo end has =
        ⊎_elim (λ lt. low i lt) (λ ge. let a = own_end-above span s.life s.base first i ge end lo has in let b = adoption_end-is s first in omega arith) (lt_or_le i s.base)

-- ---- Adopting

-- a turn in which the instances below i were launched with their adopted batches
record Adopting (f : Frame) (lead : Lead) (view base i : ℕ) (t : Turned) : Type 0 where
  goes : Goes (still f) [] t
  leading : t.stage.life.leading ≡ Leads lead
  view_is : t.stage.life.view ≡ view
  base_is : t.stage.base ≡ base
  launched : (y : Launched) → In y t.stage.life.launched → y.view ≡ view → y.instance < i

decided-from : (n : ℕ) (reports : ℕ → List Entry) (i : ℕ) (b : Batch) → decided_below n reports i ≡ Some b → (p : ℕ) × (p < n) × In (decided_entry i b) (reports p)
decided-from zero reports i b e = absurd cc
decided-from (suc k) reports i b e =
    elim (or-some (decided_below k reports i) (decided_in i (reports k)) b e) [
      | inl a ↦ (let r = decided-from k reports i b a in (r.0, omega arith, r.2))
      | inr a ↦ (k, omega arith, decided_in-from i (reports k) b a)
    ]

not-of : (b : Bool) → not b ≡ true → b ≡ false
not-of true e = cc
not-of false e = refl

adopting-learns : (f : Frame) (lead : Lead) (view base i : ℕ) (t : Turned) → Adopting f lead view base i t → i < base + span
    → Adopting f lead view base i (when (not (is_known t.stage i)) (when_some (decided_below t.stage.config.n lead.reports i) (learns i)) t)
adopting-learns f lead view base i t h inside =
    keep-when (Adopting f lead view base i) (not (is_known t.stage i)) (when_some (decided_below t.stage.config.n lead.reports i) (learns i)) t
    (λ e. keep-some (Adopting f lead view base i) (decided_below t.stage.config.n lead.reports i) (learns i) t
    (λ batch g.
    let a = decided-from t.stage.config.n lead.reports i batch g in
    let new = (not-known t.stage i (not-of (is_known t.stage i) e)).1 in
    let b = h.base_is in
    record {
      goes = goes-learns (still f) t i batch h.goes new (omega arith) (By_report lead a.0 h.leading a.1 a.2);
      leading = h.leading;
      view_is = h.view_is;
      base_is = h.base_is;
      launched = h.launched;
    }) (λ g. h)) (λ e. h)

next-kept : (i next : ℕ) → i < next → (if i == next then suc i else next) ≡ next
next-kept i next lt = elim (eqb_tells i next) [ inl a ↦ (let b = a.1 in absurd (omega arith)) | inr a ↦ ap (λ (b : Bool). if b then suc i else next) a.0 ]

adopting-launches : (f : Frame) (lead : Lead) (view base i : ℕ) (t : Turned) → Adopting f lead view base i t → i < base + span → i < lead.x → lead.x ≤ lead.next → lead.floor ≤ i
    → Adopting f lead view base (suc i) (launches i (lead.adopted i) t)
adopting-launches f lead view base i t h inside under up floor =
    let l = t.stage.life in
    let b = h.base_is in
    let can : CanLaunch l l.view i (lead.adopted i) = record {
      in_view = refl;
      lead = lead;
      leads = h.leading;
      once = λ other n. (let a = h.launched _ n h.view_is in omega arith);
      may = inl (under, floor, refl);
    } in
    let g = goes-launches f t i (lead.adopted i) h.goes (omega arith) (adopted h.goes h.leading) can in
    let kept : lead_after l.leading i ≡ Leads lead = ap (λ (x : Leading). lead_after x i) h.leading ∙ ap (λ n. Leads (record lead { next = n })) (next-kept i lead.next (omega arith)) in
    record {
      goes = g.0;
      leading = ap (λ (x : Life). x.leading) g.1 ∙ kept;
      view_is = ap (λ (x : Life). x.view) g.1 ∙ h.view_is;
      base_is = g.2 ∙ h.base_is;
      launched = λ y n v. more y v (subst (λ (x : Life). In y x.launched) g.1 n);
    }
  where
    adopted : Goes (still f) [] t → t.stage.life.leading ≡ Leads lead → IsBatch (lead.adopted i)
    adopted g e = (subst IsSaneLead e (g.sane.lives t.stage.config.me t.stage.life g.running).leading).0 i

    more : (y : Launched) → y.view ≡ view → In y (record { view = t.stage.life.view; instance = i; batch = lead.adopted i } ∷ t.stage.life.launched) → y.instance < suc i
    more y v (inl e) = let a = ap (λ (x : Launched). x.instance) e in omega arith
    more y v (inr n) = let a = h.launched y n v in omega arith

goes-adopts_range : (f : Frame) (lead : Lead) (view base low end : ℕ) (t : Turned) → Adopting f lead view base low t → base ≤ low → end ≤ base + span → end ≤ lead.x → lead.x ≤ lead.next → lead.floor ≤ base
    → Goes (still f) [] (for_range (end - low) low (adopts lead) t)
goes-adopts_range f lead view base low end t h from inside under up floor =
    (keep-range (Adopting f lead view base) (end - low) low (adopts lead)
    (λ i a b x k. adopting-launches f lead view base i (when (not (is_known x.stage i)) (when_some (decided_below x.stage.config.n lead.reports i) (learns i)) x)
    (adopting-learns f lead view base i x k (omega arith)) (omega arith) (omega arith) up (omega arith)) t h).goes

goes-becomes_prepared : (f : Frame) (t : Turned) (first : ℕ) (h : Goes (still f) [] t) → t.stage.life.leading ≡ Preparing first → is_prepared t.stage first ≡ true → Goes (still f) [] (becomes_prepared first t)
goes-becomes_prepared f t first h preparing e =
    goes-adopts_range f lead s.life.view s.base (max first s.base) (adoption_end s first) v adopting (omega arith) ends (omega arith) (le_refl _) h.fits.below
  where
    s : Stage
    s = t.stage

    c : Setup
    c = setup_of s.config

    x : ℕ
    x = next_of s first

    lead : Lead
    lead = lead_of c s.config.me s.life x

    u : Turned
    u = cancels_prepare t

    a : Goes (still f) [] u
    a = goes-cancels_prepare (still f) [] t h

    step : Step
    step = Step.Prepared s.config.me s.life.view x

    v : Turned
    v = shows step (Prepared s.life.view x) u

    prepared : Goes (still f) [] v
    prepared = goes-shows (still f) [] u step (Prepared s.life.view x) a tt tt tt (prepared-can f t first h preparing e) (fits-leading c a.world s.config.me u.stage (Leads lead) a.fits a.fits.slots) refl

    ends : adoption_end s first ≤ s.base + span
    ends =
        let b = (and-of (is_promised_enough s && nat_le (greatest_low s.config.n s) (first_undecided s)) (nat_le (adoption_end s first) (span_end s)) e).1 in
        le_trans (le-of (adoption_end s first) (span_end s) b) (span_end-le s)

    launched : (y : Launched) → In y s.life.launched → y.view ≡ s.life.view → y.instance < max first s.base
    launched y n same_view = let b : y.view < s.life.view = subst (λ (k : Leading). LaunchedSo s.life.view k y) preparing ((sound-of (still f) [] t h).launched y n) in absurd (omega arith)

    adopting : Adopting f lead s.life.view s.base (max first s.base) v
    adopting = record { goes = prepared; leading = refl; view_is = refl; base_is = refl; launched = launched }

pub goes-settles_prepared : (f : Frame) (t : Turned) → Goes (still f) [] t → Goes (still f) [] (settles_prepared t)
goes-settles_prepared f t h = go t.stage.life.leading refl
  where
    go : (b : Leading) → t.stage.life.leading ≡ b → Goes (still f) [] (settles_leading b t)
    go No e = h
    go (Preparing first) e = keep-when (Goes (still f) []) (is_prepared t.stage first) (becomes_prepared first) t (λ g. goes-becomes_prepared f t first h e g) (λ g. h)
    go (Leads lead) e = h

-- ---- Waiting

-- the instance for the next waiting batch is `next` of a Prepared leader, in span
record Placed (b : Leading) (s : Stage) (i : ℕ) : Type 0 where
  lead : Lead
  leads : b ≡ Leads lead
  is : i ≡ lead.next
  inside : i < s.base + span

placed-of : (b : Leading) (s : Stage) (i : ℕ) → place_in b s ≡ Some i → Placed b s i
placed-of No s i e = absurd cc
placed-of (Preparing first) s i e = absurd cc
placed-of (Leads lead) s i e =
    let a = number-of (nat_lt lead.next (first_undecided s + s.config.window) && nat_lt lead.next (span_end s)) lead.next i e in
    let b = and-of (nat_lt lead.next (first_undecided s + s.config.window)) (nat_lt lead.next (span_end s)) a.0 in
    let d = lt-of lead.next (span_end s) b.1 in
    let up = span_end-le s in
    let is = a.1 in
    record { lead = lead; leads = refl; is = sym a.1; inside = omega arith }

pub goes-launches_waiting : (f : Frame) (batches : List Batch) (t : Turned) → Goes (still f) [] t → ((batch : Batch) → In batch batches → IsBatch batch) → Goes (still f) [] (launches_waiting batches t)
goes-launches_waiting f [] t h are = h
goes-launches_waiting f (batch ∷ batches) t h are =
    keep-some (Goes (still f) []) (open_place t.stage) (λ i t. launches_waiting batches (t ▹ with_stage (λ s. record s { waiting = batches }) ▹ launches i batch)) t
    (λ i e. goes-launches_waiting f batches (launches i batch u) (launch i e) (λ b n. are b (inr n))) (λ e. h)
  where
    u : Turned
    u = with_stage (λ s. record s { waiting = batches }) t

    a : Goes (still f) [] u
    a = goes-waiting (still f) [] t batches h (λ b n. are b (inr n))

    launch : (i : ℕ) → open_place t.stage ≡ Some i → Goes (still f) [] (launches i batch u)
    launch i e =
        let p = placed-of t.stage.life.leading t.stage i e in
        let l = t.stage.life in
        let sound = sound-of (still f) [] t h in
        let up = sound.next p.lead p.leads in
        let is = p.is in
        let can : CanLaunch l l.view i batch = record {
          in_view = refl;
          lead = p.lead;
          leads = p.leads;
          once = λ other n. once p.lead (subst (λ (k : Leading). LaunchedSo l.view k (record { view = l.view; instance = i; batch = other })) p.leads (sound.launched _ n)) is;
          may = inr (omega arith, is);
        } in
        (goes-launches f u i batch a p.inside (are batch (inl refl)) can).0
      where
        once : (lead : Lead) → (t.stage.life.view < t.stage.life.view) ⊎ ((t.stage.life.view ≡ t.stage.life.view) × (i < lead.next)) → i ≡ lead.next → ⊥
        once lead (inl lt) is = omega arith
        once lead (inr b) is = let lt = b.1 in omega arith

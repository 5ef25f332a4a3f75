-- Raising the view, and phase 1.
use Rattle.std.proofs.Common.{◌≡◌, ◌≢◌, ℕ, ◌≤◌, ◌<◌, max, Bool, true, false, ◌&&◌, not, List, [], ◌∷◌, ◌++◌, nat_lt, nat_le, Option, Some, None, refl, sym, ap, subst, ◌∙◌, arith, append-nil}
use Rattle.jp_types.specs.declared.message.Message.{Message}
use Rattle.jp_types.specs.declared.message.Prepare.{Prepare}
use Rattle.jp_types.specs.declared.mode.Phase.{Phase}
use Rattle.jp_types.specs.declared.mode.Phase.TheVariants.{Recovering, Working}
use Rattle.jp_types.specs.declared.mode.Mode.{Mode}
use Rattle.jp_types.specs.declared.mode.Mode.TheVariants.{ViewSs, EpochSs}
use Rattle.paxos_world.specs.declared.step.Step.{Step}
use Rattle.jp_types.specs.Views.{leader, number_limit, number_if, within_limit, next_led}
use Rattle.paxos_world.specs.Setup.{Setup}
use Rattle.paxos_world.specs.Life.{Life, Leading, No, Preparing, IsFirstUnknown}
use Rattle.paxos_world.specs.World.{World, Sent, Enter, Open, CanEnter, CanOpen, raised}
use Rattle.paxos_world.specs.Stage.{Config, setup_of, Outgoing, Armed, Stage, Save, Turned}
use Rattle.paxos_world.specs.Writing.{when, when_some, with_stage, does, shows, saves, says_to_all}
use Rattle.paxos_world.specs.Logs.{first_undecided}
use Rattle.paxos_world.specs.Retransmitting.{live_at, cancels_prepare, cancels_proposes}
use Rattle.paxos_world.specs.Leading.{is_working, works, is_view_ss, leads, prepare_of, begin_from, begin_phase_1, drop_waiting, raise_to, raise_up_to, suspect}
use Rattle.paxos_world.proofs.Replies.{same}
use Rattle.turn_laws.proofs.Fitting.{MayRepeat, SlotTrue, Fits, executions, Ahead, Frame, who_of, Goes}
use Rattle.turn_laws.proofs.Going.{keep-when, keep-some, sent_by-append, handed_by-append, shown_by-append, stage_after, Follows, turned_to, goes-does}
use Rattle.turn_laws.proofs.Words.{goes-re, goes-freely, goes-waiting, goes-show, goes-shows, goes-says-all, onward-deed}
use Rattle.turn_laws.proofs.Scanning.{le-of, lt-of, not-lt-of, and-of, undecided-is}
use Rattle.turn_laws.proofs.Arming.{still, unclean, Unprepared, goes-cancels_prepare, goes-cancels_proposes, goes-arms_prepare}
use Rattle.turn_laws.specs.Nodes.{sent_by}

-- ---- Tests

pub working-of : (p : Phase) → is_working p ≡ true → p ≡ Working
working-of Recovering e = cc
working-of Working e = refl

pub phase-of : (f : Frame) (owed : List Sent) (t : Turned) → Goes f owed t → works t.stage ≡ true → f.phase ≡ Working
phase-of f owed t h e = sym h.phase ∙ working-of t.stage.life.phase e

-- ---- Saving ahead

ahead-saved : (mode : Mode) (number : Option ℕ) (s view : ℕ) → number ≡ Some s → (is_view_ss mode && nat_lt s view) ≡ true → Ahead (Some view) mode number view
ahead-saved EpochSs number s view e b = cc
ahead-saved ViewSs number s view e b = let lt = lt-of s view b in let m : max s view ≡ view = omega arith in ap (λ o. raised o view) e ∙ ap Some m

ahead-kept : (mode : Mode) (number : Option ℕ) (s view : ℕ) → number ≡ Some s → (is_view_ss mode && nat_lt s view) ≡ false → Ahead (Some view) mode number s
ahead-kept EpochSs number s view e b = e
ahead-kept ViewSs number s view e b = let le = not-lt-of s view b in let m : max s view ≡ s = omega arith in ap (λ o. raised o view) e ∙ ap Some m

-- a frame in which a view was saved where it had to be
abbrev pub saved : Frame → ℕ → Frame
saved f view = turned_to f f.taken f.phase true (Some view)

pub goes-saves : (f : Frame) (t : Turned) (view : ℕ) (b : Bool) (h : Goes (still f) [] t) → (is_view_ss t.stage.config.mode && nat_lt t.stage.stable view) ≡ b
    → Goes (saved f view) [] (when b (saves view) t) × ((when b (saves view) t).stage.life ≡ t.stage.life)
goes-saves f t view true h e =
    let s = t.stage in
    let a : sent_by (who_of f) (t.acts ++ Save view ∷ []) ≡ sent_by (who_of f) t.acts = sent_by-append (who_of f) t.acts (Save view ∷ []) ∙ append-nil _ in (
      goes-re (still f) true (Some view) [] [] t (record s { stable = view }) (t.acts ++ Save view ∷ []) h
          (let g = h.fits in assumption g) (ahead-saved s.config.mode _ s.stable view h.stable e) (λ n. absurd cc)
          (h.sent ∙ sym (ap (λ (xs : List Sent). (f.sent ++ xs) ++ []) a)) (handed_by-append t.acts (Save view ∷ []) ∙ append-nil _ ∙ h.handed.0, shown_by-append t.acts (Save view ∷ []) ∙ append-nil _ ∙ h.handed.1),
      refl,
    )
goes-saves f t view false h e =
    let s = t.stage in
    (goes-re (still f) true (Some view) [] [] t s t.acts h h.fits (ahead-kept s.config.mode _ s.stable view h.stable e) (λ n. absurd cc) h.sent h.handed, refl)

-- ---- Phase 1

-- where the life is not in phase 1, no Prepare is live
pub unprepared : (f : Frame) (owed : List Sent) (t : Turned) → Goes (still f) owed t → ((first : ℕ) → t.stage.life.leading ≢ Preparing first) → Unprepared t.stage
unprepared f owed t h idle k o e = let a = h.fits.slots k o e in (a.0, go o.message a.1)
  where
    go : (x : Message) → MayRepeat t.stage.life t.stage.armed_prepare true k x → MayRepeat t.stage.life None true k x
    go (Message.Prepare x) a = absurd (idle x.first (a.1 refl).0)
    go (Message.Recovery x) a = a
    go (Message.Propose x) a = a
    go (Message.CatchUpQuery x) a = tt
    go (Message.PrepareOk x) a = absurd a
    go (Message.Accept x) a = absurd a
    go (Message.RecoveryAnswer x) a = absurd a
    go (Message.CatchUpReply x) a = absurd a
    go (Message.SnapshotPart x) a = absurd a
    go (Message.Alive x) a = absurd a

-- a slot that repeats no Prepare may repeat its message whatever the life leads
leading-slot : (r : ℕ) (l : Life) (b : Leading) (k : ℕ) (o : Outgoing) → SlotTrue r l None true k o → SlotTrue r (record l { leading = b }) None true k o
leading-slot r l b k o h = (h.0, go o.message h.1)
  where
    go : (x : Message) → MayRepeat l None true k x → MayRepeat (record l { leading = b }) None true k x
    go (Message.Prepare x) a = absurd a.0
    go (Message.Recovery x) a = a
    go (Message.Propose x) a = a
    go (Message.CatchUpQuery x) a = tt
    go (Message.PrepareOk x) a = absurd a
    go (Message.Accept x) a = absurd a
    go (Message.RecoveryAnswer x) a = absurd a
    go (Message.CatchUpReply x) a = absurd a
    go (Message.SnapshotPart x) a = absurd a
    go (Message.Alive x) a = absurd a

pub any-armed : (r : ℕ) (l : Life) (armed : Option Armed) (clean : Bool) (k : ℕ) (o : Outgoing) → SlotTrue r l None true k o → SlotTrue r l armed clean k o
any-armed r l armed clean k o h = (h.0, go o.message h.1)
  where
    go : (x : Message) → MayRepeat l None true k x → MayRepeat l armed clean k x
    go (Message.Prepare x) a = absurd a.0
    go (Message.Recovery x) a = a
    go (Message.Propose x) a = a
    go (Message.CatchUpQuery x) a = tt
    go (Message.PrepareOk x) a = absurd a
    go (Message.Accept x) a = absurd a
    go (Message.RecoveryAnswer x) a = absurd a
    go (Message.CatchUpReply x) a = absurd a
    go (Message.SnapshotPart x) a = absurd a
    go (Message.Alive x) a = absurd a

-- where no Prepare is live, a stage fits whatever its life leads
pub fits-leading : (c : Setup) (w : World) (r : ℕ) (s : Stage) (b : Leading) → Fits c w r true s → ((k : ℕ) (o : Outgoing) → live_at s.slots k ≡ Some o → SlotTrue r s.life None true k o)
    → Fits c w r true (record s { life = record s.life { leading = b } })
fits-leading c w r s b h none =
    let slots : (k : ℕ) (o : Outgoing) → live_at s.slots k ≡ Some o → SlotTrue r (record s.life { leading = b }) s.armed_prepare true k o
    = λ k o e. any-armed r (record s.life { leading = b }) s.armed_prepare true k o (leading-slot r s.life b k o (none k o e)) in
    assumption (slots, h)

-- a stage x that has begun phase 1 and has armed no Prepare
abbrev Ready : ℕ → Stage → Stage → Type 0
Ready first s x = Unprepared x × ((x.life.leading ≡ Preparing first) × (x.life.view ≡ s.life.view) × (x.life.mark ≡ s.life.mark))

pub goes-begin_from : (f : Frame) (t : Turned) (first : ℕ) (h : Goes (still f) [] t) → f.phase ≡ Working → t.stage.life.leading ≡ No → leader t.stage.config.n t.stage.life.view ≡ t.stage.config.me
    → IsFirstUnknown t.stage.life first → Goes (still f) [] (begin_from first t)
goes-begin_from f t first h working idle led unknown = goes-arms_prepare (still f) [] (says_to_all (prepare_of s first) opened) prepare said.0 armed.0 armed.1
  where
    s : Stage
    s = t.stage

    step : Step
    step = Step.Promise s.config.me s.life.view

    opened : Turned
    opened = shows step (Open s.life.view first) t

    prepare : Prepare
    prepare = record { view = s.life.view; first = first; mark = s.life.mark }

    none : Unprepared s
    none = unprepared f [] t h (λ first e. cc)

    can : CanOpen (setup_of s.config) s.config.me s.life s.life.view first
    can = record { working = h.phase ∙ working; in_view = refl; leads = led; idle = idle; first_unknown = unknown }

    open_goes : Goes (still f) [] opened
    open_goes = goes-shows (still f) [] t step (Open s.life.view first) h tt tt tt can (fits-leading (setup_of s.config) h.world s.config.me s (Preparing first) h.fits none) refl

    said : Goes (still f) [] (says_to_all (prepare_of s first) opened) × ((says_to_all (prepare_of s first) opened).stage ≡ opened.stage)
    said = goes-says-all (still f) (prepare_of s first) opened open_goes (refl, refl, refl)

    ready : Ready first s opened.stage
    ready = (λ k o e. leading-slot s.config.me s.life (Preparing first) k o (none k o e), (refl, refl, refl))

    armed : Ready first s (says_to_all (prepare_of s first) opened).stage
    armed = subst (λ (x : Stage). Ready first s x) (sym said.1) ready

pub goes-begin_phase_1 : (f : Frame) (t : Turned) (h : Goes (still f) [] t) → f.phase ≡ Working → t.stage.life.leading ≡ No → leader t.stage.config.n t.stage.life.view ≡ t.stage.config.me
    → Goes (still f) [] (begin_phase_1 t)
goes-begin_phase_1 f t h working idle led =
    goes-begin_from f t (first_undecided t.stage) h working idle led (undecided-is (setup_of t.stage.config) h.world t.stage.config.me true t.stage h.fits)

-- ---- Raising

-- where the view is raised, each slot but one with a Prepare may repeat its message as before
unclean-slot : (r : ℕ) (l : Life) (view : ℕ) (b : Leading) (armed : Option Armed) (clean : Bool) (k : ℕ) (o : Outgoing) → SlotTrue r l armed clean k o → SlotTrue r (record l { view = view; leading = b }) armed false k o
unclean-slot r l view b armed clean k o h = (h.0, go o.message h.1)
  where
    go : (x : Message) → MayRepeat l armed clean k x → MayRepeat (record l { view = view; leading = b }) armed false k x
    go (Message.Prepare x) a = (a.0, λ e. absurd cc)
    go (Message.Recovery x) a = a
    go (Message.Propose x) a = a
    go (Message.CatchUpQuery x) a = tt
    go (Message.PrepareOk x) a = absurd a
    go (Message.Accept x) a = absurd a
    go (Message.RecoveryAnswer x) a = absurd a
    go (Message.CatchUpReply x) a = absurd a
    go (Message.SnapshotPart x) a = absurd a
    go (Message.Alive x) a = absurd a

goes-enter : (f : Frame) (t : Turned) (view : ℕ) (step : Step) → executions step ≡ [] → (h : Goes (saved f view) [] t) → f.phase ≡ Working → t.stage.life.view < view → view ≤ number_limit
    → Goes (unclean f) [] (shows step (Enter view) t)
goes-enter f t view step none h working above limit =
    let s = t.stage in
    let c = setup_of s.config in
    let l : Life = record s.life { view = view; leading = No } in
    let slots : (k : ℕ) (o : Outgoing) → live_at s.slots k ≡ Some o → SlotTrue s.config.me l s.armed_prepare false k o
    = λ k o e. unclean-slot s.config.me s.life view No s.armed_prepare true k o (h.fits.slots k o e) in
    let g = h.fits in
    let fits : Fits c h.world s.config.me false (stage_after s (Enter view)) = assumption (slots, g) in
    let can : CanEnter s.life view = record { working = h.phase ∙ working; above = above; limit = limit } in
    let n : Follows (saved f view) (unclean f) h.world s (Enter view) = record {
      can = can;
      fits = fits;
      onward = onward-deed c s.config.me s.life (Enter view) tt;
      valid = tt;
      taken = h.taken;
      phase = h.phase;
      stable = λ number a. a;
      fresh = λ a p. absurd cc;
    } in
    goes-show (unclean f) [] (does (Enter view) t) step none (goes-does (saved f view) f.taken f.phase false None [] t (Enter view) h n)

pub goes-raise_to : (f : Frame) (t : Turned) (view : ℕ) → Goes (still f) [] t → f.phase ≡ Working → t.stage.life.view < view → view ≤ number_limit → Goes (still f) [] (raise_to view t)
goes-raise_to f t view h working above limit =
    let s = t.stage in
    let b = is_view_ss s.config.mode && nat_lt s.stable view in
    let saved_goes = goes-saves f t view b h refl in
    let u = when b (saves view) t in
    let step = Step.Enter s.config.me view in
    let up : u.stage.life.view < view = subst (λ (l : Life). l.view < view) (sym saved_goes.1) above in
    let entered = goes-enter f u view step refl saved_goes.0 working up limit in
    let v = shows step (Enter view) u in
    let clean = goes-cancels_prepare (unclean f) [] v entered in
    let dropped = goes-cancels_proposes (still f) [] (cancels_prepare v) clean in
    let x = cancels_proposes (cancels_prepare v) in
    let y = with_stage (λ s. record s { quiet = 0 }) x in
    let quiet : Goes (still f) [] y = goes-freely (still f) [] x (record x.stage { quiet = 0 }) dropped in
    let same_config : s.config ≡ y.stage.config = h.config ∙ sym quiet.config in
    let begun = keep-when (Goes (still f) []) (leads s s.config.me view) begin_phase_1 y
    (λ e. goes-begin_phase_1 f y quiet working refl (subst (λ (k : Config). leader k.n view ≡ k.me) same_config (same (leader s.config.n view) s.config.me e))) (λ e. quiet) in
    let z = when (leads s s.config.me view) begin_phase_1 y in
    keep-when (Goes (still f) []) (not (leads s s.config.me view)) drop_waiting z (λ e. goes-waiting (still f) [] z [] begun (λ b n. absurd n)) (λ e. begun)

pub goes-raise_up_to : (f : Frame) (t : Turned) (view : ℕ) → Goes (still f) [] t → view ≤ number_limit → Goes (still f) [] (raise_up_to view t)
goes-raise_up_to f t view h limit =
    keep-when (Goes (still f) []) (works t.stage && nat_lt t.stage.life.view view) (raise_to view) t
    (λ e. let a = and-of (works t.stage) (nat_lt t.stage.life.view view) e in goes-raise_to f t view h (phase-of (still f) [] t h a.0) (lt-of t.stage.life.view view a.1) limit) (λ e. h)

-- ---- Views within the limit

pub limit-of : (k view : ℕ) → within_limit k ≡ Some view → (k ≡ view) × (view ≤ number_limit)
limit-of k view e = go (nat_le k number_limit) refl e
  where
    go : (b : Bool) → nat_le k number_limit ≡ b → number_if b k ≡ Some view → (k ≡ view) × (view ≤ number_limit)
    go true f g = let a : k ≡ view = cc in (a, subst (λ x. x ≤ number_limit) a (le-of k number_limit f))
    go false f g = cc

pub goes-suspect : (f : Frame) (t : Turned) → Goes (still f) [] t → Goes (still f) [] (suspect t)
goes-suspect f t h =
    let s = t.stage in
    keep-when (Goes (still f) []) (works s) (when_some (next_led s.config.n s.config.me s.life.view) raise_to) t
    (λ e. keep-some (Goes (still f) []) (next_led s.config.n s.config.me s.life.view) raise_to t
    (λ view g. let a = limit-of _ view g in let up = a.0 in goes-raise_to f t view h (phase-of (still f) [] t h e) (omega arith) a.1) (λ g. h)) (λ e. h)

-- Noting, learning, voting and launching.
use Rattle.std.proofs.Common.{◌≡◌, ℕ, ◌+◌, ◌≤◌, ◌<◌, max, Bool, true, false, ◌&&◌, not, List, [], ◌∷◌, ◌++◌, nat_le, ◌==◌, if◌then◌else◌, Option, Some, None, is_some, refl, sym, ap, subst, ◌∙◌, inl, inr, ⊎_elim, arith, le_refl, append-nil}
use Rattle.std.specs.List.{list_any}
use Rattle.jp_types.specs.declared.message.Message.{Message}
use Rattle.jp_types.specs.declared.mode.Phase.{Phase}
use Rattle.jp_types.specs.declared.mode.Phase.TheVariants.{Recovering, Working}
use Rattle.paxos_world.specs.declared.step.Step.{Step}
use Rattle.jp_types.specs.Views.{leader, majority, count_below}
use Rattle.jp_types.specs.Lists.{In}
use Rattle.paxos_world.specs.Setup.{Setup, IsQuorum, with_at}
use Rattle.paxos_world.specs.Life.{Launched, Lead, Leading, Leads, Life, IsKnown}
use Rattle.jp_types.specs.Instances.{Batch}
use Rattle.paxos_world.specs.World.{World, Sent, Deed, Learn, Vote, Launch, HasLaunched, HasProposal, HasAccepted, MayLearn, By_votes, CanVote, CanLaunch, lead_after, id_of, sends_of, to_others}
use Rattle.paxos_world.specs.Stage.{setup_of, Outgoing, Note, Stage, Turned}
use Rattle.paxos_world.specs.Writing.{shows, sends_to_all}
use Rattle.paxos_world.specs.Logs.{is_in_span, is_known, with_note, notes_on, highest_view, tally, has_accepted, batch_in, full_batch, tallied}
use Rattle.jp_types.specs.Instances.{span}
use Rattle.paxos_world.specs.Retransmitting.{live_at, arms_propose}
use Rattle.paxos_world.specs.Learning.{horizon_to, notes, learns, learn_check, votes_for, propose_of, launches}
use Rattle.paxos_world.proofs.Basics.{with_at-cases}
use Rattle.paxos_world.proofs.Replies.{same, same-test}
use Rattle.paxos_world.proofs.Sound.{top, LifeSound, tops_of, known-learn}
use Rattle.turn_laws.proofs.Fitting.{Within, NoteTrue, MayRepeat, SlotTrue, Fits, Frame, Goes, to_all}
use Rattle.jp_types.specs.Limits.{IsBatch}
use Rattle.turn_laws.proofs.Going.{keep-when, keep-some, note-more, stage_after}
use Rattle.turn_laws.proofs.Words.{re, goes-stage, goes-freely, goes-shows, goes-owed, to_all-is, goes-sends-all}
use Rattle.turn_laws.proofs.Scanning.{le-of, and-of, or-of, not-known, in-span, filter-in}
use Rattle.turn_laws.proofs.Arming.{still, Unprepared, goes-cancels_propose, goes-arms_propose}
use Rattle.turn_laws.proofs.Raising.{unprepared, any-armed}

-- ---- Noting

pub goes-horizon : (f : Frame) (owed : List Sent) (t : Turned) (i : ℕ) → Goes f owed t → Goes f owed (horizon_to i t)
goes-horizon f owed t i h = goes-freely f owed t (record t.stage { horizon = max t.stage.horizon i }) h

pub goes-notes : (f : Frame) (owed : List Sent) (t : Turned) (i view p : ℕ) (batch : Option Batch) (h : Goes f owed t)
    → ((b : Batch) → batch ≡ Some b → HasProposal t.stage.life view i b) → HasAccepted (setup_of t.stage.config) h.world t.stage.config.me t.stage.life view i p
    → Goes f owed (notes i view p batch t)
goes-notes f owed t i view p batch h proposed accepted = goes-stage f owed t (with_note x s) h fits
  where
    s : Stage
    s = t.stage

    x : Note
    x = record { instance = i; view = view; replica = p; batch = batch }

    by : (b : Bool) → (is_in_span s i && not (is_known s i)) ≡ b → (y : Note) → In y (if b then x ∷ s.noted else s.noted) → NoteTrue (setup_of s.config) h.world s.config.me s.life (s.base + span) y
    by true e y (inl f) =
        let inside = in-span s i (and-of (is_in_span s i) (not (is_known s i)) e).0 in
        subst (λ (z : Note). NoteTrue (setup_of s.config) h.world s.config.me s.life (s.base + span) z) (sym f) (inside.1, proposed, accepted)
    by true e y (inr n) = h.fits.noted y n
    by false e y n = h.fits.noted y n

    fits : Fits (setup_of s.config) h.world s.config.me f.clean (re s (record (with_note x s) { stable = s.stable }))
    fits =
        let noted : (y : Note) → In y (with_note x s).noted → NoteTrue (setup_of s.config) h.world s.config.me s.life (s.base + span) y = by (is_in_span s i && not (is_known s i)) refl in
        let g = h.fits in
        assumption (noted, g)

-- ---- Learning

-- a stage fits after it learned a batch
pub fits-learn : (c : Setup) (w : World) (r : ℕ) (clean : Bool) (s : Stage) (i : ℕ) (batch : Batch) → i < s.base + span → Fits c w r clean s
    → Fits c w r clean (record s { life = record s.life { known = with_at s.life.known i (Some batch) } })
fits-learn c w r clean s i batch inside h =
    let base_known : (j : ℕ) → j < s.base → IsKnown (record s.life { known = with_at s.life.known i (Some batch) }) j = λ j lt. known-learn s.life j i batch (h.base_known j lt) in
    let known_end : (j : ℕ) (b : Batch) → with_at s.life.known i (Some batch) j ≡ Some b → j < s.base + span
    = λ j b. with_at-cases (λ o. o ≡ Some b → j < s.base + span) s.life.known i (Some batch) j (λ e f. omega arith) (λ ne f. h.known_end j b f) in
    let place_known : (j : ℕ) → j < _ → IsKnown (record s.life { known = with_at s.life.known i (Some batch) }) j = λ j lt. known-learn s.life j i batch (h.place_known j lt) in
    assumption (base_known, known_end, place_known, h)

pub goes-learns : (f : Frame) (t : Turned) (i : ℕ) (batch : Batch) (h : Goes f [] t) → t.stage.life.known i ≡ None → i < t.stage.base + span
    → MayLearn (setup_of t.stage.config) h.world t.stage.config.me t.stage.life i batch → Goes f [] (learns i batch t)
goes-learns f t i batch h new inside may =
    let s = t.stage in
    let step = Step.Learn s.config.me i in
    goes-cancels_propose f [] (shows step (Learn i batch) t) i
    (goes-shows f [] t step (Learn i batch) h tt new tt may (fits-learn (setup_of s.config) h.world s.config.me f.clean s i batch inside h.fits) refl)

any-of : {X : Type 0} (test : X → Bool) (xs : List X) → list_any test xs ≡ true → (x : X) × In x xs × (test x ≡ true)
any-of test [] e = absurd cc
any-of {X} test (x ∷ xs) e =
    ⊎_elim (λ a. (x, inl refl, a)) (λ a. let h : (y : X) × In y xs × (test y ≡ true) = any-of test xs a in (h.0, inr h.1, h.2)) (or-of (test x) (list_any test xs) e)

batch-of : (xs : List Note) (batch : Batch) → batch_in xs ≡ Some batch → (x : Note) × In x xs × (x.batch ≡ Some batch)
batch-of [] batch e = absurd cc
batch-of (x ∷ xs) batch e = go (is_some x.batch) e (λ f. batch-of xs batch f)
  where
    go : (b : Bool) → (if b then x.batch else batch_in xs) ≡ Some batch → (batch_in xs ≡ Some batch → (y : Note) × In y xs × (y.batch ≡ Some batch)) → (y : Note) × In y (x ∷ xs) × (y.batch ≡ Some batch)
    go true f again = (x, inl refl, f)
    go false f again = let h = again f in (h.0, inr h.1, h.2)

-- a note of a tally is one that was noted, on that instance and in one view
tally-note : (s : Stage) (i : ℕ) (x : Note) → In x (tally s i) → In x s.noted × (x.instance ≡ i) × (x.view ≡ highest_view (notes_on i s.noted))
tally-note s i x n =
    let a = filter-in (λ (note : Note). note.view == highest_view (notes_on i s.noted)) (notes_on i s.noted) x n in
    let b = filter-in (λ (note : Note). note.instance == i) s.noted x a.0 in
    (b.0, same x.instance i b.1, same x.view (highest_view (notes_on i s.noted)) a.1)

pub tallied-may : (c : Setup) (w : World) (clean : Bool) (s : Stage) (i : ℕ) (batch : Batch) → c ≡ setup_of s.config → Fits c w s.config.me clean s → tallied s i ≡ Some batch
    → (s.life.known i ≡ None) × (i < s.base + span) × MayLearn c w s.config.me s.life i batch
tallied-may c w clean s i batch is h e = go (is_known s i) refl e
  where
    v : ℕ
    v = highest_view (notes_on i s.noted)

    full : (b : Bool) → nat_le (majority s.config.n) (count_below s.config.n (has_accepted (tally s i))) ≡ b → (if b then batch_in (tally s i) else None) ≡ Some batch
        → (majority s.config.n ≤ count_below s.config.n (has_accepted (tally s i))) × ((x : Note) × In x (tally s i) × (x.batch ≡ Some batch))
    full true f g = (le-of (majority s.config.n) (count_below s.config.n (has_accepted (tally s i))) f, batch-of (tally s i) batch g)
    full false f g = absurd cc

    accepted : (p : ℕ) → p < c.n → has_accepted (tally s i) p ≡ true → HasAccepted c w s.config.me s.life v i p
    accepted p lt f =
        let x = any-of (λ (note : Note). note.replica == p) (tally s i) f in
        let a = tally-note s i x.0 x.1 in
        let b = (h.noted x.0 a.0).2 in
        subst (λ k. HasAccepted c w s.config.me s.life v i k) (same x.0.replica p x.2)
        (subst (λ k. HasAccepted c w s.config.me s.life v k x.0.replica) a.1 (subst (λ k. HasAccepted c w s.config.me s.life k x.0.instance x.0.replica) a.2 b))

    go : (b : Bool) → is_known s i ≡ b → (if b then None else full_batch s.config.n (tally s i)) ≡ Some batch → (s.life.known i ≡ None) × (i < s.base + span) × MayLearn c w s.config.me s.life i batch
    go true f g = absurd cc
    go false f g =
        let a = full (nat_le (majority s.config.n) (count_below s.config.n (has_accepted (tally s i)))) refl g in
        let x = a.1.0 in
        let b = tally-note s i x a.1.1 in
        let true_note = h.noted x b.0 in
        let proposal : HasProposal s.life v i batch
        = subst (λ k. HasProposal s.life v k batch) b.1 (subst (λ k. HasProposal s.life k x.instance batch) b.2 (true_note.1 batch a.1.2)) in
        let inside : i < s.base + span = subst (λ k. k < s.base + span) b.1 true_note.0 in
        let quorum : IsQuorum c.n (has_accepted (tally s i)) = subst (λ (k : Setup). IsQuorum k.n (has_accepted (tally s i))) (sym is) a.0 in
        ((not-known s i f).1, inside, By_votes v (has_accepted (tally s i)) proposal quorum accepted)

pub goes-learn_check : (f : Frame) (t : Turned) (i : ℕ) → Goes f [] t → Goes f [] (learn_check i t)
goes-learn_check f t i h =
    keep-some (Goes f []) (tallied t.stage i) (learns i) t
    (λ batch e. let a = tallied-may (setup_of t.stage.config) h.world f.clean t.stage i batch refl h.fits e in goes-learns f t i batch h a.0 a.1 a.2) (λ e. h)

-- ---- Voting

pub voted-end : (votes : ℕ → Option (ℕ × Batch)) (i : ℕ) (vote : ℕ × Batch) (end : ℕ) → i < end → ((j : ℕ) (v : ℕ × Batch) → votes j ≡ Some v → j < end)
    → (j : ℕ) (v : ℕ × Batch) → with_at votes i (Some vote) j ≡ Some v → j < end
voted-end votes i vote end inside h j v = with_at-cases (λ o. o ≡ Some v → j < end) votes i (Some vote) j (λ e f. omega arith) (λ ne f. h j v f)

pub goes-votes_for : (f : Frame) (owed : List Sent) (t : Turned) (view i : ℕ) (batch : Batch) (h : Goes f owed t) → i < t.stage.base + span → CanVote (setup_of t.stage.config) t.stage.life view i batch
    → Goes f (owed ++ sends_of (setup_of t.stage.config) t.stage.config.me t.stage.life (Vote view i batch)) (votes_for view i batch t)
goes-votes_for f owed t view i batch h inside can =
    let s = t.stage in
    let voted_end : (j : ℕ) (v : ℕ × Batch) → with_at s.life.votes i (Some (view, batch)) j ≡ Some v → j < s.base + span = voted-end s.life.votes i (view, batch) (s.base + span) inside h.fits.voted_end in
    let g = h.fits in
    let fits : Fits (setup_of s.config) h.world s.config.me f.clean (stage_after s (Vote view i batch)) = assumption (voted_end, g) in
    goes-shows f owed t (Step.Vote s.config.me view i) (Vote view i batch) h tt tt tt can fits refl

-- the latest vote of an instance counts its replica among those that accepted
pub own-accepted : (f : Frame) (owed : List Sent) (t : Turned) (view i : ℕ) (batch : Batch) (h : Goes f owed t) → t.stage.life.votes i ≡ Some (view, batch)
    → HasAccepted (setup_of t.stage.config) h.world t.stage.config.me t.stage.life view i t.stage.config.me
own-accepted f owed t view i batch h e = inr (inr (refl, (batch, h.cast i (view, batch) e)))

-- ---- Launching

-- a life that leads works
pub leads-working : (f : Frame) (owed : List Sent) (t : Turned) (lead : Lead) → Goes f owed t → t.stage.life.leading ≡ Leads lead → (t.stage.life.phase ≡ Working) × (leader t.stage.config.n t.stage.life.view ≡ t.stage.config.me)
leads-working f owed t lead h e = (go l.phase refl, subst (λ (b : Leading). Led b) e sound.led)
  where
    l : Life
    l = t.stage.life

    r : ℕ
    r = t.stage.config.me

    sound : LifeSound (setup_of t.stage.config) r (h.world.replicas r).starts (top (h.world.replicas r).stable) (tops_of h.world) h.world.sent l
    sound = (h.good.sound.replica r).life l h.running

    Led : Leading → Type 0
    Led b = Rattle.paxos_world.proofs.Sound.IsLed t.stage.config.n r l.view b

    go : (p : Phase) → l.phase ≡ p → l.phase ≡ Working
    go Working e' = e'
    go Recovering e' = absurd (let a = (sound.waiting e').1 in cc)

-- the life after a launch with its vote
abbrev pub launched_life : Life → ℕ → Batch → Life
launched_life l i batch =
    record l {
      leading = lead_after l.leading i;
      launched = record { view = l.view; instance = i; batch = batch } ∷ l.launched;
      votes = with_at (with_at l.votes i (Some (l.view, batch))) i (Some (l.view, batch));
    }

-- what a launch keeps
abbrev pub Launches : Frame → Life → ℕ → Turned → Type 0
Launches f l base t = Goes (still f) [] t × (t.stage.life ≡ l) × (t.stage.base ≡ base)

launch-slot : (r : ℕ) (l : Life) (b : Leading) (more : List Launched) (votes : ℕ → Option (ℕ × Batch)) (k : ℕ) (o : Outgoing) → Within l.launched more → SlotTrue r l None true k o
    → SlotTrue r (record l { leading = b; launched = more; votes = votes }) None true k o
launch-slot r l b more votes k o up h = (h.0, go o.message h.1)
  where
    go : (x : Message) → MayRepeat l None true k x → MayRepeat (record l { leading = b; launched = more; votes = votes }) None true k x
    go (Message.Prepare x) a = absurd a.0
    go (Message.Recovery x) a = a
    go (Message.Propose x) a = up _ a
    go (Message.CatchUpQuery x) a = tt
    go (Message.PrepareOk x) a = absurd a
    go (Message.Accept x) a = absurd a
    go (Message.RecoveryAnswer x) a = absurd a
    go (Message.CatchUpReply x) a = absurd a
    go (Message.SnapshotPart x) a = absurd a
    go (Message.Alive x) a = absurd a

pub goes-launches : (f : Frame) (t : Turned) (i : ℕ) (batch : Batch) (h : Goes (still f) [] t) → i < t.stage.base + span → IsBatch batch → CanLaunch t.stage.life t.stage.life.view i batch
    → Launches f (launched_life t.stage.life i batch) t.stage.base (launches i batch t)
goes-launches f t i batch h inside valid can = armed
  where
    s : Stage
    s = t.stage

    l : Life
    l = s.life

    c : Setup
    c = setup_of s.config

    working : (l.phase ≡ Working) × (leader s.config.n l.view ≡ s.config.me)
    working = leads-working (still f) [] t can.lead h can.leads

    launch : Deed
    launch = Launch l.view i batch

    none : Unprepared s
    none = unprepared f [] t h (λ first e. let a = can.leads in cc)

    m : Message
    m = propose_of l.view i batch

    t1 : Turned
    t1 = shows (Step.Launch s.config.me l.view i batch) launch t

    fits1 : Fits c h.world s.config.me true (stage_after s launch)
    fits1 =
        let g = h.fits in
        let more : List Launched = record { view = l.view; instance = i; batch = batch } ∷ l.launched in
        let votes = with_at l.votes i (Some (l.view, batch)) in
        let new : Life = record l { leading = lead_after l.leading i; launched = more; votes = votes } in
        let voted_end : (j : ℕ) (v : ℕ × Batch) → votes j ≡ Some v → j < s.base + span = voted-end l.votes i (l.view, batch) (s.base + span) inside g.voted_end in
        let noted : (x : Note) → In x s.noted → NoteTrue c h.world s.config.me new (s.base + span) x
        = λ x n. note-more c h.world h.world s.config.me l new (s.base + span) (s.base + span) x (λ y j. j) (λ y j. inr j) (λ y j. j) refl (le_refl _) (g.noted x n) in
        let slots : (k : ℕ) (o : Outgoing) → live_at s.slots k ≡ Some o → SlotTrue s.config.me new s.armed_prepare true k o
        = λ k o e. any-armed s.config.me new s.armed_prepare true k o (launch-slot s.config.me l (lead_after l.leading i) more votes k o (λ y j. inr j) (none k o e)) in
        assumption (voted_end, noted, slots, g)

    goes1 : Goes (still f) (to_all f m) t1
    goes1 = goes-owed (still f) _ _ t1 (to_all-is (still f) [] t m h) (goes-shows (still f) [] t (Step.Launch s.config.me l.view i batch) launch h tt tt valid can fits1 refl)

    t2 : Turned
    t2 = votes_for l.view i batch t1

    silent : sends_of c s.config.me t1.stage.life (Vote l.view i batch) ≡ []
    silent = ap (λ (b : Bool). if b then [] else to_others s.config.n s.config.me (id_of s.config.me t1.stage.life) (Message.Accept (record { view = l.view; instance = i }))) (same-test s.config.me (leader s.config.n l.view) (sym working.1))

    goes2 : Goes (still f) (to_all f m) t2
    goes2 = goes-owed (still f) _ _ t2 (ap (λ (xs : List Sent). to_all f m ++ xs) silent ∙ append-nil _)
        (goes-votes_for (still f) (to_all f m) t1 l.view i batch goes1 inside (record { working = working.0; in_view = refl; proposal = inl (inl refl) }))

    t3 : Turned
    t3 = notes i l.view s.config.me (Some batch) t2

    goes3 : Goes (still f) (to_all f m) t3
    goes3 = goes-notes (still f) (to_all f m) t2 i l.view s.config.me (Some batch) goes2
        (λ b e. inl (inl (let g : b ≡ batch = cc in ap (λ (x : Batch). record { view = l.view; instance = i; batch = x }) g))) (inl (sym working.1))

    t4 : Turned
    t4 = sends_to_all m t3

    sent : Goes (still f) [] t4 × (t4.stage ≡ t3.stage)
    sent = goes-sends-all (still f) m t3 goes3

    kept : Launches f (launched_life l i batch) s.base t4
    kept = (sent.0, ap (λ (x : Stage). x.life) sent.1, ap (λ (x : Stage). x.base) sent.1)

    launched_there : HasLaunched t4.stage.life l.view i batch
    launched_there = subst (λ (x : Life). HasLaunched x l.view i batch) (sym kept.1) (inl refl)

    armed : Launches f (launched_life l i batch) s.base (launches i batch t)
    armed = keep-when (Launches f (launched_life l i batch) s.base) (not (is_known s i)) (arms_propose i m) t4
        (λ e. (goes-arms_propose (still f) [] t4 i m kept.0 (λ k. launched_there), kept.1, kept.2)) (λ e. kept)

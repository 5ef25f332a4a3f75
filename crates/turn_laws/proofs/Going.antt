-- A turn stays lawful: by the words that join others, and by each step of the world.
use Rattle.std.proofs.Common.{◌≡◌, ℕ, zero, suc, ◌+◌, ◌≤◌, ◌<◌, ◌⊎◌, Bool, true, false, List, [], ◌∷◌, ◌++◌, Option, Some, None, refl, sym, ap, subst, ◌∙◌, inl, inr, ⊎_elim, arith, append_assoc}
use Rattle.jp_types.specs.declared.message.Message.{Message}
use Rattle.jp_types.specs.declared.mode.Phase.{Phase}
use Rattle.jp_types.specs.declared.mode.Phase.TheVariants.{Recovering}
use Rattle.jp_types.specs.declared.mode.Mode.TheVariants.{ViewSs}
use Rattle.jp_types.specs.Lists.{In}
use Rattle.paxos_world.specs.Setup.{Setup, with_at}
use Rattle.paxos_world.specs.Life.{LifeId, Taken, Life, Took}
use Rattle.jp_types.specs.Instances.{Batch}
use Rattle.paxos_world.specs.World.{Replica, World, Sent, Ballot, Deed, Take, Enter, Open, Promise, Prepared, Launch, Vote, Learn, Answer, Rejoin, Install, Execute, Restore, Say, Move, Can, Allowed, MaySay, HasProposal, HasAccepted, id_of, life_after, replica_after, stable_after, ballots, ballots_of, of_running, sends, sends_of, to_others, after}
use Rattle.paxos_world.specs.World as W
use Rattle.paxos_world.specs.Trace.{IsRun, end_of}
use Rattle.paxos_world.specs.Stage.{setup_of, Outgoing, Armed, Note, Snapshot, Stage, Act, Show, Send, Hand, Save, Turned}
use Rattle.kv_service.specs.Parts.{Joiner}
use Rattle.jp_types.specs.Instances.{span}
use Rattle.paxos_world.specs.Turn.{moves_of}
use Rattle.paxos_world.specs.Writing.{when, when_some, for_each, for_range, does}
use Rattle.paxos_world.proofs.Basics.{with_at-cases, with_at-same, In-append, In-left, In-right}
use Rattle.paxos_world.proofs.Sound.{act-is}
use Rattle.turn_laws.proofs.Fitting.{Within, NoteTrue, SnapshotTrue, JoinerTrue, MayRepeat, SlotTrue, Fits, executions, shown_by, Ahead, Frame, ballot_of, who_of, Goes}
use Rattle.turn_laws.proofs.Goods.{step_good}
use Rattle.turn_laws.proofs.Sane.{Sane, step_sane, sane-deed}
use Rattle.turn_laws.specs.Nodes.{Onward, sent_by, handed_by, KeepsLimits}

-- ---- The words that join others

pub keep-when : (P : Turned → Type 0) (b : Bool) (g : Turned → Turned) (t : Turned) → (b ≡ true → P (g t)) → (b ≡ false → P t) → P (when b g t)
keep-when P true g t h k = h refl
keep-when P false g t h k = k refl

pub keep-some : {A : Type 0} (P : Turned → Type 0) (o : Option A) (g : A → Turned → Turned) (t : Turned) → ((x : A) → o ≡ Some x → P (g x t)) → (o ≡ None → P t) → P (when_some o g t)
keep-some P None g t h k = k refl
keep-some P (Some x) g t h k = h x refl

pub keep-each : {A : Type 0} (P : Turned → Type 0) (xs : List A) (g : A → Turned → Turned) → ((x : A) → In x xs → (t : Turned) → P t → P (g x t)) → (t : Turned) → P t → P (for_each xs g t)
keep-each P [] g step t h = h
keep-each P (x ∷ xs) g step t h = keep-each P xs g (λ y i. step y (inr i)) (g x t) (step x (inl refl) t h)

pub keep-range : (P : ℕ → Turned → Type 0) (k a : ℕ) (g : ℕ → Turned → Turned) → ((i : ℕ) → a ≤ i → i < a + k → (t : Turned) → P i t → P (suc i) (g i t)) → (t : Turned) → P a t → P (a + k) (for_range k a g t)
keep-range P zero a g step t h = let e : a ≡ a + 0 = omega arith in subst (λ n. P n t) e h
keep-range P (suc k) a g step t h =
    let e : suc a + k ≡ a + suc k = omega arith in
    subst (λ n. P n (for_range k (suc a) g (g a t))) e (keep-range P k (suc a) g (λ i low high. step i (omega arith) (omega arith)) (g a t) (step a (omega arith) (omega arith) t h))

-- ---- Lists of acts and steps

pub sent_by-append : (from : LifeId) (xs ys : List Act) → sent_by from (xs ++ ys) ≡ sent_by from xs ++ sent_by from ys
sent_by-append from [] ys = refl
sent_by-append from (Show step ∷ xs) ys = sent_by-append from xs ys
sent_by-append from (Send to m ∷ xs) ys = ap (λ zs. record { from = from; to = to; message = m } ∷ zs) (sent_by-append from xs ys)
sent_by-append from (Hand d ∷ xs) ys = sent_by-append from xs ys
sent_by-append from (Save k ∷ xs) ys = sent_by-append from xs ys

pub handed_by-append : (xs ys : List Act) → handed_by (xs ++ ys) ≡ handed_by xs ++ handed_by ys
handed_by-append [] ys = refl
handed_by-append (Show step ∷ xs) ys = handed_by-append xs ys
handed_by-append (Send to m ∷ xs) ys = handed_by-append xs ys
handed_by-append (Hand d ∷ xs) ys = ap (λ zs. d ∷ zs) (handed_by-append xs ys)
handed_by-append (Save k ∷ xs) ys = handed_by-append xs ys

pub shown_by-append : (xs ys : List Act) → shown_by (xs ++ ys) ≡ shown_by xs ++ shown_by ys
shown_by-append [] ys = refl
shown_by-append (Show step ∷ xs) ys = ap (λ zs. executions step ++ zs) (shown_by-append xs ys) ∙ sym (append_assoc (executions step) (shown_by xs) (shown_by ys))
shown_by-append (Send to m ∷ xs) ys = shown_by-append xs ys
shown_by-append (Hand d ∷ xs) ys = shown_by-append xs ys
shown_by-append (Save k ∷ xs) ys = shown_by-append xs ys

-- an element of a list with one more at its end
pub In-snoc : {X : Type 0} {P : Type 0} (x y : X) (xs : List X) → In x (xs ++ y ∷ []) → (In x xs → P) → (x ≡ y → P) → P
In-snoc x y xs n old new = ⊎_elim old (λ m. ⊎_elim new (λ k. absurd k) m) (In-append x xs (y ∷ []) n)

-- a run with one more step is a run
one-more : (c : Setup) (r : ℕ) (w v : World) (ds : List Deed) (d : Deed) → IsRun c w (moves_of r ds) → end_of c w (moves_of r ds) ≡ v → Allowed c v (W.Act r d)
    → IsRun c w (moves_of r (ds ++ d ∷ [])) × (end_of c w (moves_of r (ds ++ d ∷ [])) ≡ after c v (W.Act r d))
one-more c r w v [] d run ends allowed = ((subst (λ (u : World). Allowed c u (W.Act r d)) (sym ends) allowed, tt), ap (λ (u : World). after c u (W.Act r d)) ends)
one-more c r w v (e ∷ ds) d run ends allowed =
    let h = one-more c r (after c w (W.Act r e)) v ds d run.1 ends allowed in ((run.0, h.0), h.1)

-- ---- Parts of what fits, as things grow

pub note-more : (c : Setup) (w v : World) (r : ℕ) (l m : Life) (e f : ℕ) (x : Note) → Within l.taken m.taken → Within l.launched m.launched → Within w.votes v.votes → l.number ≡ m.number → e ≤ f
    → NoteTrue c w r l e x → NoteTrue c v r m f x
note-more c w v r l m e f x taken launched votes same up h = (omega arith, λ batch i. go (h.1 batch i), accepted h.2)
  where
    took : (p : ℕ) (k : Message) → Took l p k → Took m p k
    took p k t = (t.0, taken t.0 t.1, t.2, t.3)

    go : {batch : Batch} → HasProposal l x.view x.instance batch → HasProposal m x.view x.instance batch
    go {batch} (inl a) = inl (launched _ a)
    go {batch} (inr a) = inr (a.0, took a.0 _ a.1)

    accepted : HasAccepted c w r l x.view x.instance x.replica → HasAccepted c v r m x.view x.instance x.replica
    accepted (inl a) = inl a
    accepted (inr (inl a)) = inr (inl (took x.replica _ a))
    accepted (inr (inr a)) = inr (inr (a.0, (a.1.0, votes _ (subst (λ n. In (record { life = record { replica = r; number = n }; view = x.view; instance = x.instance; batch = a.1.0 }) w.votes) same a.1.1))))

pub joiner-more : (l m : Life) (j : Joiner) → Within l.taken m.taken → JoinerTrue l j → JoinerTrue m j
joiner-more l m j taken h = (λ a i. let k = h.0 a i in ((k.0.0, (k.0.1.0, taken k.0.1.0 k.0.1.1, k.0.1.2, k.0.1.3)), k.1, k.2), h.1)

pub snapshot-more : (l m : Life) (n : Snapshot) → Within l.states m.states → Within l.installed m.installed → SnapshotTrue l n → SnapshotTrue m n
snapshot-more l m n states installed h = (h.0, ⊎_elim (λ a. inl (states h.0 a)) (λ a. inr (installed h.0 a)) h.1, h.2, h.3, λ e. (installed h.0 (h.4 e).0, (h.4 e).1))

-- a slot may repeat its message where the life has launched at least as much, has the same mark and, where a Prepare must be of the present phase 1, leads the same
pub slot-more : (r : ℕ) (l m : Life) (armed : Option Armed) (clean : Bool) (k : ℕ) (o : Outgoing) → Within l.launched m.launched → l.mark ≡ m.mark
    → (clean ≡ true → (l.leading ≡ m.leading) × (l.view ≡ m.view)) → SlotTrue r l armed clean k o → SlotTrue r m armed clean k o
slot-more r l m armed clean k o launched mark same h = (h.0, go o.message h.1)
  where
    go : (x : Message) → MayRepeat l armed clean k x → MayRepeat m armed clean k x
    go (Message.Prepare x) a = (a.0, λ e. (sym (same e).0 ∙ (a.1 e).0, sym (same e).1 ∙ (a.1 e).1, sym mark ∙ (a.1 e).2))
    go (Message.Recovery x) a = sym mark ∙ a
    go (Message.Propose x) a = launched _ a
    go (Message.CatchUpQuery x) a = tt
    go (Message.PrepareOk x) a = absurd a
    go (Message.Accept x) a = absurd a
    go (Message.RecoveryAnswer x) a = absurd a
    go (Message.CatchUpReply x) a = absurd a
    go (Message.SnapshotPart x) a = absurd a
    go (Message.Alive x) a = absurd a

pub fits-votes : (c : Setup) (w v : World) (r : ℕ) (clean : Bool) (s : Stage) → Within w.votes v.votes → Fits c w r clean s → Fits c v r clean s
fits-votes c w v r clean s votes h =
    let noted : (x : Note) → In x s.noted → NoteTrue c v r s.life (s.base + span) x
    = λ x i. note-more c w v r s.life s.life (s.base + span) (s.base + span) x (λ y j. j) (λ y j. j) votes refl (omega arith) (h.noted x i) in
    assumption (noted, h)

-- ---- A step of the world

number-after : (c : Setup) (r : ℕ) (l : Life) (d : Deed) → (life_after c r l d).number ≡ l.number
number-after c r l (Take from message) = refl
number-after c r l (Enter view) = refl
number-after c r l (Open view first) = refl
number-after c r l (Promise view first mark low report) = refl
number-after c r l (Prepared view x) = refl
number-after c r l (Launch view i batch) = refl
number-after c r l (Vote view i batch) = refl
number-after c r l (Learn i batch) = refl
number-after c r l (Answer to view next mark) = refl
number-after c r l (Rejoin view) = refl
number-after c r l (Install upto state) = refl
number-after c r l (Execute i) = refl
number-after c r l (Restore upto state) = refl
number-after c r l (Say to message) = refl

-- the service's state is one that it had
served-after : (c : Setup) (r : ℕ) (l : Life) (d : Deed) → In l.service l.states → In (life_after c r l d).service (life_after c r l d).states
served-after c r l (Execute i) h = inl refl
served-after c r l (Restore upto state) h = inl refl
served-after c r l (Take from message) h = h
served-after c r l (Enter view) h = h
served-after c r l (Open view first) h = h
served-after c r l (Promise view first mark low report) h = h
served-after c r l (Prepared view x) h = h
served-after c r l (Launch view i batch) h = h
served-after c r l (Vote view i batch) h = h
served-after c r l (Learn i batch) h = h
served-after c r l (Answer to view next mark) h = h
served-after c r l (Rejoin view) h = h
served-after c r l (Install upto state) h = h
served-after c r l (Say to message) h = h

-- the latest vote is one of before, or one that this step casts
with_vote : (r : ℕ) (l : Life) (view j i : ℕ) (batch : Batch) (vote : ℕ × Batch) → with_at l.votes j (Some (view, batch)) i ≡ Some vote
    → (l.votes i ≡ Some vote) ⊎ In (ballot_of r l i vote) (record { life = id_of r l; view = view; instance = j; batch = batch } ∷ [])
with_vote r l view j i batch vote =
    with_at-cases (λ o. o ≡ Some vote → (l.votes i ≡ Some vote) ⊎ In (ballot_of r l i vote) (record { life = id_of r l; view = view; instance = j; batch = batch } ∷ []))
    l.votes j (Some (view, batch)) i
    (λ same e. let f : vote ≡ (view, batch) = cc in inr (inl (ap (λ (k : ℕ). record { life = id_of r l; view = vote.0; instance = k; batch = vote.1 }) same ∙ ap (λ (v : ℕ × Batch). record { life = id_of r l; view = v.0; instance = j; batch = v.1 }) f)))
    (λ ne e. inl e)

cast-after : (c : Setup) (r : ℕ) (l : Life) (d : Deed) (i : ℕ) (vote : ℕ × Batch) → (life_after c r l d).votes i ≡ Some vote → (l.votes i ≡ Some vote) ⊎ In (ballot_of r l i vote) (ballots_of r l d)
cast-after c r l (Launch view j batch) i vote e = with_vote r l view j i batch vote e
cast-after c r l (Vote view j batch) i vote e = with_vote r l view j i batch vote e
cast-after c r l (Take from message) i vote e = inl e
cast-after c r l (Enter view) i vote e = inl e
cast-after c r l (Open view first) i vote e = inl e
cast-after c r l (Promise view first mark low report) i vote e = inl e
cast-after c r l (Prepared view x) i vote e = inl e
cast-after c r l (Learn j batch) i vote e = inl e
cast-after c r l (Answer to view next mark) i vote e = inl e
cast-after c r l (Rejoin view) i vote e = inl e
cast-after c r l (Install upto state) i vote e = inl e
cast-after c r l (Execute j) i vote e = inl e
cast-after c r l (Restore upto state) i vote e = inl e
cast-after c r l (Say to message) i vote e = inl e

-- the stage after a step of the world
abbrev pub stage_after : Stage → Deed → Stage
stage_after s d = record s { life = life_after (setup_of s.config) s.config.me s.life d }

-- what a step of the world asks for in a turn, and what holds after it
pub record Follows (f g : Frame) (w : World) (s : Stage) (d : Deed) : Type 0 where
  pub can : Can (setup_of s.config) w s.config.me s.life d
  pub fits : Fits (setup_of s.config) w s.config.me g.clean (stage_after s d)
  pub onward : Onward s.life (stage_after s d).life
  pub valid : KeepsLimits s.life d
  pub taken : (stage_after s d).life.taken ≡ g.taken
  pub phase : (stage_after s d).life.phase ≡ g.phase
  pub stable : (number : Option ℕ) → Ahead f.ahead s.config.mode number s.stable → Ahead g.ahead s.config.mode (stable_after s.config.mode number d) s.stable
  pub fresh : g.ahead ≡ None → g.phase ≡ Recovering → s.config.mode ≡ ViewSs → s.stable ≡ (stage_after s d).life.mark

-- the frame with the parts that a step may change
abbrev pub turned_to : Frame → List Taken → Phase → Bool → Option ℕ → Frame
turned_to f taken phase clean ahead = record f { taken = taken; phase = phase; clean = clean; ahead = ahead }

pub onward-trans : (l m n : Life) → Onward l m → Onward m n → Onward l n
onward-trans l m n a b =
    record { known = λ i batch e. b.known i batch (a.known i batch e); states = λ x i. b.states x (a.states x i); installed = λ x i. b.installed x (a.installed x i) }

-- the stage n, with the constants, the life and the disk's number of s
abbrev pub as_of : Stage → Stage → Stage
as_of s n = record n { config = s.config; life = s.life; stable = s.stable }

-- a turn stays lawful by a step of the world, as other parts of the stage change with it
pub goes-does-as : (f : Frame) (taken : List Taken) (phase : Phase) (clean : Bool) (ahead : Option ℕ) (owed : List Sent) (t : Turned) (n : Stage) (d : Deed) (h : Goes f owed t)
    → Follows f (turned_to f taken phase clean ahead) h.world (as_of t.stage n) d
    → Goes (turned_to f taken phase clean ahead) (owed ++ sends_of (setup_of t.stage.config) t.stage.config.me t.stage.life d) (does d (record t { stage = as_of t.stage n }))
goes-does-as f taken phase clean ahead owed t n d h k =
    record {
      config = h.config;
      number = number-after c r l d ∙ h.number;
      taken = k.taken;
      phase = k.phase;
      me = h.me;
      more = h.more;
      world = new;
      run = steps.0;
      ends = steps.1;
      good = step_good c w (W.Act r d) h.good allowed.meets;
      running = ap (λ (x : Replica). x.running) acted;
      stable = subst (λ (x : Option ℕ). Ahead ahead c.mode x t.stage.stable) (sym (ap (λ (x : Replica). x.stable) acted)) (k.stable (w.replicas r).stable h.stable);
      fresh = k.fresh;
      fits = fits-votes c w new r clean (stage_after (as_of t.stage n) d) (λ x i. In-left x w.votes (ballots w (W.Act r d)) i) k.fits;
      sent = ap (λ (xs : List Sent). xs ++ sends c w (W.Act r d)) h.sent ∙ append_assoc (f.sent ++ sent_by (who_of f) t.acts) owed (sends c w (W.Act r d))
          ∙ ap (λ (o : Option Life). (f.sent ++ sent_by (who_of f) t.acts) ++ (owed ++ of_running o (λ y. sends_of c r y d))) h.running;
      cast = cast;
      served = served-after c r l d h.served;
      reads = h.reads;
      sane = sane;
      along = sane-deed c r f.world t.deeds d h.along (subst (λ (v : World). Sane v) (sym steps.1) sane);
      handed = h.handed;
      onward = onward-trans f.life l (life_after c r l d) h.onward k.onward;
    }
  where
    c : Setup
    c = setup_of t.stage.config

    r : ℕ
    r = t.stage.config.me

    l : Life
    l = t.stage.life

    w : World
    w = h.world

    new : World
    new = after c w (W.Act r d)

    cast : (i : ℕ) (vote : ℕ × Batch) → (life_after c r l d).votes i ≡ Some vote → In (ballot_of r (life_after c r l d) i vote) new.votes
    cast i vote e =
        let same : id_of r l ≡ id_of r (life_after c r l d) = ap (λ (n : ℕ). record { replica = r; number = n }) (sym (number-after c r l d)) in
        let j : In (ballot_of r l i vote) new.votes = ⊎_elim (λ a. In-left (ballot_of r l i vote) w.votes (ballots w (W.Act r d)) (h.cast i vote a))
        (λ a. In-right (ballot_of r l i vote) w.votes (ballots w (W.Act r d)) (subst (λ (o : Option Life). In (ballot_of r l i vote) (of_running o (λ k. ballots_of r k d))) (sym h.running) a)) (cast-after c r l d i vote e) in
        subst (λ (x : LifeId). In (record { life = x; view = vote.0; instance = i; batch = vote.1 }) new.votes) same j

    allowed : Allowed c w (W.Act r d)
    allowed = record { within = h.me; meets = record { life = l; running = h.running; can = k.can } }

    steps : IsRun c f.world (moves_of r (t.deeds ++ d ∷ [])) × (end_of c f.world (moves_of r (t.deeds ++ d ∷ [])) ≡ new)
    steps = one-more c r f.world w t.deeds d h.run h.ends allowed

    sane : Sane new
    sane = step_sane t.stage.config h.reads w r l h.good.sound h.sane h.running d k.can k.valid

    acted : new.replicas r ≡ record { starts = (w.replicas r).starts; stable = stable_after c.mode (w.replicas r).stable d; running = Some (life_after c r l d) }
    acted = with_at-same w.replicas r (replica_after c (w.replicas r) (W.Act r d)) ∙ act-is c r (w.replicas r) d l h.running

pub goes-does : (f : Frame) (taken : List Taken) (phase : Phase) (clean : Bool) (ahead : Option ℕ) (owed : List Sent) (t : Turned) (d : Deed) (h : Goes f owed t)
    → Follows f (turned_to f taken phase clean ahead) h.world t.stage d
    → Goes (turned_to f taken phase clean ahead) (owed ++ sends_of (setup_of t.stage.config) t.stage.config.me t.stage.life d) (does d t)
goes-does f taken phase clean ahead owed t d h k = goes-does-as f taken phase clean ahead owed t t.stage d h k

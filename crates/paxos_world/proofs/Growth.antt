-- What stays, and what only grows, from one moment of a life, a replica and a world to a later one.
use Rattle.std.proofs.Common.{◌≡◌, ℕ, suc, ◌≤◌, ◌<◌, ◌⊎◌, ◌∷◌, Option, Some, if◌then◌else◌, ◌==◌, refl, sym, ap, subst, ◌∙◌, inl, inr, arith, le_refl, le_trans, le_of_lt}
use Rattle.jp_types.specs.declared.mode.Phase.TheVariants.{Working}
use Rattle.jp_types.specs.declared.mode.Mode.{Mode}
use Rattle.jp_types.specs.declared.mode.Mode.TheVariants.{ViewSs, EpochSs}
use Rattle.jp_types.specs.Lists.{In}
use Rattle.paxos_world.specs.Setup.{Setup, with_at}
use Rattle.paxos_world.specs.Life.{Taken, Launched, Lead, Leading, No, Preparing, Leads, Life, IsKnown, preparing_in}
use Rattle.jp_types.specs.Instances.{Batch}
use Rattle.paxos_world.specs.Counting.{entry_in}
use Rattle.paxos_world.specs.World.{executed_with, Replica, World, Deed, Take, Enter, Open, Promise, Prepared, Launch, Vote, Learn, Answer, Rejoin, Install, Execute, Restore, Say, Can, after, life_after, lead_of, lead_after, Move, First, Return, Crash, Act, Meets, who, replica_after}
use Rattle.paxos_world.proofs.Basics.{le_or_lt, with_at-cases}
use Rattle.paxos_world.proofs.Serving.{executed-execute}
use Rattle.paxos_world.proofs.Sound.{top, LifeSound, WorldSound, SentSound, tops_of, below-unknown, known-learn, known-install, next-above, return-le, rejoin-mark, act-is, top-stable_after, some-is, next_mark-up, replica-up}

-- a Prepared leader keeps what its Prepared step fixed, and its `next` does not fall
pub record LeadGrows (a b : Lead) : Type 0 where
  pub x : b.x ≡ a.x
  pub floor : b.floor ≡ a.floor
  pub adopted : b.adopted ≡ a.adopted
  pub reports : b.reports ≡ a.reports
  pub next : a.next ≤ b.next

-- what a life's leading may become while its view stays
abbrev pub Onward : Leading → Leading → Type 0
Onward No b = Unit {0}
Onward (Preparing first) No = ⊥
Onward (Preparing first) (Preparing other) = other ≡ first
Onward (Preparing first) (Leads lead) = Unit {0}
Onward (Leads lead) No = ⊥
Onward (Leads lead) (Preparing first) = ⊥
Onward (Leads lead) (Leads other) = LeadGrows lead other

pub lead-refl : (a : Lead) → LeadGrows a a
lead-refl a = record { x = refl; floor = refl; adopted = refl; reports = refl; next = le_refl _ }

pub lead-trans : (a b d : Lead) → LeadGrows a b → LeadGrows b d → LeadGrows a d
lead-trans a b d h k = record { x = k.x ∙ h.x; floor = k.floor ∙ h.floor; adopted = k.adopted ∙ h.adopted; reports = k.reports ∙ h.reports; next = le_trans h.next k.next }

onward-refl : (a : Leading) → Onward a a
onward-refl No = tt
onward-refl (Preparing first) = refl
onward-refl (Leads lead) = lead-refl lead

onward-trans : (a b d : Leading) → Onward a b → Onward b d → Onward a d
onward-trans No b d h k = tt
onward-trans (Preparing f) No d h k = absurd h
onward-trans (Preparing f) (Preparing g) No h k = absurd k
onward-trans (Preparing f) (Preparing g) (Preparing e) h k = k ∙ h
onward-trans (Preparing f) (Preparing g) (Leads e) h k = tt
onward-trans (Preparing f) (Leads g) No h k = absurd k
onward-trans (Preparing f) (Leads g) (Preparing e) h k = absurd k
onward-trans (Preparing f) (Leads g) (Leads e) h k = tt
onward-trans (Leads f) No d h k = absurd h
onward-trans (Leads f) (Preparing g) d h k = absurd h
onward-trans (Leads f) (Leads g) No h k = absurd k
onward-trans (Leads f) (Leads g) (Preparing e) h k = absurd k
onward-trans (Leads f) (Leads g) (Leads e) h k = lead-trans f g e h k

-- b is the life a of r at some later moment
pub record Grows (c : Setup) (r : ℕ) (a b : Life) : Type 0 where
  pub number : b.number ≡ a.number
  pub mark : b.mark ≡ a.mark
  pub view : a.view ≤ b.view
  pub working : a.phase ≡ Working → b.phase ≡ Working
  pub known : (i : ℕ) → IsKnown a i → IsKnown b i
  pub below : a.below ≤ b.below
  -- the latest votes' views do not fall
  pub votes : (i : ℕ) (vote : ℕ × Batch) → a.votes i ≡ Some vote → (later : ℕ × Batch) × (b.votes i ≡ Some later) × (vote.0 ≤ later.0)
  pub entry : (p : ℕ) → entry_in c.mode r a p ≤ entry_in c.mode r b p
  pub launched : (x : Launched) → In x a.launched → In x b.launched
  pub executed : a.service.executed ≤ b.service.executed
  pub leading : (a.view < b.view) ⊎ ((b.view ≡ a.view) × Onward a.leading b.leading)

pub grows-refl : (c : Setup) (r : ℕ) (a : Life) → Grows c r a a
grows-refl c r a =
    record { number = refl; mark = refl; view = le_refl _; working = λ e. e; known = λ i k. k; below = le_refl _; votes = λ i vote e. (vote, e, le_refl _); entry = λ p. le_refl _; launched = λ x i. i; executed = le_refl _; leading = inr (refl, onward-refl a.leading) }

pub grows-trans : (c : Setup) (r : ℕ) (a b d : Life) → Grows c r a b → Grows c r b d → Grows c r a d
grows-trans c r a b d h k =
    record {
      number = k.number ∙ h.number;
      mark = k.mark ∙ h.mark;
      view = le_trans h.view k.view;
      working = λ e. k.working (h.working e);
      known = λ i e. k.known i (h.known i e);
      below = le_trans h.below k.below;
      votes = λ i vote e. let f = h.votes i vote e in let g = k.votes i f.0 f.1 in (g.0, g.1, le_trans f.2 g.2);
      entry = λ p. le_trans (h.entry p) (k.entry p);
      launched = λ x i. k.launched x (h.launched x i);
      executed = le_trans h.executed k.executed;
      leading = go h.leading k.leading;
    }
  where
    go : (a.view < b.view) ⊎ ((b.view ≡ a.view) × Onward a.leading b.leading) → (b.view < d.view) ⊎ ((d.view ≡ b.view) × Onward b.leading d.leading) → (a.view < d.view) ⊎ ((d.view ≡ a.view) × Onward a.leading d.leading)
    go (inl e) f = let v = k.view in inl (omega arith)
    go (inr e) (inl f) = let v = e.0 in inl (omega arith)
    go (inr e) (inr f) = inr (f.0 ∙ e.0, onward-trans a.leading b.leading d.leading e.1 f.1)

entry-grows-take : (mode : Mode) (q p : ℕ) (l : Life) (t : Taken) → entry_in mode q l p ≤ entry_in mode q (record l { taken = t ∷ l.taken }) p
entry-grows-take ViewSs q p l t = le_refl _
entry-grows-take EpochSs q p l t = omega arith

entry-grows-answer : (mode : Mode) (q p : ℕ) (l : Life) (to mark : ℕ) → entry_in mode q l p ≤ entry_in mode q (record l { answered = (to, mark) ∷ l.answered }) p
entry-grows-answer ViewSs q p l to mark = le_refl _
entry-grows-answer EpochSs q p l to mark = omega arith

-- a vote in the present view is at or above each earlier one
votes-grow : (l : Life) (i view : ℕ) (batch : Batch) → ((j : ℕ) (vote : ℕ × Batch) → l.votes j ≡ Some vote → vote.0 ≤ l.view) → l.view ≡ view
    → (j : ℕ) (vote : ℕ × Batch) → l.votes j ≡ Some vote → (later : ℕ × Batch) × (with_at l.votes i (Some (view, batch)) j ≡ Some later) × (vote.0 ≤ later.0)
votes-grow l i view batch low in_view j vote e =
    with_at-cases (λ o. (later : ℕ × Batch) × (o ≡ Some later) × (vote.0 ≤ later.0)) l.votes i (Some (view, batch)) j
    (λ f. let a = low j vote e in let b : vote.0 ≤ view = omega arith in ((view, batch), refl, b)) (λ ne. (vote, e, le_refl _))

-- the life after what it did is the same one, later
pub deed_grows : (c : Setup) (w : World) (q starts s : ℕ) (tops : ℕ → ℕ) (l : Life) (d : Deed) → LifeSound c q starts s tops w.sent l → SentSound c tops w.sent → Can c w q l d → Grows c q l (life_after c q l d)
deed_grows c w q starts s tops l (Take from message) h said can =
    let t : Taken = record { from = from; message = message; phase = l.phase; preparing = preparing_in l.leading l.view } in
    let entry : (p : ℕ) → entry_in c.mode q l p ≤ entry_in c.mode q (record l { taken = t ∷ l.taken }) p = λ p. entry-grows-take c.mode q p l t in
    let old = grows-refl c q l in
    assumption (entry, old)
deed_grows c w q starts s tops l (Enter view) h said can =
    let old = grows-refl c q l in
    record { number = refl; mark = refl; view = le_of_lt can.above; working = λ e. e; known = old.known; below = old.below; votes = old.votes; entry = old.entry; launched = old.launched; executed = old.executed; leading = inl can.above }
deed_grows c w q starts s tops l (Open view first) h said can =
    let old = grows-refl c q l in
    record {
      number = refl;
      mark = refl;
      view = old.view;
      working = λ e. e;
      known = old.known;
      below = old.below;
      votes = old.votes;
      entry = old.entry;
      launched = old.launched;
      executed = old.executed;
      leading = inr (refl, subst (λ b. Onward b (Preparing first)) (sym can.idle) tt);
    }
deed_grows c w q starts s tops l (Promise view first mark low report) h said can = grows-refl c q l
deed_grows c w q starts s tops l (Prepared view x) h said can =
    let old = grows-refl c q l in
    record {
      number = refl;
      mark = refl;
      view = old.view;
      working = λ e. e;
      known = old.known;
      below = old.below;
      votes = old.votes;
      entry = old.entry;
      launched = old.launched;
      executed = old.executed;
      leading = inr (refl, subst (λ b. Onward b (Leads (lead_of c q l x))) (sym can.preparing) tt);
    }
deed_grows c w q starts s tops l (Launch view i batch) h said can =
    let lead = can.lead in
    let new : Lead = record lead { next = if i == lead.next then suc i else lead.next } in
    let is : lead_after l.leading i ≡ Leads new = ap (λ b. lead_after b i) can.leads in
    let up = next-above lead i batch (h.next lead can.leads) can.may in
    let g : LeadGrows lead new = record { x = refl; floor = refl; adopted = refl; reports = refl; next = up.1 } in
    let onward : Onward l.leading (lead_after l.leading i) = subst (λ b. Onward b (lead_after l.leading i)) (sym can.leads) (subst (λ b. Onward (Leads lead) b) (sym is) g) in
    let old = grows-refl c q l in
    record { number = refl; mark = refl; view = old.view; working = λ e. e; known = old.known; below = old.below; votes = votes-grow l i view batch h.votes can.in_view; entry = old.entry; launched = λ x j. inr j; executed = old.executed; leading = inr (refl, onward) }
deed_grows c w q starts s tops l (Vote view i batch) h said can =
    let votes : (j : ℕ) (vote : ℕ × Batch) → l.votes j ≡ Some vote → (later : ℕ × Batch) × (with_at l.votes i (Some (view, batch)) j ≡ Some later) × (vote.0 ≤ later.0) = votes-grow l i view batch h.votes can.in_view in
    let old = grows-refl c q l in
    assumption (votes, old)
deed_grows c w q starts s tops l (Learn i batch) h said can =
    let known : (j : ℕ) → IsKnown l j → IsKnown (life_after c q l (Learn i batch)) j = λ j k. known-learn l j i batch k in
    let old = grows-refl c q l in
    assumption (known, old)
deed_grows c w q starts s tops l (Answer to view next mark) h said can =
    let entry : (p : ℕ) → entry_in c.mode q l p ≤ entry_in c.mode q (record l { answered = (to, mark) ∷ l.answered }) p = λ p. entry-grows-answer c.mode q p l to mark in
    let old = grows-refl c q l in
    assumption (entry, old)
deed_grows c w q starts s tops l (Rejoin view) h said can =
    let wait = h.waiting can.recovering in
    let up : l.view ≤ view = rw wait.0 (return-le c.mode l.mark view (rejoin-mark c w q starts s tops l view h said can)) in
    let old = grows-refl c q l in
    record { number = refl; mark = refl; view = up; working = λ e. refl; known = old.known; below = old.below; votes = old.votes; entry = old.entry; launched = old.launched; executed = old.executed; leading = go up }
  where
    go : l.view ≤ view → (l.view < view) ⊎ ((view ≡ l.view) × Onward l.leading l.leading)
    go up = elim (le_or_lt view l.view) [ inl a ↦ inr (omega arith, onward-refl l.leading) | inr b ↦ inl b ]
deed_grows c w q starts s tops l (Install upto state) h said can =
    let low = below-unknown l can.unknown can.first_unknown in
    let above = can.above in
    let up : l.below ≤ upto = omega arith in
    let known : (j : ℕ) → IsKnown l j → IsKnown (life_after c q l (Install upto state)) j = λ j k. known-install l j upto (state ∷ l.installed) up k in
    let old = grows-refl c q l in
    assumption (known, up, old)
deed_grows c w q starts s tops l (Execute i) h said can =
    let executed : l.service.executed ≤ (executed_with l.service (l.known i)).executed
    = subst (λ (o : Option Batch). l.service.executed ≤ (executed_with l.service o).executed) (sym can.known) (let e = executed-execute l.service can.batch in omega arith) in
    let old = grows-refl c q l in
    assumption (executed, old)
deed_grows c w q starts s tops l (Restore upto state) h said can =
    let place = can.place in
    let above = can.above in
    let executed : l.service.executed ≤ state.executed = omega arith in
    let old = grows-refl c q l in
    assumption (executed, old)
deed_grows c w q starts s tops l (Say to message) h said can = grows-refl c q l

-- b is the replica a at some later moment: the life that runs is newer than each of before, with a higher mark, or is the one that ran
pub record Later (c : Setup) (q : ℕ) (a b : Replica) : Type 0 where
  pub starts : a.starts ≤ b.starts
  pub stable : top a.stable ≤ top b.stable
  pub life : (l : Life) → b.running ≡ Some l
      → ((a.starts < l.number) × (0 < a.starts → top a.stable < l.mark)) ⊎ ((k : Life) × (a.running ≡ Some k) × Grows c q k l)

pub later-refl : (c : Setup) (q : ℕ) (a : Replica) → Later c q a a
later-refl c q a = record { starts = le_refl _; stable = le_refl _; life = λ l e. inr (l, e, grows-refl c q l) }

pub later-trans : (c : Setup) (q : ℕ) (a b d : Replica) → Later c q a b → Later c q b d → Later c q a d
later-trans c q a b d h k =
    record { starts = le_trans h.starts k.starts; stable = le_trans h.stable k.stable; life = λ l e. go l (k.life l e) }
  where
    on : (l : Life) (m : Life) → Grows c q m l → ((a.starts < m.number) × (0 < a.starts → top a.stable < m.mark)) ⊎ ((k : Life) × (a.running ≡ Some k) × Grows c q k m)
        → ((a.starts < l.number) × (0 < a.starts → top a.stable < l.mark)) ⊎ ((k : Life) × (a.running ≡ Some k) × Grows c q k l)
    on l m g (inl n) = let e = g.number in let f = g.mark in inl (omega arith, λ some. let i = n.1 some in omega arith)
    on l m g (inr n) = inr (n.0, n.1, grows-trans c q n.0 m l n.2 g)

    go : (l : Life) → ((b.starts < l.number) × (0 < b.starts → top b.stable < l.mark)) ⊎ ((k : Life) × (b.running ≡ Some k) × Grows c q k l)
        → ((a.starts < l.number) × (0 < a.starts → top a.stable < l.mark)) ⊎ ((k : Life) × (a.running ≡ Some k) × Grows c q k l)
    go l (inl n) = let x = h.starts in let y = h.stable in inl (omega arith, λ some. let i = n.1 (omega arith) in omega arith)
    go l (inr n) = on l n.0 n.2 (h.life n.0 n.1)

-- the replica whose step it is, after the step
acting_later : (c : Setup) (w : World) (m : Move) → WorldSound c w → Meets c w m → Later c (who m) (w.replicas (who m)) (replica_after c (w.replicas (who m)) m)
acting_later c w (First r) sound h =
    let zero_starts = (sound.replica r).fresh h.fresh in
    record {
      starts = omega arith;
      stable = replica-up c w (First r) h;
      life = λ l e. subst (λ (k : Life). (((w.replicas r).starts < k.number) × (0 < (w.replicas r).starts → top (w.replicas r).stable < k.mark)) ⊎ ((j : Life) × ((w.replicas r).running ≡ Some j) × Grows c r j k))
          (some-is _ l e) (inl (omega arith, λ some. omega arith));
    }
acting_later c w (Return r mark) sound h =
    let e = ap top h.stable in
    let f = next_mark-up c.mode c.n r h.number mark h.next in
    let g : top (w.replicas r).stable < mark = omega arith in
    record {
      starts = omega arith;
      stable = replica-up c w (Return r mark) h;
      life = λ l e. subst (λ (k : Life). (((w.replicas r).starts < k.number) × (0 < (w.replicas r).starts → top (w.replicas r).stable < k.mark)) ⊎ ((j : Life) × ((w.replicas r).running ≡ Some j) × Grows c r j k))
          (some-is _ l e) (inl (omega arith, λ some. g));
    }
acting_later c w (Crash r) sound h = record { starts = le_refl _; stable = le_refl _; life = λ l e. absurd cc }
acting_later c w (Act r d) sound h =
    let a = w.replicas r in
    let old = (sound.replica r).life h.life h.running in
    let g = deed_grows c w r a.starts (top a.stable) (tops_of w) h.life d old sound.sent h.can in
    subst (λ (b : Replica). Later c r a b) (sym (act-is c r a d h.life h.running))
    (record {
      starts = le_refl _;
      stable = top-stable_after c.mode a.stable d;
      life = λ l e. subst (λ (k : Life). ((a.starts < k.number) × (0 < a.starts → top a.stable < k.mark)) ⊎ ((j : Life) × (a.running ≡ Some j) × Grows c r j k))
          (some-is _ l e) (inr (h.life, h.running, g));
    })

-- each replica, after a step
pub step_later : (c : Setup) (w : World) (m : Move) → WorldSound c w → Meets c w m → (q : ℕ) → Later c q (w.replicas q) ((after c w m).replicas q)
step_later c w m sound h q = with_at-cases (λ b. Later c q (w.replicas q) b) w.replicas (who m) (replica_after c (w.replicas (who m)) m) q
    (λ e. subst (λ k. Later c k (w.replicas k) (replica_after c (w.replicas (who m)) m)) (sym e) (acting_later c w m sound h))
    (λ ne. later-refl c q (w.replicas q))

-- What is true of each world that a run comes to: of each life, of each message.
use Rattle.std.proofs.Common.{◌≡◌, ◌≢◌, ℕ, zero, suc, ◌≤◌, ◌<◌, Bool, true, false, ◌&&◌, eqb, ◌⊎◌, List, [], ◌∷◌, Option, Some, None, if◌then◌else◌, ◌==◌, refl, sym, ap, subst, ◌∙◌, inl, inr, ⊎_elim, arith, le_refl, le_trans}
use Rattle.std.proofs.lemmas.Bool.Decides.{eqb_tells, nat_tests}
use Rattle.jp_types.specs.declared.message.Message.{Message}
use Rattle.jp_types.specs.declared.message.PrepareOk.{PrepareOk}
use Rattle.jp_types.specs.declared.message.RecoveryAnswer.{RecoveryAnswer}
use Rattle.kv_service.specs.Service.{State}
use Rattle.jp_types.specs.declared.mode.Phase.{Phase}
use Rattle.jp_types.specs.declared.mode.Phase.TheVariants.{Recovering, Working}
use Rattle.jp_types.specs.declared.mode.Mode.{Mode}
use Rattle.jp_types.specs.declared.mode.Mode.TheVariants.{ViewSs, EpochSs}
use Rattle.jp_types.specs.Views.{leader}
use Rattle.jp_types.specs.Lists.{In}
use Rattle.paxos_world.specs.Setup.{Setup, with_at}
use Rattle.paxos_world.specs.Life.{LifeId, Taken, Launched, Lead, Leading, No, Preparing, Leads, Life, IsKnown, IsFirstUnknown, preparing_in, new_life}
use Rattle.jp_types.specs.Instances.{Batch}
use Rattle.jp_types.specs.Marks.{first_mark, view_at_return}
use Rattle.paxos_world.specs.Counting.{entry_in, entry_of_ok, entry_of_answer, own_ok, own_answer, is_view, is_recovering}
use Rattle.jp_types.specs.Vectors.{entry, table}
use Rattle.paxos_world.specs.World.{Replica, Sent, World, Deed, Take, Enter, Open, Promise, Prepared, Launch, Vote, Learn, Answer, Rejoin, Install, Execute, Restore, Say, Can, after, opening, stable_after, raised, life_after, lead_of, lead_after, MayLaunch, CanRejoin, Move, First, Return, Crash, Act, Meets, CanAct, who, replica_after, act, IsNextMark, sends, sends_of, of_running, to_others, id_of, MaySay}
use Rattle.paxos_world.proofs.Replies.{counted_answer-is, entry-table-le}
use Rattle.paxos_world.proofs.Basics.{le_or_lt, with_at-cases, with_at-same, In-append, In-left}

-- the stable number, and 0 where there is none
abbrev pub top : Option ℕ → ℕ
top None = 0
top (Some s) = s

-- what a message says is true, where no number is above the replica's stable one
abbrev pub IsSaid : Mode → (ℕ → ℕ) → LifeId → Message → Type 0
IsSaid mode tops from (Message.PrepareOk m) = (p : ℕ) → entry m.vector p ≤ tops p
IsSaid mode tops from (Message.RecoveryAnswer m) = ((p : ℕ) → entry m.vector p ≤ tops p) × (mode ≡ ViewSs → m.mark ≤ m.view)
IsSaid mode tops from (Message.Recovery m) = m.mark ≤ tops from.replica
IsSaid mode tops from _ = Unit {0}

-- a life that leads its view is the view's leader
abbrev pub IsLed : ℕ → ℕ → ℕ → Leading → Type 0
IsLed n q view No = Unit {0}
IsLed n q view (Preparing first) = leader n view ≡ q
IsLed n q view (Leads lead) = leader n view ≡ q

-- what a life launched, by whether it leads: before this view, or in it below its next instance
abbrev pub LaunchedSo : ℕ → Leading → Launched → Type 0
LaunchedSo view No x = x.view < view
LaunchedSo view (Preparing first) x = x.view < view
LaunchedSo view (Leads lead) x = (x.view < view) ⊎ ((x.view ≡ view) × (x.instance < lead.next))

-- a life of q is sound, where the replica has this many starts and this stable number
pub record LifeSound (c : Setup) (q starts stable : ℕ) (tops : ℕ → ℕ) (sent : List Sent) (l : Life) : Type 0 where
  pub number : l.number ≡ starts
  pub started : 0 < l.number
  pub mark_top : l.mark ≤ stable
  pub mark_is : c.mode ≡ EpochSs → l.mark ≡ stable
  pub view_top : c.mode ≡ ViewSs → l.view ≤ stable
  pub view_mark : c.mode ≡ ViewSs → l.mark ≤ l.view
  pub waiting : l.phase ≡ Recovering → (l.view ≡ view_at_return c.mode l.mark) × (l.leading ≡ No)
  pub led : IsLed c.n q l.view l.leading
  pub launched : (x : Launched) → In x l.launched → LaunchedSo l.view l.leading x
  pub launched_by : (x : Launched) → In x l.launched → leader c.n x.view ≡ q
  pub from_first : (first : ℕ) → l.leading ≡ Preparing first → (i : ℕ) → i < first → IsKnown l i
  pub next : (lead : Lead) → l.leading ≡ Leads lead → lead.x ≤ lead.next
  pub votes : (i : ℕ) (vote : ℕ × Batch) → l.votes i ≡ Some vote → vote.0 ≤ l.view
  pub taken : (t : Taken) → In t l.taken → In (record { from = t.from; to = q; message = t.message }) sent
  pub entries : (p : ℕ) → entry_in c.mode q l p ≤ tops p

-- a message that was sent is sound
abbrev pub SentSound : Setup → (ℕ → ℕ) → List Sent → Type 0
SentSound c tops sent = (x : Sent) → In x sent → IsSaid c.mode tops x.from x.message

-- the stable number does not fall
top-raised : (s : Option ℕ) (v : ℕ) → (top s ≤ top (raised s v)) × (v ≤ top (raised s v))
top-raised None v = (omega arith, omega arith)
top-raised (Some s) v = (omega arith, omega arith)

pub top-stable_after : (mode : Mode) (s : Option ℕ) (d : Deed) → top s ≤ top (stable_after mode s d)
top-stable_after ViewSs s (Enter v) = (top-raised s v).0
top-stable_after ViewSs s (Rejoin v) = (top-raised s v).0
top-stable_after ViewSs s _ = le_refl _
top-stable_after EpochSs s _ = le_refl _

top-epoch : (mode : Mode) (s : Option ℕ) (d : Deed) → mode ≡ EpochSs → top (stable_after mode s d) ≡ top s
top-epoch ViewSs s d e = cc
top-epoch EpochSs s d e = refl

top-enter : (mode : Mode) (s : Option ℕ) (v : ℕ) → mode ≡ ViewSs → v ≤ top (stable_after mode s (Enter v))
top-enter ViewSs s v e = (top-raised s v).1
top-enter EpochSs s v e = cc

top-rejoin : (mode : Mode) (s : Option ℕ) (v : ℕ) → mode ≡ ViewSs → v ≤ top (stable_after mode s (Rejoin v))
top-rejoin ViewSs s v e = (top-raised s v).1
top-rejoin EpochSs s v e = cc

-- the entry of a reply that may be an own one
ok-bound : (b : Bool) (m : PrepareOk) (p k : ℕ) → entry m.vector p ≤ k → entry_of_ok p (if b then Some m else None) ≤ k
ok-bound true m p k h = h
ok-bound false m p k h = omega arith

answer-bound : (b : Bool) (m : RecoveryAnswer) (p k : ℕ) → entry m.vector p ≤ k → entry_of_answer p (if b then Some m else None) ≤ k
answer-bound true m p k h = h
answer-bound false m p k h = omega arith

own_ok-bound : (mark p : ℕ) (preparing : Option ℕ) (m : Message) (mode : Mode) (tops : ℕ → ℕ) (from : LifeId) → IsSaid mode tops from m → entry_of_ok p (own_ok mark preparing m) ≤ tops p
own_ok-bound mark p preparing (Message.PrepareOk m) mode tops from h = ok-bound (m.mark == mark && is_view preparing m.view) m p (tops p) (h p)
own_ok-bound mark p preparing _ mode tops from h = omega arith

own_answer-bound : (mark p : ℕ) (phase : Phase) (m : Message) (mode : Mode) (tops : ℕ → ℕ) (from : LifeId) → IsSaid mode tops from m → entry_of_answer p (own_answer mark phase m) ≤ tops p
own_answer-bound mark p phase (Message.RecoveryAnswer m) mode tops from h = answer-bound (m.mark == mark && is_recovering phase) m p (tops p) (h.0 p)
own_answer-bound mark p phase _ mode tops from h = omega arith

-- taking a sound message keeps the entries at or below the stable numbers
entries-take : (mode : Mode) (q p : ℕ) (l : Life) (t : Taken) (tops : ℕ → ℕ) → IsSaid mode tops t.from t.message → entry_in mode q l p ≤ tops p → entry_in mode q (record l { taken = t ∷ l.taken }) p ≤ tops p
entries-take ViewSs q p l t tops said h = h
entries-take EpochSs q p l t tops said h =
    let a = own_ok-bound l.mark p t.preparing t.message EpochSs tops t.from said in
    let b = own_answer-bound l.mark p t.phase t.message EpochSs tops t.from said in
    omega arith

-- answering a recovery keeps the entries at or below the stable numbers
entries-answer : (mode : Mode) (q p : ℕ) (l : Life) (to mark : ℕ) (tops : ℕ → ℕ) → mark ≤ tops to → entry_in mode q l p ≤ tops p → entry_in mode q (record l { answered = (to, mark) ∷ l.answered }) p ≤ tops p
entries-answer ViewSs q p l to mark tops said h = h
entries-answer EpochSs q p l to mark tops said h = go (eqb_tells to p)
  where
    go : ((eqb to p ≡ true) × (to ≡ p)) ⊎ ((eqb to p ≡ false) × (to ≢ p)) → entry_in EpochSs q (record l { answered = (to, mark) ∷ l.answered }) p ≤ tops p
    go (inl e) = let m : mark ≤ tops p = subst (λ k. mark ≤ tops k) e.1 said in rw e.0 (omega arith)
    go (inr e) = rw e.0 (omega arith)

-- what is known stays known
pub known-learn : (l : Life) (i j : ℕ) (batch : Batch) → IsKnown l i → IsKnown (record l { known = with_at l.known j (Some batch) }) i
known-learn l i j batch (inl h) = inl h
known-learn l i j batch (inr h) = inr (with_at-cases (λ o. (b : Batch) × (o ≡ Some b)) l.known j (Some batch) i (λ e. (batch, refl)) (λ ne. h))

pub known-install : (l : Life) (i upto : ℕ) (installed : List State) → l.below ≤ upto → IsKnown l i → IsKnown (record l { below = upto; installed = installed }) i
known-install l i upto installed up (inl h) = inl (omega arith)
known-install l i upto installed up (inr h) = inr h

-- a life stays sound where the stable number rises
raise : (c : Setup) (q starts s s' : ℕ) (tops : ℕ → ℕ) (sent : List Sent) (l : Life) → LifeSound c q starts s tops sent l → s ≤ s' → (c.mode ≡ EpochSs → s' ≡ s) → LifeSound c q starts s' tops sent l
raise c q starts s s' tops sent l h up same =
    let mark_top : l.mark ≤ s' = le_trans h.mark_top up in
    let mark_is : c.mode ≡ EpochSs → l.mark ≡ s' = λ e. h.mark_is e ∙ sym (same e) in
    let view_top : c.mode ≡ ViewSs → l.view ≤ s' = λ e. le_trans (h.view_top e) up in
    assumption (mark_top, mark_is, view_top, h)

-- what was launched was launched at or below the view
pub launched-le : (view : ℕ) (leading : Leading) (x : Launched) → LaunchedSo view leading x → x.view ≤ view
launched-le view No x h = omega arith
launched-le view (Preparing first) x h = omega arith
launched-le view (Leads lead) x h = omega arith

-- an instance that may be launched is below `next` after it is launched
pub next-above : (lead : Lead) (i : ℕ) (batch : Batch) → lead.x ≤ lead.next → MayLaunch lead i batch
    → (i < (if i == lead.next then suc i else lead.next)) × (lead.next ≤ (if i == lead.next then suc i else lead.next))
next-above lead i batch up may = grind (arith, nat_tests)

-- the below of a life is at most its first unknown instance
pub below-unknown : (l : Life) (f : ℕ) → IsFirstUnknown l f → l.below ≤ f
below-unknown l f h = go (le_or_lt l.below f)
  where
    go : (l.below ≤ f) ⊎ (f < l.below) → l.below ≤ f
    go (inl a) = a
    go (inr b) = absurd (h.unknown (inl b))

-- a view at return is not above a view that is at least the mark, in ViewSS
pub return-le : (mode : Mode) (mark view : ℕ) → (mode ≡ ViewSs → mark ≤ view) → view_at_return mode mark ≤ view
return-le ViewSs mark view h = h refl
return-le EpochSs mark view h = omega arith

-- in ViewSS a recovering life rejoins at or above its mark
pub rejoin-mark : (c : Setup) (w : World) (q starts s : ℕ) (tops : ℕ → ℕ) (l : Life) (view : ℕ) → LifeSound c q starts s tops w.sent l → SentSound c tops w.sent
    → CanRejoin c q l view → c.mode ≡ ViewSs → l.mark ≤ view
rejoin-mark c w q starts s tops l view h said can e =
    let k = counted_answer-is c q l (leader c.n view) can.leader_answer can.leader_counted in
    let a = k.held in
    let x : Sent = record { from = a.t.from; to = q; message = a.t.message } in
    let f : IsSaid c.mode tops a.t.from a.t.message = said x (h.taken a.t a.in_taken) in
    let g : IsSaid c.mode tops a.t.from (Message.RecoveryAnswer can.leader_answer.body) = subst (IsSaid c.mode tops a.t.from) a.message f in
    let b = g.1 e in
    let m = a.mark_is in
    let v = can.leader_view in
    omega arith

-- what a life does keeps it sound
deed_sound : (c : Setup) (w : World) (q starts s : ℕ) (tops : ℕ → ℕ) (l : Life) (d : Deed)
    → LifeSound c q starts s tops w.sent l → SentSound c tops w.sent → Can c w q l d → (c.mode ≡ ViewSs → (life_after c q l d).view ≤ s)
    → LifeSound c q starts s tops w.sent (life_after c q l d)
deed_sound c w q starts s tops l (Take from message) h said can low =
    let t : Taken = record { from = from; message = message; phase = l.phase; preparing = preparing_in l.leading l.view } in
    let x : Sent = record { from = from; to = q; message = message } in
    let taken : (u : Taken) → In u (t ∷ l.taken) → In (record { from = u.from; to = q; message = u.message }) w.sent
    = λ u i. ⊎_elim (λ e. subst (λ (v : Taken). In (record { from = v.from; to = q; message = v.message }) w.sent) (sym e) can.sent) (λ i. h.taken u i) i in
    let entries : (p : ℕ) → entry_in c.mode q (record l { taken = t ∷ l.taken }) p ≤ tops p = λ p. entries-take c.mode q p l t tops (said x can.sent) (h.entries p) in
    assumption (taken, entries, h)
deed_sound c w q starts s tops l (Enter view) h said can low =
    let view_mark : c.mode ≡ ViewSs → l.mark ≤ view = λ e. let a = h.view_mark e in let b = can.above in omega arith in
    let waiting : l.phase ≡ Recovering → (view ≡ view_at_return c.mode l.mark) × (No ≡ No) = λ e. let a = can.working in absurd cc in
    let launched : (x : Launched) → In x l.launched → x.view < view = λ x i. let a = launched-le l.view l.leading x (h.launched x i) in let b = can.above in omega arith in
    let from_first : (first : ℕ) → No ≡ Preparing first → (i : ℕ) → i < first → IsKnown (life_after c q l (Enter view)) i = λ first e. absurd cc in
    let next : (lead : Lead) → No ≡ Leads lead → lead.x ≤ lead.next = λ lead e. absurd cc in
    let votes : (i : ℕ) (vote : ℕ × Batch) → l.votes i ≡ Some vote → vote.0 ≤ view = λ i vote e. let a = h.votes i vote e in let b = can.above in omega arith in
    record {
      number = h.number;
      started = h.started;
      mark_top = h.mark_top;
      mark_is = h.mark_is;
      view_top = low;
      view_mark = view_mark;
      waiting = waiting;
      led = tt;
      launched = launched;
      launched_by = h.launched_by;
      from_first = from_first;
      next = next;
      votes = votes;
      taken = h.taken;
      entries = h.entries;
    }
deed_sound c w q starts s tops l (Open view first) h said can low =
    let led : leader c.n l.view ≡ q = ap (leader c.n) can.in_view ∙ can.leads in
    let waiting : l.phase ≡ Recovering → (l.view ≡ view_at_return c.mode l.mark) × (Preparing first ≡ No) = λ e. let a = can.working in absurd cc in
    let launched : (x : Launched) → In x l.launched → x.view < l.view = λ x i. subst (λ b. LaunchedSo l.view b x) can.idle (h.launched x i) in
    let from_first : (other : ℕ) → Preparing first ≡ Preparing other → (i : ℕ) → i < other → IsKnown l i
    = λ other e i lt. let f : first ≡ other = cc in can.first_unknown.below i (omega arith) in
    let next : (lead : Lead) → Preparing first ≡ Leads lead → lead.x ≤ lead.next = λ lead e. absurd cc in
    record {
      number = h.number;
      started = h.started;
      mark_top = h.mark_top;
      mark_is = h.mark_is;
      view_top = h.view_top;
      view_mark = h.view_mark;
      waiting = waiting;
      led = led;
      launched = launched;
      launched_by = h.launched_by;
      from_first = from_first;
      next = next;
      votes = h.votes;
      taken = h.taken;
      entries = h.entries;
    }
deed_sound c w q starts s tops l (Promise view first mark lows report) h said can low = h
deed_sound c w q starts s tops l (Prepared view x) h said can low =
    let lead = lead_of c q l x in
    let led : leader c.n l.view ≡ q = subst (IsLed c.n q l.view) can.preparing h.led in
    let waiting : l.phase ≡ Recovering → (l.view ≡ view_at_return c.mode l.mark) × (Leads lead ≡ No) = λ e. let a = (h.waiting e).1 in let b = can.preparing in absurd cc in
    let launched : (y : Launched) → In y l.launched → (y.view < l.view) ⊎ ((y.view ≡ l.view) × (y.instance < x)) = λ y i. inl (subst (λ b. LaunchedSo l.view b y) can.preparing (h.launched y i)) in
    let from_first : (other : ℕ) → Leads lead ≡ Preparing other → (i : ℕ) → i < other → IsKnown l i = λ other e. absurd cc in
    let next : (k : Lead) → Leads lead ≡ Leads k → k.x ≤ k.next = λ k e. let f : lead ≡ k = cc in subst (λ (y : Lead). y.x ≤ y.next) f (le_refl x) in
    record {
      number = h.number;
      started = h.started;
      mark_top = h.mark_top;
      mark_is = h.mark_is;
      view_top = h.view_top;
      view_mark = h.view_mark;
      waiting = waiting;
      led = led;
      launched = launched;
      launched_by = h.launched_by;
      from_first = from_first;
      next = next;
      votes = h.votes;
      taken = h.taken;
      entries = h.entries;
    }
deed_sound c w q starts s tops l (Launch view i batch) h said can low =
    let lead = can.lead in
    let new : Lead = record lead { next = if i == lead.next then suc i else lead.next } in
    let is : lead_after l.leading i ≡ Leads new = ap (λ b. lead_after b i) can.leads in
    let low_next = h.next lead can.leads in
    let up = next-above lead i batch low_next can.may in
    let was : leader c.n l.view ≡ q = subst (IsLed c.n q l.view) can.leads h.led in
    let led : IsLed c.n q l.view (lead_after l.leading i) = subst (IsLed c.n q l.view) (sym is) was in
    let waiting : l.phase ≡ Recovering → (l.view ≡ view_at_return c.mode l.mark) × (lead_after l.leading i ≡ No) = λ e. let a = (h.waiting e).1 in let b = can.leads in absurd cc in
    let y : Launched = record { view = view; instance = i; batch = batch } in
    let old : (x : Launched) → In x l.launched → LaunchedSo l.view (Leads new) x
    = λ x j. ⊎_elim (λ a. inl a) (λ b. inr (b.0, omega arith)) (subst (λ b. LaunchedSo l.view b x) can.leads (h.launched x j)) in
    let here : LaunchedSo l.view (Leads new) y = inr (sym can.in_view, up.0) in
    let launched : (x : Launched) → In x (y ∷ l.launched) → LaunchedSo l.view (lead_after l.leading i) x
    = λ x j. subst (λ b. LaunchedSo l.view b x) (sym is) (⊎_elim (λ e. subst (λ (z : Launched). LaunchedSo l.view (Leads new) z) (sym e) here) (λ k. old x k) j) in
    let launched_by : (x : Launched) → In x (y ∷ l.launched) → leader c.n x.view ≡ q
    = λ x j. ⊎_elim (λ e. subst (λ (z : Launched). leader c.n z.view ≡ q) (sym e) (subst (λ v. leader c.n v ≡ q) can.in_view was)) (λ k. h.launched_by x k) j in
    let from_first : (other : ℕ) → lead_after l.leading i ≡ Preparing other → (j : ℕ) → j < other → IsKnown l j = λ other e. absurd cc in
    let next : (k : Lead) → lead_after l.leading i ≡ Leads k → k.x ≤ k.next
    = λ k e. let f : new ≡ k = cc in subst (λ (z : Lead). z.x ≤ z.next) f (le_trans low_next up.1) in
    let votes : (j : ℕ) (vote : ℕ × Batch) → with_at l.votes i (Some (view, batch)) j ≡ Some vote → vote.0 ≤ l.view
    = λ j. with_at-cases (λ o. (vote : ℕ × Batch) → o ≡ Some vote → vote.0 ≤ l.view) l.votes i (Some (view, batch)) j
    (λ e vote f. let g : (view, batch) ≡ vote = cc in let k : view ≡ vote.0 = ap (λ p. p.0) g in let m = can.in_view in omega arith) (λ ne. h.votes j) in
    record {
      number = h.number;
      started = h.started;
      mark_top = h.mark_top;
      mark_is = h.mark_is;
      view_top = h.view_top;
      view_mark = h.view_mark;
      waiting = waiting;
      led = led;
      launched = launched;
      launched_by = launched_by;
      from_first = from_first;
      next = next;
      votes = votes;
      taken = h.taken;
      entries = h.entries;
    }
deed_sound c w q starts s tops l (Vote view i batch) h said can low =
    let votes : (j : ℕ) (vote : ℕ × Batch) → with_at l.votes i (Some (view, batch)) j ≡ Some vote → vote.0 ≤ l.view
    = λ j. with_at-cases (λ o. (vote : ℕ × Batch) → o ≡ Some vote → vote.0 ≤ l.view) l.votes i (Some (view, batch)) j
    (λ e vote f. let g : (view, batch) ≡ vote = cc in let k : view ≡ vote.0 = ap (λ p. p.0) g in let m = can.in_view in omega arith) (λ ne. h.votes j) in
    assumption (votes, h)
deed_sound c w q starts s tops l (Learn i batch) h said can low =
    let from_first : (first : ℕ) → l.leading ≡ Preparing first → (j : ℕ) → j < first → IsKnown (life_after c q l (Learn i batch)) j
    = λ first e j lt. known-learn l j i batch (h.from_first first e j lt) in
    assumption (from_first, h)
deed_sound c w q starts s tops l (Answer to view next mark) h said can low =
    let t = can.asked.0 in
    let x : Sent = record { from = t.from; to = q; message = t.message } in
    let f : IsSaid c.mode tops t.from t.message = said x (h.taken t can.asked.1) in
    let g : mark ≤ tops t.from.replica = subst (IsSaid c.mode tops t.from) can.asked.3 f in
    let k : mark ≤ tops to = subst (λ p. mark ≤ tops p) can.asked.2 g in
    let entries : (p : ℕ) → entry_in c.mode q (record l { answered = (to, mark) ∷ l.answered }) p ≤ tops p = λ p. entries-answer c.mode q p l to mark tops k (h.entries p) in
    assumption (entries, h)
deed_sound c w q starts s tops l (Rejoin view) h said can low =
    let wait = h.waiting can.recovering in
    let view_mark : c.mode ≡ ViewSs → l.mark ≤ view = rejoin-mark c w q starts s tops l view h said can in
    let up : l.view ≤ view = rw wait.0 (return-le c.mode l.mark view view_mark) in
    let waiting : Working ≡ Recovering → (view ≡ view_at_return c.mode l.mark) × (l.leading ≡ No) = λ e. absurd cc in
    let led : IsLed c.n q view l.leading = subst (IsLed c.n q view) (sym wait.1) tt in
    let launched : (x : Launched) → In x l.launched → LaunchedSo view l.leading x
    = λ x i. subst (λ b. LaunchedSo view b x) (sym wait.1) (let a = launched-le l.view No x (subst (λ b. LaunchedSo l.view b x) wait.1 (h.launched x i)) in
    let b : x.view < l.view = subst (λ b. LaunchedSo l.view b x) wait.1 (h.launched x i) in omega arith) in
    let votes : (i : ℕ) (vote : ℕ × Batch) → l.votes i ≡ Some vote → vote.0 ≤ view = λ i vote e. le_trans (h.votes i vote e) up in
    record {
      number = h.number;
      started = h.started;
      mark_top = h.mark_top;
      mark_is = h.mark_is;
      view_top = low;
      view_mark = view_mark;
      waiting = waiting;
      led = led;
      launched = launched;
      launched_by = h.launched_by;
      from_first = h.from_first;
      next = h.next;
      votes = votes;
      taken = h.taken;
      entries = h.entries;
    }
deed_sound c w q starts s tops l (Install upto state) h said can low =
    let below = below-unknown l can.unknown can.first_unknown in
    let above = can.above in
    let up : l.below ≤ upto = omega arith in
    let from_first : (first : ℕ) → l.leading ≡ Preparing first → (j : ℕ) → j < first → IsKnown (life_after c q l (Install upto state)) j
    = λ first e j lt. known-install l j upto (state ∷ l.installed) up (h.from_first first e j lt) in
    assumption (from_first, h)
deed_sound c w q starts s tops l (Execute i) h said can low = assumption h
deed_sound c w q starts s tops l (Restore upto state) h said can low = assumption h
deed_sound c w q starts s tops l (Say to message) h said can low = h

-- the stable number of each replica, and 0 where there is none
abbrev pub tops_of : World → ℕ → ℕ
tops_of w p = top (w.replicas p).stable

-- a replica is sound
pub record ReplicaSound (c : Setup) (q : ℕ) (a : Replica) (tops : ℕ → ℕ) (sent : List Sent) : Type 0 where
  pub fresh : a.stable ≡ None → a.starts ≡ 0
  pub life : (l : Life) → a.running ≡ Some l → LifeSound c q a.starts (top a.stable) tops sent l

-- a world is sound
pub record WorldSound (c : Setup) (w : World) : Type 0 where
  pub replica : (q : ℕ) → ReplicaSound c q (w.replicas q) (tops_of w) w.sent
  pub sent : SentSound c (tops_of w) w.sent

-- what is sound stays so as stable numbers rise and messages are sent
life_frame : (c : Setup) (q starts s : ℕ) (tops tops' : ℕ → ℕ) (sent sent' : List Sent) (l : Life) → LifeSound c q starts s tops sent l
    → ((p : ℕ) → tops p ≤ tops' p) → ((x : Sent) → In x sent → In x sent') → LifeSound c q starts s tops' sent' l
life_frame c q starts s tops tops' sent sent' l h up more =
    let taken : (t : Taken) → In t l.taken → In (record { from = t.from; to = q; message = t.message }) sent' = λ t i. more (record { from = t.from; to = q; message = t.message }) (h.taken t i) in
    let entries : (p : ℕ) → entry_in c.mode q l p ≤ tops' p = λ p. le_trans (h.entries p) (up p) in
    assumption (taken, entries, h)

replica_frame : (c : Setup) (q : ℕ) (a : Replica) (tops tops' : ℕ → ℕ) (sent sent' : List Sent) → ReplicaSound c q a tops sent
    → ((p : ℕ) → tops p ≤ tops' p) → ((x : Sent) → In x sent → In x sent') → ReplicaSound c q a tops' sent'
replica_frame c q a tops tops' sent sent' h up more =
    record { fresh = h.fresh; life = λ l e. life_frame c q a.starts (top a.stable) tops tops' sent sent' l (h.life l e) up more }

said_frame : (mode : Mode) (tops tops' : ℕ → ℕ) (from : LifeId) (m : Message) → IsSaid mode tops from m → ((p : ℕ) → tops p ≤ tops' p) → IsSaid mode tops' from m
said_frame mode tops tops' from (Message.PrepareOk m) h up = λ p. le_trans (h p) (up p)
said_frame mode tops tops' from (Message.RecoveryAnswer m) h up = (λ p. le_trans (h.0 p) (up p), h.1)
said_frame mode tops tops' from (Message.Recovery m) h up = le_trans h (up from.replica)
said_frame mode tops tops' from _ h up = tt

-- a life as it begins is sound
new_sound : (c : Setup) (q number mark : ℕ) (phase : Phase) (view : ℕ) (tops : ℕ → ℕ) (sent : List Sent)
    → 0 < number → mark ≤ tops q → (c.mode ≡ ViewSs → view ≡ mark) → (phase ≡ Recovering → view ≡ view_at_return c.mode mark) → LifeSound c q number mark tops sent (new_life number mark phase view)
new_sound c q number mark phase view tops sent some low same wait =
    record {
      number = refl;
      started = some;
      mark_top = le_refl mark;
      mark_is = λ e. refl;
      view_top = λ e. let f = same e in omega arith;
      view_mark = λ e. let f = same e in omega arith;
      waiting = λ e. (wait e, refl);
      led = tt;
      launched = λ x i. absurd i;
      launched_by = λ x i. absurd i;
      from_first = λ first e. absurd cc;
      next = λ lead e. absurd cc;
      votes = λ i vote e. absurd cc;
      taken = λ t i. absurd i;
      entries = λ p. entries-new c.mode p;
    }
  where
    entries-new : (mode : Mode) (p : ℕ) → entry_in mode q (new_life number mark phase view) p ≤ tops p
    entries-new ViewSs p = omega arith
    entries-new EpochSs p = go (eqb_tells p q)
      where
        go : ((eqb p q ≡ true) × (p ≡ q)) ⊎ ((eqb p q ≡ false) × (p ≢ q)) → entry_in EpochSs q (new_life number mark phase view) p ≤ tops p
        go (inl e) = let f : mark ≤ tops p = subst (λ k. mark ≤ tops k) (sym e.1) low in rw e.0 (omega arith)
        go (inr e) = rw e.0 (omega arith)

-- what an act comes to
pub act-is : (c : Setup) (r : ℕ) (a : Replica) (d : Deed) (l : Life) → a.running ≡ Some l
    → replica_after c a (Act r d) ≡ record { starts = a.starts; stable = stable_after c.mode a.stable d; running = Some (life_after c r l d) }
act-is c r a d l e = ap (act c r a d) e

raised-some : (s : Option ℕ) (v : ℕ) → raised s v ≡ None → s ≡ None
raised-some None v e = refl
raised-some (Some s) v e = cc

stable-some : (mode : Mode) (s : Option ℕ) (d : Deed) → stable_after mode s d ≡ None → s ≡ None
stable-some ViewSs s (Enter v) e = raised-some s v e
stable-some ViewSs s (Rejoin v) e = raised-some s v e
stable-some ViewSs s _ e = e
stable-some EpochSs s _ e = e

pub next_mark-up : (mode : Mode) (n r s mark : ℕ) → IsNextMark mode n r s mark → s < mark
next_mark-up ViewSs n r s mark h = h.0
next_mark-up EpochSs n r s mark h = omega arith

-- the stable number of the replica whose step it is does not fall
pub replica-up : (c : Setup) (w : World) (m : Move) → Meets c w m → top (w.replicas (who m)).stable ≤ top (replica_after c (w.replicas (who m)) m).stable
replica-up c w (First r) h = let e = ap top h.fresh in omega arith
replica-up c w (Return r mark) h = let e = ap top h.stable in let f = next_mark-up c.mode c.n r h.number mark h.next in omega arith
replica-up c w (Crash r) h = le_refl _
replica-up c w (Act r d) h =
    let a = w.replicas r in
    rw (act-is c r a d h.life h.running) (top-stable_after c.mode a.stable d)

pub tops-up : (c : Setup) (w : World) (m : Move) → Meets c w m → (p : ℕ) → tops_of w p ≤ tops_of (after c w m) p
tops-up c w m h p = with_at-cases (λ a. top (w.replicas p).stable ≤ top a.stable) w.replicas (who m) (replica_after c (w.replicas (who m)) m) p
    (λ e. subst (λ k. top (w.replicas k).stable ≤ top (replica_after c (w.replicas (who m)) m).stable) (sym e) (replica-up c w m h)) (λ ne. le_refl _)

-- the view of a life after what it did is covered by the stable number in ViewSS
view-covered : (c : Setup) (w : World) (q : ℕ) (s : Option ℕ) (l : Life) (d : Deed) → (c.mode ≡ ViewSs → l.view ≤ top s) → c.mode ≡ ViewSs → (life_after c q l d).view ≤ top (stable_after c.mode s d)
view-covered c w q s l (Enter v) h e = top-enter c.mode s v e
view-covered c w q s l (Rejoin v) h e = top-rejoin c.mode s v e
view-covered c w q s l (Take from message) h e = le_trans (h e) (top-stable_after c.mode s _)
view-covered c w q s l (Open view first) h e = le_trans (h e) (top-stable_after c.mode s _)
view-covered c w q s l (Promise view first mark low report) h e = le_trans (h e) (top-stable_after c.mode s _)
view-covered c w q s l (Prepared view x) h e = le_trans (h e) (top-stable_after c.mode s _)
view-covered c w q s l (Launch view i batch) h e = le_trans (h e) (top-stable_after c.mode s _)
view-covered c w q s l (Vote view i batch) h e = le_trans (h e) (top-stable_after c.mode s _)
view-covered c w q s l (Learn i batch) h e = le_trans (h e) (top-stable_after c.mode s _)
view-covered c w q s l (Answer to view next mark) h e = le_trans (h e) (top-stable_after c.mode s _)
view-covered c w q s l (Install upto state) h e = le_trans (h e) (top-stable_after c.mode s _)
view-covered c w q s l (Execute i) h e = le_trans (h e) (top-stable_after c.mode s _)
view-covered c w q s l (Restore upto state) h e = le_trans (h e) (top-stable_after c.mode s _)
view-covered c w q s l (Say to message) h e = le_trans (h e) (top-stable_after c.mode s _)

-- the life that acts is sound after it
pub act_sound : (c : Setup) (w : World) (r : ℕ) (d : Deed) → WorldSound c w → (h : CanAct c w r d)
    → LifeSound c r (w.replicas r).starts (top (stable_after c.mode (w.replicas r).stable d)) (tops_of w) w.sent (life_after c r h.life d)
act_sound c w r d sound h =
    let a = w.replicas r in
    let l = h.life in
    let old = (sound.replica r).life l h.running in
    let up = raise c r a.starts (top a.stable) (top (stable_after c.mode a.stable d)) (tops_of w) w.sent l old (top-stable_after c.mode a.stable d) (top-epoch c.mode a.stable d) in
    deed_sound c w r a.starts (top (stable_after c.mode a.stable d)) (tops_of w) l d up sound.sent h.can (view-covered c w r a.stable l d old.view_top)

-- a message to all others is the same one, from the same life
pub to_others-is : (k r : ℕ) (from : LifeId) (message : Message) (x : Sent) → In x (to_others k r from message) → (x.from ≡ from) × (x.message ≡ message)
to_others-is zero r from message x i = absurd i
to_others-is (suc k) r from message x i =
    elim (In-append x (to_others k r from message) (if k == r then [] else record { from = from; to = k; message = message } ∷ []) i) [
      | inl a ↦ to_others-is k r from message x a
      | inr b ↦ go (k == r) b
    ]
  where
    go : (b : Bool) → In x (if b then [] else record { from = from; to = k; message = message } ∷ []) → (x.from ≡ from) × (x.message ≡ message)
    go true i = absurd i
    go false (inl e) = (ap (λ (y : Sent). y.from) e, ap (λ (y : Sent). y.message) e)
    go false (inr i) = absurd i

-- what may be said is sound
say_sound : (c : Setup) (r : ℕ) (l : Life) (tops : ℕ → ℕ) (m : Message) → l.mark ≤ tops r → MaySay c r l m → IsSaid c.mode tops (id_of r l) m
say_sound c r l tops (Message.PrepareOk m) low h = absurd h
say_sound c r l tops (Message.RecoveryAnswer m) low h = absurd h
say_sound c r l tops (Message.Recovery m) low h = omega arith
say_sound c r l tops _ low h = tt

-- what a life sends is sound
sends_sound : (c : Setup) (w : World) (r : ℕ) (l : Life) (d : Deed) (tops : ℕ → ℕ) → l.mark ≤ tops r → ((p : ℕ) → entry_in c.mode r l p ≤ tops p) → ((p : ℕ) → entry_in c.mode r (life_after c r l d) p ≤ tops p)
    → Can c w r l d → (x : Sent) → In x (sends_of c r l d) → IsSaid c.mode tops x.from x.message
sends_sound c w r l (Promise view first mark low report) tops m now later can x i =
    go (table (entry_in c.mode r l)) (λ p. le_trans (entry-table-le (entry_in c.mode r l) p) (now p)) i
  where
    go : (vector : List ℕ) → ((p : ℕ) → entry vector p ≤ tops p)
        → In x (record { from = id_of r l; to = leader c.n view; message = Message.PrepareOk (record { view = view; mark = mark; vector = vector; low = low; report = report }) } ∷ []) → IsSaid c.mode tops x.from x.message
    go vector h (inl e) = subst (λ (y : Sent). IsSaid c.mode tops y.from y.message) (sym e) h
    go vector h (inr j) = absurd j
sends_sound c w r l (Launch view i batch) tops m now later can x j =
    let e = to_others-is c.n r (id_of r l) _ x j in
    subst (IsSaid c.mode tops x.from) (sym e.1) tt
sends_sound c w r l (Vote view i batch) tops m now later can x j = go (r == leader c.n view) j
  where
    go : (b : Bool) → In x (if b then [] else to_others c.n r (id_of r l) (Message.Accept (record { view = view; instance = i }))) → IsSaid c.mode tops x.from x.message
    go true i = absurd i
    go false i = let e = to_others-is c.n r (id_of r l) _ x i in subst (IsSaid c.mode tops x.from) (sym e.1) tt
sends_sound c w r l (Answer to view next mark) tops m now later can x i =
    go (table (entry_in c.mode r (life_after c r l (Answer to view next mark)))) (λ p. le_trans (entry-table-le (entry_in c.mode r (life_after c r l (Answer to view next mark))) p) (later p)) i
  where
    go : (vector : List ℕ) → ((p : ℕ) → entry vector p ≤ tops p)
        → In x (record { from = id_of r l; to = to; message = Message.RecoveryAnswer (record { mark = mark; view = view; vector = vector; next = next }) } ∷ []) → IsSaid c.mode tops x.from x.message
    go vector h (inl e) = subst (λ (y : Sent). IsSaid c.mode tops y.from y.message) (sym e) (h, can.at_least)
    go vector h (inr j) = absurd j
sends_sound c w r l (Say to message) tops m now later can x (inl e) = subst (λ (y : Sent). IsSaid c.mode tops y.from y.message) (sym e) (say_sound c r l tops message m can.1)
sends_sound c w r l (Say to message) tops m now later can x (inr i) = absurd i
sends_sound c w r l (Take from message) tops m now later can x i = absurd i
sends_sound c w r l (Enter view) tops m now later can x i = absurd i
sends_sound c w r l (Open view first) tops m now later can x i = absurd i
sends_sound c w r l (Prepared view y) tops m now later can x i = absurd i
sends_sound c w r l (Learn j batch) tops m now later can x i = absurd i
sends_sound c w r l (Rejoin view) tops m now later can x i = absurd i
sends_sound c w r l (Install upto state) tops m now later can x i = absurd i
sends_sound c w r l (Execute j) tops m now later can x i = absurd i
sends_sound c w r l (Restore upto state) tops m now later can x i = absurd i

-- what a step sends is sound
step_said : (c : Setup) (w : World) (m : Move) → WorldSound c w → Meets c w m → (x : Sent) → In x (sends c w m) → IsSaid c.mode (tops_of (after c w m)) x.from x.message
step_said c w (First r) sound h x i = absurd i
step_said c w (Return r mark) sound h x i = absurd i
step_said c w (Crash r) sound h x i = absurd i
step_said c w (Act r d) sound h x i =
    let l = h.life in
    let old = (sound.replica r).life l h.running in
    let new = act_sound c w r d sound h in
    let j : In x (sends_of c r l d) = subst (λ (o : Option Life). In x (of_running o (λ k. sends_of c r k d))) h.running i in
    said_frame c.mode (tops_of w) (tops_of (after c w (Act r d))) x.from x.message
    (sends_sound c w r l d (tops_of w) old.mark_top old.entries new.entries h.can x j) (tops-up c w (Act r d) h)

pub some-is : {X : Type 0} (x y : X) → Some x ≡ Some y → x ≡ y
some-is x y e = cc

first-view : (mode : Mode) → mode ≡ ViewSs → 0 ≡ first_mark mode
first-view ViewSs e = refl
first-view EpochSs e = cc

return-view : (mode : Mode) (mark : ℕ) → mode ≡ ViewSs → view_at_return mode mark ≡ mark
return-view ViewSs mark e = refl
return-view EpochSs mark e = cc

-- the replica whose step it is is sound after it
acting_sound : (c : Setup) (w : World) (m : Move) → WorldSound c w → Meets c w m → (tops : ℕ → ℕ) (sent : List Sent)
    → ((p : ℕ) → tops_of w p ≤ tops p) → top (replica_after c (w.replicas (who m)) m).stable ≤ tops (who m) → ((x : Sent) → In x w.sent → In x sent)
    → ReplicaSound c (who m) (replica_after c (w.replicas (who m)) m) tops sent
acting_sound c w (First r) sound h tops sent up here more =
    let a = w.replicas r in
    let new = new_sound c r (suc a.starts) (first_mark c.mode) Working 0 tops sent (omega arith) here (first-view c.mode) (λ e. absurd cc) in
    record { fresh = λ e. absurd cc; life = λ l e. subst (λ (k : Life). LifeSound c r (suc a.starts) (first_mark c.mode) tops sent k) (some-is _ l e) new }
acting_sound c w (Return r mark) sound h tops sent up here more =
    let a = w.replicas r in
    let new = new_sound c r (suc a.starts) mark Recovering (view_at_return c.mode mark) tops sent (omega arith) here (return-view c.mode mark) (λ e. refl) in
    record { fresh = λ e. absurd cc; life = λ l e. subst (λ (k : Life). LifeSound c r (suc a.starts) mark tops sent k) (some-is _ l e) new }
acting_sound c w (Crash r) sound h tops sent up here more = record { fresh = (sound.replica r).fresh; life = λ l e. absurd cc }
acting_sound c w (Act r d) sound h tops sent up here more =
    let a = w.replicas r in
    let new = life_frame c r a.starts (top (stable_after c.mode a.stable d)) (tops_of w) tops w.sent sent (life_after c r h.life d) (act_sound c w r d sound h) up more in
    subst (λ (b : Replica). ReplicaSound c r b tops sent) (sym (act-is c r a d h.life h.running))
    (record {
      fresh = λ e. (sound.replica r).fresh (stable-some c.mode a.stable d e);
      life = λ l e. subst (λ (k : Life). LifeSound c r a.starts (top (stable_after c.mode a.stable d)) tops sent k) (some-is _ l e) new;
    })

-- a step keeps a world sound
pub step_sound : (c : Setup) (w : World) (m : Move) → WorldSound c w → Meets c w m → WorldSound c (after c w m)
step_sound c w m sound h =
    let new = after c w m in
    let up = tops-up c w m h in
    let more : (x : Sent) → In x w.sent → In x new.sent = λ x i. In-left x w.sent (sends c w m) i in
    let here : top (replica_after c (w.replicas (who m)) m).stable ≤ tops_of new (who m)
    = rw (with_at-same w.replicas (who m) (replica_after c (w.replicas (who m)) m)) (le_refl _) in
    record {
      replica = λ q. with_at-cases (λ a. ReplicaSound c q a (tops_of new) new.sent) w.replicas (who m) (replica_after c (w.replicas (who m)) m) q
          (λ e. subst (λ k. ReplicaSound c k (replica_after c (w.replicas (who m)) m) (tops_of new) new.sent) (sym e) (acting_sound c w m sound h (tops_of new) new.sent up here more))
          (λ ne. replica_frame c q (w.replicas q) (tops_of w) (tops_of new) w.sent new.sent (sound.replica q) up more);
      sent = λ x i. elim (In-append x w.sent (sends c w m) i) [
        | inl j ↦ said_frame c.mode (tops_of w) (tops_of new) x.from x.message (sound.sent x j) up
        | inr j ↦ step_said c w m sound h x j
      ];
    }

-- the opening is sound
pub opening_sound : (c : Setup) → WorldSound c opening
opening_sound c = record { replica = λ q. record { fresh = λ e. refl; life = λ l e. absurd cc }; sent = λ x i. absurd i }

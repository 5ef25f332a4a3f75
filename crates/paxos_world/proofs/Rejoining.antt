-- Rejoins, and the steps from which the counted answers come.
use Rattle.std.proofs.Common.{◌≡◌, ◌≢◌, ℕ, suc, ◌≤◌, ◌<◌, ◌⊎◌, Some, refl, sym, ap, subst, ◌∙◌, inl, inr, arith}
use Rattle.jp_types.specs.declared.message.Message.{Message}
use Rattle.jp_types.specs.declared.message.RecoveryAnswer.{RecoveryAnswer}
use Rattle.jp_types.specs.declared.mode.Phase.TheVariants.{Working}
use Rattle.jp_types.specs.declared.mode.Mode.TheVariants.{ViewSs, EpochSs}
use Rattle.paxos_world.specs.Setup.{Setup}
use Rattle.paxos_world.specs.Life.{LifeId, Life, Took, next_of}
use Rattle.paxos_world.specs.Counting.{Held, entry_in, counted_answer}
use Rattle.jp_types.specs.Vectors.{entry, table}
use Rattle.paxos_world.specs.World.{Replica, Sent, Deed, Answer, Rejoin, Allowed, life_after, Move, First, Return, Crash, Act, who, replica_after, CanAnswer}
use Rattle.paxos_world.proofs.Replies.{counted_answer-is}
use Rattle.paxos_world.proofs.Basics.{with_at-cases}
use Rattle.paxos_world.specs.Trace.{Trace, at, Runs, Does}
use Rattle.paxos_world.specs.Laws.{Rejoins}
use Rattle.paxos_world.proofs.Replies.{IsCountedAnswer, counted_answer-is, entry-held_answer, entry-answered, entry-table}
use Rattle.paxos_world.proofs.Sound.{act-is, some-is}
use Rattle.paxos_world.proofs.Growth.{Grows}
use Rattle.paxos_world.proofs.Runs.{always, sound-at, life_sound-at, can-at, within-at, runs-after, grows-at}
use Rattle.paxos_world.proofs.Origins.{IsAnswered, answer-from}

-- the life of q with this number rejoined before moment t
pub record HasRejoined (run : Trace) (t q : ℕ) (number : ℕ) : Type 0 where
  pub s : ℕ
  pub before : s < t
  pub life : Life
  pub view : ℕ
  pub rejoins : Rejoins run s q life view
  pub same : life.number ≡ number

-- a working life is the first one, or has rejoined
WorkedSo : Trace → ℕ → ℕ → Replica → Type 0
WorkedSo run t q a = (l : Life) → a.running ≡ Some l → l.phase ≡ Working → (l.number ≡ 1) ⊎ HasRejoined run t q l.number

-- only a rejoin makes a life Working
works-after : (c : Setup) (r : ℕ) (l : Life) (d : Deed) → (life_after c r l d).phase ≡ Working → (l.phase ≡ Working) ⊎ ((view : ℕ) × (d ≡ Rejoin view))
works-after c r l (Rejoin view) e = inr (view, refl)
works-after c r l _ e = inl e

later_rejoined : (run : Trace) (t q number : ℕ) → HasRejoined run t q number → HasRejoined run (suc t) q number
later_rejoined run t q number h = record { s = h.s; before = let b = h.before in omega arith; life = h.life; view = h.view; rejoins = h.rejoins; same = h.same }

later_worked : (run : Trace) (t q : ℕ) (a : Replica) → WorkedSo run t q a → WorkedSo run (suc t) q a
unfolding WorkedSo
later_worked run t q a h l e w = elim (h l e w) [ inl i ↦ inl i | inr i ↦ inr (later_rejoined run t q l.number i) ]

acting_worked : (run : Trace) (t : ℕ) (m : Move) → Does run t m → Allowed run.setup (at run t) m → WorkedSo run t (who m) ((at run t).replicas (who m))
    → WorkedSo run (suc t) (who m) (replica_after run.setup ((at run t).replicas (who m)) m)
unfolding WorkedSo
acting_worked run t (First r) e a h l is w =
    let f = ((sound-at run t).replica r).fresh a.meets.fresh in
    let g = some-is _ l is in
    inl (subst (λ (k : Life). k.number ≡ 1) g (omega arith))
acting_worked run t (Return r mark) e a h l is w = let g = ap (λ (k : Life). k.phase) (some-is _ l is) in absurd cc
acting_worked run t (Crash r) e a h l is w = absurd cc
acting_worked run t (Act r d) e a h l is w =
    let k = a.meets.life in
    let runs = a.meets.running in
    let g : life_after run.setup r k d ≡ l = some-is _ l (sym (ap (λ (x : Replica). x.running) (act-is run.setup r ((at run t).replicas r) d k runs)) ∙ is) in
    let n : k.number ≡ l.number = sym ((grows-at run t r d k e runs).number) ∙ ap (λ (x : Life). x.number) g in
    let was = works-after run.setup r k d (ap (λ (x : Life). x.phase) g ∙ w) in
    elim was [
      | inl v ↦ elim (h k runs v) [ inl i ↦ inl (omega arith) | inr i ↦ inr (later_rejoined run t r l.number (subst (HasRejoined run t r) n i)) ]
      | inr v ↦ inr (record { s = t; before = omega arith; life = k; view = v.0; rejoins = record { does = e ∙ ap (λ x. Some (Act r x)) v.1; runs = runs }; same = n })
    ]

-- a working life is the first one, or has rejoined
pub worked : (run : Trace) (t q : ℕ) (l : Life) → Runs run t q l → l.phase ≡ Working → (l.number ≡ 1) ⊎ HasRejoined run t q l.number
unfolding WorkedSo
worked run t q l = always run (λ u w. WorkedSo run u q (w.replicas q)) (λ k e. absurd cc) (λ u w h. later_worked run u q (w.replicas q) h)
    (λ u m e a h. with_at-cases (λ b. WorkedSo run (suc u) q b) (at run u).replicas (who m) (replica_after run.setup ((at run u).replicas (who m)) m) q
    (λ is. subst (λ k. WorkedSo run (suc u) k (replica_after run.setup ((at run u).replicas (who m)) m)) (sym is) (acting_worked run u m e a (subst (λ k. WorkedSo run u k ((at run u).replicas k)) is h)))
    (λ ne. later_worked run u q ((at run u).replicas q) h)) t l

-- a later life that works has rejoined
pub rejoined : (run : Trace) (t q : ℕ) (l : Life) (number : ℕ) → Runs run t q l → l.phase ≡ Working → 0 < number → number < l.number → HasRejoined run t q l.number
rejoined run t q l number runs w some less = elim (worked run t q l runs w) [ inl e ↦ absurd (omega arith) | inr h ↦ h ]

-- what a counted answer of p shows of the life that gave it
pub record AnswerFor (run : Trace) (t r : ℕ) (l : Life) (p : ℕ) (h : Held RecoveryAnswer) : Type 0 where
  pub s : ℕ
  pub before : s < t
  pub life : Life
  pub later : Life
  pub does : Does run s (Act p (Answer r h.body.view h.body.next h.body.mark))
  pub runs : Runs run s p life
  pub runs_later : Runs run (suc s) p later
  pub grows : Grows run.setup p life later
  pub number : h.from.number ≡ life.number
  pub working : life.phase ≡ Working
  pub view : life.view ≡ h.body.view
  pub next : h.body.next ≡ next_of life.leading
  pub at_least : run.setup.mode ≡ ViewSs → l.mark ≤ h.body.view
  pub asked : Took life r (Message.Recovery (record { mark = l.mark }))
  pub other : p ≢ r
  pub gives : run.setup.mode ≡ EpochSs → (q : ℕ) → q < run.setup.n → entry_in run.setup.mode p later q ≤ entry_in run.setup.mode r l q
  pub has : run.setup.mode ≡ EpochSs → l.mark ≤ entry_in run.setup.mode p later r
  pub epoch : run.setup.mode ≡ EpochSs → entry_in run.setup.mode r l p ≤ life.mark

answer_for-from : (run : Trace) (t r : ℕ) (l : Life) (p : ℕ) (h : Held RecoveryAnswer) → Runs run t r l → IsCountedAnswer run.setup r l p h → (f : IsAnswered run t r h.from h.body) → AnswerFor run t r l p h
answer_for-from run t r l p h runs k f =
    let c = run.setup in
    let m = h.body in
    let same = k.held.replica in
    let is = k.held.mark_is in
    let does : Does run f.s (Act p (Answer r m.view m.next m.mark)) = subst (λ z. Does run f.s (Act z (Answer r m.view m.next m.mark))) same f.does in
    let there : Runs run f.s p f.life = subst (λ z. Runs run f.s z f.life) same f.runs in
    let vector : m.vector ≡ table (entry_in c.mode p (life_after c p f.life (Answer r m.view m.next m.mark))) = subst (λ z. m.vector ≡ table (entry_in c.mode z (life_after c z f.life (Answer r m.view m.next m.mark)))) same f.vector in
    let later = life_after c p f.life (Answer r m.view m.next m.mark) in
    let can : CanAnswer c p f.life r m.view m.next m.mark = can-at run f.s p (Answer r m.view m.next m.mark) f.life does there in
    let runs_later = runs-after run f.s p (Answer r m.view m.next m.mark) f.life does there in
    let few = run.few in
    let inside = within-at run f.s (Act p (Answer r m.view m.next m.mark)) does in
    record {
      s = f.s;
      before = f.before;
      life = f.life;
      later = later;
      does = does;
      runs = there;
      runs_later = runs_later;
      grows = grows-at run f.s p (Answer r m.view m.next m.mark) f.life does there;
      number = f.number;
      working = can.working;
      view = can.in_view;
      next = can.next_is;
      at_least = λ e. let a = can.at_least e in omega arith;
      asked = subst (λ x. Took f.life r (Message.Recovery (record { mark = x }))) is can.asked;
      other = k.other;
      gives = λ e q lt. let a = entry-held_answer c.mode r l q p h e k.held in let b = ap (λ v. entry v q) vector ∙ entry-table (entry_in c.mode p later) q (omega arith) in omega arith;
      has = λ e. let a = entry-answered c.mode p later r m.mark e (inl refl) in omega arith;
      epoch = λ e.
          let a = k.epoch in
          let b = ap (λ v. entry v p) vector ∙ entry-table (entry_in c.mode p later) p (omega arith) in
          let i = life_sound-at run (suc f.s) p later runs_later in
          let d = i.entries p in
          let g = i.mark_is e in
          omega arith;
    }

-- each counted answer has its step
pub answer-for : (run : Trace) (t r : ℕ) (l : Life) (p : ℕ) (h : Held RecoveryAnswer) → Runs run t r l → counted_answer run.setup r l p ≡ Some h → AnswerFor run t r l p h
answer-for run t r l p h runs e =
    let k = counted_answer-is run.setup r l p h e in
    let a = k.held in
    let x : Sent = record { from = a.t.from; to = r; message = a.t.message } in
    let i = (life_sound-at run t r l runs).taken a.t a.in_taken in
    let f : IsAnswered run t r a.t.from h.body = answer-from run t x h.body i a.message in
    answer_for-from run t r l p h runs k (subst (λ (g : LifeId). IsAnswered run t r g h.body) a.from f)

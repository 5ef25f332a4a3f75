-- A later life rejoins at or above each view whose Prepared step counted an earlier life of its replica or came before its return.
use Rattle.std.proofs.Common.{◌≡◌, ◌≢◌, ℕ, zero, suc, ◌≤◌, ◌<◌, Bool, true, false, ◌||◌, ◌⊎◌, Option, Some, is_some, ◌==◌, refl, sym, ap, subst, ◌∙◌, inl, inr, arith, le_refl, le_of_lt}
use Rattle.jp_types.specs.declared.message.Message.{Message}
use Rattle.jp_types.specs.declared.message.PrepareOk.{PrepareOk}
use Rattle.jp_types.specs.declared.message.RecoveryAnswer.{RecoveryAnswer}
use Rattle.jp_types.specs.declared.mode.Phase.{Phase}
use Rattle.jp_types.specs.declared.mode.Phase.TheVariants.{Recovering, Working}
use Rattle.jp_types.specs.declared.mode.Mode.{Mode}
use Rattle.jp_types.specs.declared.mode.Mode.TheVariants.{ViewSs, EpochSs}
use Rattle.jp_types.specs.Views.{leader}
use Rattle.paxos_world.specs.Setup.{Setup}
use Rattle.paxos_world.specs.Life.{LifeId, Life, Took}
use Rattle.paxos_world.specs.Counting.{Held, entry_in, counted_ok, counted_answer, is_promised, is_answered}
use Rattle.jp_types.specs.Vectors.{entry, table}
use Rattle.paxos_world.specs.World.{Sent, Deed, Promise, Prepared, Answer, Rejoin, life_after, Act, CanPromise, CanPrepared}
use Rattle.paxos_world.specs.Trace.{Trace, at, Runs, Does}
use Rattle.paxos_world.specs.Laws.{Rejoins, BecomesPrepared, CountsLife}
use Rattle.paxos_world.proofs.Basics.{shared, le_or_lt, lt_or_le}
use Rattle.paxos_world.proofs.Replies.{IsCountedOk, counted_ok-is, is_some-value, entry-held_ok, entry-table, same}
use Rattle.paxos_world.proofs.Growth.{Grows}
use Rattle.paxos_world.proofs.Runs.{life_sound-at, later-at, same_life, newer_life, newer_mark, can-at, within-at, runs-after}
use Rattle.paxos_world.proofs.Origins.{IsPromised, IsSaying, promise-from, recovery-from}
use Rattle.paxos_world.proofs.Rejoining.{HasRejoined, rejoined, AnswerFor, answer-for}
use Rattle.paxos_world.specs.Laws.{CountedComeBack, ReturnedComeBack}
use Rattle.paxos_world.proofs.Seen.{can-rejoin, rejoins_are_seen}

pub phase_is : (p : Phase) → (p ≡ Recovering) ⊎ (p ≡ Working)
phase_is Recovering = inl refl
phase_is Working = inr refl

-- a replica z that counts toward phase 1 at a Prepared step, by its life of this number: the leader's own life, or the one that promised
pub record MemberOf (run : Trace) (t r : ℕ) (l : Life) (v z number : ℕ) : Type 0 where
  pub s : ℕ
  pub upto : s ≤ t
  pub life : Life
  pub deed : Deed
  pub does : Does run s (Act z deed)
  pub runs : Runs run s z life
  pub same : life.number ≡ number
  pub quiet : (to view : ℕ) (next : Option ℕ) (mark : ℕ) → deed ≢ Answer to view next mark
  pub working : life.phase ≡ Working
  pub view : life.view ≡ v
  pub gives : run.setup.mode ≡ EpochSs → (q : ℕ) → q < run.setup.n → entry_in run.setup.mode z life q ≤ entry_in run.setup.mode r l q
  pub epoch : run.setup.mode ≡ EpochSs → entry_in run.setup.mode r l z ≤ life.mark
  -- a promise of another replica, with its report
  pub reported : ((z ≡ r) × (life ≡ l)) ⊎ ((h : Held PrepareOk) × (first : ℕ) × (counted_ok run.setup r l z ≡ Some h) × CanPromise run.setup z life v first l.mark h.body.low h.body.report × (s < t))

pub can-prepared : (run : Trace) (t r : ℕ) (l : Life) (v x : ℕ) → BecomesPrepared run t r l v x → CanPrepared run.setup r l v x
can-prepared run t r l v x h = can-at run t r (Prepared v x) l h.does h.runs

-- a life that becomes Prepared is Working
pub preparing-works : (run : Trace) (t r : ℕ) (l : Life) (v x : ℕ) → BecomesPrepared run t r l v x → l.phase ≡ Working
preparing-works run t r l v x h =
    let p = (can-prepared run t r l v x h).preparing in
    elim (phase_is l.phase) [ inl e ↦ (let w = ((life_sound-at run t r l h.runs).waiting e).1 in absurd cc) | inr e ↦ e ]

own_member : (run : Trace) (t r : ℕ) (l : Life) (v x : ℕ) → BecomesPrepared run t r l v x → MemberOf run t r l v r l.number
own_member run t r l v x h =
    let i = life_sound-at run t r l h.runs in
    record {
      s = t;
      upto = le_refl t;
      life = l;
      deed = Prepared v x;
      does = h.does;
      runs = h.runs;
      same = refl;
      quiet = λ to view next mark e. cc;
      working = preparing-works run t r l v x h;
      view = (can-prepared run t r l v x h).in_view;
      gives = λ e q lt. le_refl _;
      epoch = λ e. let a = i.entries r in let b = i.mark_is e in omega arith;
      reported = inl (refl, refl);
    }

promise_member : (run : Trace) (t r : ℕ) (l : Life) (v z : ℕ) (h : Held PrepareOk) → Runs run t r l → l.view ≡ v → counted_ok run.setup r l z ≡ Some h → IsCountedOk run.setup r l z h → IsPromised run t r h.from h.body
    → MemberOf run t r l v z h.from.number
promise_member run t r l v z h runs in_view counted k f =
    let c = run.setup in
    let m = h.body in
    let same = k.held.replica in
    let vm : m.view ≡ v = k.held.view_is ∙ in_view in
    let mark : m.mark ≡ l.mark = k.held.mark_is in
    let deed = Promise m.view f.first m.mark m.low m.report in
    let does : Does run f.s (Act z deed) = subst (λ (y : ℕ). Does run f.s (Act y deed)) same f.does in
    let there : Runs run f.s z f.life = subst (λ (y : ℕ). Runs run f.s y f.life) same f.runs in
    let vector : m.vector ≡ table (entry_in c.mode z f.life) = subst (λ (y : ℕ). m.vector ≡ table (entry_in c.mode y f.life)) same f.vector in
    let can : CanPromise c z f.life m.view f.first m.mark m.low m.report = can-at run f.s z deed f.life does there in
    let few = run.few in
    let inside = within-at run f.s (Act z deed) does in
    let can' : CanPromise c z f.life v f.first l.mark m.low m.report
    = subst (λ (y : ℕ). CanPromise c z f.life v f.first y m.low m.report) mark (subst (λ (y : ℕ). CanPromise c z f.life y f.first m.mark m.low m.report) vm can) in
    let n = f.number in
    record {
      s = f.s;
      upto = le_of_lt f.before;
      life = f.life;
      deed = deed;
      does = does;
      runs = there;
      same = sym n;
      quiet = λ to view next mk e. cc;
      working = can.working;
      view = can.in_view ∙ vm;
      gives = λ e q lt. let a = entry-held_ok c.mode r l l.view q z h e k.held in let b = ap (λ y. entry y q) vector ∙ entry-table (entry_in c.mode z f.life) q (omega arith) in omega arith;
      epoch = λ e.
          let a = k.epoch in
          let b = ap (λ y. entry y z) vector ∙ entry-table (entry_in c.mode z f.life) z (omega arith) in
          let i = life_sound-at run f.s z f.life there in
          let d = i.entries z in
          let g = i.mark_is e in
          omega arith;
      reported = inr (h, f.first, counted, can', f.before);
    }

-- what is known of each life that counts toward phase 1
pub member-of : (run : Trace) (t r : ℕ) (l : Life) (v x z number : ℕ) → BecomesPrepared run t r l v x → CountsLife run.setup r l z number → MemberOf run t r l v z number
member-of run t r l v x z number h (inl e) = subst (λ (y : ℕ). MemberOf run t r l v y number) (sym e.0) (subst (λ (y : ℕ). MemberOf run t r l v r y) (sym e.1) (own_member run t r l v x h))
member-of run t r l v x z number h (inr e) =
    let c = run.setup in
    let k = counted_ok-is c r l z e.0 e.1 in
    let a = k.held in
    let y : Sent = record { from = a.t.from; to = r; message = a.t.message } in
    let i = (life_sound-at run t r l h.runs).taken a.t a.in_taken in
    let f : IsPromised run t r a.t.from e.0.body = promise-from run t y e.0.body i a.message in
    subst (λ (j : ℕ). MemberOf run t r l v z j) (sym e.2)
    (promise_member run t r l v z e.0 h.runs (can-prepared run t r l v x h).in_view e.1 k (subst (λ (g : LifeId). IsPromised run t r g e.0.body) a.from f))

pub or-true : (a b : Bool) → (a || b) ≡ true → (a ≡ true) ⊎ (b ≡ true)
or-true true b e = inl refl
or-true false b e = inr e

-- a replica that counts toward phase 1 does so by some life
pub promised-counts : (c : Setup) (r : ℕ) (l : Life) (z : ℕ) → is_promised c r l z ≡ true → (number : ℕ) × CountsLife c r l z number
promised-counts c r l z e =
    elim (or-true (z == r) (is_some (counted_ok c r l z)) e) [
      | inl i ↦ (l.number, inl (same z r i, refl))
      | inr i ↦ (let h = is_some-value (counted_ok c r l z) i in (h.0.from.number, inr (h.0, h.1, refl)))
    ]

-- after a rejoin the view is at least the one that it rejoined with
pub rejoin-view : (run : Trace) (t q : ℕ) (l : Life) (h : HasRejoined run t q l.number) → Runs run t q l → h.view ≤ l.view
rejoin-view run t q l h runs =
    let a = runs-after run h.s q (Rejoin h.view) h.life h.rejoins.does h.rejoins.runs in
    (same_life run (suc h.s) t q (life_after run.setup q h.life (Rejoin h.view)) l h.before a runs h.same).view

-- in ViewSS a life rejoins at or above its mark
rejoin-above : (run : Trace) (t p : ℕ) (l : Life) (u : ℕ) → Rejoins run t p l u → run.setup.mode ≡ ViewSs → l.mark ≤ u
rejoin-above run t p l u h e =
    let can = can-rejoin run t p l u h in
    let a = answer-for run t p l (leader run.setup.n u) can.leader_answer h.runs can.leader_counted in
    let b = a.at_least e in
    let v = can.leader_view in
    omega arith

-- the counted answers are at or below the view of the rejoin
answer-below : (run : Trace) (t p : ℕ) (l : Life) (u z : ℕ) (h : Held RecoveryAnswer) → Rejoins run t p l u → z < run.setup.n → counted_answer run.setup p l z ≡ Some h → h.body.view ≤ u
answer-below run t p l u z h j lt e = (can-rejoin run t p l u j).highest z h lt e

-- the law for the rejoins before moment k
BackBelow : Trace → ℕ → Type 0
BackBelow run k = (t r : ℕ) (l : Life) (v x p number t' : ℕ) (l' : Life) (u : ℕ) → t' < k
    → BecomesPrepared run t r l v x → CountsLife run.setup r l p number → Rejoins run t' p l' u → number < l'.number → v ≤ u

module _ (run : Trace) (t r : ℕ) (l : Life) (v x p number t' : ℕ) (l' : Life) (u : ℕ)
    (prepared : BecomesPrepared run t r l v x) (counts : CountsLife run.setup r l p number) (rejoins : Rejoins run t' p l' u) (newer : number < l'.number) where
  in_p : p < run.setup.n
  in_p = within-at run t' (Act p (Rejoin u)) rejoins.does

  -- the life that was counted
  counted_life : MemberOf run t r l v p number
  counted_life = member-of run t r l v x p number prepared counts

  -- in ViewSS the marks show it
  by_marks : run.setup.mode ≡ ViewSs → v ≤ u
  by_marks e =
      let m = counted_life in
      let n = m.same in
      let i = (life_sound-at run m.s p m.life m.runs).view_top e in
      let j = (newer_life run m.s t' p m.life l' m.runs rejoins.runs (omega arith)).1 in
      let k = rejoin-above run t' p l' u rejoins e in
      let w = m.view in
      omega arith

  module _ (epoch : run.setup.mode ≡ EpochSs) where
    -- no replica that counts toward phase 1 has an entry of at least the later life's mark
    unseen : (z zn : ℕ) (m : MemberOf run t r l v z zn) (k : Life) → l'.mark ≤ entry_in run.setup.mode z k p → Grows run.setup z k m.life → ⊥
    unseen z zn m k low g =
        let a = counted_life in
        let e1 = g.entry p in
        let e2 = m.gives epoch p in_p in
        let e3 = a.epoch epoch in
        let n = a.same in
        let e4 = newer_mark run a.s t' p a.life l' a.runs rejoins.runs (omega arith) in
        omega arith

    -- a replica z that counts toward phase 1 and whose answer is counted
    common : BackBelow run t' → (z zn : ℕ) → z < run.setup.n → CountsLife run.setup r l z zn → (m : MemberOf run t r l v z zn) → (h : Held RecoveryAnswer) → counted_answer run.setup p l' z ≡ Some h → (a : AnswerFor run t' p l' z h) → v ≤ u
    unfolding BackBelow
    common ih z zn lt cz m h e a = go (le_or_lt m.life.number a.life.number) (le_or_lt a.life.number m.life.number)
      where
        up : v ≤ a.life.view → v ≤ u
        up le = let b = answer-below run t' p l' u z h rejoins lt e in let w = a.view in omega arith

        alike : m.life.number ≡ a.life.number → (m.s < a.s) ⊎ (a.s ≤ m.s) → v ≤ u
        alike n (inl before) = let g = same_life run m.s a.s z m.life a.life (le_of_lt before) m.runs a.runs n in let w = g.view in let y = m.view in up (omega arith)
        alike n (inr after') = elim (le_or_lt m.s a.s) [
          | inl le ↦
              let f : a.s ≡ m.s = omega arith in
              let d : Does run m.s (Act z (Answer p h.body.view h.body.next h.body.mark)) = subst (λ (y : ℕ). Does run y (Act z (Answer p h.body.view h.body.next h.body.mark))) f a.does in
              let s : Some (Act z m.deed) ≡ Some (Act z (Answer p h.body.view h.body.next h.body.mark)) = sym m.does ∙ d in
              absurd (m.quiet p h.body.view h.body.next h.body.mark cc)
          | inr before ↦ let g0 = a.grows.number in absurd (unseen z zn m a.later (a.has epoch) (same_life run (suc a.s) m.s z a.later m.life before a.runs_later m.runs (g0 ∙ sym n)))
        ]

        later_a : HasRejoined run a.s z a.life.number → m.life.number < a.life.number → v ≤ u
        later_a j less =
            let n0 = j.same in
            let n1 = m.same in
            let x1 = j.before in
            let x2 = a.before in
            let back = ih t r l v x z zn j.s j.life j.view (omega arith) prepared cz j.rejoins (omega arith) in
            let w = rejoin-view run a.s z a.life j a.runs in
            up (omega arith)

        later_m : HasRejoined run m.s z m.life.number → a.life.number < m.life.number → v ≤ u
        later_m j less =
            let n0 = j.same in
            let n1 = a.number in
            let low = rejoins_are_seen run t' p l' u z h j.s j.life j.view epoch rejoins e j.rejoins (omega arith) in
            absurd (unseen z zn m j.life low (same_life run j.s m.s z j.life m.life (le_of_lt j.before) j.rejoins.runs m.runs j.same))

        go : (m.life.number ≤ a.life.number) ⊎ (a.life.number < m.life.number) → (a.life.number ≤ m.life.number) ⊎ (m.life.number < a.life.number) → v ≤ u
        go (inl le) (inl ge) = alike (omega arith) (lt_or_le m.s a.s)
        go (inl le) (inr less) = later_a (rejoined run a.s z a.life m.life.number a.runs a.working ((life_sound-at run m.s z m.life m.runs).started) less) less
        go (inr less) le = later_m (rejoined run m.s z m.life a.life.number m.runs m.working ((life_sound-at run a.s z a.life a.runs).started) less) less

    by_epochs : BackBelow run t' → v ≤ u
    by_epochs ih =
        let c1 = can-prepared run t r l v x prepared in
        let c2 = can-rejoin run t' p l' u rejoins in
        let z = shared run.setup.n (is_promised run.setup r l) (is_answered run.setup p l') c1.quorum c2.quorum in
        let n = promised-counts run.setup r l z.0 z.2 in
        let h = is_some-value (counted_answer run.setup p l' z.0) z.3 in
        common ih z.0 n.0 z.1 n.1 (member-of run t r l v x z.0 n.0 prepared n.1) h.0 h.1 (answer-for run t' p l' z.0 h.0 rejoins.runs h.1)

mode_is : (m : Mode) → (m ≡ ViewSs) ⊎ (m ≡ EpochSs)
mode_is ViewSs = inl refl
mode_is EpochSs = inr refl

back_below : (run : Trace) (k : ℕ) → BackBelow run k
unfolding BackBelow
back_below run zero t r l v x p number t' l' u lt a b d n = absurd (omega arith)
back_below run (suc k) t r l v x p number t' l' u lt a b d n =
    let ih : (t2 r2 : ℕ) (l2 : Life) (v2 x2 p2 number2 t2' : ℕ) (l2' : Life) (u2 : ℕ) → t2' < t' → BecomesPrepared run t2 r2 l2 v2 x2 → CountsLife run.setup r2 l2 p2 number2 → Rejoins run t2' p2 l2' u2 → number2 < l2'.number → v2 ≤ u2
    = λ t2 r2 l2 v2 x2 p2 number2 t2' l2' u2 lt2 a2 b2 d2 n2. back_below run k t2 r2 l2 v2 x2 p2 number2 t2' l2' u2 (omega arith) a2 b2 d2 n2 in
    elim (mode_is run.setup.mode) [ inl e ↦ by_marks run t r l v x p number t' l' u a b d n e | inr e ↦ by_epochs run t r l v x p number t' l' u a b d n e ih ]

-- a later life of a replica that was counted rejoins at or above the view
pub counted_come_back : (run : Trace) → CountedComeBack run
unfolding BackBelow
counted_come_back run t r l v x p number t' l' u a b d n = back_below run (suc t') t r l v x p number t' l' u (omega arith) a b d n

-- two lives of one replica with one mark are one
pub same_mark : (run : Trace) (s t q : ℕ) (k l : Life) → Runs run s q k → Runs run t q l → k.mark ≡ l.mark → k.number ≡ l.number
same_mark run s t q k l a b e = go (le_or_lt k.number l.number) (le_or_lt l.number k.number)
  where
    go : (k.number ≤ l.number) ⊎ (l.number < k.number) → (l.number ≤ k.number) ⊎ (k.number < l.number) → k.number ≡ l.number
    go (inl le) (inl ge) = omega arith
    go (inl le) (inr less) = let m = newer_mark run s t q k l a b less in absurd (omega arith)
    go (inr less) le = let m = newer_mark run t s q l k b a less in absurd (omega arith)

-- a life that answered a recovery did so after that life's return
pub answered-after : (run : Trace) (t t' p : ℕ) (l' : Life) (s z : ℕ) (k : Life) → Runs run t' p l' → Runs run s z k → Took k p (Message.Recovery (record { mark = l'.mark }))
    → ((at run t).replicas p).starts < l'.number → t < s
answered-after run t t' p l' s z k runs there took newer =
    let b = took.0 in
    let x : Sent = record { from = b.from; to = z; message = b.message } in
    let i = (life_sound-at run s z k there).taken b took.1 in
    let f : IsSaying run s b.from (Message.Recovery (record { mark = l'.mark })) = recovery-from run s x (record { mark = l'.mark }) i took.3 in
    let own : Runs run f.s p f.life = subst (λ (y : ℕ). Runs run f.s y f.life) took.2 f.runs in
    let mark : f.life.mark ≡ l'.mark = f.may in
    let n = same_mark run f.s t' p f.life l' own runs mark in
    let m = (life_sound-at run f.s p f.life own).number in
    let before = f.before in
    elim (lt_or_le f.s t) [
      | inl w ↦ (let up = (later-at run f.s t p (le_of_lt w)).starts in absurd (omega arith))
      | inr w ↦ omega arith
    ]

module _ (run : Trace) (t r : ℕ) (l : Life) (v x t' p : ℕ) (l' : Life) (u : ℕ)
    (prepared : BecomesPrepared run t r l v x) (rejoins : Rejoins run t' p l' u) (newer : ((at run t).replicas p).starts < l'.number) where
  returned_common : (z zn : ℕ) → z < run.setup.n → CountsLife run.setup r l z zn → MemberOf run t r l v z zn → (h : Held RecoveryAnswer) → counted_answer run.setup p l' z ≡ Some h → AnswerFor run t' p l' z h → v ≤ u
  returned_common z zn lt cz m h e a = go (le_or_lt m.life.number a.life.number) (le_or_lt a.life.number m.life.number)
    where
      after' : t < a.s
      after' = answered-after run t t' p l' a.s z a.life rejoins.runs a.runs a.asked newer

      before : m.s < a.s
      before = let o = m.upto in let q = after' in omega arith

      up : v ≤ a.life.view → v ≤ u
      up le = let b = answer-below run t' p l' u z h rejoins lt e in let w = a.view in omega arith

      later_a : HasRejoined run a.s z a.life.number → m.life.number < a.life.number → v ≤ u
      later_a j less =
          let n0 = j.same in
          let n1 = m.same in
          let back = counted_come_back run t r l v x z zn j.s j.life j.view prepared cz j.rejoins (omega arith) in
          let w = rejoin-view run a.s z a.life j a.runs in
          up (omega arith)

      go : (m.life.number ≤ a.life.number) ⊎ (a.life.number < m.life.number) → (a.life.number ≤ m.life.number) ⊎ (m.life.number < a.life.number) → v ≤ u
      go (inl le) (inl ge) = let n : m.life.number ≡ a.life.number = omega arith in let g = (same_life run m.s a.s z m.life a.life (le_of_lt before) m.runs a.runs n).view in let y = m.view in up (omega arith)
      go (inl le) (inr less) = later_a (rejoined run a.s z a.life m.life.number a.runs a.working ((life_sound-at run m.s z m.life m.runs).started) less) less
      go (inr less) le = let o = (newer_life run a.s m.s z a.life m.life a.runs m.runs less).0 in let q = before in absurd (omega arith)

  returned_back : v ≤ u
  returned_back =
      let c1 = can-prepared run t r l v x prepared in
      let c2 = can-rejoin run t' p l' u rejoins in
      let z = shared run.setup.n (is_promised run.setup r l) (is_answered run.setup p l') c1.quorum c2.quorum in
      let n = promised-counts run.setup r l z.0 z.2 in
      let h = is_some-value (counted_answer run.setup p l' z.0) z.3 in
      returned_common z.0 n.0 z.1 n.1 (member-of run t r l v x z.0 n.0 prepared n.1) h.0 h.1 (answer-for run t' p l' z.0 h.0 rejoins.runs h.1)

-- a life that returned after a Prepared step rejoins at or above its view
pub returned_come_back : (run : Trace) → ReturnedComeBack run
returned_come_back run t r l v x t' p l' u a b n = returned_back run t r l v x t' p l' u a b n

-- In EpochSS a life that rejoins has an entry of at least each mark that a counted answer of its replica's earlier lives answered.
use Rattle.std.proofs.Common.{◌≡◌, ℕ, zero, suc, ◌+◌, ◌≤◌, ◌<◌, ◌⊎◌, Option, Some, sym, subst, ◌∙◌, inl, inr, arith, le_of_lt}
use Rattle.jp_types.specs.declared.message.RecoveryAnswer.{RecoveryAnswer}
use Rattle.jp_types.specs.declared.mode.Mode.TheVariants.{EpochSs}
use Rattle.paxos_world.specs.Life.{Life}
use Rattle.paxos_world.specs.Counting.{Held, entry_in, counted_answer, is_answered}
use Rattle.paxos_world.specs.World.{Answer, Rejoin, CanRejoin, Act}
use Rattle.paxos_world.specs.Trace.{Trace, Does}
use Rattle.paxos_world.specs.Laws.{Rejoins, RejoinsAreSeen}
use Rattle.paxos_world.proofs.Basics.{shared, le_or_lt, lt_or_le}
use Rattle.paxos_world.proofs.Replies.{is_some-value}
use Rattle.paxos_world.proofs.Growth.{Grows}
use Rattle.paxos_world.proofs.Runs.{life_sound-at, same_life, newer_mark, can-at, within-at}
use Rattle.paxos_world.proofs.Rejoining.{HasRejoined, rejoined, AnswerFor, answer-for}

-- the answers of one replica to two recoveries, and what is to be shown
pub can-rejoin : (run : Trace) (t r : ℕ) (l : Life) (view : ℕ) → Rejoins run t r l view → CanRejoin run.setup r l view
can-rejoin run t r l view h = can-at run t r (Rejoin view) l h.does h.runs

-- two steps at one moment are one
same_step : (run : Trace) (s p r y v v' : ℕ) (x x' : Option ℕ) (m m' : ℕ) → Does run s (Act p (Answer r v x m)) → Does run s (Act p (Answer y v' x' m')) → r ≡ y
same_step run s p r y v v' x x' m m' a b = let e : Some (Act p (Answer r v x m)) ≡ Some (Act p (Answer y v' x' m')) = sym a ∙ b in cc

-- the law for two rejoins whose times sum to less than k
Below : Trace → ℕ → Type 0
Below run k = (t r : ℕ) (l : Life) (view y : ℕ) (h : Held RecoveryAnswer) (t' : ℕ) (l' : Life) (view' : ℕ) → t + t' < k
    → Rejoins run t r l view → counted_answer run.setup r l y ≡ Some h → Rejoins run t' y l' view' → h.from.number < l'.number → l.mark ≤ entry_in run.setup.mode y l' r

module _ (run : Trace) (epoch : run.setup.mode ≡ EpochSs) (t r : ℕ) (l : Life) (view y : ℕ) (h : Held RecoveryAnswer) (t' : ℕ) (l' : Life) (view' : ℕ)
    (first : Rejoins run t r l view) (counted : counted_answer run.setup r l y ≡ Some h) (second : Rejoins run t' y l' view') (newer : h.from.number < l'.number) where
  -- the mark of the life that was counted is below that of the later one
  counted_mark : (a : AnswerFor run t r l y h) → entry_in run.setup.mode r l y < l'.mark
  counted_mark a =
      let n = a.number in
      let m = newer_mark run a.s t' y a.life l' a.runs second.runs (omega arith) in
      let e = a.epoch epoch in
      omega arith

  -- a common answerer z
  common : Below run (t + t') → AnswerFor run t r l y h → (z : ℕ) → z < run.setup.n → (hr hy : Held RecoveryAnswer) → counted_answer run.setup r l z ≡ Some hr → counted_answer run.setup y l' z ≡ Some hy
      → AnswerFor run t r l z hr → AnswerFor run t' y l' z hy → l.mark ≤ entry_in run.setup.mode y l' r
  unfolding Below
  common ih ay z lt hr hy er ey a b = go (le_or_lt a.life.number b.life.number) (le_or_lt b.life.number a.life.number)
    where
      in_r : r < run.setup.n
      in_r = within-at run t (Act r (Rejoin view)) first.does

      in_y : y < run.setup.n
      in_y = within-at run t' (Act y (Rejoin view')) second.does

      -- if z's answer to r is seen by its answer to y
      seen : (k : Life) → l.mark ≤ entry_in run.setup.mode z k r → Grows run.setup z k b.life → l.mark ≤ entry_in run.setup.mode y l' r
      seen k low g =
          let e1 = g.entry r in
          let e2 = b.grows.entry r in
          let e3 = b.gives epoch r in_r in
          omega arith

      -- if z's answer to y is seen by its answer to r, the counted one would not count
      unseen : (k : Life) → l'.mark ≤ entry_in run.setup.mode z k y → Grows run.setup z k a.life → ⊥
      unseen k low g =
          let e1 = g.entry y in
          let e2 = a.grows.entry y in
          let e3 = a.gives epoch y in_y in
          let e4 = counted_mark ay in
          omega arith

      same : a.life.number ≡ b.life.number → (a.s < b.s) ⊎ (b.s ≤ a.s) → l.mark ≤ entry_in run.setup.mode y l' r
      same n (inl before) =
          let g0 = a.grows.number in
          seen a.later (a.has epoch) (same_life run (suc a.s) b.s z a.later b.life before a.runs_later b.runs (g0 ∙ n))
      same n (inr after') = elim (le_or_lt a.s b.s) [
        | inl le ↦
            let e : a.s ≡ b.s = omega arith in
            let d : Does run a.s (Act z (Answer y hy.body.view hy.body.next hy.body.mark)) = subst (λ x. Does run x (Act z (Answer y hy.body.view hy.body.next hy.body.mark))) (sym e) b.does in
            absurd (ay.other (sym (same_step run a.s z r y hr.body.view hy.body.view hr.body.next hy.body.next hr.body.mark hy.body.mark a.does d)))
        | inr before ↦
            let g0 = b.grows.number in
            absurd (unseen b.later (b.has epoch) (same_life run (suc b.s) a.s z b.later a.life before b.runs_later a.runs (g0 ∙ sym n)))
      ]

      newer_y : HasRejoined run b.s z b.life.number → a.life.number < b.life.number → l.mark ≤ entry_in run.setup.mode y l' r
      newer_y j less =
          let n0 = j.same in
          let n1 = a.number in
          let x1 = j.before in
          let x2 = b.before in
          let low = ih t r l view z hr j.s j.life j.view (omega arith) first er j.rejoins (omega arith) in
          seen j.life low (same_life run j.s b.s z j.life b.life (le_of_lt j.before) j.rejoins.runs b.runs j.same)

      newer_r : HasRejoined run a.s z a.life.number → b.life.number < a.life.number → l.mark ≤ entry_in run.setup.mode y l' r
      newer_r j less =
          let n0 = j.same in
          let n1 = b.number in
          let x1 = j.before in
          let x2 = a.before in
          let low = ih t' y l' view' z hy j.s j.life j.view (omega arith) second ey j.rejoins (omega arith) in
          absurd (unseen j.life low (same_life run j.s a.s z j.life a.life (le_of_lt j.before) j.rejoins.runs a.runs j.same))

      go : (a.life.number ≤ b.life.number) ⊎ (b.life.number < a.life.number) → (b.life.number ≤ a.life.number) ⊎ (a.life.number < b.life.number) → l.mark ≤ entry_in run.setup.mode y l' r
      go (inl le) (inl ge) = same (omega arith) (lt_or_le a.s b.s)
      go (inl le) (inr less) = newer_y (rejoined run b.s z b.life a.life.number b.runs b.working ((life_sound-at run a.s z a.life a.runs).started) less) less
      go (inr less) le = newer_r (rejoined run a.s z a.life b.life.number a.runs a.working ((life_sound-at run b.s z b.life b.runs).started) less) less

  -- the law for this pair of rejoins
  pair : Below run (t + t') → l.mark ≤ entry_in run.setup.mode y l' r
  pair ih =
      let c1 = can-rejoin run t r l view first in
      let c2 = can-rejoin run t' y l' view' second in
      let z = shared run.setup.n (is_answered run.setup r l) (is_answered run.setup y l') c1.quorum c2.quorum in
      let vr = is_some-value (counted_answer run.setup r l z.0) z.2 in
      let vy = is_some-value (counted_answer run.setup y l' z.0) z.3 in
      common ih (answer-for run t r l y h first.runs counted) z.0 z.1 vr.0 vy.0 vr.1 vy.1 (answer-for run t r l z.0 vr.0 first.runs vr.1) (answer-for run t' y l' z.0 vy.0 second.runs vy.1)

below : (run : Trace) → run.setup.mode ≡ EpochSs → (k : ℕ) → Below run k
unfolding Below
below run e zero t r l view y h t' l' view' lt a b d n = absurd (omega arith)
below run e (suc k) t r l view y h t' l' view' lt a b d n =
    pair run e t r l view y h t' l' view' a b d n (λ t2 r2 l2 view2 y2 h2 t2' l2' view2' lt2 a2 b2 d2 n2. below run e k t2 r2 l2 view2 y2 h2 t2' l2' view2' (omega arith) a2 b2 d2 n2)

-- the law, for all rejoins
pub rejoins_are_seen : (run : Trace) → RejoinsAreSeen run
unfolding Below
rejoins_are_seen run t r l view y h t' l' view' e a b d n = below run e (suc (t + t')) t r l view y h t' l' view' (omega arith) a b d n

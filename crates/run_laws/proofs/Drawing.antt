-- The schedule that a seed draws is the same in the model and in the code.
use Rattle.std.proofs.Common.{◌≡◌, ◌∙◌, inl, inr, ◌+◌, ◌-◌, ◌≤◌, ℕ, suc, true, List, [], ◌∷◌, ◌++◌, length, refl, sym, ap, subst, arith, append-nil, append_assoc}
use Rattle.schedules.specs.Generator.{lines_drawn, generate}
use Rattle.cluster.specs.Drawing as code
use Rattle.cluster.specs.Drawing.{Draws, DrawsFrom, DrawsPast, IsDrawn, IsDrawnPast, MayComeNext, drawn_head, first_drawing}
use Rattle.schedules.specs.Cluster.{Cluster}
use Rattle.schedules.specs.Run.{event, first_event, sends_too_much}
use Rattle.cluster.specs.Runs.{OpensPast, PassesAt}
use Rattle.cluster.specs.Stepping.{Stepping, Opens, Happens, outcome_of}
use Rattle.schedules.specs.declared.event.Event.{Event}
use Rattle.schedules.specs.declared.event.Run.{Run}
use Rattle.schedules.specs.declared.line.Line.{Line}
use Rattle.schedules.specs.declared.schedule.Schedule.{Schedule}
use Rattle.cluster_laws.specs.Laws.{after_lines}
use Rattle.run_laws.specs.Laws.{IsRunnable}
use Rattle.cluster.specs.Resembling.{IsCluster, Alike}
use Rattle.cluster.proofs.Goals.{OpensAlike, EventAlike, RunsReady}
use Rattle.run_laws.proofs.Generated.{generate-is-runnable}
use Rattle.run_laws.proofs.Nexts.{model_drawing, next-alike}
use Rattle.run_laws.proofs.Running.{head-at, head-within}
use Rattle.cluster.proofs.Fronts.{after-append, front-past}

-- ---- Lines

-- the lines that the model draws begin with the code's next line, and go on from the cluster after it
lines-alike : (k : ℕ) (c : Cluster) (s : Stepping) (d : code.Drawing) (line : Line) → IsCluster c s → line ≡ (code.next_line s d).0
    → lines_drawn (suc k) (model_drawing c d) ≡ line ∷ lines_drawn k (model_drawing (event c line).cluster (code.next_line s d).1)
lines-alike k c s d line h e =
    let next = next-alike c s d h in
    let after = (code.next_line s d).1 in
    (λ i. (next i).0 ∷ lines_drawn k (record (next i).1 { cluster = (event (next i).1.cluster (next i).0).cluster }))
    ∙ (λ i. sym e i ∷ lines_drawn k (model_drawing (event c (sym e i)).cluster after))

-- of a schedule these lines are done and so many are drawn behind them, by this generator from this run, which is the cluster
record IsFront (schedule : Schedule) (k : ℕ) (done : List Line) (d : code.Drawing) (s : Stepping) : Type 0 where
  split : schedule.lines ≡ done ++ lines_drawn k (model_drawing (after_lines schedule done) d)
  cluster : IsCluster (after_lines schedule done) s

-- two schedules with the same constants and lines are the same
same-schedule : (x y : Schedule) → x.head ≡ y.head → x.lines ≡ y.lines → x ≡ y
same-schedule x y head lines = λ i. record { head = head i; lines = lines i }

-- the constants of the schedule that the model draws are those of the code's
generate-head : (seed n steps : ℕ) → (generate seed n steps).head ≡ drawn_head seed n
unfolding generate
generate-head seed n steps = refl

module _ (opens : OpensAlike) (comes : EventAlike) (ready : RunsReady) where
  -- what happens at a line behind a front of a runnable schedule is the model's, and leaves the cluster
  happens-alike : (schedule : Schedule) → IsRunnable schedule → (done : List Line) (line : Line) (more : List Line) (s : Stepping) (e : Event) (next : Stepping)
      → schedule.lines ≡ done ++ line ∷ more → IsCluster (after_lines schedule done) s → Happens s line e next → IsCluster (after_lines schedule (done ++ line ∷ [])) next
  happens-alike schedule is done line more s e next split cluster h =
      let c = after_lines schedule done in
      let here : Alike (event c line) (outcome_of e next)
      = comes c s line (outcome_of e next) (head-at schedule is done (line ∷ more) split) (ready schedule is.schedule_is done (line ∷ more) split) cluster h.1 in
      subst (λ (x : Cluster). IsCluster x next) (sym (after-append (first_event schedule.head).cluster done (line ∷ []))) here.after

  -- the lines of a schedule behind a front, of which the next is drawn
  next-split : (schedule : Schedule) (k : ℕ) (done : List Line) (d : code.Drawing) (s : Stepping) (line : Line) → IsFront schedule (suc k) done d s → line ≡ (code.next_line s d).0
      → schedule.lines ≡ done ++ line ∷ lines_drawn k (model_drawing (event (after_lines schedule done) line).cluster (code.next_line s d).1)
  next-split schedule k done d s line front e = front.split ∙ ap (λ (ls : List Line). done ++ ls) (lines-alike k (after_lines schedule done) s d line front.cluster e)

  -- one line more of a front
  front-more : (schedule : Schedule) → IsRunnable schedule → (k : ℕ) (done : List Line) (d : code.Drawing) (s : Stepping) (line : Line) (e : Event) (next : Stepping)
      → IsFront schedule (suc k) done d s → line ≡ (code.next_line s d).0 → Happens s line e next → IsFront schedule k (done ++ line ∷ []) (code.next_line s d).1 next
  front-more schedule is k done d s line e next front is_line happens =
      let after = (code.next_line s d).1 in
      let split = next-split schedule k done d s line front is_line in
      let rest = lines_drawn k (model_drawing (event (after_lines schedule done) line).cluster after) in
      let at = after-append (first_event schedule.head).cluster done (line ∷ []) in
      record {
        split = split ∙ sym (append_assoc done (line ∷ []) rest) ∙ (λ i. (done ++ line ∷ []) ++ lines_drawn k (model_drawing (sym at i) after));
        cluster = happens-alike schedule is done line rest s e next split front.cluster happens;
      }

  -- all lines that the code draws behind a front
  front-all : (schedule : Schedule) → IsRunnable schedule → (k m : ℕ) (done lines : List Line) (d : code.Drawing) (s : Stepping) (events : List Event) (g : code.Drawing) (after : Stepping)
      → m ≡ length lines + k → IsFront schedule m done d s → Draws d s lines events g after → IsFront schedule k (done ++ lines) g after
  front-all schedule is k m done [] d s [] g after count front (same_g, same) =
      let none : m ≡ k = omega arith in
      subst (λ (x : code.Drawing). IsFront schedule k (done ++ []) x after) (sym same_g)
      (subst (λ (x : Stepping). IsFront schedule k (done ++ []) d x) (sym same)
      (subst (λ (ls : List Line). IsFront schedule k ls d s) (sym (append-nil done))
      (subst (λ (j : ℕ). IsFront schedule j done d s) none front)))
  front-all schedule is k m done [] d s (e ∷ events) g after count front draws = absurd draws
  front-all schedule is k m done (line ∷ lines) d s [] g after count front draws = absurd draws
  front-all schedule is k m done (line ∷ lines) d s (e ∷ events) g after count front (is_line, (next, (happens, more))) =
      let one : m ≡ suc (length lines + k) = omega arith in
      let begun = subst (λ (j : ℕ). IsFront schedule j done d s) one front in
      subst (λ (ls : List Line). IsFront schedule k ls g after) (append_assoc done (line ∷ []) lines)
      (front-all schedule is k (length lines + k) (done ++ line ∷ []) lines (code.next_line s d).1 next events g after refl (front-more schedule is (length lines + k) done d s line e next begun is_line happens) more)

  -- the first line of a schedule that a seed draws leaves the cluster
  opens-at : (seed n steps : ℕ) (e : Event) (begun : Stepping) → IsRunnable (generate seed n steps) → Opens (drawn_head seed n) e begun → IsFront (generate seed n steps) steps [] (first_drawing seed n) begun
  unfolding generate
  opens-at seed n steps e begun is h =
      record { split = refl; cluster = (opens (drawn_head seed n) e begun (head-within (generate seed n steps) is) h).1 }

  -- lines that the code draws from a seed are a front of those that the model draws
  draws-front : (seed n steps k : ℕ) (lines : List Line) (events : List Event) (g : code.Drawing) (s : Stepping) → IsRunnable (generate seed n steps) → steps ≡ length lines + k
      → DrawsFrom seed n lines events g s → IsFront (generate seed n steps) k lines g s
  draws-front seed n steps k lines events g s is count h =
      front-all (generate seed n steps) is k steps [] lines (first_drawing seed n) h.begun h.more g s count (opens-at seed n steps h.first h.begun is h.opens) h.draws

  -- the schedule that the code draws from a seed is the one that the model draws
  pub drawn-alike : (seed n steps : ℕ) (schedule : Schedule) (run : Run) → 3 ≤ n → n ≤ 9 → steps ≤ 99998 → IsDrawn seed n steps schedule run → schedule ≡ generate seed n steps
  drawn-alike seed n steps schedule run more few short h =
      let count = h.count in
      let front = draws-front seed n steps 0 h.lines h.events h.g h.before (generate-is-runnable seed n steps more few short) (omega arith) h.draws in
      same-schedule schedule (generate seed n steps) (h.head_is ∙ sym (generate-head seed n steps)) (h.lines_are ∙ sym front.split)

  -- ---- Past the limit

  -- where the frames pass the limit at a line behind a front of a runnable schedule, its run sends too much
  line-past : (schedule : Schedule) → IsRunnable schedule → (done : List Line) (line : Line) (more : List Line) (s : Stepping) → schedule.lines ≡ done ++ line ∷ more
      → IsCluster (after_lines schedule done) s → PassesAt line s → sends_too_much schedule ≡ true
  line-past schedule is done line more s split cluster passes =
      front-past schedule is.schedule_is (done ++ line ∷ []) more passes.after (split ∙ sym (append_assoc done (line ∷ []) more))
      (happens-alike schedule is done line more s passes.event passes.after split cluster passes.happens) passes.past

  -- where the frames pass the limit at the first starts, the run of the schedule that the model draws sends too much
  opens-past : (seed n steps : ℕ) → IsRunnable (generate seed n steps) → OpensPast (drawn_head seed n) → sends_too_much (generate seed n steps) ≡ true
  opens-past seed n steps is h =
      let front = opens-at seed n steps h.event h.after is h.opens in
      front-past (generate seed n steps) is.schedule_is [] _ h.after front.split front.cluster h.past

  -- where they pass it at a line that may come next, it sends too much too
  draws-past : (seed n steps : ℕ) → IsRunnable (generate seed n steps) → DrawsPast seed n steps → sends_too_much (generate seed n steps) ≡ true
  draws-past seed n steps is h = go h.comes
    where
      schedule : Schedule
      schedule = generate seed n steps

      drawn : (k : ℕ) → steps ≡ length h.lines + k → IsFront (generate seed n steps) k h.lines h.g h.before
      drawn k count = draws-front seed n steps k h.lines h.events h.g h.before is count h.draws

      before-last : (k : ℕ) → steps ≡ length h.lines + suc k → h.line ≡ (code.next_line h.before h.g).0 → sends_too_much (generate seed n steps) ≡ true
      before-last k count is_line =
          let front = drawn (suc k) count in
          line-past schedule is h.lines h.line _ h.before (next-split schedule k h.lines h.g h.before h.line front is_line) front.cluster h.passes

      go : MayComeNext steps h.lines h.g h.before h.line → sends_too_much (generate seed n steps) ≡ true
      go (inl (low, is_line)) = before-last (steps - suc (length h.lines)) (omega arith) is_line
      go (inr (count, is_end)) =
          let front = drawn 0 (omega arith) in
          line-past schedule is h.lines h.line [] h.before (front.split ∙ (λ i. h.lines ++ sym is_end i ∷ [])) front.cluster h.passes

  -- where what the code draws from a seed sends frames that pass the limit, the run of the schedule that the model draws sends too much
  pub drawn-past-alike : (seed n steps : ℕ) → 3 ≤ n → n ≤ 9 → steps ≤ 99998 → IsDrawnPast seed n steps → sends_too_much (generate seed n steps) ≡ true
  drawn-past-alike seed n steps more few short (inl h) = opens-past seed n steps (generate-is-runnable seed n steps more few short) h
  drawn-past-alike seed n steps more few short (inr h) = draws-past seed n steps (generate-is-runnable seed n steps more few short) h

-- What stays kept as the life does what changes a proposer or the own vector, and as it takes any other message.
use Rattle.std.proofs.Common.{◌≡◌, ◌≢◌, ℕ, zero, suc, ◌+◌, min, max, ◌<◌, Bool, true, false, ◌&&◌, List, ◌∷◌, nat_lt, ◌==◌, Option, Some, None, if◌then◌else◌, inl, inr, refl, sym, ap, ◌∙◌, arith}
use Rattle.std.proofs.lemmas.Bool.Decides.{nat_tests, eqb_tells}
use Rattle.jp_types.specs.declared.message.Message.{Message}
use Rattle.jp_types.specs.declared.message.PrepareOk.{PrepareOk}
use Rattle.jp_types.specs.declared.mode.Mode.{Mode}
use Rattle.jp_types.specs.declared.mode.Mode.TheVariants.{ViewSs, EpochSs}
use Rattle.jp_types.specs.Instances.{Batch}
use Rattle.jp_types.specs.Views.{number_if}
use Rattle.jp_types.specs.Vectors.{table, raised}
use Rattle.paxos_world.specs.Setup.{Setup}
use Rattle.paxos_world.specs.Life.{LifeId, Life, Taken, Lead, Leading, No, Preparing, Leads, preparing_in, next_of}
use Rattle.paxos_world.specs.Counting.{is_view, own_ok, own_answer, entry_answered, entry_taken, entry_of, entry_in, better_ok, held_ok, better_answer, held_answer}
use Rattle.paxos_world.specs.World.{Take, Prepared, Launch, Answer, life_after, lead_after}
use Rattle.paxos_world.specs.Stage.{Stage}
use Rattle.paxos_world.specs.Logs as logs
use Rattle.paxos_world.specs.Settling as settling
use Rattle.paxos_world.proofs.Basics.{with_at-other}
use Rattle.replica_log.specs.Log.{Log, with_vote}
use Rattle.proposer_core.specs.declared.adoption.Adopted.{Adopted}
use Rattle.proposer_core.specs.declared.leading.Leading as proposer
use Rattle.proposer_core.specs.declared.leading.Leading.TheVariants as leads
use Rattle.proposer_core.specs.Adoption.{after_adoption, prepared_at}
use Rattle.proposer_core.specs.Proposing.{Proposer, after_promise, takes, with_promise}
use Rattle.proposer_core.specs.Window.{limit, raised_below, after_offer}
use Rattle.core_laws.specs.Holding.{as_ok, as_answer, KeepsVector}
use Rattle.core_laws.specs.Keeping.{KeepsLog}
use Rattle.core_laws.specs.KeptLaws.{stage_after, ProposersAreKept, LaunchesAreKept, AnsweringIsKept, OthersAreKept, CountsAlike}
use Rattle.core_laws.specs.PrepareLaws.{leading_as, KeepsProposer}
use Rattle.core_laws.proofs.KeptReplies.{table-alike, entry-more}
use Rattle.core_laws.proofs.LogLemmas.{keeps-vote, logs_are_read}
use Rattle.core_laws.proofs.PrepareLemmas.{below-both}
use Rattle.core_laws.proofs.ReplyLemmas.{ok-counted, answer-counted}

-- ---- Proposers

after-promise : (s : Stage) (q : Proposer) (p : ℕ) (m : PrepareOk) → KeepsProposer s q → KeepsProposer s (after_promise q p m)
after-promise s q p m h = by (takes q p m)
  where
    by : (b : Bool) → KeepsProposer s (if b then with_promise q p m else q)
    by true = record { n = h.n; me = h.me; window = h.window; leading = h.leading }
    by false = h

after-prepared : (s : Stage) (q : Proposer) (first : ℕ) (a : Adopted) → s.life.leading ≡ Preparing first → KeepsProposer s q
    → KeepsProposer (stage_after s (Prepared s.life.view a.next)) (after_adoption q (Some a))
after-prepared s q first a e h =
    let is : q.leading ≡ leads.Preparing s.life.view first s.life.mark = h.leading ∙ ap (λ (x : Leading). leading_as x s.life.view s.life.mark) e in
    record { n = h.n; me = h.me; window = h.window; leading = ap (λ (x : proposer.Leading). prepared_at x a.next) is }

place-is : (leading : Leading) (s : Stage) (i : ℕ) → settling.place_in leading s ≡ Some i
    → (lead : Lead) × (leading ≡ Leads lead) × (lead.next ≡ i) × ((nat_lt lead.next (logs.first_undecided s + s.config.window) && nat_lt lead.next (logs.span_end s)) ≡ true)
place-is No s i e = absurd cc
place-is (Preparing first) s i e = absurd cc
place-is (Leads lead) s i e = by (nat_lt lead.next (logs.first_undecided s + s.config.window) && nat_lt lead.next (logs.span_end s)) refl e
  where
    by : (b : Bool) → (nat_lt lead.next (logs.first_undecided s + s.config.window) && nat_lt lead.next (logs.span_end s)) ≡ b → number_if b lead.next ≡ Some i
        → (l : Lead) × (Leads lead ≡ Leads l) × (l.next ≡ i) × ((nat_lt l.next (logs.first_undecided s + s.config.window) && nat_lt l.next (logs.span_end s)) ≡ true)
    by true t f = (lead, refl, cc, t)
    by false t f = absurd cc

after-placed : (s : Stage) (log : Log) (q : Proposer) (i : ℕ) (batch : Batch) → KeepsLog s log → KeepsProposer s q → settling.open_place s ≡ Some i
    → KeepsProposer (stage_after s (Launch s.life.view i batch)) (after_offer q log)
after-placed s log q i batch keeps h e = record { n = h.n; me = h.me; window = h.window; leading = raised-is }
  where
    raised-is : raised_below q.leading (limit q log) ≡ leading_as (lead_after s.life.leading i) s.life.view s.life.mark
    raised-is =
        let place = place-is s.life.leading s i e in
        let lead = place.0 in
        let leads-so = place.1 in
        let at = place.2 in
        let tests = place.3 in
        let read = logs_are_read s log keeps in
        let u = read.first_undecided in
        let end = read.span_end in
        let w = h.window in
        let limits : limit q log ≡ min (logs.first_undecided s + s.config.window) (logs.span_end s) = cc in
        let both = below-both lead.next (logs.first_undecided s + s.config.window) (logs.span_end s) in
        let below : nat_lt lead.next (limit q log) ≡ true = ap (nat_lt lead.next) limits ∙ both ∙ tests in
        let is : q.leading ≡ leads.Prepared s.life.view lead.next = h.leading ∙ ap (λ (x : Leading). leading_as x s.life.view s.life.mark) leads-so in
        let same : (i == lead.next) ≡ true = grind (arith, nat_tests) in
        let left : raised_below q.leading (limit q log) ≡ leads.Prepared s.life.view (suc lead.next) = ap (λ (x : proposer.Leading). raised_below x (limit q log)) is ∙ rw below refl in
        let right : leading_as (lead_after s.life.leading i) s.life.view s.life.mark ≡ leads.Prepared s.life.view (suc i) = ap (λ (x : Leading). leading_as (lead_after x i) s.life.view s.life.mark) leads-so ∙ rw same refl in
        left ∙ ap (λ (k : ℕ). leads.Prepared s.life.view (suc k)) at ∙ sym right

after-adopted : (s : Stage) (q : Proposer) (view i : ℕ) (batch : Batch) → next_of s.life.leading ≢ Some i → KeepsProposer s q → KeepsProposer (stage_after s (Launch view i batch)) q
after-adopted s q view i batch ne h = record { n = h.n; me = h.me; window = h.window; leading = h.leading ∙ by s.life.leading ne }
  where
    by : (x : Leading) → next_of x ≢ Some i → leading_as x s.life.view s.life.mark ≡ leading_as (lead_after x i) s.life.view s.life.mark
    by No other = refl
    by (Preparing first) other = refl
    by (Leads lead) other = elim (eqb_tells i lead.next) [
      | inl e ↦ (let same = e.1 in absurd (other (ap Some (sym same))))
      | inr e ↦ (let t = e.0 in sym (ap (λ (b : Bool). leads.Prepared s.life.view (if b then suc i else lead.next)) t))
    ]

pub proposers_are_kept : ProposersAreKept
proposers_are_kept =
    record {
      opened = λ s q first h. record { n = h.n; me = h.me; window = h.window; leading = refl };
      entered = λ s q view h. record { n = h.n; me = h.me; window = h.window; leading = refl };
      promised = after-promise;
      prepared = after-prepared;
      placed = after-placed;
      adopted = after-adopted;
    }

-- ---- Logs

launch-above : (s : Stage) (log : Log) (view i : ℕ) (batch : Batch) → KeepsLog s log → KeepsLog (stage_after s (Launch view i batch)) (with_vote log i view batch)
launch-above s log view i batch h = let k = keeps-vote s log i view batch h in record { n = k.n; base = k.base; votes = k.votes; known = k.known; tallies = k.tallies }

launch-below : (s : Stage) (log : Log) (view i : ℕ) (batch : Batch) → i < s.base → KeepsLog s log → KeepsLog (stage_after s (Launch view i batch)) log
launch-below s log view i batch lt h =
    record {
      n = h.n;
      base = h.base;
      votes = λ j le. h.votes j le ∙ sym (with_at-other s.life.votes i (Some (view, batch)) j (λ e. absurd (omega arith)));
      known = h.known;
      tallies = h.tallies;
    }

pub launches_are_kept : LaunchesAreKept
launches_are_kept = record { above = launch-above; below = launch-below }

-- ---- Answering

raised-table : (f : ℕ → ℕ) (p e : ℕ) → p < 9 → raised (table f) p e ≡ table (λ q. if q == p then max (f q) e else f q)
raised-table f zero e lt = refl
raised-table f (suc zero) e lt = refl
raised-table f (suc (suc zero)) e lt = refl
raised-table f (suc (suc (suc zero))) e lt = refl
raised-table f (suc (suc (suc (suc zero)))) e lt = refl
raised-table f (suc (suc (suc (suc (suc zero))))) e lt = refl
raised-table f (suc (suc (suc (suc (suc (suc zero)))))) e lt = refl
raised-table f (suc (suc (suc (suc (suc (suc (suc zero))))))) e lt = refl
raised-table f (suc (suc (suc (suc (suc (suc (suc (suc zero)))))))) e lt = refl
raised-table f (suc (suc (suc (suc (suc (suc (suc (suc (suc p))))))))) e lt = absurd (omega arith)

raised-entry : (r mark : ℕ) (answered : List (ℕ × ℕ)) (taken : List Taken) (to e q : ℕ)
    → (if q == to then max (entry_of EpochSs r mark answered taken q) e else entry_of EpochSs r mark answered taken q) ≡ entry_of EpochSs r mark ((to, e) ∷ answered) taken q
raised-entry r mark answered taken to e q = elim (eqb_tells q to) [
  | inl h ↦ (
      let t = h.0 in
      let same = h.1 in
      let u : (to == q) ≡ true = grind (arith, nat_tests) in
      rw (t, u) (more (if q == r then mark else 0) (entry_answered q answered) (entry_taken mark q taken)))
  | inr h ↦ (
      let t = h.0 in
      let ne = h.1 in
      let u : (to == q) ≡ false = grind (arith, nat_tests) in
      rw (t, u) (less (if q == r then mark else 0) (entry_answered q answered) (entry_taken mark q taken)))
]
  where
    more : (a b c : ℕ) → max (max a (max b c)) e ≡ max a (max (max e b) c)
    more a b c = omega arith

    less : (a b c : ℕ) → max a (max b c) ≡ max a (max (max 0 b) c)
    less a b c = omega arith

answer-raised : (c : Setup) (r : ℕ) (l : Life) (own : List ℕ) (to view : ℕ) (next : Option ℕ) (mark : ℕ) → c.mode ≡ EpochSs → to < 9 → KeepsVector c r l own
    → KeepsVector c r (life_after c r l (Answer to view next mark)) (raised own to mark)
answer-raised c r l own to view next mark mode lt h =
    ap (λ (v : List ℕ). raised v to mark) h
    ∙ ap (λ (m : Mode). raised (table (entry_of m r l.mark l.answered l.taken)) to mark) mode
    ∙ raised-table (entry_of EpochSs r l.mark l.answered l.taken) to mark lt
    ∙ table-alike (λ q. if q == to then max (entry_of EpochSs r l.mark l.answered l.taken q) mark else entry_of EpochSs r l.mark l.answered l.taken q) (entry_of EpochSs r l.mark ((to, mark) ∷ l.answered) l.taken) (λ q le. raised-entry r l.mark l.answered l.taken to mark q)
    ∙ sym (ap (λ (m : Mode). table (entry_of m r l.mark ((to, mark) ∷ l.answered) l.taken)) mode)

answer-same : (c : Setup) (r : ℕ) (l : Life) (own : List ℕ) (to view : ℕ) (next : Option ℕ) (mark : ℕ) → c.mode ≡ ViewSs → KeepsVector c r l own
    → KeepsVector c r (life_after c r l (Answer to view next mark)) own
answer-same c r l own to view next mark mode h =
    h
    ∙ ap (λ (m : Mode). table (entry_of m r l.mark l.answered l.taken)) mode
    ∙ sym (ap (λ (m : Mode). table (entry_of m r l.mark ((to, mark) ∷ l.answered) l.taken)) mode)

pub answering_is_kept : AnsweringIsKept
answering_is_kept =
    record {
      raised = answer-raised;
      same = answer-same;
      held = λ c r l own new replies to view next mark h v. record { vector = v; held = h.held };
    }

-- ---- Other messages

module _ (c : Setup) (r : ℕ) (l : Life) (own : List ℕ) (from : LifeId) (m : Message) (no-ok : own_ok l.mark (preparing_in l.leading l.view) m ≡ None) (no-answer : own_answer l.mark l.phase m ≡ None) where
  abbrev t : Taken
  t = record { from = from; message = m; phase = l.phase; preparing = preparing_in l.leading l.view }

  other-vector : KeepsVector c r l own → KeepsVector c r (life_after c r l (Take from m)) own
  other-vector h =
      h
      ∙ table-alike (entry_in c.mode r l) (entry_of c.mode r l.mark l.answered (t ∷ l.taken)) (λ p lt.
      let more = entry-more c.mode r l.mark l.answered t l.taken p 0 (rw (no-ok, no-answer) refl) (λ v. refl) in
      omega arith)

  off : (b : Bool) → (if b then own_ok l.mark t.preparing t.message else None) ≡ None
  off true = no-ok
  off false = refl

  off-answer : (b : Bool) → (if b then own_answer l.mark t.phase t.message else None) ≡ None
  off-answer true = no-answer
  off-answer false = refl

  other-ok : (p : ℕ) → held_ok l.mark l.view p (t ∷ l.taken) ≡ held_ok l.mark l.view p l.taken
  other-ok p = ap (better_ok p (held_ok l.mark l.view p l.taken) from) (off (t.from.replica == p && is_view t.preparing l.view))

  other-answer : (p : ℕ) → held_answer l.mark p (t ∷ l.taken) ≡ held_answer l.mark p l.taken
  other-answer p = ap (better_answer p (held_answer l.mark p l.taken) from) (off-answer (t.from.replica == p))

pub others_are_kept : OthersAreKept
others_are_kept =
    record {
      vector = λ c r l own from m a b h. other-vector c r l own from m a b h;
      oks = λ c r l own replies from m a b h. record { vector = other-vector c r l own from m a b h.vector; held = λ p. h.held p ∙ ap as_ok (sym (other-ok c r l own from m a b p)) };
      answers = λ c r l own replies from m a b h. record { vector = other-vector c r l own from m a b h.vector; none = h.none; held = λ p ne. h.held p ne ∙ ap as_answer (sym (other-answer c r l own from m a b p)) };
    }

-- ---- Counting

pub counts_alike : CountsAlike
counts_alike = record { oks = ok-counted; answers = answer-counted }

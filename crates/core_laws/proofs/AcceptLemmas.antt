-- A log that an acceptor changes still keeps what the stage has after the turn of the model did the same.
use Rattle.std.proofs.Common.{◌≡◌, ℕ, ◌≤◌, ◌<◌, Bool, true, false, ◌&&◌, not, List, [], ◌∷◌, ◌==◌, nat_lt, Option, Some, None, is_some, if◌then◌else◌, inl, inr, refl, sym, ap, subst, ◌∙◌, arith}
use Rattle.std.proofs.lemmas.Bool.Decides.{nat_tests}
use Rattle.std.specs.FinMap as map
use Rattle.jp_types.specs.declared.message.Accept.{Accept}
use Rattle.jp_types.specs.declared.message.Message.{Message}
use Rattle.jp_types.specs.declared.message.Prepare.{Prepare}
use Rattle.jp_types.specs.declared.message.Propose.{Propose}
use Rattle.jp_types.specs.Instances.{Batch}
use Rattle.paxos_world.specs.Setup.{with_at}
use Rattle.paxos_world.specs.Stage.{setup_of, Note, Stage, Turned}
use Rattle.paxos_world.specs.Writing.{◌▹◌, for_each, sends, sends_to_all, others}
use Rattle.paxos_world.specs.Logs as logs
use Rattle.paxos_world.specs.Leading.{works}
use Rattle.paxos_world.specs.Learning.{notes, learn_check, learns, votes_for, accept_of}
use Rattle.paxos_world.specs.CatchingUp.{replied_batches}
use Rattle.paxos_world.specs.Messages.{votes_on, votes_if, vector_of}
use Rattle.paxos_world.proofs.Basics.{lt_or_le}
use Rattle.replica_log.specs.Log.{Log, is_known, is_full, batch_of, with_vote, with_note, with_known}
use Rattle.acceptor_core.specs.Learning as core
use Rattle.acceptor_core.specs.Learning.{is_open, after_note, after_vote, after_vote_if, learned_with, learned_if, after_check, after_proposal, after_accept}
use Rattle.core_laws.specs.Keeping.{tally_of, AreOf, KeepsLog}
use Rattle.acceptor_core.specs.Promising.{promise_of, promised}
use Rattle.catch_up.specs.declared.reply.Given.TheVariants.{Offer, Nothing, Batches}
use Rattle.catch_up.specs.Replying.{reply_to}
use Rattle.catch_up.specs.Replying.{replied_batches as given_batches}
use Rattle.core_laws.specs.Holding.{KeepsVector}
use Rattle.core_laws.specs.AcceptLaws.{IsSane, on_proposal, on_acceptance, AcceptsAlike, AnswersAlike}
use Rattle.core_laws.proofs.LogLemmas.{logs_are_read, keeps-note, keeps-vote, keeps-known}

pub both-true : (a b : Bool) → (a && not b) ≡ true → (a ≡ true) × (b ≡ false)
both-true true true e = cc
both-true true false e = (refl, refl)
both-true false b e = cc

-- ---- Notes

pub kept-note : (s : Stage) (log : Log) (i view p : ℕ) (batch : Option Batch) → KeepsLog s log
    → KeepsLog (logs.with_note (record { instance = i; view = view; replica = p; batch = batch }) s) (after_note log i view p batch)
kept-note s log i view p batch h = go (logs.is_in_span s i && not (logs.is_known s i)) refl
  where
    note : Note
    note = record { instance = i; view = view; replica = p; batch = batch }

    alike : is_open log i ≡ (logs.is_in_span s i && not (logs.is_known s i))
    alike = let read = logs_are_read s log h in let a = read.in_span i in let b = read.known i in cc

    go : (b : Bool) → (logs.is_in_span s i && not (logs.is_known s i)) ≡ b → KeepsLog (logs.with_note note s) (after_note log i view p batch)
    go true e =
        let tests = both-true (logs.is_in_span s i) (logs.is_known s i) e in
        let t = alike ∙ e in
        subst (KeepsLog (logs.with_note note s)) (sym (ap (λ b. if b then with_note log i view p batch else log) t)) (keeps-note s log i view p batch h tests.0 tests.1)
    go false e =
        let t = alike ∙ e in
        let same : (logs.with_note note s).noted ≡ s.noted = rw e refl in
        subst (KeepsLog (logs.with_note note s)) (sym (ap (λ b. if b then with_note log i view p batch else log) t))
        (record { n = h.n; base = h.base; votes = h.votes; known = h.known; tallies = λ j le none. h.tallies j le none ∙ sym (ap (λ (ns : List Note). tally_of (logs.notes_on j ns)) same) })

pub kept-of : (n : ℕ) (s : Stage) (note : Note) → AreOf n s.noted → note.replica < n → AreOf n (logs.with_note note s).noted
kept-of n s note of lt = go (logs.is_in_span s note.instance && not (logs.is_known s note.instance))
  where
    go : (b : Bool) → AreOf n (if b then note ∷ s.noted else s.noted)
    go true x (inl e) = subst (λ (y : Note). y.replica < n) (sym e) lt
    go true x (inr m) = of x m
    go false x m = of x m

-- ---- Sends change no stage

each-sent : (qs : List ℕ) (m : Message) (t : Turned) → (for_each qs (λ q. sends q m) t).stage ≡ t.stage
each-sent [] m t = refl
each-sent (q ∷ qs) m t = each-sent qs m (sends q m t)

pub all-sent : (m : Message) (t : Turned) → (sends_to_all m t).stage ≡ t.stage
all-sent m t = each-sent (others t.stage.config) m t

-- ---- Learning

learned-alike : (s : Stage) (log : Log) (i : ℕ) → KeepsLog s log → IsSane s → learned_with log i ≡ logs.tallied s i
learned-alike s log i h sane = go (logs.is_known s i) refl
  where
    read : is_known log i ≡ logs.is_known s i
    read = (logs_are_read s log h).known i

    by : (f : Bool) (o : Option Batch) → (if f then o else None) ≡ (if not f then None else o)
    by true o = refl
    by false o = refl

    go : (b : Bool) → logs.is_known s i ≡ b → learned_with log i ≡ logs.tallied s i
    go true e = let k = read ∙ e in let left : learned_with log i ≡ None = rw k refl in let right : logs.tallied s i ≡ None = rw e refl in left ∙ sym right
    go false e =
        let k = read ∙ e in
        let full = (logs_are_read s log h).tallied sane.most sane.notes i e in
        let left : learned_with log i ≡ (if not (is_full log.n (map.get log.tallies i)) then None else batch_of (map.get log.tallies i)) = rw k refl in
        left ∙ sym (by (is_full log.n (map.get log.tallies i)) (batch_of (map.get log.tallies i))) ∙ full

-- learning changes the stage's life and what is armed
kept-learn : (log : Log) (i : ℕ) (t : Turned) → KeepsLog t.stage log → IsSane t.stage → KeepsLog (learn_check i t).stage (after_check log i)
kept-learn log i t h sane = go (logs.tallied t.stage i) refl
  where
    alike : learned_with log i ≡ logs.tallied t.stage i
    alike = learned-alike t.stage log i h sane

    unknown : (batch : Batch) → learned_with log i ≡ Some batch → is_known log i ≡ false
    unknown batch e = by (is_known log i) refl
      where
        by : (b : Bool) → is_known log i ≡ b → is_known log i ≡ false
        by false k = k
        by true k = let none : learned_with log i ≡ None = rw k refl in absurd cc

    go : (o : Option Batch) → logs.tallied t.stage i ≡ o → KeepsLog (learn_check i t).stage (after_check log i)
    go None e =
        let left : after_check log i ≡ log = ap (learned_if log i) (alike ∙ e) in
        let stays : learn_check i t ≡ t = rw e refl in
        subst (λ (l : Log). KeepsLog (learn_check i t).stage l) (sym left) (subst (λ (x : Turned). KeepsLog x.stage log) (sym stays) h)
    go (Some batch) e =
        let with = alike ∙ e in
        let new = unknown batch with in
        let left : after_check log i ≡ with_known log i batch = ap (learned_if log i) with ∙ rw new refl in
        let learns-it : learn_check i t ≡ learns i batch t = rw e refl in
        let k = keeps-known t.stage log i batch h in
        subst (λ (l : Log). KeepsLog (learn_check i t).stage l) (sym left)
        (subst (λ (x : Turned). KeepsLog x.stage (with_known log i batch)) (sym learns-it) (record { n = k.n; base = k.base; votes = k.votes; known = k.known; tallies = k.tallies }))

-- learning leaves the notes as they are
sane-learn : (i : ℕ) (t : Turned) → IsSane t.stage → IsSane (learn_check i t).stage
sane-learn i t h = go (logs.tallied t.stage i) refl
  where
    go : (o : Option Batch) → logs.tallied t.stage i ≡ o → IsSane (learn_check i t).stage
    go None e = let stays : learn_check i t ≡ t = rw e refl in subst (λ (x : Turned). IsSane x.stage) (sym stays) h
    go (Some batch) e =
        let learns-it : learn_check i t ≡ learns i batch t = rw e refl in
        subst (λ (x : Turned). IsSane x.stage) (sym learns-it) (record { most = h.most; me = h.me; notes = h.notes })

-- ---- Votes

-- the stage after a vote for a proposal of p, without the notes
abbrev voted : Stage → Propose → Stage
voted s m = record s { life = record s.life { votes = with_at s.life.votes m.instance (Some (m.view, m.batch)) } }

-- the own note of a vote
abbrev own-note : Stage → Propose → Note
own-note s m = record { instance = m.instance; view = m.view; replica = s.config.me; batch = None }

vote-stage : (t : Turned) (m : Propose) → (votes_on m t).stage ≡ logs.with_note (own-note t.stage m) (voted t.stage m)
vote-stage t m = all-sent (accept_of m.view m.instance) (t ▹ votes_for m.view m.instance m.batch ▹ notes m.instance m.view t.stage.config.me None)

kept-vote : (t : Turned) (log : Log) (m : Propose) → KeepsLog t.stage log → KeepsLog (votes_on m t).stage (after_vote log t.stage.config.me m)
kept-vote t log m h =
    subst (λ (x : Stage). KeepsLog x (after_vote log t.stage.config.me m)) (sym (vote-stage t m))
    (kept-note (voted t.stage m) (with_vote log m.instance m.view m.batch) m.instance m.view t.stage.config.me None (keeps-vote t.stage log m.instance m.view m.batch h))

sane-vote : (t : Turned) (m : Propose) → IsSane t.stage → IsSane (votes_on m t).stage
sane-vote t m h =
    subst IsSane (sym (vote-stage t m))
    (record { most = h.most; me = h.me; notes = kept-of t.stage.config.n (voted t.stage m) (own-note t.stage m) h.notes h.me })

-- whether the model votes
abbrev will-vote : Stage → Propose → Bool
will-vote s m = works s && (s.life.view == m.view) && logs.is_in_span s m.instance

votes-alike : (s : Stage) (log : Log) (m : Propose) → KeepsLog s log → core.votes_on log (works s) s.life.view m ≡ will-vote s m
votes-alike s log m h = ap (λ b. works s && (s.life.view == m.view) && b) ((logs_are_read s log h).in_span m.instance)

kept-votes : (t : Turned) (log : Log) (m : Propose) (b : Bool) → will-vote t.stage m ≡ b → KeepsLog t.stage log → IsSane t.stage
    → KeepsLog (votes_if m t).stage (after_vote_if b log t.stage.config.me m) × IsSane (votes_if m t).stage
kept-votes t log m true e h sane =
    let is : votes_if m t ≡ votes_on m t = rw e refl in
    (subst (λ (x : Turned). KeepsLog x.stage (after_vote log t.stage.config.me m)) (sym is) (kept-vote t log m h), subst (λ (x : Turned). IsSane x.stage) (sym is) (sane-vote t m sane))
kept-votes t log m false e h sane =
    let is : votes_if m t ≡ t = rw e refl in
    (subst (λ (x : Turned). KeepsLog x.stage log) (sym is) h, subst (λ (x : Turned). IsSane x.stage) (sym is) sane)

sane-note : (s : Stage) (note : Note) → IsSane s → note.replica < s.config.n → IsSane (logs.with_note note s)
sane-note s note h lt = record { most = h.most; me = h.me; notes = kept-of s.config.n s note h.notes lt }

kept-proposal : (t : Turned) (log : Log) (p : ℕ) (m : Propose) → KeepsLog t.stage log → IsSane t.stage → p < t.stage.config.n
    → KeepsLog (on_proposal p m t).stage (after_proposal log t.stage.config.me (works t.stage) t.stage.life.view p m) × IsSane (on_proposal p m t).stage
kept-proposal t log p m h sane lt =
    let note : Note = record { instance = m.instance; view = m.view; replica = p; batch = Some m.batch } in
    let noted = t ▹ notes m.instance m.view p (Some m.batch) in
    let log1 = after_note log m.instance m.view p (Some m.batch) in
    let k1 : KeepsLog noted.stage log1 = kept-note t.stage log m.instance m.view p (Some m.batch) h in
    let s1 : IsSane noted.stage = sane-note t.stage note sane lt in
    let two = kept-votes noted log1 m (core.votes_on log (works t.stage) t.stage.life.view m) (sym (votes-alike t.stage log m h)) k1 s1 in
    (kept-learn (after_vote_if (core.votes_on log (works t.stage) t.stage.life.view m) log1 t.stage.config.me m) m.instance (votes_if m noted) two.0 two.1, sane-learn m.instance (votes_if m noted) two.1)

kept-acceptance : (t : Turned) (log : Log) (p : ℕ) (m : Accept) → KeepsLog t.stage log → IsSane t.stage → p < t.stage.config.n
    → KeepsLog (on_acceptance p m t).stage (after_accept log p m) × IsSane (on_acceptance p m t).stage
kept-acceptance t log p m h sane lt =
    let note : Note = record { instance = m.instance; view = m.view; replica = p; batch = None } in
    let noted = t ▹ notes m.instance m.view p None in
    (kept-learn (after_note log m.instance m.view p None) m.instance noted (kept-note t.stage log m.instance m.view p None h) (sane-note t.stage note sane lt), sane-learn m.instance noted (sane-note t.stage note sane lt))

pub accepts_alike : AcceptsAlike
accepts_alike = record { learned = learned-alike; votes = votes-alike; proposal = kept-proposal; acceptance = kept-acceptance }

-- ---- Promises and replies

promise-alike : (s : Stage) (log : Log) (own : List ℕ) (m : Prepare) → KeepsLog s log → KeepsVector (setup_of s.config) s.config.me s.life own → s.life.view ≡ m.view
    → promised log s.life.view own m ≡ Some (record { view = m.view; mark = m.mark; vector = vector_of s; low = s.base; report = logs.report_from s m.first })
promise-alike s log own m h v e =
    let t : (s.life.view == m.view) ≡ true = grind (arith, nat_tests) in
    let base = h.base in
    let report = (logs_are_read s log h).report m.first in
    let is : promised log s.life.view own m ≡ Some (promise_of log s.life.view own m) = rw t refl in
    is ∙ cc

batches-alike : (s : Stage) (log : Log) (first : ℕ) → KeepsLog s log → s.base ≤ first → given_batches log first ≡ replied_batches s first
unfolding given_batches
batches-alike s log first h le = (logs_are_read s log h).batches first le

reply-alike : (s : Stage) (log : Log) (first : ℕ) → KeepsLog s log
    → reply_to log first ≡ (if nat_lt first s.base then Offer else (if is_some (s.life.known first) then Batches (replied_batches s first) else Nothing))
reply-alike s log first h = elim (lt_or_le first s.base) [
  | inl lt ↦ (
      let base = h.base in
      let t : nat_lt first s.base ≡ true = grind (arith, nat_tests) in
      let u : nat_lt first log.base ≡ true = grind (arith, nat_tests) in
      let left : reply_to log first ≡ Offer = rw u refl in
      left ∙ sym (rw t refl))
  | inr ge ↦ (
      let base = h.base in
      let t : nat_lt first s.base ≡ false = grind (arith, nat_tests) in
      let u : nat_lt first log.base ≡ false = grind (arith, nat_tests) in
      let known = h.known first ge in
      let batches = batches-alike s log first h ge in
      let left : reply_to log first ≡ (if is_some (map.get log.known first) then Batches (given_batches log first) else Nothing) = rw u refl in
      let right : (if nat_lt first s.base then Offer else (if is_some (s.life.known first) then Batches (replied_batches s first) else Nothing)) ≡ (if is_some (s.life.known first) then Batches (replied_batches s first) else Nothing) = rw t refl in
      left ∙ ap (λ (o : Option Batch). if is_some o then Batches (given_batches log first) else Nothing) known ∙ ap (λ (bs : List Batch). if is_some (s.life.known first) then Batches bs else Nothing) batches ∙ sym right)
]

pub answers_alike : AnswersAlike
answers_alike = record { promise = promise-alike; no_promise = λ s log own m e. rw e refl; reply = reply-alike }

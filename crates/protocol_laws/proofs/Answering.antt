-- A PrepareOk, a RecoveryAnswer and a Recovery make a life do what its stage does.
use Rattle.std.proofs.Common.{◌≡◌, ◌≢◌, ℕ, max, ◌<◌, Bool, true, false, ◌&&◌, List, [], ◌∷◌, ◌++◌, length, nat_lt, ◌==◌, Option, Some, None, if◌then◌else◌, refl, sym, ap, subst, ◌∙◌, le_refl, arith}
use Rattle.std.proofs.lemmas.Bool.Decides.{nat_tests}
use Rattle.jp_types.specs.declared.message.Message.{Message}
use Rattle.jp_types.specs.declared.message.PrepareOk.{PrepareOk}
use Rattle.jp_types.specs.declared.message.RecoveryAnswer.{RecoveryAnswer}
use Rattle.jp_types.specs.Vectors.{merged, raised}
use Rattle.jp_types.specs.declared.mode.Mode.{Mode}
use Rattle.jp_types.specs.declared.mode.Mode.TheVariants.{ViewSs, EpochSs}
use Rattle.paxos_world.specs.Counting.{is_recovering, is_view, own_ok}
use Rattle.paxos_world.specs.Leading.{leads, works, is_view_ss, raise_up_to}
use Rattle.paxos_world.specs.Learning.{horizon_to}
use Rattle.paxos_world.specs.Life.{LifeId, Leading, No, Preparing, Leads, preparing_in, next_of}
use Rattle.paxos_world.specs.Messages as messages
use Rattle.paxos_world.specs.Messages.{vector_of, prepares}
use Rattle.paxos_world.specs.Stage.{Stage, setup_of, Show, Send}
use Rattle.paxos_world.specs.Stage as model
use Rattle.paxos_world.specs.World.{Deed}
use Rattle.paxos_world.specs.Writing.{◌▹◌, when, with_stage, does, when_some}
use Rattle.paxos_world.specs.declared.step.Step.{Step}
use Rattle.epoch_vectors.specs.Replies.{with_reply, reply_of}
use Rattle.proposer_core.specs.Proposing.{Proposer, is_awaited, takes as holds, after_promise, vector_after}
use Rattle.proposer_core.specs.Proposing as proposing
use Rattle.recovery.specs.Rejoining.{Rejoining, is_better, after_answer}
use Rattle.core_laws.specs.Holding.{KeepsOks, KeepsAnswers}
use Rattle.core_laws.specs.KeptLaws.{stage_after}
use Rattle.core_laws.specs.PrepareLaws.{leading_as}
use Rattle.core_laws.proofs.KeptPromises.{promises_are_kept}
use Rattle.core_laws.proofs.Lists.{same-sym, set-length}
use Rattle.core_laws.proofs.KeptReplies.{answers_are_kept}
use Rattle.core_laws.proofs.KeptLemmas.{answering_is_kept}
use Rattle.protocol_core.specs.Answering as answering
use Rattle.protocol_core.specs.Answering.{with_promise, with_answer, answer_taken, horizon_to_next, answer_sent, with_entry, raised_to_mark}
use Rattle.protocol_core.specs.declared.life.Life.{Life}
use Rattle.protocol_core.specs.Turned.{Turned, stay, followed_by}
use Rattle.protocol_core.specs.Voting as voting
use Rattle.protocol_core.specs.Leading.{raised_up_to}
use Rattle.protocol_laws.specs.Following.{Follows}
use Rattle.protocol_laws.specs.Keeping.{Cores, life_in, KeepsLife}
use Rattle.protocol_laws.proofs.Goes.{MayAnswer, GoesPrepareOk, GoesAnswer, GoesRaiseUp, GoesRecovery, IsOther}
use Rattle.protocol_laws.proofs.Steps.{changes, append-assoc, stays, and-then, chooses}
use Rattle.protocol_laws.proofs.Taking.{fit-taken, log-taken, keeps-heard, takes, goes-other, plain-vector}

-- ---- PrepareOk

-- a proposer after a promise differs in the promises that it holds alone
promise-parts : (q : Proposer) (p : ℕ) (m : PrepareOk) → after_promise q p m ≡ record q { held = (after_promise q p m).held }
promise-parts q p m = go (holds q p m)
  where
    new : Proposer
    new = record q { held = with_reply q.held p m.vector m }

    go : (b : Bool) → (if b then new else q) ≡ record q { held = (if b then new else q).held }
    go true = refl
    go false = refl

-- a proposer after a promise has as many places
promise-places : (q : Proposer) (p : ℕ) (m : PrepareOk) → length (after_promise q p m).held ≡ length q.held
promise-places q p m = go (holds q p m)
  where
    go : (b : Bool) → length (if b then record q { held = with_reply q.held p m.vector m } else q).held ≡ length q.held
    go true = set-length q.held p (Some (m.vector, m))
    go false = refl

-- the proposer of a stage with these cores
abbrev proposer_in : (s : Stage) → Cores s → Proposer
proposer_in s c = (life_in s c).proposer

-- a life in phase 1 that takes a promise is that of the stage after it
keeps-promise : (s : Stage) (from : LifeId) (m : PrepareOk) (c : Cores s) (first : ℕ) → MayAnswer from.replica m.vector s → s.life.leading ≡ Preparing first
    → KeepsLife (stage_after s (Deed.Take from (Message.PrepareOk m))) (with_promise (life_in s c) from.replica m)
keeps-promise s from m c first may leads_so =
    let d : Cores (stage_after s (Deed.Take from (Message.PrepareOk m)))
    = record {
      within = c.within;
      log = c.log;
      promises = (after_promise q from.replica m).held;
      answers = c.answers;
      kept = log-taken s from (Message.PrepareOk m) c.log c.kept;
      promise_places = promise-places q from.replica m ∙ c.promise_places;
      answer_places = c.answer_places;
      promised = λ f e. keeps.held;
      answered = λ e. let led = c.fit.led e in absurd cc;
      fit = fit-taken s from (Message.PrepareOk m) c.fit;
    } in
    record { cores = d; is = ap with-proposer (promise-parts q from.replica m) ∙ ap with-vector keeps.vector }
  where
    q : Proposer
    q = proposer_in s c

    counted : from.replica < length q.held
    counted = let lt = may.0 in let places = c.promise_places in subst (λ (n : ℕ). from.replica < n) (sym places) lt

    keeps : KeepsOks (setup_of s.config) s.config.me (stage_after s (Deed.Take from (Message.PrepareOk m))).life (vector_after q (vector_of s) m) (after_promise q from.replica m).held
    keeps =
        promises_are_kept.taken (setup_of s.config) s.config.me s.life (vector_of s) q first from m counted leads_so
        (ap (λ (x : Leading). leading_as x s.life.view s.life.mark) leads_so) may.2 (record { vector = refl; held = c.promised first leads_so })

    with-proposer : Proposer → Life
    with-proposer x = record (life_in s c) { proposer = x; vector = vector_after q (vector_of s) m }

    with-vector : List ℕ → Life
    with-vector v = record (life_in s c) { proposer = record q { held = (after_promise q from.replica m).held }; vector = v }

-- a proposer awaits a promise where its stage prepares that view with that mark
awaits-alike : (x : Leading) (view mark : ℕ) (m : PrepareOk) → is_awaited (leading_as x view mark) m ≡ (is_view (preparing_in x view) m.view && (mark == m.mark))
awaits-alike No view mark m = refl
awaits-alike (Preparing first) view mark m = ap (λ (b : Bool). b && (m.mark == mark)) (same-sym m.view view) ∙ ap (λ (b : Bool). (view == m.view) && b) (same-sym m.mark mark)
awaits-alike (Leads lead) view mark m = refl

-- a life that prepares a view is in phase 1
in-phase-1 : (s : Stage) (view mark : ℕ) → prepares s view mark ≡ true → (first : ℕ) × (s.life.leading ≡ Preparing first)
in-phase-1 s view mark e = go s.life.leading refl e
  where
    go : (x : Leading) → s.life.leading ≡ x → (is_view (preparing_in x s.life.view) view && (s.life.mark == mark)) ≡ true → (first : ℕ) × (s.life.leading ≡ Preparing first)
    go No f t = absurd cc
    go (Preparing first) f t = (first, f)
    go (Leads lead) f t = absurd cc

-- a PrepareOk that the life does not await is no own reply
no-own : (s : Stage) (m : PrepareOk) → prepares s m.view m.mark ≡ false → own_ok s.life.mark (preparing_in s.life.leading s.life.view) (Message.PrepareOk m) ≡ None
no-own s m e = ap (λ (b : Bool). if b then Some m else None) (ap (λ (b : Bool). b && view) (same-sym m.mark s.life.mark) ∙ swap (s.life.mark == m.mark) view ∙ e)
  where
    view : Bool
    view = is_view (preparing_in s.life.leading s.life.view) m.view

    swap : (a b : Bool) → (a && b) ≡ (b && a)
    swap true true = refl
    swap true false = refl
    swap false true = refl
    swap false false = refl

-- a life with these quiet ticks does with a PrepareOk as its stage does
goes-ok-quiet : (from : LifeId) (m : PrepareOk) (quiet : ℕ) (t : model.Turned) (c : Cores t.stage) → MayAnswer from.replica m.vector t.stage
    → Follows t (messages.on_prepare_ok m (takes from (Message.PrepareOk m) quiet t)) (stay (answering.on_prepare_ok (record (life_in t.stage c) { quiet = quiet }) from.replica m))
goes-ok-quiet from m quiet t c may = tested
  where
    s : Stage
    s = t.stage

    p : ℕ
    p = from.replica

    l : Life
    l = record (life_in s c) { quiet = quiet }

    u : model.Turned
    u = takes from (Message.PrepareOk m) quiet t

    own : Life
    own = with_promise (voting.horizon_to l m.low) p m

    counted : nat_lt p s.config.n ≡ true
    counted = let lt = may.0 in grind (arith, nat_tests)

    alike : (nat_lt p s.config.n && is_awaited l.proposer.leading m) ≡ prepares s m.view m.mark
    alike = ap (λ (b : Bool). b && is_awaited l.proposer.leading m) counted ∙ awaits-alike s.life.leading s.life.view s.life.mark m

    awaited : (first : ℕ) → s.life.leading ≡ Preparing first → Follows t (horizon_to m.low u) (stay own)
    awaited first e =
        let k = keeps-promise s from m c first may e in
        changes t (horizon_to m.low u) own refl (keeps-heard (stage_after s (Deed.Take from (Message.PrepareOk m))) (max s.horizon m.low) quiet (with_promise (life_in s c) p m) k) refl refl refl refl

    go : (b : Bool) → prepares s m.view m.mark ≡ b → Follows t (when b (horizon_to m.low) u) (stay (if b then own else l))
    go true e = let phase = in-phase-1 s m.view m.mark e in awaited phase.0 phase.1
    go false e = goes-other from (Message.PrepareOk m) quiet t c (no-own s m e) refl

    tested : Follows t (when (prepares s m.view m.mark) (horizon_to m.low) u) (stay (if nat_lt p s.config.n && is_awaited l.proposer.leading m then own else l))
    tested = subst (λ (b : Bool). Follows t (when (prepares s m.view m.mark) (horizon_to m.low) u) (stay (if b then own else l))) (sym alike) (go (prepares s m.view m.mark) refl)

-- a life takes a PrepareOk as its stage does
pub goes-prepare-ok : GoesPrepareOk
goes-prepare-ok from m t c may = go (leads t.stage from.replica t.stage.life.view)
  where
    l : Life
    l = life_in t.stage c

    message : Message
    message = Message.PrepareOk m

    go : (b : Bool) → Follows t (messages.on_prepare_ok m (when b (with_stage (λ s. record s { quiet = 0 })) (does (Deed.Take from message) t)))
        (stay (answering.on_prepare_ok (if b then record l { quiet = 0 } else l) from.replica m))
    go true = goes-ok-quiet from m 0 t c may
    go false = goes-ok-quiet from m t.stage.quiet t c may

-- ---- RecoveryAnswer

-- a rejoiner after an answer has the same mark
answer-parts : (k : Rejoining) (p : ℕ) (m : RecoveryAnswer) → after_answer k p m ≡ record k { answers = (after_answer k p m).answers }
answer-parts k p m = go (is_better p (reply_of k.answers p) m)
  where
    new : Rejoining
    new = record k { answers = with_reply k.answers p m.vector m }

    go : (b : Bool) → (if b then new else k) ≡ record k { answers = (if b then new else k).answers }
    go true = refl
    go false = refl

-- a rejoiner after an answer has as many places
answer-places : (k : Rejoining) (p : ℕ) (m : RecoveryAnswer) → length (after_answer k p m).answers ≡ length k.answers
answer-places k p m = go (is_better p (reply_of k.answers p) m)
  where
    go : (b : Bool) → length (if b then record k { answers = with_reply k.answers p m.vector m } else k).answers ≡ length k.answers
    go true = set-length k.answers p (Some (m.vector, m))
    go false = refl

-- a life that recovers and takes an answer to it is that of the stage after it
keeps-answer : (s : Stage) (from : LifeId) (m : RecoveryAnswer) (c : Cores s) → MayAnswer from.replica m.vector s → is_recovering s.life.phase ≡ true → m.mark ≡ s.life.mark
    → KeepsLife (stage_after s (Deed.Take from (Message.RecoveryAnswer m))) (with_answer (life_in s c) from.replica m)
keeps-answer s from m c may recovering marked =
    let led = c.fit.led recovering in
    let d : Cores (stage_after s (Deed.Take from (Message.RecoveryAnswer m)))
    = record {
      within = c.within;
      log = c.log;
      promises = c.promises;
      answers = (after_answer k from.replica m).answers;
      kept = log-taken s from (Message.RecoveryAnswer m) c.log c.kept;
      promise_places = c.promise_places;
      answer_places = answer-places k from.replica m ∙ c.answer_places;
      promised = λ first e. absurd cc;
      answered = λ e. record { none = keeps.none; held = keeps.held };
      fit = fit-taken s from (Message.RecoveryAnswer m) c.fit;
    } in
    record { cores = d; is = ap with-rejoiner (answer-parts k from.replica m) ∙ ap with-vector keeps.vector }
  where
    k : Rejoining
    k = record { mark = s.life.mark; answers = c.answers }

    counted : from.replica < length k.answers
    counted = let lt = may.0 in let places = c.answer_places in subst (λ (n : ℕ). from.replica < n) (sym places) lt

    keeps : KeepsAnswers (setup_of s.config) s.config.me (stage_after s (Deed.Take from (Message.RecoveryAnswer m))).life (merged (vector_of s) m.vector) (after_answer k from.replica m).answers
    keeps =
        answers_are_kept (setup_of s.config) s.config.me s.life (vector_of s) k from m counted may.1 recovering marked may.2
        (record { vector = refl; none = (c.answered recovering).none; held = (c.answered recovering).held })

    with-rejoiner : Rejoining → Life
    with-rejoiner x = record (life_in s c) { rejoiner = x; vector = merged (vector_of s) m.vector }

    with-vector : List ℕ → Life
    with-vector v = record (life_in s c) { rejoiner = record k { answers = (after_answer k from.replica m).answers }; vector = v }

-- a life raises its horizon to the next instance of an answer as its stage does
goes-own : (from : LifeId) (m : RecoveryAnswer) (quiet : ℕ) (t : model.Turned) (c : Cores t.stage) → MayAnswer from.replica m.vector t.stage → is_recovering t.stage.life.phase ≡ true
    → m.mark ≡ t.stage.life.mark
    → Follows t (when_some m.next horizon_to (takes from (Message.RecoveryAnswer m) quiet t)) (stay (horizon_to_next (with_answer (record (life_in t.stage c) { quiet = quiet }) from.replica m) m.next))
goes-own from m quiet t c may recovering marked = go m.next
  where
    s : Stage
    s = t.stage

    l : Life
    l = with_answer (life_in s c) from.replica m

    u : model.Turned
    u = takes from (Message.RecoveryAnswer m) quiet t

    keeps : (horizon : ℕ) → KeepsLife (record u.stage { horizon = horizon }) (record l { horizon = horizon; quiet = quiet })
    keeps horizon = keeps-heard (stage_after s (Deed.Take from (Message.RecoveryAnswer m))) horizon quiet l (keeps-answer s from m c may recovering marked)

    go : (next : Option ℕ) → Follows t (when_some next horizon_to u) (stay (horizon_to_next (record l { quiet = quiet }) next))
    go None = changes t u (record l { quiet = quiet }) refl (keeps s.horizon) refl refl refl refl
    go (Some next) = changes t (horizon_to next u) (record l { horizon = max s.horizon next; quiet = quiet }) refl (keeps (max s.horizon next)) refl refl refl refl

-- a life with these quiet ticks does with an answer as its stage does
goes-answer-quiet : (from : LifeId) (m : RecoveryAnswer) (quiet : ℕ) (t : model.Turned) (c : Cores t.stage) → MayAnswer from.replica m.vector t.stage
    → Follows t (messages.on_recovery_answer m (takes from (Message.RecoveryAnswer m) quiet t)) (stay (answering.on_recovery_answer (record (life_in t.stage c) { quiet = quiet }) from.replica m))
goes-answer-quiet from m quiet t c may = by-phase (is_recovering s.life.phase) refl
  where
    s : Stage
    s = t.stage

    p : ℕ
    p = from.replica

    l : Life
    l = record (life_in s c) { quiet = quiet }

    u : model.Turned
    u = takes from (Message.RecoveryAnswer m) quiet t

    own : Life
    own = horizon_to_next (with_answer l p m) m.next

    counted : nat_lt p (length c.answers) ≡ true
    counted = let lt = may.0 in let places = c.answer_places in ap (nat_lt p) places ∙ below
      where
        below : nat_lt p s.config.n ≡ true
        below = let lt = may.0 in grind (arith, nat_tests)

    other : (m.mark == s.life.mark && is_recovering s.life.phase) ≡ false → Follows t u (stay l)
    other e = goes-other from (Message.RecoveryAnswer m) quiet t c refl (ap (λ (b : Bool). if b then Some m else None) e)

    by-mark : (b : Bool) → (m.mark == s.life.mark) ≡ b → is_recovering s.life.phase ≡ true → Follows t (when b (when_some m.next horizon_to) u) (stay (if b then own else l))
    by-mark true e f = let marked : m.mark ≡ s.life.mark = grind (arith, nat_tests) in goes-own from m quiet t c may f marked
    by-mark false e f = other (ap (λ (b : Bool). b && is_recovering s.life.phase) e)

    by-phase : (b : Bool) → is_recovering s.life.phase ≡ b
        → Follows t (when (b && (s.life.mark == m.mark)) (when_some m.next horizon_to) u) (stay (if b && nat_lt p (length c.answers) then (if m.mark == s.life.mark then own else l) else l))
    by-phase true e =
        subst (λ (d : Bool). Follows t (when d (when_some m.next horizon_to) u) (stay (if nat_lt p (length c.answers) then (if m.mark == s.life.mark then own else l) else l))) (same-sym m.mark s.life.mark)
        (subst (λ (d : Bool). Follows t (when (m.mark == s.life.mark) (when_some m.next horizon_to) u) (stay (if d then (if m.mark == s.life.mark then own else l) else l))) (sym counted)
        (by-mark (m.mark == s.life.mark) refl e))
    by-phase false e = other (ap (λ (b : Bool). (m.mark == s.life.mark) && b) e ∙ none (m.mark == s.life.mark))
      where
        none : (b : Bool) → (b && false) ≡ false
        none true = refl
        none false = refl

-- a life takes a RecoveryAnswer as its stage does
pub goes-answer : GoesAnswer
goes-answer from m t c may = go (leads t.stage from.replica t.stage.life.view)
  where
    l : Life
    l = life_in t.stage c

    message : Message
    message = Message.RecoveryAnswer m

    go : (b : Bool) → Follows t (messages.on_recovery_answer m (when b (with_stage (λ s. record s { quiet = 0 })) (does (Deed.Take from message) t)))
        (stay (answering.on_recovery_answer (if b then record l { quiet = 0 } else l) from.replica m))
    go true = goes-answer-quiet from m 0 t c may
    go false = goes-answer-quiet from m t.stage.quiet t c may

-- ---- Recovery

-- the life that answered a recovery, with the vector after that, is that of the stage that did
keeps-answered : (s : Stage) (p view : ℕ) (next : Option ℕ) (mark : ℕ) (c : Cores s)
    → KeepsLife (stage_after s (Deed.Answer p view next mark)) (record (life_in s c) { vector = vector_of (stage_after s (Deed.Answer p view next mark)) })
keeps-answered s p view next mark c =
    let d : Cores (stage_after s (Deed.Answer p view next mark))
    = record {
      within = c.within;
      log = c.log;
      promises = c.promises;
      answers = c.answers;
      kept = record { n = c.kept.n; base = c.kept.base; votes = c.kept.votes; known = c.kept.known; tallies = c.kept.tallies };
      promise_places = c.promise_places;
      answer_places = c.answer_places;
      promised = c.promised;
      answered = λ e. record { none = (c.answered e).none; held = (c.answered e).held };
      fit =
          record {
            sane = record { most = c.fit.sane.most; me = c.fit.sane.me; notes = c.fit.sane.notes };
            led = c.fit.led;
            untaken = c.fit.untaken;
            below = c.fit.below;
            base = c.fit.base;
            newest = λ x e. record { size = (c.fit.newest x e).size; own = (c.fit.newest x e).own };
            joiner = c.fit.joiner;
          };
    } in
    record { cores = d; is = refl }

-- the next instance of a proposer is that of the life that leads so
next-alike : (x : Leading) (view mark : ℕ) → proposing.next_of (leading_as x view mark) ≡ next_of x
next-alike No view mark = refl
next-alike (Preparing first) view mark = refl
next-alike (Leads lead) view mark = refl

-- a life with the vector after its answer answers a recovery as its stage does
answers-with : (p mark : ℕ) (t : model.Turned) (c : Cores t.stage) → IsOther p t.stage → (vector : List ℕ)
    → vector ≡ vector_of (stage_after t.stage (Deed.Answer p t.stage.life.view (next_of t.stage.life.leading) mark))
    → Follows t (messages.answers p mark t) (answer_sent (record (life_in t.stage c) { vector = vector }) p mark)
answers-with p mark t c other vector e = subst (λ (v : List ℕ). Follows t (messages.answers p mark t) (answer_sent (record (life_in t.stage c) { vector = v }) p mark)) (sym e) sent
  where
    s : Stage
    s = t.stage

    next : Option ℕ
    next = next_of s.life.leading

    after : List ℕ
    after = vector_of (stage_after s (Deed.Answer p s.life.view next mark))

    answer : Option ℕ → Message
    answer x = Message.RecoveryAnswer (record { mark = mark; view = s.life.view; vector = after; next = x })

    show : Option ℕ → model.Act
    show x = Show (Step.Answer s.config.me p s.life.view x)

    sent : Follows t (messages.answers p mark t) (answer_sent (record (life_in s c) { vector = after }) p mark)
    sent =
        record {
          config = refl;
          keeps = keeps-answered s p s.life.view next mark c;
          acts =
              append-assoc t.acts (show next ∷ []) (Send p (answer next) ∷ [])
              ∙ ap (λ (x : Option ℕ). t.acts ++ (show x ∷ Send p (answer x) ∷ [])) (sym (next-alike s.life.leading s.life.view s.life.mark));
          arming = refl;
          sends = (record { below = other.0; other = other.1; may = plain-vector (stage_after s (Deed.Answer p s.life.view next mark)) }, tt);
          handed = le_refl _;
          hands = tt;
          service = refl;
        }

-- a life raises its entry for a replica, and answers its recovery, as its stage does
answers-raised : (p mark : ℕ) (t : model.Turned) (c : Cores t.stage) → IsOther p t.stage
    → Follows t (messages.answers p mark t) (answer_sent (with_entry (life_in t.stage c) p mark) p mark)
answers-raised p mark t c other = go s.config.mode refl
  where
    s : Stage
    s = t.stage

    l : Life
    l = life_in s c

    next : Option ℕ
    next = next_of s.life.leading

    within : nat_lt p 9 ≡ true
    within = let most = c.fit.sane.most in let lt = other.0 in grind (arith, nat_tests)

    entry : (b : Bool) → s.config.mode ≡ EpochSs → b ≡ true → Follows t (messages.answers p mark t) (answer_sent (if b then record l { vector = raised l.vector p mark } else l) p mark)
    entry true mode e =
        let most = c.fit.sane.most in
        let lt = other.0 in
        answers-with p mark t c other (raised (vector_of s) p mark) (answering_is_kept.raised (setup_of s.config) s.config.me s.life (vector_of s) p s.life.view next mark mode (omega arith) refl)
    entry false mode e = absurd cc

    go : (mode : Mode) → s.config.mode ≡ mode
        → Follows t (messages.answers p mark t) (answer_sent (if is_view_ss mode then l else (if nat_lt p 9 then record l { vector = raised l.vector p mark } else l)) p mark)
    go ViewSs e = answers-with p mark t c other (vector_of s) (answering_is_kept.same (setup_of s.config) s.config.me s.life (vector_of s) p s.life.view next mark e refl)
    go EpochSs e = entry (nat_lt p 9) e within

module _ (raise-up : GoesRaiseUp) where
  -- a life answers a recovery where its stage does, and as it does
  pub goes-recovery : GoesRecovery
  goes-recovery p mark t c other = chooses (works t.stage) answered t done (stay l) (λ e. answers) (λ e. stays t c)
    where
      l : Life
      l = life_in t.stage c

      u : model.Turned
      u = when (is_view_ss t.stage.config.mode) (raise_up_to mark) t

      answered : model.Turned → model.Turned
      answered x = x ▹ when (is_view_ss x.stage.config.mode) (raise_up_to mark) ▹ messages.answers p mark

      done : Turned
      done = followed_by (raised_to_mark l mark) (λ raised. answer_sent (with_entry raised p mark) p mark)

      up : Follows t u (raised_to_mark l mark)
      up = chooses (is_view_ss t.stage.config.mode) (raise_up_to mark) t (raised_up_to l mark) (stay l) (λ e. raise-up mark t c) (λ e. stays t c)

      answers : Follows t (answered t) done
      answers =
          and-then t u (messages.answers p mark u) (raised_to_mark l mark) (λ (x : Life). answer_sent (with_entry x p mark) p mark) up
          (answers-raised p mark u up.keeps.cores (subst (λ (k : model.Config). (p < k.n) × (p ≢ k.me)) (sym up.config) other))

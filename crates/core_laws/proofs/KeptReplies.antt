-- What is held stays what the life holds, as both take one more reply.
use Rattle.std.proofs.Common.{◌≡◌, ◌≢◌, ℕ, max, ◌<◌, Bool, true, false, List, ◌∷◌, length, ◌==◌, Option, Some, None, if◌then◌else◌, refl, sym, ap, subst, ◌∙◌, lit<, arith}
use Rattle.std.proofs.lemmas.Bool.Decides.{nat_tests}
use Rattle.jp_types.specs.declared.message.Message.{Message}
use Rattle.jp_types.specs.declared.message.RecoveryAnswer.{RecoveryAnswer}
use Rattle.jp_types.specs.declared.mode.Mode.{Mode}
use Rattle.jp_types.specs.declared.mode.Mode.TheVariants.{ViewSs, EpochSs}
use Rattle.jp_types.specs.Vectors.{entry, table, merged, is_less_answer}
use Rattle.paxos_world.specs.Setup.{Setup}
use Rattle.paxos_world.specs.Life.{LifeId, Life, Taken, preparing_in}
use Rattle.paxos_world.specs.Counting.{Held, own_ok, own_answer, entry_of_ok, entry_of_answer, entry_taken, entry_answered, entry_of, entry_in, answer_of, better_answer, held_answer}
use Rattle.paxos_world.proofs.Replies.{entry-table}
use Rattle.epoch_vectors.specs.Replies.{reply_of, with_reply}
use Rattle.recovery.specs.Rejoining as core
use Rattle.recovery.specs.Rejoining.{Rejoining, after_answer}
use Rattle.core_laws.specs.Holding.{as_answer}
use Rattle.core_laws.specs.RejoinLaws.{IsPlain, AnswersAreKept}
use Rattle.core_laws.proofs.Lists.{same-sym, set-at}

pub table-alike : (f g : ℕ → ℕ) → ((p : ℕ) → p < 9 → f p ≡ g p) → table f ≡ table g
table-alike f g h =
    let a = h 0 (lit< tt) in
    let b = h 1 (lit< tt) in
    let c = h 2 (lit< tt) in
    let d = h 3 (lit< tt) in
    let e = h 4 (lit< tt) in
    let i = h 5 (lit< tt) in
    let j = h 6 (lit< tt) in
    let k = h 7 (lit< tt) in
    let l = h 8 (lit< tt) in
    cc

-- ---- Vectors

-- the entry after one more message was taken: the greater of the one before and of the reply's
pub entry-more : (mode : Mode) (r mark : ℕ) (answered : List (ℕ × ℕ)) (t : Taken) (taken : List Taken) (p e : ℕ)
    → max (entry_of_ok p (own_ok mark t.preparing t.message)) (entry_of_answer p (own_answer mark t.phase t.message)) ≡ e
    → (mode ≡ ViewSs → e ≡ 0)
    → max (entry_of mode r mark answered taken p) e ≡ entry_of mode r mark answered (t ∷ taken) p
entry-more ViewSs r mark answered t taken p e same plain = let z = plain refl in omega arith
entry-more EpochSs r mark answered t taken p e same plain =
    let a = (if p == r then mark else 0) in
    let b = entry_answered p answered in
    let c = entry_taken mark p taken in
    rw same (by a b c)
  where
    by : (a b c : ℕ) → max (max a (max b c)) e ≡ max a (max b (max e c))
    by a b c = omega arith

pub own-more : (c : Setup) (r : ℕ) (l : Life) (own vector : List ℕ) (t : Taken) → own ≡ table (entry_in c.mode r l)
    → ((p : ℕ) → max (entry_of_ok p (own_ok l.mark t.preparing t.message)) (entry_of_answer p (own_answer l.mark t.phase t.message)) ≡ entry vector p)
    → IsPlain c.mode vector
    → merged own vector ≡ table (entry_of c.mode r l.mark l.answered (t ∷ l.taken))
own-more c r l own vector t same reply plain =
    table-alike (λ p. max (entry own p) (entry vector p)) (entry_of c.mode r l.mark l.answered (t ∷ l.taken)) (λ p lt.
    let e : entry own p ≡ entry_in c.mode r l p = ap (λ (v : List ℕ). entry v p) same ∙ entry-table (entry_in c.mode r l) p lt in
    ap (λ (x : ℕ). max x (entry vector p)) e ∙ entry-more c.mode r l.mark l.answered t l.taken p (entry vector p) (reply p) (λ v. plain v p))

-- ---- Answers

-- the better of what is held of p and of a new answer is alike
better-answer : (p : ℕ) (h : Option (Held RecoveryAnswer)) (from : LifeId) (m : RecoveryAnswer) (o : Option (List ℕ × RecoveryAnswer)) → o ≡ as_answer h
    → (if core.is_better p o m then Some (m.vector, m) else o) ≡ as_answer (better_answer p h from (Some m))
better-answer p None from m o e = rw e refl
better-answer p (Some h) from m o e = rw e (by (is_less_answer p h.body m))
  where
    by : (b : Bool) → (if b then Some (m.vector, m) else Some (h.body.vector, h.body)) ≡ as_answer (if b then Some (record { from = from; body = m }) else Some h)
    by true = refl
    by false = refl

-- the replies after an answer, as a choice at each place
after-at : (k : Rejoining) (f : ℕ) (m : RecoveryAnswer) (p : ℕ) → f < length k.answers
    → reply_of (after_answer k f m).answers p ≡ (if p == f then (if core.is_better f (reply_of k.answers f) m then Some (m.vector, m) else reply_of k.answers f) else reply_of k.answers p)
after-at k f m p lt = by (core.is_better f (reply_of k.answers f) m)
  where
    stay : (b : Bool) → (p == f) ≡ b → reply_of k.answers p ≡ (if b then reply_of k.answers f else reply_of k.answers p)
    stay true t = let e : p ≡ f = grind (arith, nat_tests) in ap (reply_of k.answers) e
    stay false t = refl

    by : (b : Bool) → reply_of (if b then record k { answers = with_reply k.answers f m.vector m } else k).answers p ≡ (if p == f then (if b then Some (m.vector, m) else reply_of k.answers f) else reply_of k.answers p)
    by true = set-at k.answers None (Some (m.vector, m)) f p lt
    by false = stay (p == f) refl

pub answers_are_kept : AnswersAreKept
answers_are_kept c r l own k from m lt other recovering marked plain h =
    record {
      vector = own-more c r l own m.vector t h.vector (λ p. rw mine (omega arith)) plain;
      none = after-at k from.replica m r lt ∙ rw apart h.none;
      held = held;
    }
  where
    t : Taken
    t = record { from = from; message = Message.RecoveryAnswer m; phase = l.phase; preparing = preparing_in l.leading l.view }

    tested : (m.mark == l.mark) ≡ true
    tested = let e = marked in grind (arith, nat_tests)

    mine : own_answer l.mark l.phase (Message.RecoveryAnswer m) ≡ Some m
    mine = rw (tested, recovering) refl

    apart : (r == from.replica) ≡ false
    apart = let ne = other in grind (arith, nat_tests)

    held : (p : ℕ) → p ≢ r → reply_of (after_answer k from.replica m).answers p ≡ as_answer (held_answer l.mark p (t ∷ l.taken))
    held p ne = after-at k from.replica m p lt ∙ go (p == from.replica) refl
      where
        go : (b : Bool) → (p == from.replica) ≡ b
            → (if b then (if core.is_better from.replica (reply_of k.answers from.replica) m then Some (m.vector, m) else reply_of k.answers from.replica) else reply_of k.answers p)
            ≡ as_answer (held_answer l.mark p (t ∷ l.taken))
        go true e =
            let same : p ≡ from.replica = grind (arith, nat_tests) in
            let turned : (from.replica == p) ≡ true = grind (arith, nat_tests) in
            let is : answer_of l.mark p t ≡ Some m = rw turned mine in
            let old = h.held p ne in
            subst (λ (f : ℕ). (if core.is_better f (reply_of k.answers f) m then Some (m.vector, m) else reply_of k.answers f) ≡ as_answer (held_answer l.mark p (t ∷ l.taken))) same
            (better-answer p (held_answer l.mark p l.taken) from m (reply_of k.answers p) old ∙ ap (λ (o : Option RecoveryAnswer). as_answer (better_answer p (held_answer l.mark p l.taken) from o)) (sym is))
        go false e =
            let turned : (from.replica == p) ≡ false = same-sym from.replica p ∙ e in
            let is : answer_of l.mark p t ≡ None = rw turned refl in
            h.held p ne ∙ ap (λ (o : Option RecoveryAnswer). as_answer (better_answer p (held_answer l.mark p l.taken) from o)) (sym is)

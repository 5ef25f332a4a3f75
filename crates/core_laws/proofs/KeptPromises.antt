-- The promises that are held stay those that the life holds, as phase 1 begins and as both take one more.
use Rattle.std.proofs.Common.{◌≡◌, ℕ, zero, suc, ◌<◌, Bool, true, false, ◌&&◌, List, [], ◌∷◌, length, nat_lt, ◌==◌, Option, Some, None, if◌then◌else◌, inl, inr, refl, sym, ap, subst, ◌∙◌, arith}
use Rattle.std.proofs.lemmas.Bool.Decides.{nat_tests}
use Rattle.jp_types.specs.declared.message.Message.{Message}
use Rattle.jp_types.specs.declared.message.PrepareOk.{PrepareOk}
use Rattle.jp_types.specs.Vectors.{entry, table, merged}
use Rattle.jp_types.specs.Lists.{In}
use Rattle.paxos_world.specs.Setup.{Setup}
use Rattle.paxos_world.specs.Life.{LifeId, Life, Taken, Leading, Preparing, preparing_in}
use Rattle.paxos_world.specs.Counting.{Held, is_view, own_ok, entry_of, entry_in, ok_of, better_ok, held_ok}
use Rattle.paxos_world.specs.World.{Take, Open, life_after}
use Rattle.epoch_vectors.specs.Replies.{reply_of, no_replies}
use Rattle.proposer_core.specs.declared.leading.Leading as proposer
use Rattle.proposer_core.specs.declared.leading.Leading.TheVariants as leads
use Rattle.proposer_core.specs.Proposing.{Proposer, is_awaited, is_better, with_promise, after_promise, vector_after}
use Rattle.core_laws.specs.Holding.{as_ok, KeepsVector, KeepsOks}
use Rattle.core_laws.specs.RejoinLaws.{IsPlain}
use Rattle.core_laws.specs.PrepareLaws.{PromisesAreKept}
use Rattle.core_laws.proofs.Lists.{same-self, same-sym, set-at}
use Rattle.core_laws.proofs.KeptReplies.{table-alike, entry-more, own-more}

-- ---- As phase 1 begins

pub none-held : {A : Type 0} (n p : ℕ) → reply_of {A = A} (no_replies n) p ≡ None
none-held zero p = refl
none-held (suc n) zero = refl
none-held (suc n) (suc p) = none-held n p

none-taken : (mark view p : ℕ) (taken : List Taken) → ((t : Taken) → In t taken → is_view t.preparing view ≡ false) → held_ok mark view p taken ≡ None
none-taken mark view p [] h = refl
none-taken mark view p (t ∷ ts) h =
    let other = h t (inl refl) in
    let rest = none-taken mark view p ts (λ x m. h x (inr m)) in
    let no : ok_of mark view p t ≡ None = off (t.from.replica == p) other in
    ap (λ (o : Option PrepareOk). better_ok p (held_ok mark view p ts) t.from o) no ∙ rest
  where
    off : (b : Bool) → is_view t.preparing view ≡ false → (if b && is_view t.preparing view then own_ok mark t.preparing t.message else None) ≡ None
    off true e = rw e refl
    off false e = refl

begin-kept : (c : Setup) (r : ℕ) (l : Life) (own : List ℕ) (first : ℕ) → ((t : Taken) → In t l.taken → is_view t.preparing l.view ≡ false)
    → KeepsVector c r l own → KeepsOks c r (life_after c r l (Open l.view first)) own (no_replies c.n)
begin-kept c r l own first new h = record { vector = h; held = λ p. none-held c.n p ∙ sym (ap as_ok (none-taken l.mark l.view p l.taken new)) }

-- ---- One more promise

better-ok : (p : ℕ) (h : Option (Held PrepareOk)) (from : LifeId) (m : PrepareOk) (o : Option (List ℕ × PrepareOk)) → o ≡ as_ok h
    → (if is_better p o m then Some (m.vector, m) else o) ≡ as_ok (better_ok p h from (Some m))
better-ok p None from m o e = rw e refl
better-ok p (Some h) from m o e = rw e (by (nat_lt (entry h.body.vector p) (entry m.vector p)))
  where
    by : (b : Bool) → (if b then Some (m.vector, m) else Some (h.body.vector, h.body)) ≡ as_ok (if b then Some (record { from = from; body = m }) else Some h)
    by true = refl
    by false = refl

module _ (c : Setup) (r : ℕ) (l : Life) (own : List ℕ) (q : Proposer) (first : ℕ) (from : LifeId) (m : PrepareOk)
    (lt : from.replica < length q.held) (prepares : l.leading ≡ Preparing first) (leads_so : q.leading ≡ leads.Preparing l.view first l.mark) (plain : IsPlain c.mode m.vector) (h : KeepsOks c r l own q.held) where
  abbrev t : Taken
  t = record { from = from; message = Message.PrepareOk m; phase = l.phase; preparing = preparing_in l.leading l.view }

  abbrev after : Life
  after = life_after c r l (Take from (Message.PrepareOk m))

  in-phase : preparing_in l.leading l.view ≡ Some l.view
  in-phase = ap (λ (x : Leading). preparing_in x l.view) prepares

  awaits : is_awaited q.leading m ≡ ((m.view == l.view) && (m.mark == l.mark))
  awaits = ap (λ (x : proposer.Leading). is_awaited x m) leads_so

  own-is : own_ok l.mark (preparing_in l.leading l.view) (Message.PrepareOk m) ≡ (if is_awaited q.leading m then Some m else None)
  own-is =
      let phase = in-phase in
      let turned = same-sym l.view m.view in
      let await = awaits in
      let left : own_ok l.mark (preparing_in l.leading l.view) (Message.PrepareOk m) ≡ (if (m.mark == l.mark) && (m.view == l.view) then Some m else None) = cc in
      left ∙ swap (m.mark == l.mark) (m.view == l.view) ∙ sym (ap (λ b. if b then Some m else None) await)
    where
      swap : (a b : Bool) → (if a && b then Some m else None) ≡ (if b && a then Some m else None)
      swap true true = refl
      swap true false = refl
      swap false true = refl
      swap false false = refl

  -- what is held of p, by whether the promise is awaited
  own-of : (p : ℕ) → ok_of l.mark l.view p t ≡ (if from.replica == p then (if is_awaited q.leading m then Some m else None) else None)
  own-of p =
      let phase = in-phase in
      let self = same-self l.view in
      let view : is_view (preparing_in l.leading l.view) l.view ≡ true = ap (λ (o : Option ℕ). is_view o l.view) phase ∙ self in
      by (from.replica == p) view
    where
      by : (b : Bool) → is_view (preparing_in l.leading l.view) l.view ≡ true
          → (if b && is_view (preparing_in l.leading l.view) l.view then own_ok l.mark (preparing_in l.leading l.view) (Message.PrepareOk m) else None) ≡ (if b then (if is_awaited q.leading m then Some m else None) else None)
      by true v = rw v own-is
      by false v = refl

  kept-vector : (b : Bool) → is_awaited q.leading m ≡ b → (if b then merged own m.vector else own) ≡ table (entry_of c.mode r l.mark l.answered (t ∷ l.taken))
  kept-vector true a = own-more c r l own m.vector t h.vector (λ p. let o = own-is in let is : own_ok l.mark t.preparing t.message ≡ Some m = o ∙ rw a refl in rw is (omega arith)) plain
  kept-vector false a =
      h.vector
      ∙ table-alike (entry_in c.mode r l) (entry_of c.mode r l.mark l.answered (t ∷ l.taken)) (λ p lt.
      let o = own-is in
      let is : own_ok l.mark t.preparing t.message ≡ None = o ∙ rw a refl in
      let more = entry-more c.mode r l.mark l.answered t l.taken p 0 (rw is refl) (λ v. refl) in
      omega arith)

  taken-at : (a b : Bool) (p : ℕ) → is_awaited q.leading m ≡ a → is_better from.replica (reply_of q.held from.replica) m ≡ b
      → reply_of (if a && b then with_promise q from.replica m else q).held p
      ≡ (if p == from.replica then (if a && b then Some (m.vector, m) else reply_of q.held from.replica) else reply_of q.held p)
  taken-at true true p e f = set-at q.held None (Some (m.vector, m)) from.replica p lt
  taken-at true false p e f = stay (p == from.replica) refl
    where
      stay : (b : Bool) → (p == from.replica) ≡ b → reply_of q.held p ≡ (if b then reply_of q.held from.replica else reply_of q.held p)
      stay true t = let e : p ≡ from.replica = grind (arith, nat_tests) in ap (reply_of q.held) e
      stay false t = refl
  taken-at false b p e f = stay (p == from.replica) refl
    where
      stay : (b : Bool) → (p == from.replica) ≡ b → reply_of q.held p ≡ (if b then reply_of q.held from.replica else reply_of q.held p)
      stay true t = let e : p ≡ from.replica = grind (arith, nat_tests) in ap (reply_of q.held) e
      stay false t = refl

  kept-held : (p : ℕ) → reply_of (after_promise q from.replica m).held p ≡ as_ok (held_ok l.mark l.view p (t ∷ l.taken))
  kept-held p = taken-at (is_awaited q.leading m) (is_better from.replica (reply_of q.held from.replica) m) p refl refl ∙ go (p == from.replica) refl (is_awaited q.leading m) refl
    where
      old : reply_of q.held p ≡ as_ok (held_ok l.mark l.view p l.taken)
      old = h.held p

      go : (b : Bool) → (p == from.replica) ≡ b → (a : Bool) → is_awaited q.leading m ≡ a
          → (if b then (if a && is_better from.replica (reply_of q.held from.replica) m then Some (m.vector, m) else reply_of q.held from.replica) else reply_of q.held p)
          ≡ as_ok (held_ok l.mark l.view p (t ∷ l.taken))
      go true e true a =
          let same : p ≡ from.replica = grind (arith, nat_tests) in
          let turned : (from.replica == p) ≡ true = grind (arith, nat_tests) in
          let of = own-of p in
          let is : ok_of l.mark l.view p t ≡ Some m = of ∙ rw (turned, a) refl in
          subst (λ (f : ℕ). (if is_better f (reply_of q.held f) m then Some (m.vector, m) else reply_of q.held f) ≡ as_ok (held_ok l.mark l.view p (t ∷ l.taken))) same
          (better-ok p (held_ok l.mark l.view p l.taken) from m (reply_of q.held p) old ∙ ap (λ (o : Option PrepareOk). as_ok (better_ok p (held_ok l.mark l.view p l.taken) from o)) (sym is))
      go true e false a =
          let same : from.replica ≡ p = grind (arith, nat_tests) in
          let turned : (from.replica == p) ≡ true = grind (arith, nat_tests) in
          let of = own-of p in
          let is : ok_of l.mark l.view p t ≡ None = of ∙ rw (turned, a) refl in
          ap (reply_of q.held) same ∙ old ∙ ap (λ (o : Option PrepareOk). as_ok (better_ok p (held_ok l.mark l.view p l.taken) from o)) (sym is)
      go false e a f =
          let turned : (from.replica == p) ≡ false = same-sym from.replica p ∙ e in
          let of = own-of p in
          let is : ok_of l.mark l.view p t ≡ None = of ∙ rw turned refl in
          old ∙ ap (λ (o : Option PrepareOk). as_ok (better_ok p (held_ok l.mark l.view p l.taken) from o)) (sym is)

  promise-kept : KeepsOks c r after (vector_after q own m) (after_promise q from.replica m).held
  promise-kept = record { vector = kept-vector (is_awaited q.leading m) refl; held = kept-held }

pub promises_are_kept : PromisesAreKept
promises_are_kept =
    record {
      started = begin-kept;
      taken = λ c r l own q first from m lt prepares leads_so plain h. promise-kept c r l own q first from m lt prepares leads_so plain h;
    }

-- Which replies are held and counted.
use Rattle.std.proofs.Common.{◌≡◌, ◌≢◌, ℕ, zero, suc, ◌≤◌, ◌<◌, Bool, true, false, not, ◌&&◌, ◌⊎◌, List, [], ◌∷◌, Option, Some, None, is_some, if◌then◌else◌, nat_lt, ◌==◌, refl, sym, ap, subst, ◌∙◌, inl, inr, arith, le_refl}
use Rattle.std.proofs.lemmas.Bool.Decides.{Decides-eqb}
use Rattle.jp_types.specs.declared.message.Message.{Message}
use Rattle.jp_types.specs.declared.message.PrepareOk.{PrepareOk}
use Rattle.jp_types.specs.declared.message.RecoveryAnswer.{RecoveryAnswer}
use Rattle.jp_types.specs.declared.mode.Phase.{Phase}
use Rattle.jp_types.specs.declared.mode.Mode.{Mode}
use Rattle.jp_types.specs.declared.mode.Mode.TheVariants.{ViewSs, EpochSs}
use Rattle.jp_types.specs.Lists.{In}
use Rattle.paxos_world.specs.Setup.{Setup}
use Rattle.paxos_world.specs.Life.{LifeId, Taken, Life}
use Rattle.paxos_world.specs.Counting.{Held, entry_in, entry_answered, entry_taken, entry_of_ok, entry_of_answer, own_ok, own_answer, is_view, is_recovering, ok_of, answer_of, better_ok, better_answer, held_ok, held_answer, has_epoch_ok, has_epoch_answer, counted_ok, counted_answer}
use Rattle.jp_types.specs.Vectors.{entry, table, is_less_answer}

pub if-some : {X : Type 0} (b : Bool) (x y : X) → (if b then Some x else None) ≡ Some y → (b ≡ true) × (x ≡ y)
if-some true x y e = (refl, cc)
if-some false x y e = cc

pub if-option : {X : Type 0} (b : Bool) (o : Option X) (y : X) → (if b then o else None) ≡ Some y → (b ≡ true) × (o ≡ Some y)
if-option true o y e = (refl, e)
if-option false o y e = cc

pub and-true : (a b : Bool) → (a && b) ≡ true → (a ≡ true) × (b ≡ true)
and-true true b e = (refl, e)
and-true false b e = cc

pub same : (x y : ℕ) → (x == y) ≡ true → x ≡ y
same x y e = (Decides-eqb x y).0 e

pub same-test : (x y : ℕ) → x ≡ y → (x == y) ≡ true
same-test x y e = (Decides-eqb x y).1 e

pub is_view-same : (o : Option ℕ) (v w : ℕ) → is_view o v ≡ true → is_view o w ≡ true → v ≡ w
is_view-same None v w a b = cc
is_view-same (Some u) v w a b = sym (same u v a) ∙ same u w b

-- an own PrepareOk
own_ok-some : (mark : ℕ) (preparing : Option ℕ) (message : Message) (m : PrepareOk) → own_ok mark preparing message ≡ Some m
    → (message ≡ Message.PrepareOk m) × (m.mark ≡ mark) × (is_view preparing m.view ≡ true)
own_ok-some mark preparing (Message.PrepareOk k) m e =
    let f = if-some (k.mark == mark && is_view preparing k.view) k m e in
    let g = and-true (k.mark == mark) (is_view preparing k.view) f.0 in
    (ap Message.PrepareOk f.1, sym (ap (λ x. x.mark) f.1) ∙ same k.mark mark g.0, subst (λ x. is_view preparing x.view ≡ true) f.1 g.1)
own_ok-some mark preparing _ m e = cc

own_answer-some : (mark : ℕ) (phase : Phase) (message : Message) (m : RecoveryAnswer) → own_answer mark phase message ≡ Some m
    → (message ≡ Message.RecoveryAnswer m) × (m.mark ≡ mark)
own_answer-some mark phase (Message.RecoveryAnswer k) m e =
    let f = if-some (k.mark == mark && is_recovering phase) k m e in
    let g = and-true (k.mark == mark) (is_recovering phase) f.0 in
    (ap Message.RecoveryAnswer f.1, sym (ap (λ x. x.mark) f.1) ∙ same k.mark mark g.0)
own_answer-some mark phase _ m e = cc

-- a PrepareOk that is held: what was taken, from whom, and that it is an own reply
pub record IsHeldOk (mark view p : ℕ) (ts : List Taken) (h : Held PrepareOk) : Type 0 where
  pub t : Taken
  pub in_taken : In t ts
  pub from : t.from ≡ h.from
  pub message : t.message ≡ Message.PrepareOk h.body
  pub replica : h.from.replica ≡ p
  pub mark_is : h.body.mark ≡ mark
  pub view_is : h.body.view ≡ view
  pub own : own_ok mark t.preparing t.message ≡ Some h.body

pub record IsHeldAnswer (mark p : ℕ) (ts : List Taken) (h : Held RecoveryAnswer) : Type 0 where
  pub t : Taken
  pub in_taken : In t ts
  pub from : t.from ≡ h.from
  pub message : t.message ≡ Message.RecoveryAnswer h.body
  pub replica : h.from.replica ≡ p
  pub mark_is : h.body.mark ≡ mark
  pub own : own_answer mark t.phase t.message ≡ Some h.body

better_ok-cases : (p : ℕ) (a : Option (Held PrepareOk)) (from : LifeId) (b : Option PrepareOk) (h : Held PrepareOk) → better_ok p a from b ≡ Some h
    → (a ≡ Some h) ⊎ ((b ≡ Some h.body) × (from ≡ h.from))
better_ok-cases p a from None h e = inl e
better_ok-cases p None from (Some m) h e = inr (cc, cc)
better_ok-cases p (Some k) from (Some m) h e = go (nat_lt (entry k.body.vector p) (entry m.vector p)) e
  where
    go : (t : Bool) → (if t then Some (record { from = from; body = m }) else Some k) ≡ Some h → (Some k ≡ Some h) ⊎ ((Some m ≡ Some h.body) × (from ≡ h.from))
    go true e = inr (cc, cc)
    go false e = inl e

better_answer-cases : (p : ℕ) (a : Option (Held RecoveryAnswer)) (from : LifeId) (b : Option RecoveryAnswer) (h : Held RecoveryAnswer) → better_answer p a from b ≡ Some h
    → (a ≡ Some h) ⊎ ((b ≡ Some h.body) × (from ≡ h.from))
better_answer-cases p a from None h e = inl e
better_answer-cases p None from (Some m) h e = inr (cc, cc)
better_answer-cases p (Some k) from (Some m) h e = go (is_less_answer p k.body m) e
  where
    go : (t : Bool) → (if t then Some (record { from = from; body = m }) else Some k) ≡ Some h → (Some k ≡ Some h) ⊎ ((Some m ≡ Some h.body) × (from ≡ h.from))
    go true e = inr (cc, cc)
    go false e = inl e

ok_of-held : (mark view p : ℕ) (t : Taken) (ts : List Taken) (h : Held PrepareOk) → ok_of mark view p t ≡ Some h.body → t.from ≡ h.from → IsHeldOk mark view p (t ∷ ts) h
ok_of-held mark view p t ts h e f =
    let a = if-option (t.from.replica == p && is_view t.preparing view) (own_ok mark t.preparing t.message) h.body e in
    let b = and-true (t.from.replica == p) (is_view t.preparing view) a.0 in
    let d = own_ok-some mark t.preparing t.message h.body a.1 in
    record {
      t = t;
      in_taken = inl refl;
      from = f;
      message = d.0;
      replica = sym (ap (λ x. x.replica) f) ∙ same t.from.replica p b.0;
      mark_is = d.1;
      view_is = is_view-same t.preparing h.body.view view d.2 b.1;
      own = a.1;
    }

answer_of-held : (mark p : ℕ) (t : Taken) (ts : List Taken) (h : Held RecoveryAnswer) → answer_of mark p t ≡ Some h.body → t.from ≡ h.from → IsHeldAnswer mark p (t ∷ ts) h
answer_of-held mark p t ts h e f =
    let a = if-option (t.from.replica == p) (own_answer mark t.phase t.message) h.body e in
    let d = own_answer-some mark t.phase t.message h.body a.1 in
    record {
      t = t;
      in_taken = inl refl;
      from = f;
      message = d.0;
      replica = sym (ap (λ x. x.replica) f) ∙ same t.from.replica p a.0;
      mark_is = d.1;
      own = a.1;
    }

more_ok : (mark view p : ℕ) (t : Taken) (ts : List Taken) (h : Held PrepareOk) → IsHeldOk mark view p ts h → IsHeldOk mark view p (t ∷ ts) h
more_ok mark view p t ts h k =
    record { t = k.t; in_taken = inr k.in_taken; from = k.from; message = k.message; replica = k.replica; mark_is = k.mark_is; view_is = k.view_is; own = k.own }

more_answer : (mark p : ℕ) (t : Taken) (ts : List Taken) (h : Held RecoveryAnswer) → IsHeldAnswer mark p ts h → IsHeldAnswer mark p (t ∷ ts) h
more_answer mark p t ts h k =
    record { t = k.t; in_taken = inr k.in_taken; from = k.from; message = k.message; replica = k.replica; mark_is = k.mark_is; own = k.own }

-- a held PrepareOk is an own reply that was taken
pub held_ok-is : (mark view p : ℕ) (ts : List Taken) (h : Held PrepareOk) → held_ok mark view p ts ≡ Some h → IsHeldOk mark view p ts h
held_ok-is mark view p [] h e = cc
held_ok-is mark view p (t ∷ ts) h e =
    elim (better_ok-cases p (held_ok mark view p ts) t.from (ok_of mark view p t) h e) [
      | inl a ↦ more_ok mark view p t ts h (held_ok-is mark view p ts h a)
      | inr b ↦ ok_of-held mark view p t ts h b.0 b.1
    ]

pub held_answer-is : (mark p : ℕ) (ts : List Taken) (h : Held RecoveryAnswer) → held_answer mark p ts ≡ Some h → IsHeldAnswer mark p ts h
held_answer-is mark p [] h e = cc
held_answer-is mark p (t ∷ ts) h e =
    elim (better_answer-cases p (held_answer mark p ts) t.from (answer_of mark p t) h e) [
      | inl a ↦ more_answer mark p t ts h (held_answer-is mark p ts h a)
      | inr b ↦ answer_of-held mark p t ts h b.0 b.1
    ]

has_epoch_ok-some : (p e : ℕ) (o : Option (Held PrepareOk)) (h : Held PrepareOk) → has_epoch_ok p e o ≡ true → o ≡ Some h → entry h.body.vector p ≡ e
has_epoch_ok-some p e None h t is = cc
has_epoch_ok-some p e (Some k) h t is = subst (λ (o : Option (Held PrepareOk)). has_epoch_ok p e o ≡ true → entry h.body.vector p ≡ e) (sym is) (same (entry h.body.vector p) e) t

has_epoch_answer-some : (p e : ℕ) (o : Option (Held RecoveryAnswer)) (h : Held RecoveryAnswer) → has_epoch_answer p e o ≡ true → o ≡ Some h → entry h.body.vector p ≡ e
has_epoch_answer-some p e None h t is = cc
has_epoch_answer-some p e (Some k) h t is = subst (λ (o : Option (Held RecoveryAnswer)). has_epoch_answer p e o ≡ true → entry h.body.vector p ≡ e) (sym is) (same (entry h.body.vector p) e) t

-- a counted PrepareOk is held, and its epoch is the life's own entry
pub record IsCountedOk (c : Setup) (r : ℕ) (l : Life) (p : ℕ) (h : Held PrepareOk) : Type 0 where
  pub held : IsHeldOk l.mark l.view p l.taken h
  pub epoch : entry h.body.vector p ≡ entry_in c.mode r l p

pub record IsCountedAnswer (c : Setup) (r : ℕ) (l : Life) (p : ℕ) (h : Held RecoveryAnswer) : Type 0 where
  pub held : IsHeldAnswer l.mark p l.taken h
  pub epoch : entry h.body.vector p ≡ entry_in c.mode r l p
  pub other : p ≢ r

pub counted_ok-is : (c : Setup) (r : ℕ) (l : Life) (p : ℕ) (h : Held PrepareOk) → counted_ok c r l p ≡ Some h → IsCountedOk c r l p h
counted_ok-is c r l p h e =
    let held = held_ok l.mark l.view p l.taken in
    let a = if-option (has_epoch_ok p (entry_in c.mode r l p) held) held h e in
    record { held = held_ok-is l.mark l.view p l.taken h a.1; epoch = has_epoch_ok-some p (entry_in c.mode r l p) held h a.0 a.1 }

not-true : (b : Bool) → not b ≡ true → b ≡ false
not-true true e = cc
not-true false e = refl

pub counted_answer-is : (c : Setup) (r : ℕ) (l : Life) (p : ℕ) (h : Held RecoveryAnswer) → counted_answer c r l p ≡ Some h → IsCountedAnswer c r l p h
counted_answer-is c r l p h e =
    let held = held_answer l.mark p l.taken in
    let a = if-option (not (p == r) && has_epoch_answer p (entry_in c.mode r l p) held) held h e in
    let b = and-true (not (p == r)) (has_epoch_answer p (entry_in c.mode r l p) held) a.0 in
    let d = not-true (p == r) b.0 in
    record {
      held = held_answer-is l.mark p l.taken h a.1;
      epoch = has_epoch_answer-some p (entry_in c.mode r l p) held h b.1 a.1;
      other = λ (s : p ≡ r). let t = same-test p r s in cc;
    }

-- where there is a value it is some value
pub is_some-value : {X : Type 0} (o : Option X) → is_some o ≡ true → (x : X) × (o ≡ Some x)
is_some-value None e = cc
is_some-value (Some x) e = (x, refl)

-- the own entry covers the vector of each own reply
pub entry_taken-ok : (mark p : ℕ) (ts : List Taken) (t : Taken) (m : PrepareOk) → In t ts → own_ok mark t.preparing t.message ≡ Some m → entry m.vector p ≤ entry_taken mark p ts
entry_taken-ok mark p [] t m i e = absurd i
entry_taken-ok mark p (u ∷ ts) t m (inl s) e =
    let f : own_ok mark u.preparing u.message ≡ Some m = subst (λ (v : Taken). own_ok mark v.preparing v.message ≡ Some m) s e in
    let g = ap (entry_of_ok p) f in
    omega arith
entry_taken-ok mark p (u ∷ ts) t m (inr i) e = let g = entry_taken-ok mark p ts t m i e in omega arith

pub entry_taken-answer : (mark p : ℕ) (ts : List Taken) (t : Taken) (m : RecoveryAnswer) → In t ts → own_answer mark t.phase t.message ≡ Some m → entry m.vector p ≤ entry_taken mark p ts
entry_taken-answer mark p [] t m i e = absurd i
entry_taken-answer mark p (u ∷ ts) t m (inl s) e =
    let f : own_answer mark u.phase u.message ≡ Some m = subst (λ (v : Taken). own_answer mark v.phase v.message ≡ Some m) s e in
    let g = ap (entry_of_answer p) f in
    omega arith
entry_taken-answer mark p (u ∷ ts) t m (inr i) e = let g = entry_taken-answer mark p ts t m i e in omega arith

-- in EpochSS the own entry covers each own reply
pub entry-held_ok : (mode : Mode) (r : ℕ) (l : Life) (view p q : ℕ) (h : Held PrepareOk) → mode ≡ EpochSs → IsHeldOk l.mark view q l.taken h → entry h.body.vector p ≤ entry_in mode r l p
entry-held_ok ViewSs r l view p q h e k = cc
entry-held_ok EpochSs r l view p q h e k = let g = entry_taken-ok l.mark p l.taken k.t h.body k.in_taken k.own in omega arith

pub entry-held_answer : (mode : Mode) (r : ℕ) (l : Life) (p q : ℕ) (h : Held RecoveryAnswer) → mode ≡ EpochSs → IsHeldAnswer l.mark q l.taken h → entry h.body.vector p ≤ entry_in mode r l p
entry-held_answer ViewSs r l p q h e k = cc
entry-held_answer EpochSs r l p q h e k = let g = entry_taken-answer l.mark p l.taken k.t h.body k.in_taken k.own in omega arith

-- an answered recovery's mark is below the own entry
entry_answered-in : (p mark : ℕ) (xs : List (ℕ × ℕ)) → In (p, mark) xs → mark ≤ entry_answered p xs
entry_answered-in p mark [] i = absurd i
entry_answered-in p mark (a ∷ more) (inl e) =
    let t : (a.0 == p) ≡ true = same-test a.0 p (sym (ap (λ x. x.0) e)) in
    let f : mark ≡ a.1 = ap (λ x. x.1) e in
    rw t (omega arith)
entry_answered-in p mark (a ∷ more) (inr i) = let g = entry_answered-in p mark more i in omega arith

pub entry-answered : (mode : Mode) (r : ℕ) (l : Life) (p mark : ℕ) → mode ≡ EpochSs → In (p, mark) l.answered → mark ≤ entry_in mode r l p
entry-answered ViewSs r l p mark e i = cc
entry-answered EpochSs r l p mark e i = let g = entry_answered-in p mark l.answered i in omega arith

-- a vector's nine entries
pub entry-table : (f : ℕ → ℕ) (p : ℕ) → p < 9 → entry (table f) p ≡ f p
entry-table f zero lt = refl
entry-table f (suc zero) lt = refl
entry-table f (suc (suc zero)) lt = refl
entry-table f (suc (suc (suc zero))) lt = refl
entry-table f (suc (suc (suc (suc zero)))) lt = refl
entry-table f (suc (suc (suc (suc (suc zero))))) lt = refl
entry-table f (suc (suc (suc (suc (suc (suc zero)))))) lt = refl
entry-table f (suc (suc (suc (suc (suc (suc (suc zero))))))) lt = refl
entry-table f (suc (suc (suc (suc (suc (suc (suc (suc zero)))))))) lt = refl
entry-table f (suc (suc (suc (suc (suc (suc (suc (suc (suc p))))))))) lt = absurd (omega arith)

beyond : (f : ℕ → ℕ) (p : ℕ) → entry (table f) (suc (suc (suc (suc (suc (suc (suc (suc (suc p))))))))) ≡ 0
beyond f zero = refl
beyond f (suc p) = refl

pub entry-table-le : (f : ℕ → ℕ) (p : ℕ) → entry (table f) p ≤ f p
entry-table-le f zero = le_refl _
entry-table-le f (suc zero) = le_refl _
entry-table-le f (suc (suc zero)) = le_refl _
entry-table-le f (suc (suc (suc zero))) = le_refl _
entry-table-le f (suc (suc (suc (suc zero)))) = le_refl _
entry-table-le f (suc (suc (suc (suc (suc zero))))) = le_refl _
entry-table-le f (suc (suc (suc (suc (suc (suc zero)))))) = le_refl _
entry-table-le f (suc (suc (suc (suc (suc (suc (suc zero))))))) = le_refl _
entry-table-le f (suc (suc (suc (suc (suc (suc (suc (suc zero)))))))) = le_refl _
entry-table-le f (suc (suc (suc (suc (suc (suc (suc (suc (suc p))))))))) = rw (beyond f p) (omega arith)

-- Which replies a life holds and counts, as functions of what it took and answered.
use Rattle.std.specs.Prelude.{◌≡◌, ℕ, ◌≤◌, max, Bool, true, false, ◌&&◌, ◌||◌, not, List, [], ◌∷◌, if◌then◌else◌, ◌==◌, nat_lt, Option, Some, None, is_some}
use Rattle.std.specs.Option.{option_map}
use Rattle.jp_types.specs.declared.message.Message.{Message}
use Rattle.jp_types.specs.declared.message.PrepareOk.{PrepareOk}
use Rattle.jp_types.specs.declared.message.RecoveryAnswer.{RecoveryAnswer}
use Rattle.jp_types.specs.declared.mode.Phase.{Phase}
use Rattle.jp_types.specs.declared.mode.Phase.TheVariants.{Recovering, Working}
use Rattle.jp_types.specs.declared.mode.Mode.{Mode}
use Rattle.jp_types.specs.declared.mode.Mode.TheVariants.{ViewSs, EpochSs}
use Rattle.paxos_world.specs.Setup.{Setup}
use Rattle.paxos_world.specs.Life.{LifeId, Taken, Life}
use Rattle.jp_types.specs.Vectors.{entry, is_less_answer}

-- whether there is a view and it is this one
abbrev pub is_view : Option ℕ → ℕ → Bool
is_view None view = false
is_view (Some v) view = v == view

-- whether the phase is Recovering
abbrev pub is_recovering : Phase → Bool
is_recovering Recovering = true
is_recovering Working = false

-- a PrepareOk that is an own reply of the life with this mark: it has that mark, and the view that was being prepared as it was taken
abbrev pub own_ok : ℕ → Option ℕ → Message → Option PrepareOk
own_ok mark preparing (Message.PrepareOk m) = if m.mark == mark && is_view preparing m.view then Some m else None
own_ok mark preparing _ = None

-- a RecoveryAnswer that is an own reply: it has that mark, and was taken while Recovering
abbrev pub own_answer : ℕ → Phase → Message → Option RecoveryAnswer
own_answer mark phase (Message.RecoveryAnswer m) = if m.mark == mark && is_recovering phase then Some m else None
own_answer mark phase _ = None

-- the entry for p in a PrepareOk, and 0 where there is none
abbrev pub entry_of_ok : ℕ → Option PrepareOk → ℕ
entry_of_ok p None = 0
entry_of_ok p (Some m) = entry m.vector p

-- the entry for p in a RecoveryAnswer, and 0 where there is none
abbrev pub entry_of_answer : ℕ → Option RecoveryAnswer → ℕ
entry_of_answer p None = 0
entry_of_answer p (Some m) = entry m.vector p

-- the greatest entry for p in the own replies among these
abbrev pub entry_taken : ℕ → ℕ → List Taken → ℕ
entry_taken mark p [] = 0
entry_taken mark p (t ∷ ts) =
    max (max (entry_of_ok p (own_ok mark t.preparing t.message)) (entry_of_answer p (own_answer mark t.phase t.message))) (entry_taken mark p ts)

-- the greatest mark in the recoveries of p among these
abbrev pub entry_answered : ℕ → List (ℕ × ℕ) → ℕ
entry_answered p [] = 0
entry_answered p (a ∷ more) = max (if a.0 == p then a.1 else 0) (entry_answered p more)

-- the entry for p in the vector of a life of r, from its mark, what it answered and what it took: 0 in ViewSS
abbrev pub entry_of : Mode → ℕ → ℕ → List (ℕ × ℕ) → List Taken → ℕ → ℕ
entry_of ViewSs r mark answered taken p = 0
entry_of EpochSs r mark answered taken p = max (if p == r then mark else 0) (max (entry_answered p answered) (entry_taken mark p taken))

-- the entry for p in the vector of a life of r
abbrev pub entry_in : Mode → ℕ → Life → ℕ → ℕ
entry_in mode r l p = entry_of mode r l.mark l.answered l.taken p

-- a held reply, with the life that sent it
pub record Held (A : Type 0) : Type 0 where
  pub from : LifeId
  pub body : A

-- the PrepareOk of replica p in what was taken, where it is an own reply of this view
abbrev pub ok_of : ℕ → ℕ → ℕ → Taken → Option PrepareOk
ok_of mark view p t = if t.from.replica == p && is_view t.preparing view then own_ok mark t.preparing t.message else None

-- of the PrepareOk held so far and a new one, the new one only where its epoch is greater
abbrev pub better_ok : ℕ → Option (Held PrepareOk) → LifeId → Option PrepareOk → Option (Held PrepareOk)
better_ok p held from None = held
better_ok p None from (Some m) = Some (record { from = from; body = m })
better_ok p (Some h) from (Some m) =
    if nat_lt (entry h.body.vector p) (entry m.vector p) then Some (record { from = from; body = m }) else Some h

-- the held PrepareOk of p: the first of greatest epoch among the own ones of this view
abbrev pub held_ok : ℕ → ℕ → ℕ → List Taken → Option (Held PrepareOk)
held_ok mark view p [] = None
held_ok mark view p (t ∷ ts) = better_ok p (held_ok mark view p ts) t.from (ok_of mark view p t)

-- the RecoveryAnswer of replica p in what was taken, where it is an own reply
abbrev pub answer_of : ℕ → ℕ → Taken → Option RecoveryAnswer
answer_of mark p t = if t.from.replica == p then own_answer mark t.phase t.message else None

-- of the RecoveryAnswer held so far and a new one, the new one only where it is greater
abbrev pub better_answer : ℕ → Option (Held RecoveryAnswer) → LifeId → Option RecoveryAnswer → Option (Held RecoveryAnswer)
better_answer p held from None = held
better_answer p None from (Some m) = Some (record { from = from; body = m })
better_answer p (Some h) from (Some m) = if is_less_answer p h.body m then Some (record { from = from; body = m }) else Some h

-- the held RecoveryAnswer of p: the first that is greatest by epoch, then view, then presence of next
abbrev pub held_answer : ℕ → ℕ → List Taken → Option (Held RecoveryAnswer)
held_answer mark p [] = None
held_answer mark p (t ∷ ts) = better_answer p (held_answer mark p ts) t.from (answer_of mark p t)

-- whether a held PrepareOk of p has the epoch e
abbrev pub has_epoch_ok : ℕ → ℕ → Option (Held PrepareOk) → Bool
has_epoch_ok p e None = false
has_epoch_ok p e (Some h) = entry h.body.vector p == e

-- whether a held RecoveryAnswer of p has the epoch e
abbrev pub has_epoch_answer : ℕ → ℕ → Option (Held RecoveryAnswer) → Bool
has_epoch_answer p e None = false
has_epoch_answer p e (Some h) = entry h.body.vector p == e

-- the counted PrepareOk of p at a life of r that prepares its view: the held one, where its epoch is the life's own entry for p
abbrev pub counted_ok : Setup → ℕ → Life → ℕ → Option (Held PrepareOk)
counted_ok c r l p =
    let held = held_ok l.mark l.view p l.taken in
    if has_epoch_ok p (entry_in c.mode r l p) held then held else None

-- the counted RecoveryAnswer of another replica p at a life of r
abbrev pub counted_answer : Setup → ℕ → Life → ℕ → Option (Held RecoveryAnswer)
counted_answer c r l p =
    let held = held_answer l.mark p l.taken in
    if not (p == r) && has_epoch_answer p (entry_in c.mode r l p) held then held else None

-- whether p is among the replicas that count toward phase 1: the leader r and those whose held PrepareOk is counted
abbrev pub is_promised : Setup → ℕ → Life → ℕ → Bool
is_promised c r l p = (p == r) || is_some (counted_ok c r l p)

-- whether p's RecoveryAnswer is counted
abbrev pub is_answered : Setup → ℕ → Life → ℕ → Bool
is_answered c r l p = is_some (counted_answer c r l p)

-- the vector of the PrepareOk of p that a life of r counts, if it counts one
abbrev pub ok_vectors : Setup → ℕ → Life → ℕ → Option (List ℕ)
ok_vectors c r l p = option_map (λ h. h.body.vector) (counted_ok c r l p)

-- the vector of the RecoveryAnswer of p that a life of r counts, if it counts one
abbrev pub answer_vectors : Setup → ℕ → Life → ℕ → Option (List ℕ)
answer_vectors c r l p = option_map (λ h. h.body.vector) (counted_answer c r l p)

-- the own entries of a life of r are at least those of each PrepareOk that it holds
abbrev pub CoversOks : Setup → ℕ → Life → Type 0
CoversOks c r l = (p q : ℕ) (h : Held PrepareOk) → held_ok l.mark l.view q l.taken ≡ Some h → entry h.body.vector p ≤ entry_in c.mode r l p

-- the own entries of a life of r are at least those of each RecoveryAnswer that it holds
abbrev pub CoversAnswers : Setup → ℕ → Life → Type 0
CoversAnswers c r l = (p q : ℕ) (h : Held RecoveryAnswer) → held_answer l.mark q l.taken ≡ Some h → entry h.body.vector p ≤ entry_in c.mode r l p

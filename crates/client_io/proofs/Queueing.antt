-- Bytes queued for one of the sessions.
use Rattle.std.proofs.Common.{◌≡◌, ◌<◌, ℕ, suc, Bool, cond, eq-eqb, List, ◌∷◌, ◌++◌, Result, Ok, Err, OnOk, length, take, drop, get_or, set, sym, ◌∙◌, ap, add-one}
use Rattle.std.proofs.Math.Seq.{drop-cons}
use Rattle.std.proofs.lemmas.List.{take-append-drop, take-set, drop-set, get_or_default}
use Rattle.client_io.specs.Sessions.{Session, queued_for, with_queued}

-- what holds where an answer is Ok
pub on_ok : {A E : Type 0} {P Q : Type 0} (r : Result A E) → (P → Q) → OnOk r P → OnOk r Q
on_ok (Ok x) f p = f p
on_ok (Err e) f p = tt

-- what is queued for the session in front
queued_front : (number : ℕ) (bytes : List ℕ) (s : Session) (rest : List Session) → s.number ≡ number → queued_for number bytes (s ∷ rest) ≡ with_queued bytes s ∷ rest
queued_front number bytes s rest same = ap (λ (b : Bool). cond b (with_queued bytes s ∷ rest) (s ∷ queued_for number bytes rest)) (eq-eqb s.number number same)

-- what is queued for the first session of this number, which is at i
pub queued_at : (number : ℕ) (bytes : List ℕ) (items : List Session) (i : ℕ) (s t : Session) → i < length items → s ≡ get_or items i s → s.number ≡ number
    → t ≡ with_queued bytes s → queued_for number bytes items ≡ take i items ++ queued_for number bytes (drop i items) → set items i t ≡ queued_for number bytes items
queued_at number bytes items i s t lt is same new ahead =
    let rest : drop i items ≡ s ∷ drop (suc i) items = drop-cons items i s lt ∙ ap (λ (x : Session). x ∷ drop (suc i) items) (sym is) in
    let found : queued_for number bytes (drop i items) ≡ with_queued bytes s ∷ drop (suc i) items = ap (queued_for number bytes) rest ∙ queued_front number bytes s (drop (suc i) items) same in
    let whole = take-append-drop i (set items i t) in
    let front = take-set items i t in
    let back = drop-set items i t lt in
    let more = add-one i in
    cc

-- two reads of one place
pub same_read : (items : List Session) (i : ℕ) (s t : Session) → i < length items → s ≡ get_or items i s → t ≡ get_or items i t → s ≡ t
same_read items i s t lt is it = is ∙ get_or_default items i s t lt ∙ sym it

-- Replies that are those that a life holds are counted as the life counts them, and stay those as it takes more.
use Rattle.std.proofs.Common.{◌≡◌, ℕ, ◌<◌, Bool, true, false, List, ◌==◌, Option, Some, None, is_some, if◌then◌else◌, inl, inr, refl, sym, ap, ◌∙◌}
use Rattle.std.proofs.lemmas.Bool.Decides.{eqb_tells}
use Rattle.jp_types.specs.declared.message.PrepareOk.{PrepareOk}
use Rattle.jp_types.specs.declared.message.RecoveryAnswer.{RecoveryAnswer}
use Rattle.jp_types.specs.Vectors.{entry}
use Rattle.paxos_world.specs.Setup.{Setup}
use Rattle.paxos_world.specs.Life.{Life}
use Rattle.paxos_world.specs.Counting.{Held, entry_in, held_ok, held_answer, has_epoch_ok, has_epoch_answer, counted_ok, counted_answer}
use Rattle.paxos_world.proofs.Replies.{entry-table}
use Rattle.epoch_vectors.specs.Replies.{Replies, reply_of, has_epoch, is_counted}
use Rattle.core_laws.specs.Holding.{as_ok, as_answer, KeepsOks, KeepsAnswers}
use Rattle.core_laws.specs.KeptLaws.{counted_reply}

ok-epoch : (p e : ℕ) (h : Option (Held PrepareOk)) → has_epoch p e (as_ok h) ≡ has_epoch_ok p e h
ok-epoch p e None = refl
ok-epoch p e (Some h) = refl

answer-epoch : (p e : ℕ) (h : Option (Held RecoveryAnswer)) → has_epoch p e (as_answer h) ≡ has_epoch_answer p e h
answer-epoch p e None = refl
answer-epoch p e (Some h) = refl

-- whether p's PrepareOk has the own epoch
ok-tested : (c : Setup) (r : ℕ) (l : Life) (own : List ℕ) (replies : Replies PrepareOk) (p : ℕ) → KeepsOks c r l own replies → p < 9
    → is_counted own replies p ≡ has_epoch_ok p (entry_in c.mode r l p) (held_ok l.mark l.view p l.taken)
ok-tested c r l own replies p h lt =
    let o = h.vector in
    let k = h.held p in
    let e : entry own p ≡ entry_in c.mode r l p = ap (λ (v : List ℕ). entry v p) o ∙ entry-table (entry_in c.mode r l) p lt in
    let same = ok-epoch p (entry_in c.mode r l p) (held_ok l.mark l.view p l.taken) in
    let moved : is_counted own replies p ≡ has_epoch p (entry_in c.mode r l p) (as_ok (held_ok l.mark l.view p l.taken)) = cc in
    moved ∙ same

-- a counted PrepareOk is the life's
pub ok-counted : (c : Setup) (r : ℕ) (l : Life) (own : List ℕ) (replies : Replies PrepareOk) (p : ℕ) → KeepsOks c r l own replies → p < 9
    → counted_reply own replies p ≡ as_ok (counted_ok c r l p)
ok-counted c r l own replies p h lt =
    let t = ok-tested c r l own replies p h lt in
    let k = h.held p in
    let held = held_ok l.mark l.view p l.taken in
    let moved : counted_reply own replies p ≡ (if has_epoch_ok p (entry_in c.mode r l p) held then as_ok held else None) = cc in
    moved ∙ by (has_epoch_ok p (entry_in c.mode r l p) held) held
  where
    by : (b : Bool) (h : Option (Held PrepareOk)) → (if b then as_ok h else None) ≡ as_ok (if b then h else None)
    by true h = refl
    by false h = refl

-- it is counted exactly where the life counts it
pub ok-is : (c : Setup) (r : ℕ) (l : Life) (own : List ℕ) (replies : Replies PrepareOk) (p : ℕ) → KeepsOks c r l own replies → p < 9
    → is_counted own replies p ≡ is_some (counted_ok c r l p)
ok-is c r l own replies p h lt = ok-tested c r l own replies p h lt ∙ by p (entry_in c.mode r l p) (held_ok l.mark l.view p l.taken)
  where
    by : (p e : ℕ) (h : Option (Held PrepareOk)) → has_epoch_ok p e h ≡ is_some (if has_epoch_ok p e h then h else None)
    by p e None = refl
    by p e (Some h) = at (entry h.body.vector p == e)
      where
        at : (b : Bool) → b ≡ is_some (if b then Some h else None)
        at true = refl
        at false = refl

-- a counted RecoveryAnswer is the life's
pub answer-counted : (c : Setup) (r : ℕ) (l : Life) (own : List ℕ) (replies : Replies RecoveryAnswer) (p : ℕ) → KeepsAnswers c r l own replies → p < 9
    → counted_reply own replies p ≡ as_answer (counted_answer c r l p)
answer-counted c r l own replies p h lt = elim (eqb_tells p r) [
  | inl e ↦ (
      let t = e.0 in
      let none = h.none in
      let same = e.1 in
      let mine : reply_of replies p ≡ None = ap (reply_of replies) same ∙ none in
      let left : counted_reply own replies p ≡ None = nothing own replies p mine in
      let right : counted_answer c r l p ≡ None = rw t refl in
      left ∙ sym (ap as_answer right))
  | inr e ↦ (
      let t = e.0 in
      let k = h.held p e.1 in
      let o = h.vector in
      let held = held_answer l.mark p l.taken in
      let own-entry : entry own p ≡ entry_in c.mode r l p = ap (λ (v : List ℕ). entry v p) o ∙ entry-table (entry_in c.mode r l) p lt in
      let same = answer-epoch p (entry_in c.mode r l p) held in
      let tested : is_counted own replies p ≡ has_epoch p (entry_in c.mode r l p) (as_answer held) = cc in
      let test = tested ∙ same in
      let moved : counted_reply own replies p ≡ (if has_epoch_answer p (entry_in c.mode r l p) held then as_answer held else None) = cc in
      let right : counted_answer c r l p ≡ (if has_epoch_answer p (entry_in c.mode r l p) held then held else None) = rw t refl in
      moved ∙ by (has_epoch_answer p (entry_in c.mode r l p) held) held ∙ sym (ap as_answer right))
]
  where
    nothing : (own : List ℕ) (replies : Replies RecoveryAnswer) (p : ℕ) → reply_of replies p ≡ None → counted_reply own replies p ≡ None
    nothing own replies p e = go (is_counted own replies p)
      where
        go : (b : Bool) → (if b then reply_of replies p else None) ≡ None
        go true = e
        go false = refl

    by : (b : Bool) (h : Option (Held RecoveryAnswer)) → (if b then as_answer h else None) ≡ as_answer (if b then h else None)
    by true h = refl
    by false h = refl

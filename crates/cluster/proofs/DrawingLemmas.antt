-- Messages that are looked at, so that each is looked at once.
use Rattle.std.proofs.Common.{◌≡◌, ◌⊎◌, inl, inr, ◌∙◌, ◌+◌, ◌*◌, ◌/◌, ◌%◌, ◌^◌, ◌<◌, ◌≤◌, ◌==◌, ℕ, suc, Bool, true, false, List, [], ◌∷◌, ◌++◌, length, drop, get_or, refl, sym, ap, arith, append-nil, append_assoc, length-append, length-drop, add-zero}
use Rattle.std.specs.Prelude.{Option, Some, None, slice_index, slice_set}
use Rattle.std.proofs.lemmas.Bool.{cases_eq}
use Rattle.std.proofs.lemmas.List.{length-set, drop-append-le, get_or-set_same, get_or-set_other}
use Rattle.std.proofs.lemmas.Option.{get_or_from_slice_get, slice_get_read}
use Rattle.std.proofs.Math.Seq.{drop-append_seam}
use Rattle.std.proofs.Math.Nat.{mod-zero, mod-add-div, add-mul-mod_self_left}
use Rattle.cluster.specs.declared.sent.Sent.{Sent}
use Rattle.schedules.specs.Generator.{drawn}
use Rattle.schedules.specs.declared.line.Line.{Line}
use Rattle.cluster.specs.Drawing.{AreLookedAt, delivers_next, Generating, IsLookedAt, message_from, message_to}

-- a sum of 64 bits is the same where one part is cut to 64 bits
pub word_wraps : (a b : ℕ) → (a % 2 ^ 64 + b) % 2 ^ 64 ≡ (a + b) % 2 ^ 64
word_wraps a b =
    let parts = mod-add-div a (2 ^ 64) in
    let whole : a % 2 ^ 64 + b + 2 ^ 64 * (a / 2 ^ 64) ≡ a + b = omega arith in
    sym (add-mul-mod_self_left (a % 2 ^ 64 + b) (2 ^ 64) (a / 2 ^ 64)) ∙ ap (λ (x : ℕ). x % 2 ^ 64) whole

-- a draw below 0 gives all the bits of its word
pub drawn_below_none : (word below : ℕ) → below ≡ 0 → drawn word below ≡ word / 2 ^ 33
drawn_below_none word below none = rw none (mod-zero (word / 2 ^ 33))

-- what is read of a list of numbers
pub read_at : (xs : List ℕ) (i x : ℕ) → i < length xs → x ≡ get_or xs i x → slice_index xs i ≡ x
read_at xs i x low is = get_or_from_slice_get xs i x 0 (slice_get_read xs (length xs) i x refl low is)

-- where none of the first messages goes to r, it is looked for behind them
pub message_behind : (r number : ℕ) (sent later : List Sent) → message_to r number sent ≡ None → message_to r number (sent ++ later) ≡ message_to r (number + length sent) later
message_behind r number [] later none = ap (λ (k : ℕ). message_to r k later) (sym (add-zero number))
message_behind r number (m ∷ more) later none = by (m.to == r) refl (message_behind r (suc number) more later) where
  by : (b : Bool) → (m.to == r) ≡ b → (message_to r (suc number) more ≡ None → message_to r (suc number) (more ++ later) ≡ message_to r (suc number + length more) later)
      → message_to r number ((m ∷ more) ++ later) ≡ message_to r (number + length (m ∷ more)) later
  by true e behind = let found : message_to r number (m ∷ more) ≡ Some number = rw e refl in absurd (let both : Some number ≡ None = sym found ∙ none in cc)
  by false e behind =
      let rest : message_to r (suc number) more ≡ None = (let same : message_to r number (m ∷ more) ≡ message_to r (suc number) more = rw e refl in sym same ∙ none) in
      let here : message_to r number ((m ∷ more) ++ later) ≡ message_to r (suc number) (more ++ later) = rw e refl in
      let count : suc number + length more ≡ number + length (m ∷ more) = omega arith in
      here ∙ behind rest ∙ ap (λ (k : ℕ). message_to r k later) count

-- and where none goes to r, all are looked at
pub none_found : (r seen : ℕ) (sent later : List Sent) → seen ≤ length sent → message_from r seen sent ≡ None
    → message_from r seen (sent ++ later) ≡ message_from r (length sent) (sent ++ later)
none_found r seen sent later within none =
    let front : message_from r seen (sent ++ later) ≡ message_to r seen (drop seen sent ++ later) =
    ap (λ (ms : List Sent). message_to r seen ms) (drop-append-le seen sent later within) in
    let count : seen + length (drop seen sent) ≡ length sent = rw (length-drop seen sent) (omega arith) in
    let behind : message_to r (length sent) (drop (length sent) (sent ++ later)) ≡ message_to r (length sent) later =
    ap (λ (ms : List Sent). message_to r (length sent) ms) (drop-append_seam sent later) in
    front ∙ message_behind r seen (drop seen sent) later none ∙ ap (λ (k : ℕ). message_to r k later) count ∙ sym behind

-- the next message to r is found among those that were not looked at
pub found_from : (r from seen : ℕ) (sent : List Sent) → IsLookedAt r from seen sent → message_from r from sent ≡ message_from r seen sent
found_from r from seen sent looked = let same = looked.same [] in rw append-nil at same

-- none was found: all are looked at
pub looked_at_all : (r from seen : ℕ) (sent : List Sent) → IsLookedAt r from seen sent → message_from r seen sent ≡ None → IsLookedAt r from (length sent) sent
looked_at_all r from seen sent looked none =
    record { within = omega arith; same = λ later. looked.same later ∙ none_found r seen sent later looked.within none }

-- none is looked at yet from a number on
pub looked_at_next : (r from : ℕ) (sent : List Sent) → from ≤ length sent → IsLookedAt r from from sent
looked_at_next r from sent within = record { within = within; same = λ later. refl }

-- more messages are sent
pub looked_at_still : (r from seen : ℕ) (sent more : List Sent) → IsLookedAt r from seen sent → IsLookedAt r from seen (sent ++ more)
looked_at_still r from seen sent more looked =
    record {
      within = (let low = looked.within in rw (length-append sent more) (omega arith));
      same = λ later. rw append_assoc (looked.same (more ++ later));
    }

-- the same of each replica, where all messages were looked at for one
pub looked_at_again : (g : Generating) (sent : List Sent) (replica seen : ℕ) → AreLookedAt g sent → replica < length g.seen
    → IsLookedAt replica (slice_index g.drawing.from replica) seen sent
    → (r : ℕ) → r < length (slice_set g.seen replica seen) → IsLookedAt r (slice_index g.drawing.from r) (slice_index (slice_set g.seen replica seen) r) sent
looked_at_again g sent replica seen looked within here r low = by (cases_eq r replica) where
  there : r < length g.seen
  there = rw length-set at low

  by : (r ≡ replica) ⊎ (r ≡ replica → ⊥) → IsLookedAt r (slice_index g.drawing.from r) (slice_index (slice_set g.seen replica seen) r) sent
  by (inl same) = rw same (rw (get_or-set_same g.seen replica seen 0 within) here)
  by (inr other) = rw (get_or-set_other g.seen replica r seen 0 other) (looked r there)

-- the next message to a replica is delivered
pub delivers_found : (g : Generating) (sent : List Sent) (replica message : ℕ) → AreLookedAt g sent → replica < length g.seen
    → message_from replica (slice_index g.seen replica) sent ≡ Some message
    → delivers_next (message_from replica (slice_index g.drawing.from replica) sent) replica g.drawing ≡ (Line.Deliver replica message, record g.drawing { from = slice_set g.drawing.from replica (suc message) })
delivers_found g sent replica message looked within is =
    ap (λ (found : Option ℕ). delivers_next found replica g.drawing) (found_from replica (slice_index g.drawing.from replica) (slice_index g.seen replica) sent (looked replica within) ∙ is)

-- there is none to be delivered
pub delivers_none : (g : Generating) (sent : List Sent) (replica : ℕ) → AreLookedAt g sent → replica < length g.seen
    → message_from replica (slice_index g.seen replica) sent ≡ None
    → delivers_next (message_from replica (slice_index g.drawing.from replica) sent) replica g.drawing ≡ (Line.Protocol replica, g.drawing)
delivers_none g sent replica looked within is =
    ap (λ (found : Option ℕ). delivers_next found replica g.drawing) (found_from replica (slice_index g.drawing.from replica) (slice_index g.seen replica) sent (looked replica within) ∙ is)

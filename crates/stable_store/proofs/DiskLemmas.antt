-- What stays where a range of bytes is torn or written.
use Rattle.std.proofs.Common.{◌≡◌, ◌⊎◌, inl, inr, ℕ, ◌+◌, ◌-◌, ◌<◌, ◌≤◌, List, ◌++◌, length, get_or, take, drop, refl, sym, ◌∙◌, ap, subst, arith, append_assoc, length-append}
use Rattle.std.proofs.lemmas.List.{take_at, drop_at, take-take, drop-drop, drop-take, get_or-take, get_or-drop, length-take-le, length-drop}
use Rattle.stable_store.specs.Disks.{overwritten, Torn}

pub torn_same : (at n : ℕ) (bytes : List ℕ) → Torn at n bytes bytes
torn_same at n bytes = record { before = refl; after = refl; size = refl }

front_stays : (at n : ℕ) (old new : List ℕ) → Torn at n old new → (from count : ℕ) → from + count ≤ at → take count (drop from new) ≡ take count (drop from old)
front_stays at n old new torn from count le =
    let k = at - from in
    let is : at ≡ from + k = omega arith in
    let same : take (from + k) new ≡ take (from + k) old = ap (λ (m : ℕ). take m new) (sym is) ∙ torn.before ∙ ap (λ (m : ℕ). take m old) is in
    let cut : take k (drop from new) ≡ take k (drop from old) = sym (drop-take from k new) ∙ ap (λ (l : List ℕ). drop from l) same ∙ drop-take from k old in
    sym (take-take count k (drop from new) (omega arith)) ∙ ap (λ (l : List ℕ). take count l) cut ∙ take-take count k (drop from old) (omega arith)

back_stays : (at n : ℕ) (old new : List ℕ) → Torn at n old new → (from : ℕ) → at + n ≤ from → drop from new ≡ drop from old
back_stays at n old new torn from le =
    let k = from - (at + n) in
    let is : at + n + k ≡ from = omega arith in
    ap (λ (m : ℕ). drop m new) (sym is) ∙ sym (drop-drop k (at + n) new) ∙ ap (λ (l : List ℕ). drop k l) torn.after ∙ drop-drop k (at + n) old ∙ ap (λ (m : ℕ). drop m old) is

-- a range apart from the torn one
pub apart_stays : (at n : ℕ) (old new : List ℕ) → Torn at n old new → (from count : ℕ) → (from + count ≤ at) ⊎ (at + n ≤ from) → take count (drop from new) ≡ take count (drop from old)
apart_stays at n old new torn from count (inl le) = front_stays at n old new torn from count le
apart_stays at n old new torn from count (inr le) = ap (λ (l : List ℕ). take count l) (back_stays at n old new torn from le)

-- a byte apart from it
pub byte_stays : (at n : ℕ) (old new : List ℕ) → Torn at n old new → (i : ℕ) → (i < at) ⊎ (at + n ≤ i) → get_or new i 0 ≡ get_or old i 0
byte_stays at n old new torn i (inl lt) = sym (get_or-take at new i 0 lt) ∙ ap (λ (l : List ℕ). get_or l i 0) torn.before ∙ get_or-take at old i 0 lt
byte_stays at n old new torn i (inr le) =
    let k = i - (at + n) in
    let is : at + n + k ≡ i = omega arith in
    ap (λ (m : ℕ). get_or new m 0) (sym is) ∙ sym (get_or-drop (at + n) new k 0) ∙ ap (λ (l : List ℕ). get_or l k 0) torn.after ∙ get_or-drop (at + n) old k 0 ∙ ap (λ (m : ℕ). get_or old m 0) is

module _ (at : ℕ) (piece bytes : List ℕ) (fits : at + length piece ≤ length bytes) where
  front_size : length (take at bytes) ≡ at
  front_size = length-take-le at bytes (omega arith)

  pub torn_by : Torn at (length piece) bytes (overwritten at piece bytes)
  torn_by = record {
    before = ap (λ (l : List ℕ). take at l) (append_assoc (take at bytes) piece (drop (at + length piece) bytes)) ∙ take_at (take at bytes) (piece ++ drop (at + length piece) bytes) at front_size;
    after = drop_at (take at bytes ++ piece) (drop (at + length piece) bytes) (at + length piece) (omega (arith, front_size, length-append (take at bytes) piece));
    size = omega (arith, front_size, length-append (take at bytes ++ piece) (drop (at + length piece) bytes), length-append (take at bytes) piece, length-drop (at + length piece) bytes);
  }

  -- the piece stands there
  pub stands_at : take (length piece) (drop at (overwritten at piece bytes)) ≡ piece
  stands_at =
      ap (λ (l : List ℕ). take (length piece) (drop at l)) (append_assoc (take at bytes) piece (drop (at + length piece) bytes))
      ∙ ap (λ (l : List ℕ). take (length piece) l) (drop_at (take at bytes) (piece ++ drop (at + length piece) bytes) at front_size)
      ∙ take_at piece (drop (at + length piece) bytes) (length piece) refl

-- an image with the piece in place is torn there
pub torn_to : (at : ℕ) (piece bytes image : List ℕ) → at + length piece ≤ length bytes → image ≡ overwritten at piece bytes → Torn at (length piece) bytes image
torn_to at piece bytes image fits is = subst (λ (l : List ℕ). Torn at (length piece) bytes l) (sym is) (torn_by at piece bytes fits)

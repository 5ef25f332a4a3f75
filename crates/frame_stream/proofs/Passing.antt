-- Whole frames at the front of bytes stay there when more bytes follow, and there is one way to read them.
use Rattle.std.proofs.Common.{◌≡◌, ℕ, ◌+◌, ◌-◌, ◌≤◌, Bool, true, false, nat_lt, ◌==◌, List, [], ◌∷◌, ◌++◌, length, take, drop, slice_index, refl, sym, ◌∙◌, ap, subst, ◌⊎◌, inl, inr, Result, Ok, Err, length-append, arith}
use Rattle.std.proofs.lemmas.Bool.{le-ltb, ltb-false, eqb-false}
use Rattle.std.proofs.lemmas.List.{take-append-le, drop-append-le, length-drop, get_or_append_left}
use Rattle.std.specs.Int.{from_be_bytes, w32}
use Rattle.std.specs.List.{slice_range}
use Rattle.frame_fields.specs.Faults.{Fault}
use Rattle.frame_stream.specs.Frames.{Rules, Next, Waits, Faults, Whole, longest, behind, spelt, frame_of_kind, frame_of_length, next_frame, Passes, IsUnfinished}

-- a part within the front of bytes is the same with more bytes behind them
slice_range-append : (bytes more : List ℕ) (from end : ℕ) → from ≤ end → end ≤ length bytes → slice_range (bytes ++ more) from end ≡ slice_range bytes from end
slice_range-append bytes more from end le within =
    let fits : end - from ≤ length (drop from bytes) = omega (arith, length-drop from bytes) in
    rw (drop-append-le from bytes more (omega arith), take-append-le (end - from) (drop from bytes) more fits)

-- what was told of the front of bytes is told with more of them
Stays : {Item : Type 0} → Next Item → Next Item → Type 0
Stays next later = (next ≡ Waits) ⊎ (later ≡ next)

frame_of_kind-append : {Item : Type 0} (rules : Rules Item) (at len kind : ℕ) (bytes more : List ℕ) → 1 ≤ len
    → Stays (frame_of_kind rules at len kind bytes) (frame_of_kind rules at len kind (bytes ++ more))
unfolding Stays
frame_of_kind-append {Item} rules at len kind bytes more some = listed (rules.is_listed kind) refl where
  whole : (b : Bool) → nat_lt (length bytes) (4 + len) ≡ b → rules.is_listed kind ≡ true → Stays (frame_of_kind rules at len kind bytes) (frame_of_kind rules at len kind (bytes ++ more))
  whole true short e = inl (rw (e, short))
  whole false long e =
      let enough : 4 + len ≤ length bytes = ltb-false _ _ long in
      let later : nat_lt (length (bytes ++ more)) (4 + len) ≡ false = le-ltb _ _ (omega (arith, length-append bytes more)) in
      inr (rw (e, long, later, slice_range-append bytes more 5 (4 + len) (omega arith) enough))

  listed : (b : Bool) → rules.is_listed kind ≡ b → Stays (frame_of_kind rules at len kind bytes) (frame_of_kind rules at len kind (bytes ++ more))
  listed false e = inr (rw e)
  listed true e = whole (nat_lt (length bytes) (4 + len)) refl e

frame_of_length-append : {Item : Type 0} (rules : Rules Item) (at len : ℕ) (bytes more : List ℕ)
    → Stays (frame_of_length rules at len bytes) (frame_of_length rules at len (bytes ++ more))
unfolding Stays
frame_of_length-append {Item} rules at len bytes more = short (nat_lt longest len) refl where
  headed : (b : Bool) → nat_lt (length bytes) 5 ≡ b → nat_lt longest len ≡ false → (len == 0) ≡ false → Stays (frame_of_length rules at len bytes) (frame_of_length rules at len (bytes ++ more))
  headed true e l z = inl (rw (l, z, e))
  headed false e l z =
      let enough : 5 ≤ length bytes = ltb-false _ _ e in
      let later : nat_lt (length (bytes ++ more)) 5 ≡ false = le-ltb _ _ (omega (arith, length-append bytes more)) in
      let kind : slice_index (bytes ++ more) 4 ≡ slice_index bytes 4 = get_or_append_left bytes more 0 4 (omega arith) in
      let some : 1 ≤ len = omega (arith, eqb-false len 0 z) in
      rw (l, z, e, later, kind) (frame_of_kind-append rules at len (slice_index bytes 4) bytes more some)

  some : (b : Bool) → (len == 0) ≡ b → nat_lt longest len ≡ false → Stays (frame_of_length rules at len bytes) (frame_of_length rules at len (bytes ++ more))
  some true z l = inr (rw (l, z))
  some false z l = headed (nat_lt (length bytes) 5) refl l z

  short : (b : Bool) → nat_lt longest len ≡ b → Stays (frame_of_length rules at len bytes) (frame_of_length rules at len (bytes ++ more))
  short true l = inr (rw l)
  short false l = some (len == 0) refl l

next_frame-append : {Item : Type 0} (rules : Rules Item) (at : ℕ) (bytes more : List ℕ) → Stays (next_frame rules at bytes) (next_frame rules at (bytes ++ more))
unfolding Stays next_frame
next_frame-append {Item} rules at bytes more = by (nat_lt (length bytes) 4) refl where
  by : (b : Bool) → nat_lt (length bytes) 4 ≡ b → Stays (next_frame rules at bytes) (next_frame rules at (bytes ++ more))
  by true e = inl (rw e)
  by false e =
      let enough : 4 ≤ length bytes = ltb-false _ _ e in
      let later : nat_lt (length (bytes ++ more)) 4 ≡ false = le-ltb _ _ (omega (arith, length-append bytes more)) in
      rw (e, later, take-append-le 4 bytes more enough) (frame_of_length-append rules at (from_be_bytes w32 (take 4 bytes)) bytes more)

-- a whole frame stays whole, and a fault stays, when more bytes follow
pub whole-append : {Item : Type 0} (rules : Rules Item) (at : ℕ) (bytes more : List ℕ) (item : Item) (size : ℕ) → next_frame rules at bytes ≡ Whole item size
    → next_frame rules at (bytes ++ more) ≡ Whole item size
unfolding Stays
whole-append rules at bytes more item size e = elim (next_frame-append rules at bytes more) [ inl waits ↦ absurd cc | inr same ↦ same ∙ e ]

pub faults-append : {Item : Type 0} (rules : Rules Item) (at : ℕ) (bytes more : List ℕ) (fault : Fault) → next_frame rules at bytes ≡ Faults fault
    → next_frame rules at (bytes ++ more) ≡ Faults fault
unfolding Stays
faults-append rules at bytes more fault e = elim (next_frame-append rules at bytes more) [ inl waits ↦ absurd cc | inr same ↦ same ∙ e ]

-- how many bytes a whole frame has
abbrev size_of : {Item : Type 0} → Next Item → ℕ
size_of Waits = 0
size_of (Faults fault) = 0
size_of (Whole item size) = size

spelt-size : {Item : Type 0} (read : Result Item Fault) (size : ℕ) → size_of (spelt read size) ≤ size
spelt-size (Ok item) size = omega arith
spelt-size (Err fault) size = omega arith

frame_of_kind-size : {Item : Type 0} (rules : Rules Item) (at len kind : ℕ) (bytes : List ℕ) → size_of (frame_of_kind rules at len kind bytes) ≤ length bytes
frame_of_kind-size {Item} rules at len kind bytes = listed (rules.is_listed kind) refl where
  whole : (b : Bool) → nat_lt (length bytes) (4 + len) ≡ b → rules.is_listed kind ≡ true → size_of (frame_of_kind rules at len kind bytes) ≤ length bytes
  whole true short e = rw (e, short) (omega arith)
  whole false long e =
      let enough : 4 + len ≤ length bytes = ltb-false _ _ long in
      let small : size_of (spelt (rules.reads kind (behind at 5) (slice_range bytes 5 (4 + len))) (4 + len)) ≤ 4 + len = spelt-size (rules.reads kind (behind at 5) (slice_range bytes 5 (4 + len))) (4 + len) in
      rw (e, long) (omega arith)

  listed : (b : Bool) → rules.is_listed kind ≡ b → size_of (frame_of_kind rules at len kind bytes) ≤ length bytes
  listed false e = rw e (omega arith)
  listed true e = whole (nat_lt (length bytes) (4 + len)) refl e

frame_of_length-size : {Item : Type 0} (rules : Rules Item) (at len : ℕ) (bytes : List ℕ) → size_of (frame_of_length rules at len bytes) ≤ length bytes
frame_of_length-size {Item} rules at len bytes = short (nat_lt longest len) refl where
  headed : (b : Bool) → nat_lt (length bytes) 5 ≡ b → nat_lt longest len ≡ false → (len == 0) ≡ false → size_of (frame_of_length rules at len bytes) ≤ length bytes
  headed true e l z = rw (l, z, e) (omega arith)
  headed false e l z = rw (l, z, e) (frame_of_kind-size rules at len (slice_index bytes 4) bytes)

  some : (b : Bool) → (len == 0) ≡ b → nat_lt longest len ≡ false → size_of (frame_of_length rules at len bytes) ≤ length bytes
  some true z l = rw (l, z) (omega arith)
  some false z l = headed (nat_lt (length bytes) 5) refl l z

  short : (b : Bool) → nat_lt longest len ≡ b → size_of (frame_of_length rules at len bytes) ≤ length bytes
  short true l = rw l (omega arith)
  short false l = some (len == 0) refl l

next_frame-size : {Item : Type 0} (rules : Rules Item) (at : ℕ) (bytes : List ℕ) → size_of (next_frame rules at bytes) ≤ length bytes
unfolding next_frame
next_frame-size {Item} rules at bytes = by (nat_lt (length bytes) 4) refl where
  by : (b : Bool) → nat_lt (length bytes) 4 ≡ b → size_of (next_frame rules at bytes) ≤ length bytes
  by true e = rw e (omega arith)
  by false e = rw e (frame_of_length-size rules at (from_be_bytes w32 (take 4 bytes)) bytes)

-- a whole frame lies within the bytes
pub whole-size : {Item : Type 0} (rules : Rules Item) (at : ℕ) (bytes : List ℕ) (item : Item) (size : ℕ) → next_frame rules at bytes ≡ Whole item size → size ≤ length bytes
whole-size rules at bytes item size e =
    let within : size_of (next_frame rules at bytes) ≤ length bytes = next_frame-size rules at bytes in
    rw e at within

-- what was passed is passed with more bytes behind the rest
pub passes-append : {Item : Type 0} (rules : Rules Item) (at : ℕ) (bytes more : List ℕ) (items : List Item) (end : ℕ) (rest : List ℕ)
    → Passes rules at bytes items end rest → Passes rules at (bytes ++ more) items end (rest ++ more)
passes-append rules at bytes more [] end rest p = (p.0, ap (λ (b : List ℕ). b ++ more) p.1)
passes-append rules at bytes more (item ∷ items) end rest p =
    let size = p.0 in
    let within : size ≤ length bytes = whole-size rules at bytes item size p.1.0 in
    let later : Passes rules (behind at size) (drop size bytes ++ more) items end (rest ++ more) = passes-append rules (behind at size) (drop size bytes) more items end rest p.1.1 in
    (size, (whole-append rules at bytes more item size p.1.0, rw (drop-append-le size bytes more within) later))

-- frames and then frames are passed one after another
pub passes-trans : {Item : Type 0} (rules : Rules Item) (at : ℕ) (bytes : List ℕ) (xs ys : List Item) (mid : ℕ) (kept : List ℕ) (end : ℕ) (rest : List ℕ)
    → Passes rules at bytes xs mid kept → Passes rules mid kept ys end rest → Passes rules at bytes (xs ++ ys) end rest
passes-trans rules at bytes [] ys mid kept end rest p q = rw (p.0, p.1) at q
passes-trans rules at bytes (x ∷ xs) ys mid kept end rest p q =
    (p.0, (p.1.0, passes-trans rules (behind at p.0) (drop p.0 bytes) xs ys mid kept end rest p.1.1 q))

-- one frame more is passed
pub passes-one : {Item : Type 0} (rules : Rules Item) (at : ℕ) (bytes : List ℕ) (items : List Item) (mid : ℕ) (kept : List ℕ) (item : Item) (size : ℕ)
    → Passes rules at bytes items mid kept → next_frame rules mid kept ≡ Whole item size
    → Passes rules at bytes (items ++ item ∷ []) (behind mid size) (drop size kept)
passes-one rules at bytes items mid kept item size p e =
    passes-trans rules at bytes items (item ∷ []) mid kept (behind mid size) (drop size kept) p (size, (e, (refl, refl)))

-- a whole frame is not unfinished
unfinished-whole : {Item : Type 0} (next : Next Item) (item : Item) (size : ℕ) → next ≡ Whole item size → IsUnfinished next → ⊥
unfinished-whole next item size e u = rw e at u

-- there is one way to pass all whole frames
pub one_passing : {Item : Type 0} (rules : Rules Item) (at : ℕ) (bytes : List ℕ) (xs ys : List Item) (end : ℕ) (rest : List ℕ) (end' : ℕ) (rest' : List ℕ)
    → Passes rules at bytes xs end rest → IsUnfinished (next_frame rules end rest)
    → Passes rules at bytes ys end' rest' → IsUnfinished (next_frame rules end' rest')
    → (xs ≡ ys) × ((end ≡ end') × (rest ≡ rest'))
one_passing rules at bytes [] [] end rest end' rest' p u q v = (refl, (p.0 ∙ sym q.0, p.1 ∙ sym q.1))
one_passing rules at bytes [] (y ∷ ys) end rest end' rest' p u q v =
    absurd (unfinished-whole (next_frame rules end rest) y q.0 (rw (p.0, p.1) q.1.0) u)
one_passing rules at bytes (x ∷ xs) [] end rest end' rest' p u q v =
    absurd (unfinished-whole (next_frame rules end' rest') x p.0 (rw (q.0, q.1) p.1.0) v)
one_passing {Item} rules at bytes (x ∷ xs) (y ∷ ys) end rest end' rest' p u q v =
    let whole : Whole x p.0 ≡ Whole y q.0 = sym p.1.0 ∙ q.1.0 in
    let item : x ≡ y = cc in
    let size : q.0 ≡ p.0 = cc in
    let again : Passes rules (behind at p.0) (drop p.0 bytes) ys end' rest' = subst (λ (n : ℕ). Passes rules (behind at n) (drop n bytes) ys end' rest') size q.1.1 in
    let later : (xs ≡ ys) × ((end ≡ end') × (rest ≡ rest')) = one_passing rules (behind at p.0) (drop p.0 bytes) xs ys end rest end' rest' p.1.1 u again v in
    let items : xs ≡ ys = later.0 in
    (cc, later.1)

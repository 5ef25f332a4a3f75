-- Frames whose fields are read as they are spelt.
use Rattle.std.proofs.Common.{◌≡◌, ℕ, zero, suc, ◌+◌, ◌-◌, ◌/◌, ◌%◌, ◌^◌, ◌<◌, ◌≤◌, Bool, true, false, not, nat_lt, ◌==◌, if◌then◌else◌, List, [], ◌∷◌, ◌++◌, length, take, drop, slice_index, get_or, refl, sym, ◌∙◌, ap, subst, inl, inr, Result, Ok, Err, length-append, arith}
use Rattle.std.proofs.lemmas.Bool.{le-ltb, ltb-false, eqb-false}
use Rattle.std.proofs.lemmas.Bool.Decides.{nat_tests}
use Rattle.std.proofs.lemmas.List.{take-append-drop, take_at, drop_at, length-take-le}
use Rattle.std.proofs.lemmas.Nat.{be_bytes_4, from_be_bytes-to_be_bytes_4}
use Rattle.std.specs.Int.{from_be_bytes, to_be_bytes, w32}
use Rattle.std.specs.List.{slice_range}
use Rattle.jp_types.specs.Limits.{AreBytes}
use Rattle.frame_fields.specs.Faults.{Fault, BadKind, BadLength, TooLong}
use Rattle.frame_fields.specs.Laws.{IsSpelling}
use Rattle.frame_fields.specs.Spelling.{frame_of}
use Rattle.frame_fields.proofs.Spellings.{left-bytes, right-bytes}
use Rattle.frame_stream.specs.Frames.{Rules, Next, Waits, Faults, Whole, longest, behind, spelt, frame_of_kind, frame_of_length, next_frame, Passes, IsUnfinished}

-- How the fields of a frame of each kind are spelt, and which items fit a kind: the rules read each item that fits as it is
-- spelt, and of bytes they read no other.
pub record AreReadAsSpelt {Item : Type 0} (rules : Rules Item) (fields : ℕ → Item → List ℕ) (Fits : ℕ → Item → Type 0) : Type 0 where
  pub listed : (kind : ℕ) (x : Item) → Fits kind x → rules.is_listed kind ≡ true
  pub short : (kind : ℕ) (x : Item) → Fits kind x → length (fields kind x) < longest
  pub reads_back : (kind : ℕ) (x : Item) (at : ℕ) → Fits kind x → rules.reads kind at (fields kind x) ≡ Ok x
  pub was_spelt : (kind : ℕ) (at : ℕ) (bytes : List ℕ) (x : Item) → AreBytes bytes → rules.is_listed kind ≡ true → length bytes < longest → rules.reads kind at bytes ≡ Ok x → IsSpelling (fields kind) (Fits kind) bytes x

-- frames that spell these items stand at the front of bytes, and behind them the rest
abbrev pub AreSpelt : {Item : Type 0} → (ℕ → Item → List ℕ) → (ℕ → Item → Type 0) → List Item → List ℕ → List ℕ → Type 0
AreSpelt fields Fits [] bytes rest = bytes ≡ rest
AreSpelt fields Fits (x ∷ xs) bytes rest =
    (kind : ℕ) × Fits kind x × ((more : List ℕ) × (bytes ≡ frame_of kind (fields kind x) ++ more) × AreSpelt fields Fits xs more rest)

-- ---- A whole frame at the front

-- a frame of a listed kind that is whole
whole-at : {Item : Type 0} (rules : Rules Item) (at a b c d kind m : ℕ) (tail : List ℕ) → from_be_bytes w32 (a ∷ b ∷ c ∷ d ∷ []) ≡ suc m → suc m ≤ longest → rules.is_listed kind ≡ true → m ≤ length tail
    → next_frame rules at (a ∷ b ∷ c ∷ d ∷ kind ∷ tail) ≡ spelt (rules.reads kind (behind at 5) (take m tail)) (4 + suc m)
unfolding next_frame
whole-at {Item} rules at a b c d kind m tail len small listed whole =
    let bytes : List ℕ = a ∷ b ∷ c ∷ d ∷ kind ∷ tail in
    let four : nat_lt (length bytes) 4 ≡ false = le-ltb _ _ (omega arith) in
    let low : nat_lt longest (suc m) ≡ false = le-ltb _ _ small in
    let some : (suc m == 0) ≡ false = grind (arith, nat_tests) in
    let five : nat_lt (length bytes) 5 ≡ false = le-ltb _ _ (omega arith) in
    let all : nat_lt (length bytes) (4 + suc m) ≡ false = le-ltb _ _ (omega (arith, whole)) in
    let count : 4 + suc m - 5 ≡ m = omega arith in
    rw (four, len, low, some, five, listed, all, count) refl

-- a frame as it is spelt reads back, whatever stands behind it
pub reads-back : {Item : Type 0} (rules : Rules Item) (fields : ℕ → Item → List ℕ) (Fits : ℕ → Item → Type 0) → AreReadAsSpelt rules fields Fits → (kind : ℕ) (x : Item) (at : ℕ) (more : List ℕ) → Fits kind x
    → next_frame rules at (frame_of kind (fields kind x) ++ more) ≡ Whole x (length (frame_of kind (fields kind x)))
reads-back {Item} rules fields Fits law kind x at more fits =
    let fs : List ℕ = fields kind x in
    let n : ℕ = length (kind ∷ fs) in
    let small = law.short kind x fits in
    let fits32 : n < 2 ^ 32 = omega (arith, small) in
    let len : from_be_bytes w32 (to_be_bytes w32 n) ≡ n = from_be_bytes-to_be_bytes_4 n fits32 in
    let read : rules.reads kind (behind at 5) (take (length fs) (fs ++ more)) ≡ Ok x = ap (λ (l : List ℕ). rules.reads kind (behind at 5) l) (take_at fs more (length fs) refl) ∙ law.reads_back kind x (behind at 5) fits in
    let whole = whole-at rules at (n / 16777216 % 256) (n / 65536 % 256) (n / 256 % 256) (n % 256) kind (length fs) (fs ++ more) len (omega (arith, small)) (law.listed kind x fits) (let e = length-append fs more in omega arith) in
    let count : 4 + suc (length fs) ≡ suc (suc (suc (suc (suc (length fs))))) = omega arith in
    whole ∙ ap (λ (r : Result Item Fault). spelt r (4 + suc (length fs))) read ∙ ap (λ (m : ℕ). Whole x m) count

-- ---- What a whole frame tells

stop : {A : Type 0} (b : Bool) (s t z : A) → (s ≡ z → ⊥) → (if b then s else t) ≡ z → (b ≡ false) × (t ≡ z)
stop true s t z never e = absurd (never e)
stop false s t z never e = (refl, e)

waits-no : {Item : Type 0} (x : Item) (size : ℕ) → Waits ≡ Whole x size → ⊥
waits-no x size e = absurd cc

faults-no : {Item : Type 0} (fault : Fault) (x : Item) (size : ℕ) → Faults fault ≡ Whole x size → ⊥
faults-no fault x size e = absurd cc

not-not : (b : Bool) → not b ≡ false → b ≡ true
not-not true e = refl
not-not false e = absurd cc

spelt-back : {Item : Type 0} (r : Result Item Fault) (n : ℕ) (x : Item) (size : ℕ) → spelt r n ≡ Whole x size → (r ≡ Ok x) × (size ≡ n)
spelt-back (Ok y) n x size e = (cc, cc)
spelt-back (Err fault) n x size e = absurd cc

-- what the tests of a whole frame say
record IsWhole {Item : Type 0} (rules : Rules Item) (at : ℕ) (bytes : List ℕ) (x : Item) (size len kind : ℕ) : Type 0 where
  small : len ≤ longest
  some : 1 ≤ len
  head : 5 ≤ length bytes
  listed : rules.is_listed kind ≡ true
  whole : 4 + len ≤ length bytes
  read : rules.reads kind (behind at 5) (slice_range bytes 5 (4 + len)) ≡ Ok x
  ends : size ≡ 4 + len

is-whole : {Item : Type 0} (rules : Rules Item) (at : ℕ) (bytes : List ℕ) (x : Item) (size : ℕ) → next_frame rules at bytes ≡ Whole x size → IsWhole rules at bytes x size (from_be_bytes w32 (take 4 bytes)) (slice_index bytes 4)
unfolding next_frame
is-whole {Item} rules at bytes x size e =
    let len : ℕ = from_be_bytes w32 (take 4 bytes) in
    let kind : ℕ = slice_index bytes 4 in
    let z : Next Item = Whole x size in
    let a = stop (nat_lt (length bytes) 4) Waits (frame_of_length rules at len bytes) z (waits-no x size) e in
    let b = stop (nat_lt longest len) (Faults (TooLong at)) (if len == 0 then Faults (BadLength at) else (if nat_lt (length bytes) 5 then Waits else frame_of_kind rules at len kind bytes)) z (faults-no (TooLong at) x size) a.1 in
    let c = stop (len == 0) (Faults (BadLength at)) (if nat_lt (length bytes) 5 then Waits else frame_of_kind rules at len kind bytes) z (faults-no (BadLength at) x size) b.1 in
    let d = stop (nat_lt (length bytes) 5) Waits (frame_of_kind rules at len kind bytes) z (waits-no x size) c.1 in
    let body : Next Item = spelt (rules.reads kind (behind at 5) (slice_range bytes 5 (4 + len))) (4 + len) in
    let f = stop (not (rules.is_listed kind)) (Faults (BadKind (behind at 4))) (if nat_lt (length bytes) (4 + len) then Waits else body) z (faults-no (BadKind (behind at 4)) x size) d.1 in
    let g = stop (nat_lt (length bytes) (4 + len)) Waits body z (waits-no x size) f.1 in
    let h = spelt-back (rules.reads kind (behind at 5) (slice_range bytes 5 (4 + len))) (4 + len) x size g.1 in
    record {
      small = ltb-false longest len b.0;
      some = omega (arith, eqb-false len 0 c.0);
      head = ltb-false (length bytes) 5 d.0;
      listed = not-not (rules.is_listed kind) f.0;
      whole = ltb-false (length bytes) (4 + len) g.0;
      read = h.0;
      ends = h.1;
    }

-- ---- Bytes that read as a frame

by-place : (bs : List ℕ) → AreBytes bs → (i : ℕ) → get_or bs i 0 < 256
by-place [] are i = omega arith
by-place (x ∷ xs) are zero = are x (inl refl)
by-place (x ∷ xs) are (suc i) = by-place xs (λ b h. are b (inr h)) i

-- a frame of a kind that fits stands at the front of bytes
pub record Stands {Item : Type 0} (fields : ℕ → Item → List ℕ) (Fits : ℕ → Item → Type 0) (bytes : List ℕ) (x : Item) (size : ℕ) : Type 0 where
  pub kind : ℕ
  pub fits : Fits kind x
  pub parts : bytes ≡ frame_of kind (fields kind x) ++ drop size bytes
  pub ends : size ≡ length (frame_of kind (fields kind x))

pub was-spelt : {Item : Type 0} (rules : Rules Item) (fields : ℕ → Item → List ℕ) (Fits : ℕ → Item → Type 0) → AreReadAsSpelt rules fields Fits → (at : ℕ) (bytes : List ℕ) (x : Item) (size : ℕ) → AreBytes bytes
    → next_frame rules at bytes ≡ Whole x size → Stands fields Fits bytes x size
was-spelt {Item} rules fields Fits law at bytes x size are e = parts bytes are (is-whole rules at bytes x size e)
  where
    framed : (a b c d k m : ℕ) (tail : List ℕ) → AreBytes (a ∷ b ∷ c ∷ d ∷ k ∷ tail) → from_be_bytes w32 (a ∷ b ∷ c ∷ d ∷ []) ≡ suc m → suc m ≤ longest → rules.is_listed k ≡ true → m ≤ length tail
        → rules.reads k (behind at 5) (take m tail) ≡ Ok x → size ≡ 4 + suc m → Stands fields Fits (a ∷ b ∷ c ∷ d ∷ k ∷ tail) x size
    framed a b c d k m tail all len small listed whole read end =
        let count : length (take m tail) ≡ m = length-take-le m tail whole in
        let tail-bytes : AreBytes tail = λ y i. all y (inr (inr (inr (inr (inr i))))) in
        let front : AreBytes (take m tail) = left-bytes (take m tail) (drop m tail) (subst AreBytes (sym (take-append-drop m tail)) tail-bytes) in
        let was = law.was_spelt k (behind at 5) (take m tail) x front listed (omega (arith, count, small)) read in
        let head : to_be_bytes w32 (suc m) ≡ a ∷ b ∷ c ∷ d ∷ [] = be_bytes_4 (a ∷ b ∷ c ∷ d ∷ []) (suc m) refl (by-place (a ∷ b ∷ c ∷ d ∷ []) (left-bytes (a ∷ b ∷ c ∷ d ∷ []) (k ∷ tail) all)) (sym len) in
        let fs : List ℕ = fields k x in
        let count' : length (k ∷ fs) ≡ suc m = ap suc (ap length (sym was.spelt) ∙ count) in
        let frame : frame_of k fs ≡ a ∷ b ∷ c ∷ d ∷ k ∷ take m tail =
        ap (λ (n : ℕ). to_be_bytes w32 n ++ k ∷ fs) count' ∙ ap (λ (l : List ℕ). l ++ k ∷ fs) head ∙ ap (λ (l : List ℕ). a ∷ b ∷ c ∷ d ∷ k ∷ l) (sym was.spelt) in
        let left : drop size (a ∷ b ∷ c ∷ d ∷ k ∷ tail) ≡ drop m tail = ap (λ (n : ℕ). drop n (a ∷ b ∷ c ∷ d ∷ k ∷ tail)) (the-size m end) in
        let both : a ∷ b ∷ c ∷ d ∷ k ∷ tail ≡ frame_of k fs ++ drop size (a ∷ b ∷ c ∷ d ∷ k ∷ tail) =
        ap (λ (l : List ℕ). a ∷ b ∷ c ∷ d ∷ k ∷ l) (sym (take-append-drop m tail)) ∙ ap (λ (l : List ℕ). l ++ drop m tail) (sym frame) ∙ ap (λ (l : List ℕ). frame_of k fs ++ l) (sym left) in
        let long : size ≡ suc (suc (suc (suc (length (k ∷ fs))))) = omega (arith, end, count') in
        record { kind = k; fits = was.fits; parts = both; ends = long }
      where
        the-size : (n : ℕ) → size ≡ 4 + suc n → size ≡ suc (suc (suc (suc (suc n))))
        the-size n e = omega (arith, e)

    parts : (bs : List ℕ) → AreBytes bs → IsWhole rules at bs x size (from_be_bytes w32 (take 4 bs)) (slice_index bs 4) → Stands fields Fits bs x size
    parts [] all w = absurd (omega (arith, w.head))
    parts (a ∷ []) all w = absurd (omega (arith, w.head))
    parts (a ∷ b ∷ []) all w = absurd (omega (arith, w.head))
    parts (a ∷ b ∷ c ∷ []) all w = absurd (omega (arith, w.head))
    parts (a ∷ b ∷ c ∷ d ∷ []) all w = absurd (omega (arith, w.head))
    parts (a ∷ b ∷ c ∷ d ∷ k ∷ tail) all w = go (from_be_bytes w32 (a ∷ b ∷ c ∷ d ∷ [])) refl w
      where
        go : (len : ℕ) → from_be_bytes w32 (a ∷ b ∷ c ∷ d ∷ []) ≡ len → IsWhole rules at (a ∷ b ∷ c ∷ d ∷ k ∷ tail) x size len k → Stands fields Fits (a ∷ b ∷ c ∷ d ∷ k ∷ tail) x size
        go zero f v = absurd (omega (arith, v.some))
        go (suc m) f v =
            let count : 4 + suc m - 5 ≡ m = omega arith in
            let read : rules.reads k (behind at 5) (take m tail) ≡ Ok x = ap (λ (n : ℕ). rules.reads k (behind at 5) (take n tail)) (sym count) ∙ v.read in
            framed a b c d k m tail all f v.small v.listed (omega (arith, v.whole)) read v.ends

-- ---- No frame is the front of another

whole-parts : {Item : Type 0} (x y : Item) (m n : ℕ) → Whole x m ≡ Whole y n → (x ≡ y) × (m ≡ n)
whole-parts x y m n e = (cc, cc)

-- the frame of an item and a kind that stands at the front is the only one
pub only-front : {Item : Type 0} (rules : Rules Item) (fields : ℕ → Item → List ℕ) (Fits : ℕ → Item → Type 0) → AreReadAsSpelt rules fields Fits → (kind other : ℕ) (x y : Item) (more rest : List ℕ) → Fits kind x → Fits other y
    → frame_of kind (fields kind x) ++ more ≡ frame_of other (fields other y) ++ rest → (kind ≡ other) × (x ≡ y) × (more ≡ rest)
only-front {Item} rules fields Fits law kind other x y more rest fits fits' e =
    let one = reads-back rules fields Fits law kind x 0 more fits in
    let two = reads-back rules fields Fits law other y 0 rest fits' in
    let same = whole-parts x y (length (frame_of kind (fields kind x))) (length (frame_of other (fields other y))) (sym one ∙ ap (λ (l : List ℕ). next_frame rules 0 l) e ∙ two) in (
      ap (λ (l : List ℕ). slice_index l 4) e,
      same.0,
      sym (drop_at (frame_of kind (fields kind x)) more (length (frame_of kind (fields kind x))) refl) ∙ ap (λ (l : List ℕ). drop (length (frame_of kind (fields kind x))) l) e
          ∙ drop_at (frame_of other (fields other y)) rest (length (frame_of kind (fields kind x))) (sym same.1),
    )

-- ---- Streams

-- whole frames that were passed are spelt in front
pub passed-spelt : {Item : Type 0} (rules : Rules Item) (fields : ℕ → Item → List ℕ) (Fits : ℕ → Item → Type 0) → AreReadAsSpelt rules fields Fits → (at : ℕ) (bytes : List ℕ) (items : List Item) (end : ℕ) (rest : List ℕ)
    → AreBytes bytes → Passes rules at bytes items end rest → AreSpelt fields Fits items bytes rest
passed-spelt rules fields Fits law at bytes [] end rest are p = sym p.1
passed-spelt {Item} rules fields Fits law at bytes (x ∷ xs) end rest are p =
    let size = p.0 in
    let s = was-spelt rules fields Fits law at bytes x size are p.1.0 in
    let left : AreBytes (drop size bytes) = right-bytes (frame_of s.kind (fields s.kind x)) (drop size bytes) (subst AreBytes s.parts are) in
    (s.kind, s.fits, (drop size bytes, s.parts, passed-spelt rules fields Fits law (behind at size) (drop size bytes) xs end rest left p.1.1))

-- frames that are spelt in front are among those that are read
pub spelt-read : {Item : Type 0} (rules : Rules Item) (fields : ℕ → Item → List ℕ) (Fits : ℕ → Item → Type 0) → AreReadAsSpelt rules fields Fits → (at : ℕ) (bytes : List ℕ) (items : List Item) (end : ℕ) (rest : List ℕ) (others : List Item) (left : List ℕ)
    → Passes rules at bytes items end rest → IsUnfinished (next_frame rules end rest) → AreSpelt fields Fits others bytes left → (more : List Item) × (items ≡ others ++ more)
spelt-read rules fields Fits law at bytes items end rest [] left p u s = (items, refl)
spelt-read {Item} rules fields Fits law at bytes [] end rest (y ∷ ys) left p u s =
    let whole = reads-back rules fields Fits law s.0 y at s.2.0 s.1 in
    let at-end : next_frame rules end rest ≡ Whole y (length (frame_of s.0 (fields s.0 y))) = ap (λ (n : ℕ). next_frame rules n rest) p.0 ∙ ap (λ (l : List ℕ). next_frame rules at l) (p.1 ∙ s.2.1) ∙ whole in
    absurd (finished (next_frame rules end rest) y (length (frame_of s.0 (fields s.0 y))) at-end u)
  where
    finished : (next : Next Item) (z : Item) (size : ℕ) → next ≡ Whole z size → IsUnfinished next → ⊥
    finished Waits z size e v = absurd cc
    finished (Faults fault) z size e v = absurd cc
    finished (Whole w n) z size e v = v
spelt-read {Item} rules fields Fits law at bytes (x ∷ xs) end rest (y ∷ ys) left p u s =
    let whole = reads-back rules fields Fits law s.0 y at s.2.0 s.1 in
    let size = length (frame_of s.0 (fields s.0 y)) in
    let same = whole-parts x y p.0 size (sym p.1.0 ∙ ap (λ (l : List ℕ). next_frame rules at l) s.2.1 ∙ whole) in
    let behind-it : drop p.0 bytes ≡ s.2.0 = ap (λ (n : ℕ). drop n bytes) same.1 ∙ ap (λ (l : List ℕ). drop size l) s.2.1 ∙ drop_at (frame_of s.0 (fields s.0 y)) s.2.0 size refl in
    let later = spelt-read rules fields Fits law (behind at p.0) (drop p.0 bytes) xs end rest ys left p.1.1 u (subst (λ (l : List ℕ). AreSpelt fields Fits ys l left) (sym behind-it) s.2.2) in
    (later.0, ap (λ (z : Item). z ∷ xs) same.0 ∙ ap (λ (l : List Item). y ∷ l) later.1)

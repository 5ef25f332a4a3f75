-- Equality of numbers as a test, and lists with one element changed.
use Rattle.std.proofs.Common.{◌≡◌, ℕ, zero, suc, ◌<◌, true, false, List, [], ◌∷◌, length, ◌==◌, slice_index_or, slice_set, if◌then◌else◌, inl, inr, refl, sym, ap, ◌∙◌, arith}
use Rattle.std.proofs.lemmas.Bool.Decides.{nat_tests, eqb_tells}

suc-zero : (a : ℕ) → (suc a == 0) ≡ false
suc-zero a = grind (arith, nat_tests)

zero-suc : (a : ℕ) → (0 == suc a) ≡ false
zero-suc a = grind (arith, nat_tests)

suc-suc : (a b : ℕ) → (suc a == suc b) ≡ (a == b)
suc-suc a b = elim (eqb_tells a b) [
  | inl h ↦ (let t = h.0 in let e = h.1 in let u : (suc a == suc b) ≡ true = grind (arith, nat_tests) in u ∙ sym t)
  | inr h ↦ (let t = h.0 in let ne = h.1 in let u : (suc a == suc b) ≡ false = grind (arith, nat_tests) in u ∙ sym t)
]

pub same-self : (a : ℕ) → (a == a) ≡ true
same-self a = grind (arith, nat_tests)

pub same-sym : (a b : ℕ) → (a == b) ≡ (b == a)
same-sym a b = elim (eqb_tells a b) [
  | inl h ↦ (let t = h.0 in let e = h.1 in let u : (b == a) ≡ true = grind (arith, nat_tests) in t ∙ sym u)
  | inr h ↦ (let t = h.0 in let ne = h.1 in let u : (b == a) ≡ false = grind (arith, nat_tests) in t ∙ sym u)
]

-- what is at p after x was set at f
pub set-at : {X : Type 0} (xs : List X) (d x : X) (f p : ℕ) → f < length xs → slice_index_or (slice_set xs f x) p d ≡ (if p == f then x else slice_index_or xs p d)
set-at [] d x f p h = absurd (omega arith)
set-at (y ∷ ys) d x zero zero h = refl
set-at (y ∷ ys) d x zero (suc p) h = rw (suc-zero p) refl
set-at (y ∷ ys) d x (suc f) zero h = rw (zero-suc f) refl
set-at (y ∷ ys) d x (suc f) (suc p) h = rw (suc-suc p f) (set-at ys d x f p (omega arith))

pub set-length : {X : Type 0} (xs : List X) (f : ℕ) (x : X) → length (slice_set xs f x) ≡ length xs
set-length [] zero x = refl
set-length [] (suc f) x = refl
set-length (y ∷ ys) zero x = refl
set-length (y ∷ ys) (suc f) x = ap suc (set-length ys f x)

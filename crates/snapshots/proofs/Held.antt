-- The parts held of bytes, as those pieces of them whose offset passes a test.
use Rattle.std.proofs.Common.{◌≡◌, ℕ, zero, suc, ◌+◌, ◌*◌, ◌≤◌, ◌<◌, Bool, true, false, cond, ◌||◌, ◌&&◌, ◌==◌, List, [], ◌∷◌, ◌++◌, length, take, drop, Some, None, refl, sym, ap, subst, ◌∙◌, arith, nat_cmp, Less, Equal, Greater}
use Rattle.std.specs.List.{flat_map, list_all}
use Rattle.std.specs.BTreeMap.{insert_entry}
use Rattle.std.specs.Cmp.{nat_cmp_is}
use Rattle.std.specs.Ordering.{match_ordering, is_eq}
use Rattle.std.proofs.lemmas.Bool.Decides.{nat_tests}
use Rattle.std.proofs.lemmas.List.{drop_all}
use Rattle.kv_service.specs.Entries
use Rattle.kv_service.specs.Parts.{part_size}
use Rattle.snapshots.specs.Cutting.{cut_from}
use Rattle.snapshots.proofs.Cuts.{split-at}

abbrev pub Part : Type 0
Part = ℕ × List ℕ

-- the bytes of the part at an offset
abbrev pub piece : List ℕ → ℕ → List ℕ
piece bytes at = take part_size (drop at bytes)

-- of k pieces from an offset on, those at the offsets that pass the test
abbrev pub held : (ℕ → Bool) → ℕ → List ℕ → ℕ → List Part
held t zero bytes at = []
held t (suc k) bytes at = cond (t at) ((at, piece bytes at) ∷ held t k bytes (at + part_size)) (held t k bytes (at + part_size))

-- the test that one more offset passes
abbrev pub or_at : (ℕ → Bool) → ℕ → ℕ → Bool
or_at t q x = t x || (x == q)

pub less : (x y : ℕ) → x < y → nat_cmp x y ≡ Less
less x y h = sym (nat_cmp_is x y Less h)

pub alike : (x : ℕ) → nat_cmp x x ≡ Equal
alike x = sym (nat_cmp_is x x Equal refl)

pub more : (x y : ℕ) → y < x → nat_cmp x y ≡ Greater
more x y h = sym (nat_cmp_is x y Greater h)

pub itself : (x : ℕ) → (x == x) ≡ true
itself x = grind (arith, nat_tests)

above : (x y : ℕ) → y < x → (x == y) ≡ false
above x y h = grind (arith, nat_tests)

below : (x y : ℕ) → x < y → (x == y) ≡ false
below x y h = grind (arith, nat_tests)

-- a head that one more test leaves out
unmoved : (b c : Bool) (p : Part) (xs ys : List Part) → c ≡ false → xs ≡ ys → cond (b || c) (p ∷ xs) xs ≡ cond b (p ∷ ys) ys
unmoved true c p xs ys e f = ap (λ l. p ∷ l) f
unmoved false c p xs ys e f = ap (λ x. cond x (p ∷ xs) xs) e ∙ f

-- and one that it takes in
moved : (b c : Bool) (p : Part) (xs ys : List Part) → c ≡ true → xs ≡ ys → cond (b || c) (p ∷ xs) xs ≡ p ∷ ys
moved true c p xs ys e f = ap (λ l. p ∷ l) f
moved false c p xs ys e f = ap (λ x. cond x (p ∷ xs) xs) e ∙ ap (λ l. p ∷ l) f

-- ---- An offset below all of them

none-below : (t : ℕ → Bool) (k : ℕ) (bytes : List ℕ) (at q : ℕ) → q < at → Entries.get nat_cmp (held t k bytes at) q ≡ None
none-below t zero bytes at q h = refl
none-below t (suc k) bytes at q h = by (t at) (none-below t k bytes (at + part_size) q (omega arith)) where
  by : (b : Bool) → Entries.get nat_cmp (held t k bytes (at + part_size)) q ≡ None
      → Entries.get nat_cmp (cond b ((at, piece bytes at) ∷ held t k bytes (at + part_size)) (held t k bytes (at + part_size))) q ≡ None
  by false ih = ih
  by true ih = ap (λ o. cond (is_eq o) (Some (piece bytes at)) (Entries.get nat_cmp (held t k bytes (at + part_size)) q)) (less q at h) ∙ ih

insert-below : (t : ℕ → Bool) (k : ℕ) (bytes : List ℕ) (at q : ℕ) (v : List ℕ) → q < at → insert_entry nat_cmp (held t k bytes at) q v ≡ (q, v) ∷ held t k bytes at
insert-below t zero bytes at q v h = refl
insert-below t (suc k) bytes at q v h = by (t at) (insert-below t k bytes (at + part_size) q v (omega arith)) where
  by : (b : Bool) → insert_entry nat_cmp (held t k bytes (at + part_size)) q v ≡ (q, v) ∷ held t k bytes (at + part_size)
      → insert_entry nat_cmp (cond b ((at, piece bytes at) ∷ held t k bytes (at + part_size)) (held t k bytes (at + part_size))) q v
      ≡ (q, v) ∷ cond b ((at, piece bytes at) ∷ held t k bytes (at + part_size)) (held t k bytes (at + part_size))
  by false ih = ih
  by true ih =
      let es = held t k bytes (at + part_size) in
      ap (λ o. match_ordering o ((q, v) ∷ (at, piece bytes at) ∷ es) ((at, v) ∷ es) ((at, piece bytes at) ∷ insert_entry nat_cmp es q v)) (less q at h)

test-below : (t : ℕ → Bool) (k : ℕ) (bytes : List ℕ) (at q : ℕ) → q < at → held (or_at t q) k bytes at ≡ held t k bytes at
test-below t zero bytes at q h = refl
test-below t (suc k) bytes at q h =
    unmoved (t at) (at == q) (at, piece bytes at) (held (or_at t q) k bytes (at + part_size)) (held t k bytes (at + part_size)) (above at q h) (test-below t k bytes (at + part_size) q (omega arith))

-- ---- The offset of the i-th

pub get-held : (t : ℕ → Bool) (k : ℕ) (bytes : List ℕ) (at i q : ℕ) → q ≡ at + part_size * i → i < k → Entries.get nat_cmp (held t k bytes at) q ≡ cond (t q) (Some (piece bytes q)) None
get-held t zero bytes at i q e lt = absurd (omega arith)
get-held t (suc k) bytes at zero q e lt = let is : q ≡ at = omega arith in rw is (first (t at)) where
  first : (b : Bool) → Entries.get nat_cmp (cond b ((at, piece bytes at) ∷ held t k bytes (at + part_size)) (held t k bytes (at + part_size))) at ≡ cond b (Some (piece bytes at)) None
  first true = ap (λ o. cond (is_eq o) (Some (piece bytes at)) (Entries.get nat_cmp (held t k bytes (at + part_size)) at)) (alike at)
  first false = none-below t k bytes (at + part_size) at (omega arith)
get-held t (suc k) bytes at (suc i) q e lt = by (t at) (get-held t k bytes (at + part_size) i q (omega arith) (omega arith)) where
  by : (b : Bool) → Entries.get nat_cmp (held t k bytes (at + part_size)) q ≡ cond (t q) (Some (piece bytes q)) None
      → Entries.get nat_cmp (cond b ((at, piece bytes at) ∷ held t k bytes (at + part_size)) (held t k bytes (at + part_size))) q ≡ cond (t q) (Some (piece bytes q)) None
  by false ih = ih
  by true ih = ap (λ o. cond (is_eq o) (Some (piece bytes at)) (Entries.get nat_cmp (held t k bytes (at + part_size)) q)) (more q at (omega arith)) ∙ ih

insert-first : (t : ℕ → Bool) (k : ℕ) (bytes : List ℕ) (at : ℕ) → insert_entry nat_cmp (held t (suc k) bytes at) at (piece bytes at) ≡ held (or_at t at) (suc k) bytes at
insert-first t k bytes at =
    first (t at)
    ∙ sym (moved (t at) (at == at) (at, piece bytes at) (held (or_at t at) k bytes (at + part_size)) (held t k bytes (at + part_size)) (itself at) (test-below t k bytes (at + part_size) at (omega arith)))
  where
    first : (b : Bool) → insert_entry nat_cmp (cond b ((at, piece bytes at) ∷ held t k bytes (at + part_size)) (held t k bytes (at + part_size))) at (piece bytes at) ≡ (at, piece bytes at) ∷ held t k bytes (at + part_size)
    first true =
        let p = piece bytes at in
        let es = held t k bytes (at + part_size) in
        ap (λ o. match_ordering o ((at, p) ∷ (at, p) ∷ es) ((at, p) ∷ es) ((at, p) ∷ insert_entry nat_cmp es at p)) (alike at)
    first false = insert-below t k bytes (at + part_size) at (piece bytes at) (omega arith)

pub insert-held : (t : ℕ → Bool) (k : ℕ) (bytes : List ℕ) (at i q : ℕ) → q ≡ at + part_size * i → i < k → insert_entry nat_cmp (held t k bytes at) q (piece bytes q) ≡ held (or_at t q) k bytes at
insert-held t zero bytes at i q e lt = absurd (omega arith)
insert-held t (suc k) bytes at zero q e lt =
    let is : at ≡ q = omega arith in
    subst (λ (x : ℕ). insert_entry nat_cmp (held t (suc k) bytes at) x (piece bytes x) ≡ held (or_at t x) (suc k) bytes at) is (insert-first t k bytes at)
insert-held t (suc k) bytes at (suc i) q e lt = by (t at) (insert-held t k bytes (at + part_size) i q (omega arith) (omega arith)) where
  by : (b : Bool) → insert_entry nat_cmp (held t k bytes (at + part_size)) q (piece bytes q) ≡ held (or_at t q) k bytes (at + part_size)
      → insert_entry nat_cmp (cond b ((at, piece bytes at) ∷ held t k bytes (at + part_size)) (held t k bytes (at + part_size))) q (piece bytes q)
      ≡ cond (b || (at == q)) ((at, piece bytes at) ∷ held (or_at t q) k bytes (at + part_size)) (held (or_at t q) k bytes (at + part_size))
  by false ih = ih ∙ ap (λ b. cond b ((at, piece bytes at) ∷ held (or_at t q) k bytes (at + part_size)) (held (or_at t q) k bytes (at + part_size))) (sym (below at q (omega arith)))
  by true ih =
      let p = piece bytes at in
      let v = piece bytes q in
      let es = held t k bytes (at + part_size) in
      ap (λ o. match_ordering o ((q, v) ∷ (at, p) ∷ es) ((at, v) ∷ es) ((at, p) ∷ insert_entry nat_cmp es q v)) (more q at (omega arith)) ∙ ap (λ l. (at, p) ∷ l) ih

-- ---- All of them

length-held : (t : ℕ → Bool) (k : ℕ) (bytes : List ℕ) (at : ℕ) → length (held t k bytes at) ≤ k
length-held t zero bytes at = omega arith
length-held t (suc k) bytes at = by (t at) (length-held t k bytes (at + part_size)) where
  by : (b : Bool) → length (held t k bytes (at + part_size)) ≤ k → length (cond b ((at, piece bytes at) ∷ held t k bytes (at + part_size)) (held t k bytes (at + part_size))) ≤ suc k
  by true ih = omega arith
  by false ih = omega arith

one_more : (x y : ℕ) → (suc x == suc y) ≡ (x == y)
one_more x y = grind (arith, nat_tests)

-- as many are held as there are exactly where each offset passes
pub all-held : (t : ℕ → Bool) (k upto : ℕ) (bytes : List ℕ) (at : ℕ) → (length (held t k bytes at) == k) ≡ list_all (λ part. t part.at) (cut_from k upto bytes at)
all-held t zero upto bytes at = refl
all-held t (suc k) upto bytes at = by (t at) (all-held t k upto bytes (at + part_size)) (length-held t k bytes (at + part_size)) where
  by : (b : Bool) → (length (held t k bytes (at + part_size)) == k) ≡ list_all (λ part. t part.at) (cut_from k upto bytes (at + part_size)) → length (held t k bytes (at + part_size)) ≤ k
      → (length (cond b ((at, piece bytes at) ∷ held t k bytes (at + part_size)) (held t k bytes (at + part_size))) == suc k) ≡ (b && list_all (λ part. t part.at) (cut_from k upto bytes (at + part_size)))
  by true ih le = one_more (length (held t k bytes (at + part_size))) k ∙ ih
  by false ih le = below (length (held t k bytes (at + part_size))) (suc k) (omega arith)

both : (a b : Bool) → (a && b) ≡ true → (a ≡ true) × (b ≡ true)
both true b e = (refl, e)
both false b e = absurd cc

-- and then they are the bytes
pub held-joins : (t : ℕ → Bool) (k upto : ℕ) (bytes : List ℕ) (at : ℕ) → length bytes ≤ at + part_size * k → list_all (λ part. t part.at) (cut_from k upto bytes at) ≡ true
    → flat_map (λ part. part.1) (held t k bytes at) ≡ drop at bytes
held-joins t zero upto bytes at le all = sym (drop_all at bytes (omega arith))
held-joins t (suc k) upto bytes at le all =
    let h = both (t at) (list_all (λ part. t part.at) (cut_from k upto bytes (at + part_size))) all in
    let es = held t k bytes (at + part_size) in
    ap (λ b. flat_map (λ part. part.1) (cond b ((at, piece bytes at) ∷ es) es)) h.0
    ∙ ap (λ rest. piece bytes at ++ rest) (held-joins t k upto bytes (at + part_size) (omega arith) h.1)
    ∙ split-at bytes at part_size

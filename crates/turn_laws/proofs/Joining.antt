-- A snapshot that is joined: parts in their order, and when all are there.
use Rattle.std.proofs.Common.{◌≡◌, ◌≢◌, ℕ, zero, suc, ◌+◌, ◌*◌, ◌≤◌, ◌<◌, ◌⊎◌, Bool, true, false, cond, List, [], ◌∷◌, ◌++◌, map, length, leb, eqb, Some, slice_get, refl, sym, ap, subst, ◌∙◌, inl, inr, ⊎_elim, arith, Ordering, Less, Equal, Greater, nat_cmp}
use Rattle.std.proofs.lemmas.Bool.Decides.{leb_tells, eqb_tells}
use Rattle.std.specs.BTreeMap.{insert_entry}
use Rattle.std.specs.Ordering.{match_ordering}
use Rattle.std.specs.List.{flat_map}
use Rattle.jp_types.specs.Lists.{In}
use Rattle.kv_service.specs.Parts.{part_size}
use Rattle.kv_service.specs.Parts.{part_count}
use Rattle.turn_laws.proofs.Fitting.{Rising}

abbrev Part : Type 0
Part = ℕ × List ℕ

-- ---- Insertion

cmp-cases : (x y : ℕ) → ((nat_cmp x y ≡ Less) × (x < y)) ⊎ (((nat_cmp x y ≡ Equal) × (x ≡ y)) ⊎ ((nat_cmp x y ≡ Greater) × (y < x)))
cmp-cases x y = go (leb_tells (suc x) y) (eqb_tells x y)
  where
    go : ((leb (suc x) y ≡ true) × (suc x ≤ y)) ⊎ ((leb (suc x) y ≡ false) × (y < suc x)) → ((eqb x y ≡ true) × (x ≡ y)) ⊎ ((eqb x y ≡ false) × (x ≢ y))
        → ((nat_cmp x y ≡ Less) × (x < y)) ⊎ (((nat_cmp x y ≡ Equal) × (x ≡ y)) ⊎ ((nat_cmp x y ≡ Greater) × (y < x)))
    go (inl a) b = inl (ap (λ (t : Bool). cond t Less (cond (eqb x y) Equal Greater)) a.0, a.1)
    go (inr a) (inl b) = inr (inl (ap (λ (t : Bool). cond t Less (cond (eqb x y) Equal Greater)) a.0 ∙ ap (λ (t : Bool). cond t Equal Greater) b.0, b.1))
    go (inr a) (inr b) =
        let ne = b.1 in
        let ge = a.1 in
        inr (inr (ap (λ (t : Bool). cond t Less (cond (eqb x y) Equal Greater)) a.0 ∙ ap (λ (t : Bool). cond t Equal Greater) b.0, omega arith))

pub insert-in : (es : List Part) (k : ℕ) (v : List ℕ) (a : Part) → In a (insert_entry nat_cmp es k v) → (a ≡ (k, v)) ⊎ In a es
insert-in [] k v a (inl e) = inl e
insert-in [] k v a (inr n) = absurd n
insert-in (e ∷ es) k v a n = go (λ m. insert-in es k v a m) (cmp-cases k e.0)
  where
    at : (o : Ordering) → nat_cmp k e.0 ≡ o → In a (match_ordering o ((k, v) ∷ e ∷ es) ((e.0, v) ∷ es) (e ∷ insert_entry nat_cmp es k v))
    at o f = subst (λ (x : Ordering). In a (match_ordering x ((k, v) ∷ e ∷ es) ((e.0, v) ∷ es) (e ∷ insert_entry nat_cmp es k v))) f n

    less : In a ((k, v) ∷ e ∷ es) → (a ≡ (k, v)) ⊎ In a (e ∷ es)
    less (inl f) = inl f
    less (inr m) = inr m

    same : k ≡ e.0 → In a ((e.0, v) ∷ es) → (a ≡ (k, v)) ⊎ In a (e ∷ es)
    same f (inl g) = inl (g ∙ ap (λ (x : ℕ). (x, v)) (sym f))
    same f (inr m) = inr (inr m)

    more : (In a (insert_entry nat_cmp es k v) → (a ≡ (k, v)) ⊎ In a es) → In a (e ∷ insert_entry nat_cmp es k v) → (a ≡ (k, v)) ⊎ In a (e ∷ es)
    more again (inl f) = inr (inl f)
    more again (inr m) = ⊎_elim (λ f. inl f) (λ i. inr (inr i)) (again m)

    go : (In a (insert_entry nat_cmp es k v) → (a ≡ (k, v)) ⊎ In a es) → ((nat_cmp k e.0 ≡ Less) × (k < e.0)) ⊎ (((nat_cmp k e.0 ≡ Equal) × (k ≡ e.0)) ⊎ ((nat_cmp k e.0 ≡ Greater) × (e.0 < k))) → (a ≡ (k, v)) ⊎ In a (e ∷ es)
    go again (inl c) = less (at Less c.0)
    go again (inr (inl c)) = same c.1 (at Equal c.0)
    go again (inr (inr c)) = more again (at Greater c.0)

pub insert-rising : (es : List Part) (k : ℕ) (v : List ℕ) → Rising es → Rising (insert_entry nat_cmp es k v)
insert-rising [] k v up = (λ b n. absurd n, tt)
insert-rising (e ∷ es) k v up = go (insert-rising es k v up.1) (cmp-cases k e.0)
  where
    at : (o : Ordering) → nat_cmp k e.0 ≡ o → Rising (match_ordering o ((k, v) ∷ e ∷ es) ((e.0, v) ∷ es) (e ∷ insert_entry nat_cmp es k v))
        → Rising (insert_entry nat_cmp (e ∷ es) k v)
    at o f = subst (λ (x : Ordering). Rising (match_ordering x ((k, v) ∷ e ∷ es) ((e.0, v) ∷ es) (e ∷ insert_entry nat_cmp es k v))) (sym f)

    above : k < e.0 → (b : Part) → In b (e ∷ es) → k < b.0
    above lt b (inl f) = let g = ap (λ (x : Part). x.0) f in omega arith
    above lt b (inr n) = let g = up.0 b n in omega arith

    below : e.0 < k → (b : Part) → (b ≡ (k, v)) ⊎ In b es → e.0 < b.0
    below lt b (inl f) = let g : b.0 ≡ k = ap (λ (x : Part). x.0) f in omega arith
    below lt b (inr n) = up.0 b n

    go : Rising (insert_entry nat_cmp es k v) → ((nat_cmp k e.0 ≡ Less) × (k < e.0)) ⊎ (((nat_cmp k e.0 ≡ Equal) × (k ≡ e.0)) ⊎ ((nat_cmp k e.0 ≡ Greater) × (e.0 < k))) → Rising (insert_entry nat_cmp (e ∷ es) k v)
    go again (inl c) = at Less c.0 (above c.1, up)
    go again (inr (inl c)) = at Equal c.0 up
    go again (inr (inr c)) = at Greater c.0 (λ b n. below c.1 b (insert-in es k v b n), again)

-- ---- All parts

-- parts at multiples of the part size, from the one with number `low` on, below the total
pub record Cut (total low : ℕ) (parts : List Part) : Type 0 where
  pub from : (a : Part) → In a parts → part_size * low ≤ a.0
  pub cut : (a : Part) → In a parts → (q : ℕ) × (a.0 ≡ part_size * q)
  pub below : (a : Part) → In a parts → a.0 < total
  pub rising : Rising parts

-- the parts behind the first one
behind : (total low : ℕ) (a : Part) (parts : List Part) → Cut total low (a ∷ parts) → (q : ℕ) → part_size * q ≤ a.0 → Cut total (suc q) parts
behind total low a parts h q le =
    record {
      from = λ b n.
          let up = h.rising.0 b n in
          let c = h.cut b (inr n) in
          let e = c.1 in
          let k = c.0 in
          omega arith;
      cut = λ b n. h.cut b (inr n);
      below = λ b n. h.below b (inr n);
      rising = h.rising.1;
    }

room : (total low : ℕ) (a : Part) (parts : List Part) → Cut total low (a ∷ parts) → part_size * (low + length parts) < total
room total low a [] h = let b = h.below a (inl refl) in let f = h.from a (inl refl) in omega arith
room total low a (b ∷ parts) h = let r = room total (suc low) b parts (behind total low a (b ∷ parts) h low (h.from a (inl refl))) in omega arith

-- where as many parts are held as the total has, the k-th is at its offset
pub placed : (total low : ℕ) (parts : List Part) → Cut total low parts → low + length parts ≡ part_count total → (k : ℕ) (a : Part) → slice_get parts k ≡ Some a → a.0 ≡ part_size * (low + k)
placed total low [] h all k a e = cc
placed total low (b ∷ parts) h all k a e = go k e (λ j f. placed total (suc low) parts (behind total low b parts h low (h.from b (inl refl))) (omega arith) j a f)
  where
    first : b.0 ≡ part_size * low
    first =
        let f = h.from b (inl refl) in
        let c = h.cut b (inl refl) in
        let q = c.0 in
        let g = c.1 in
        let over : suc low ≤ q → ⊥ = λ lt.
        let higher : Cut total (suc low) (b ∷ parts) = record {
          from = λ x n. up lt x n;
          cut = h.cut;
          below = h.below;
          rising = h.rising;
        } in
        let r = room total (suc low) b parts higher in omega arith in
        ⊎_elim (λ lt. absurd (over lt)) (λ le. omega arith) (split (suc low) q)
      where
        split : (x y : ℕ) → (x ≤ y) ⊎ (y < x)
        split x y = grind arith

        up : suc low ≤ (h.cut b (inl refl)).0 → (x : Part) → In x (b ∷ parts) → part_size * suc low ≤ x.0
        up lt x (inl f) = let g = ap (λ (y : Part). y.0) f in let c = (h.cut b (inl refl)).1 in omega arith
        up lt x (inr n) = let g = h.rising.0 x n in let c = (h.cut b (inl refl)).1 in omega arith

    go : (k : ℕ) → slice_get (b ∷ parts) k ≡ Some a → ((j : ℕ) → slice_get parts j ≡ Some a → a.0 ≡ part_size * (suc low + j)) → a.0 ≡ part_size * (low + k)
    go zero e again = let f : b ≡ a = cc in let g = ap (λ (y : Part). y.0) f in let h = first in omega arith
    go (suc j) e again = let f = again j e in omega arith

pub count-all : (total k : ℕ) → k ≡ part_count total → total ≤ part_size * k
count-all total k e = omega arith

-- ---- Lists

pub get-map : {X Y : Type 0} (f : X → Y) (xs : List X) (k : ℕ) (y : Y) → slice_get (map f xs) k ≡ Some y → (x : X) × (slice_get xs k ≡ Some x) × (f x ≡ y)
get-map f [] k y e = absurd cc
get-map f (x ∷ xs) zero y e = (x, refl, cc)
get-map f (x ∷ xs) (suc k) y e = get-map f xs k y e

pub get-in : {X : Type 0} (xs : List X) (k : ℕ) (x : X) → slice_get xs k ≡ Some x → In x xs
get-in [] k x e = absurd cc
get-in (y ∷ ys) zero x e = inl (let f : y ≡ x = cc in sym f)
get-in (y ∷ ys) (suc k) x e = inr (get-in ys k x e)

pub map-length : {X Y : Type 0} (f : X → Y) (xs : List X) → length (map f xs) ≡ length xs
map-length f [] = refl
map-length f (x ∷ xs) = ap suc (map-length f xs)

pub flat-map : (xs : List Part) → flat_map (λ part. part) (map (λ (p : Part). p.1) xs) ≡ flat_map (λ (p : Part). p.1) xs
flat-map [] = refl
flat-map (x ∷ xs) = ap (λ ys. x.1 ++ ys) (flat-map xs)

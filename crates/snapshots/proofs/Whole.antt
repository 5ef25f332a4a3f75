-- A joiner that is given parts of certain bytes alone.
use Rattle.std.proofs.Common.{◌≡◌, ℕ, zero, suc, ◌+◌, ◌-◌, ◌*◌, ◌%◌, ◌≤◌, ◌<◌, min, Bool, true, false, cond, ◌||◌, ◌&&◌, ◌==◌, nat_lt, List, [], ◌∷◌, length, drop, Some, None, refl, sym, ap, subst, ◌∙◌, arith, eq-eqb, nat_cmp}
use Rattle.std.specs.List.{Contains, list_all}
use Rattle.std.proofs.lemmas.Bool.Decides.{nat_tests}
use Rattle.std.proofs.lemmas.List.{length-take, length-drop}
use Rattle.std.proofs.lemmas.List.Elements.{All-head, All-tail}
use Rattle.std.proofs.lemmas.Slice.Eq.{bytes_eq-Decides}
use Rattle.jp_types.specs.declared.message.SnapshotPart.{SnapshotPart}
use Rattle.kv_service.specs.Entries
use Rattle.kv_service.specs.Parts.{Joiner, is_alike, is_joined, part_count, part_size, takes_part, with_part}
use Rattle.snapshots.specs.Cutting.{part_at, parts_of}
use Rattle.snapshots.specs.Given.{ArePartsOf, JoinsInAnyOrder, after_parts, is_given}
use Rattle.snapshots.specs.Joining.{empty_joiner}
use Rattle.snapshots.proofs.Cuts.{count-all, cut-at, length-cut, within}
use Rattle.snapshots.proofs.Held.{Part, all-held, get-held, held, held-joins, insert-held, itself, or_at, piece}

module _ (upto : ℕ) (bytes : List ℕ) where
  -- a joiner that holds the parts at the offsets that pass the test
  abbrev holding : (ℕ → Bool) → Joiner
  holding t = record { upto = upto; total = length bytes; parts = held t (part_count (length bytes)) bytes 0 }

  held-none : (k at : ℕ) → held (λ x. false) k bytes at ≡ []
  held-none zero at = refl
  held-none (suc k) at = held-none k (at + part_size)

  five : (a b c d e : Bool) → a ≡ true → b ≡ true → c ≡ true → d ≡ true → e ≡ true → (a && (b && c && d) && e) ≡ true
  five a b c d e p q r s t = rw (p, q, r, s, t) refl

  alike-by : (b : Bool) (x : List ℕ) → is_alike (cond b (Some x) None) x ≡ true
  alike-by true x = (bytes_eq-Decides x x).1 refl
  alike-by false x = refl

  -- each part is taken, however many are held
  takes : (t : ℕ → Bool) (i q : ℕ) → q ≡ part_size * i → i < part_count (length bytes) → takes_part (holding t) (part_at upto bytes q) ≡ true
  takes t i q e lt =
      let below = within (length bytes) i lt in
      let count = length-take part_size (drop q bytes) ∙ ap (min part_size) (length-drop q bytes) in
      let found = get-held t (part_count (length bytes)) bytes 0 i q (omega arith) lt in
      five (length bytes == length bytes) (q % part_size == 0) (nat_lt q (length bytes)) (length (piece bytes q) == min part_size (length bytes - q))
      (is_alike (Entries.get nat_cmp (held t (part_count (length bytes)) bytes 0) q) (piece bytes q)) (itself (length bytes)) (eq-eqb (q % part_size) 0 (omega arith)) (lower q (length bytes) (omega arith))
      (eq-eqb (length (piece bytes q)) (min part_size (length bytes - q)) count) (ap (λ o. is_alike o (piece bytes q)) found ∙ alike-by (t q) (piece bytes q))
    where
      lower : (x y : ℕ) → x < y → nat_lt x y ≡ true
      lower x y h = grind (arith, nat_tests)

  -- and then its offset passes too
  with-part : (t : ℕ → Bool) (i q : ℕ) → q ≡ part_size * i → i < part_count (length bytes) → with_part (holding t) (part_at upto bytes q) ≡ holding (or_at t q)
  with-part t i q e lt = ap (λ (parts : List Part). record (holding t) { parts = parts }) (insert-held t (part_count (length bytes)) bytes 0 i q (omega arith) lt)

  -- a part of the bytes is the one at its offset
  part-is : (m : SnapshotPart) → Contains (parts_of upto bytes) m → (i : ℕ) × (i < part_count (length bytes)) × (m ≡ part_at upto bytes (part_size * i))
  part-is m h =
      let n = length-cut (part_count (length bytes)) upto bytes 0 in
      let at = h.1 in
      let lt : h.0 < part_count (length bytes) = omega arith in
      (h.0, lt, sym h.2 ∙ cut-at (part_count (length bytes)) upto bytes 0 h.0 m lt ∙ ap (part_at upto bytes) (omega arith))

  grouped : (a b c : Bool) → ((a || b) || c) ≡ (a || (b || c))
  grouped true b c = refl
  grouped false b c = refl

  none : (a : Bool) → (a || false) ≡ a
  none true = refl
  none false = refl

  -- all that are given are taken
  taking : (given : List SnapshotPart) (t : ℕ → Bool) → ArePartsOf upto bytes given → after_parts (holding t) given ≡ Some (holding (λ x. t x || is_given given x))
  taking [] t h = let same : t ≡ (λ x. t x || false) = (λ i x. (sym (none (t x))) i) in ap (λ (f : ℕ → Bool). Some (holding f)) same
  taking (m ∷ ms) t h = step (part-is m (All-head (Contains (parts_of upto bytes)) m ms h)) (λ u. taking ms u (All-tail (Contains (parts_of upto bytes)) m ms h)) where
    step : ((i : ℕ) × (i < part_count (length bytes)) × (m ≡ part_at upto bytes (part_size * i))) → ((u : ℕ → Bool) → after_parts (holding u) ms ≡ Some (holding (λ x. u x || is_given ms x)))
        → after_parts (holding t) (m ∷ ms) ≡ Some (holding (λ x. t x || is_given (m ∷ ms) x))
    step p again =
        let q = part_size * p.0 in
        let part = part_at upto bytes q in
        let goes : after_parts (holding t) (part ∷ ms) ≡ Some (holding (λ x. t x || is_given (part ∷ ms) x)) =
        ap (λ b. cond b (after_parts (with_part (holding t) part) ms) None) (takes t p.0 q refl p.1)
        ∙ ap (λ (j : Joiner). after_parts j ms) (with-part t p.0 q refl p.1)
        ∙ again (or_at t q)
        ∙ ap (λ (f : ℕ → Bool). Some (holding f)) (λ i x. (grouped (t x) (x == q) (is_given ms x)) i) in
        subst (λ (x : SnapshotPart). after_parts (holding t) (x ∷ ms) ≡ Some (holding (λ y. t y || is_given (x ∷ ms) y))) (sym p.2) goes

  pub joins-in-any-order : (given : List SnapshotPart) → JoinsInAnyOrder upto bytes given
  joins-in-any-order given h = (holding (is_given given), record { taken = taken; joined = joined; whole = λ all. held-joins (is_given given) (part_count (length bytes)) upto bytes 0 enough (sym joined ∙ all) }) where
    empty : empty_joiner upto (length bytes) ≡ holding (λ x. false)
    empty = ap (λ (parts : List Part). record (holding (λ x. false)) { parts = parts }) (sym (held-none (part_count (length bytes)) 0))

    taken : after_parts (empty_joiner upto (length bytes)) given ≡ Some (holding (is_given given))
    taken = ap (λ (j : Joiner). after_parts j given) empty ∙ taking given (λ x. false) h

    joined : is_joined (holding (is_given given)) ≡ list_all (λ part. is_given given part.at) (parts_of upto bytes)
    joined = all-held (is_given given) (part_count (length bytes)) upto bytes 0

    enough : length bytes ≤ 0 + part_size * part_count (length bytes)
    enough = let n = count-all (length bytes) in omega arith

-- A tally that is kept note by note is what was noted in the highest view.
use Rattle.std.proofs.Common.{◌≡◌, ℕ, zero, suc, ◌≤◌, ◌<◌, Bool, true, false, ◌&&◌, ◌||◌, List, [], ◌∷◌, length, filter, nat_le, nat_lt, ◌==◌, slice_index_or, slice_set, Option, Some, None, is_some, if◌then◌else◌, inl, inr, refl, sym, ap, ◌∙◌, arith}
use Rattle.std.proofs.lemmas.Bool.Decides.{nat_tests}
use Rattle.jp_types.specs.ReplicaSets.{is_member, no_members, with_member}
use Rattle.jp_types.specs.Instances.{Batch}
use Rattle.jp_types.specs.Views.{count_below, majority}
use Rattle.jp_types.specs.Lists.{In}
use Rattle.paxos_world.specs.Stage.{Note}
use Rattle.paxos_world.specs.Logs.{highest_view, has_accepted, batch_in, full_batch}
use Rattle.replica_log.specs.declared.tally.Tally.{Tally}
use Rattle.replica_log.specs.Log.{begun, joined, noted, newer_batch, batch_of, is_full}
use Rattle.core_laws.specs.Keeping.{tally_of, AreOf}
use Rattle.core_laws.proofs.Alike.{count-alike, count-more}
use Rattle.core_laws.proofs.Lists.{same-self, same-sym, set-at, set-length}

-- ---- Sets

member-set : (xs : List Bool) (r p : ℕ) → r < length xs → slice_index_or (slice_set xs r true) p false ≡ ((p == r) || slice_index_or xs p false)
member-set xs r p lt = set-at xs false true r p lt ∙ by (p == r) (slice_index_or xs p false)
  where
    by : (b c : Bool) → (if b then true else c) ≡ (b || c)
    by true c = refl
    by false c = refl

length-member : (xs : List Bool) (r : ℕ) → length (with_member xs r) ≡ length xs
length-member xs r = set-length xs r true

-- ---- Views

-- the notes of a view
abbrev pub in_view : ℕ → List Note → List Note
in_view v notes = filter (λ note. note.view == v) notes

-- above the highest view there is no note
none-above : (v : ℕ) (notes : List Note) → highest_view notes < v → in_view v notes ≡ []
none-above v [] lt = refl
none-above v (note ∷ notes) lt = go (note.view == v) refl (none-above v notes (omega arith))
  where
    go : (b : Bool) → (note.view == v) ≡ b → in_view v notes ≡ [] → (if b then note ∷ in_view v notes else in_view v notes) ≡ []
    go true e rest = absurd (grind (arith, nat_tests))
    go false e rest = rest

-- ---- Tallies

-- the tally is that of the notes, which are not none
record Tells (notes : List Note) (tally : Tally) : Type 0 where
  view : tally.view ≡ highest_view notes
  nine : length tally.from ≡ 9
  from : (p : ℕ) → is_member tally.from p ≡ has_accepted (in_view (highest_view notes) notes) p
  batch : tally.batch ≡ batch_in (in_view (highest_view notes) notes)

no-member : (p : ℕ) → is_member no_members p ≡ false
no-member zero = refl
no-member (suc zero) = refl
no-member (suc (suc zero)) = refl
no-member (suc (suc (suc zero))) = refl
no-member (suc (suc (suc (suc zero)))) = refl
no-member (suc (suc (suc (suc (suc zero))))) = refl
no-member (suc (suc (suc (suc (suc (suc zero)))))) = refl
no-member (suc (suc (suc (suc (suc (suc (suc zero))))))) = refl
no-member (suc (suc (suc (suc (suc (suc (suc (suc zero)))))))) = refl
no-member (suc (suc (suc (suc (suc (suc (suc (suc (suc p))))))))) = refl

or-false : (b : Bool) → (b || false) ≡ b
or-false true = refl
or-false false = refl

-- a note with what was noted in its view before it
with-own : (note : Note) (notes : List Note) → in_view note.view (note ∷ notes) ≡ note ∷ in_view note.view notes
with-own note notes = let t = same-self note.view in rw t refl

-- a replica accepted by a note and by those before it
accepted-more : (from : List Bool) (note : Note) (notes : List Note) (p : ℕ) → note.replica < length from → is_member from p ≡ has_accepted notes p
    → is_member (with_member from note.replica) p ≡ has_accepted (note ∷ notes) p
accepted-more from note notes p lt h =
    let e = same-sym p note.replica in
    let m = member-set from note.replica p lt in
    m ∙ cc

-- a note above all others begins a tally
begins : (note : Note) (notes : List Note) → note.replica < 9 → in_view note.view notes ≡ [] → highest_view (note ∷ notes) ≡ note.view → Tells (note ∷ notes) (begun note.view note.replica note.batch)
begins note notes r none top =
    let all = with-own note notes in
    let alone : in_view (highest_view (note ∷ notes)) (note ∷ notes) ≡ note ∷ [] = cc in
    record {
      view = sym top;
      nine = length-member no_members note.replica;
      from = λ p. accepted-more no_members note [] p r (no-member p) ∙ sym (ap (λ (ns : List Note). has_accepted ns p) alone);
      batch = batch-alone note.batch ∙ sym (ap batch_in alone);
    }
  where
    batch-alone : (b : Option Batch) → b ≡ (if is_some b then b else None)
    batch-alone None = refl
    batch-alone (Some x) = refl

-- a note of the tally's view joins it
joins : (note : Note) (notes : List Note) (tally : Tally) → Tells notes tally → note.replica < 9 → note.view ≡ tally.view → Tells (note ∷ notes) (joined tally note.replica note.batch)
joins note notes tally h r same =
    let v = h.view in
    let top : highest_view (note ∷ notes) ≡ note.view = omega arith in
    let one : note.view ≡ highest_view notes = same ∙ v in
    let own = with-own note notes in
    let nine = h.nine in
    let all : in_view (highest_view (note ∷ notes)) (note ∷ notes) ≡ note ∷ in_view (highest_view notes) notes = cc in
    record {
      view = sym same ∙ sym top;
      nine = length-member tally.from note.replica ∙ nine;
      from = λ p. accepted-more tally.from note (in_view (highest_view notes) notes) p (omega arith) (h.from p) ∙ sym (ap (λ (ns : List Note). has_accepted ns p) all);
      batch = newer note.batch tally.batch (batch_in (in_view (highest_view notes) notes)) h.batch ∙ sym (ap batch_in all);
    }
  where
    newer : (b c d : Option Batch) → c ≡ d → newer_batch b c ≡ (if is_some b then b else d)
    newer None c d e = e
    newer (Some x) c d e = refl

-- a note below the tally's view changes nothing
passes : (note : Note) (notes : List Note) (tally : Tally) → Tells notes tally → note.view < tally.view → Tells (note ∷ notes) tally
passes note notes tally h lower =
    let v = h.view in
    let top : highest_view notes ≡ highest_view (note ∷ notes) = omega arith in
    let other : (note.view == highest_view (note ∷ notes)) ≡ false = grind (arith, nat_tests) in
    let all : in_view (highest_view (note ∷ notes)) (note ∷ notes) ≡ in_view (highest_view notes) notes = rw (other, top) refl in
    record {
      view = v ∙ top;
      nine = h.nine;
      from = λ p. h.from p ∙ sym (ap (λ (ns : List Note). has_accepted ns p) all);
      batch = h.batch ∙ sym (ap batch_in all);
    }

-- one more note
next : (note : Note) (notes : List Note) (tally : Tally) → Tells notes tally → note.replica < 9 → Tells (note ∷ notes) (noted (Some tally) note.view note.replica note.batch)
next note notes tally h r = lower (nat_lt note.view tally.view) refl
  where
    equal : tally.view ≤ note.view → (b : Bool) → (note.view == tally.view) ≡ b → Tells (note ∷ notes) (if b then joined tally note.replica note.batch else begun note.view note.replica note.batch)
    equal le true e = joins note notes tally h r (grind (arith, nat_tests))
    equal le false e =
        let v = h.view in
        let above : tally.view < note.view = grind (arith, nat_tests) in
        begins note notes r (none-above note.view notes (omega arith)) (omega arith)

    lower : (b : Bool) → nat_lt note.view tally.view ≡ b
        → Tells (note ∷ notes) (if b then tally else (if note.view == tally.view then joined tally note.replica note.batch else begun note.view note.replica note.batch))
    lower true e = passes note notes tally h (grind (arith, nat_tests))
    lower false e = equal (grind (arith, nat_tests)) (note.view == tally.view) refl

tally-tells : (note : Note) (notes : List Note) → AreOf 9 (note ∷ notes) → Tells (note ∷ notes) (noted (tally_of notes) note.view note.replica note.batch)
tally-tells note [] h = begins note [] (h note (inl refl)) refl (omega arith)
tally-tells note (m ∷ ms) h = next note (m ∷ ms) (noted (tally_of ms) m.view m.replica m.batch) (tally-tells m ms (λ x n. h x (inr n))) (h note (inl refl))

-- ---- A full tally

count-nine : (n : ℕ) (f g : ℕ → Bool) → n ≤ 9 → ((p : ℕ) → f p ≡ g p) → ((p : ℕ) → n ≤ p → g p ≡ false) → count_below 9 f ≡ count_below n g
count-nine n f g le same none = count-alike 9 f g (λ p lt. same p) ∙ count-more 9 n g le (λ p a b. none p a)

not-accepted : (n : ℕ) (notes : List Note) (p : ℕ) → AreOf n notes → n ≤ p → has_accepted notes p ≡ false
not-accepted n [] p of le = refl
not-accepted n (note ∷ notes) p of le =
    let lt = of note (inl refl) in
    let other : (note.replica == p) ≡ false = grind (arith, nat_tests) in
    let rest = not-accepted n notes p (λ x m. of x (inr m)) le in
    rw (other, rest) refl

in-filter : (v : ℕ) (notes : List Note) (note : Note) → In note (in_view v notes) → In note notes
in-filter v [] note m = absurd m
in-filter v (x ∷ notes) note m = go (x.view == v) (in-filter v notes note) m
  where
    go : (b : Bool) → (In note (in_view v notes) → In note notes) → In note (if b then x ∷ in_view v notes else in_view v notes) → In note (x ∷ notes)
    go true rest (inl e) = inl e
    go true rest (inr m) = inr (rest m)
    go false rest m = inr (rest m)

-- the batch of a full tally is the one that the notes have where a majority accepted by them
full-tally : (n : ℕ) (notes : List Note) (tally : Tally) → n ≤ 9 → AreOf n notes → Tells notes tally
    → (if is_full n (Some tally) then tally.batch else None) ≡ full_batch n (in_view (highest_view notes) notes)
full-tally n notes tally le of h =
    let top = in_view (highest_view notes) notes in
    let counts : count_below 9 (is_member tally.from) ≡ count_below n (has_accepted top)
    = count-nine n (is_member tally.from) (has_accepted top) le h.from (λ p a. not-accepted n top p (λ x m. of x (in-filter (highest_view notes) notes x m)) a) in
    let e = ap (nat_le (majority n)) counts in
    by (nat_le (majority n) (count_below 9 (is_member tally.from))) tally.batch ∙ cond-alike (nat_le (majority n) (count_below 9 (is_member tally.from))) (nat_le (majority n) (count_below n (has_accepted top))) tally.batch (batch_in top) e h.batch
  where
    by : (m : Bool) (b : Option Batch) → (if is_some b && m then b else None) ≡ (if m then b else None)
    by true None = refl
    by true (Some x) = refl
    by false None = refl
    by false (Some x) = refl

    cond-alike : (m k : Bool) (b c : Option Batch) → m ≡ k → b ≡ c → (if m then b else None) ≡ (if k then c else None)
    cond-alike m k b c e f = cc

no-majority : (n : ℕ) (f : ℕ → Bool) → ((p : ℕ) → f p ≡ false) → count_below n f ≡ 0
no-majority zero f h = refl
no-majority (suc n) f h = let now = h n in let rest = no-majority n f h in rw now (omega arith)

pub full-of : (n : ℕ) (notes : List Note) → n ≤ 9 → AreOf n notes
    → (if is_full n (tally_of notes) then batch_of (tally_of notes) else None) ≡ full_batch n (in_view (highest_view notes) notes)
full-of n [] le of = by (nat_le (majority n) (count_below n (has_accepted [])))
  where
    by : (m : Bool) → None ≡ (if m then batch_in [] else None)
    by true = refl
    by false = refl
full-of n (note ∷ notes) le of =
    full-tally n (note ∷ notes) (noted (tally_of notes) note.view note.replica note.batch) le of (tally-tells note notes (λ x m. let lt = of x m in omega arith))

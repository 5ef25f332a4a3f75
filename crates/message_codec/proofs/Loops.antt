-- Reading items one after another, as a loop does.
use Rattle.std.proofs.Common.{◌≡◌, ℕ, zero, suc, ◌-◌, ◌+◌, ◌≤◌, ◌<◌, List, [], ◌∷◌, ◌++◌, Option, Some, None, Result, Ok, Err, refl, sym, ap, ◌∙◌, append_assoc, append-nil, arith}
use Rattle.jp_types.specs.declared.message.Entry.{Entry}
use Rattle.frame_fields.specs.Faults.{Fault}
use Rattle.frame_fields.specs.Reading.{Place, Reader, gives, read_on, ◌>>=◌, times}
use Rattle.frame_fields.specs.Telling.{IsFault}
use Rattle.message_codec.specs.Messages.{entry, entries}

-- what was read before, and what is still read
abbrev pub with_front : {A : Type 0} → List A → Result (List A × Place) Fault → Result (List A × Place) Fault
with_front front read = read_on read (λ more. gives (front ++ more))

-- one item, and then those that follow it
abbrev pub then_more : {A : Type 0} → (A → Reader (List A)) → Result (A × Place) Fault → Result (List A × Place) Fault
then_more more first = read_on first (λ x. more x >>= λ xs. gives (x ∷ xs))

module _ {A S : Type 0} (next : A → S) (one : S → Reader A) (many : ℕ → S → Reader (List A)) where
  -- many items are read one by one, where what may follow depends on the item before
  pub record IsOneByOne : Type 0 where
    pub none : (s : S) (p : Place) → many zero s p ≡ Ok ([], p)
    pub more : (k : ℕ) (s : S) (p : Place) → many (suc k) s p ≡ then_more (λ x. many k (next x)) (one s p)

  module _ (is : IsOneByOne) where
    regroup : (front : List A) (x : A) (read : Result (List A × Place) Fault) → with_front front (read_on read (λ xs. gives (x ∷ xs))) ≡ with_front (front ++ x ∷ []) read
    regroup front x (Ok r) = ap (λ (xs : List A). Ok (xs, r.1)) (simp append_assoc)
    regroup front x (Err f) = refl

    pub goes_on : (front : List A) (count i : ℕ) (s : S) (p : Place) (x : A) (q : Place) (total : Result (List A × Place) Fault) → i < count → one s p ≡ Ok (x, q)
        → with_front front (many (count - i) s p) ≡ total → with_front (front ++ x ∷ []) (many (count - (i + 1)) (next x) q) ≡ total
    goes_on front count i s p x q total lt h so_far =
        let left : count - i ≡ suc (count - (i + 1)) = omega arith in
        let one_more : many (count - i) s p ≡ read_on (many (count - (i + 1)) (next x) q) (λ xs. gives (x ∷ xs))
        = ap (λ (k : ℕ). many k s p) left ∙ is.more (count - (i + 1)) s p ∙ ap (then_more (λ y. many (count - (i + 1)) (next y))) h in
        sym (regroup front x (many (count - (i + 1)) (next x) q)) ∙ ap (with_front front) (sym one_more) ∙ so_far

    stopped : (front : List A) (count i : ℕ) (s : S) (p : Place) (f : Fault) (total : Result (List A × Place) Fault) → i < count → one s p ≡ Err f
        → with_front front (many (count - i) s p) ≡ total → total ≡ Err f
    stopped front count i s p f total lt h so_far =
        let left : count - i ≡ suc (count - (i + 1)) = omega arith in
        sym so_far ∙ ap (λ (k : ℕ). with_front front (many k s p)) left ∙ ap (with_front front) (is.more (count - (i + 1)) s p ∙ ap (then_more (λ y. many (count - (i + 1)) (next y))) h)

    pub ends : (o : Option Fault) (front : List A) (count i : ℕ) (s : S) (p : Place) (total : Result (List A × Place) Fault) → i < count → IsFault o (one s p)
        → with_front front (many (count - i) s p) ≡ total → IsFault o total
    ends None front count i s p total lt h so_far = tt
    ends (Some f) front count i s p total lt h so_far = stopped front count i s p f total lt h so_far

    pub is_done : (front : List A) (count i : ℕ) (s : S) (p : Place) (total : Result (List A × Place) Fault) → count ≤ i → with_front front (many (count - i) s p) ≡ total → total ≡ Ok (front, p)
    is_done front count i s p total le so_far =
        let left : count - i ≡ 0 = omega arith in
        sym so_far ∙ ap (λ (k : ℕ). with_front front (many k s p)) left ∙ ap (with_front front) (is.none s p) ∙ ap (λ (xs : List A). Ok (xs, p)) (append-nil front)

-- as many of one thing
abbrev pub one_of : {A : Type 0} → Reader A → Unit {0} → Reader A
one_of reader s = reader

abbrev pub times_of : {A : Type 0} → Reader A → ℕ → Unit {0} → Reader (List A)
times_of reader k s = times k reader

pub times_one_by_one : {A : Type 0} (reader : Reader A) → IsOneByOne (λ x. tt) (one_of reader) (times_of reader)
times_one_by_one reader = record { none = λ s p. refl; more = λ k s p. refl }

-- the least instance of the entry that follows one
abbrev pub least_after : Entry → ℕ
least_after e = e.instance + 1

pub entries_one_by_one : IsOneByOne least_after entry entries
entries_one_by_one = record { none = λ s p. refl; more = λ k s p. refl }

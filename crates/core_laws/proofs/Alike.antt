-- Two maps that agree from an instance on are read alike from there, and two tests that agree count alike.
use Rattle.std.proofs.Common.{◌≡◌, ℕ, zero, suc, ◌≤◌, ◌<◌, Bool, false, List, Option, inl, inr, refl, ap, arith}
use Rattle.jp_types.specs.Views.{count_below}
use Rattle.jp_types.specs.declared.message.Entry.{Entry}
use Rattle.jp_types.specs.Reports.{decided_below, highest_below}
use Rattle.paxos_world.proofs.Basics.{lt_or_le}
use Rattle.jp_types.specs.Instances.{Batch, first_unknown_from, known_from}

pub first-alike : (k : ℕ) (f g : ℕ → Option Batch) (i : ℕ) → ((j : ℕ) → i ≤ j → f j ≡ g j) → first_unknown_from k f i ≡ first_unknown_from k g i
first-alike zero f g i h = refl
first-alike (suc k) f g i h = let now = h i (omega arith) in let later = first-alike k f g (suc i) (λ j le. h j (omega arith)) in cc

pub known-alike : (k : ℕ) (f g : ℕ → Option Batch) (i : ℕ) → ((j : ℕ) → i ≤ j → f j ≡ g j) → known_from k f i ≡ known_from k g i
known-alike zero f g i h = refl
known-alike (suc k) f g i h = let now = h i (omega arith) in let later = known-alike k f g (suc i) (λ j le. h j (omega arith)) in cc

pub count-alike : (n : ℕ) (f g : ℕ → Bool) → ((p : ℕ) → p < n → f p ≡ g p) → count_below n f ≡ count_below n g
count-alike zero f g h = refl
count-alike (suc n) f g h = let now = h n (omega arith) in let later = count-alike n f g (λ p lt. h p (omega arith)) in cc

-- where none from n on passes, none more are counted
pub count-more : (m n : ℕ) (f : ℕ → Bool) → n ≤ m → ((p : ℕ) → n ≤ p → p < m → f p ≡ false) → count_below m f ≡ count_below n f
count-more zero n f le h = let e : zero ≡ n = omega arith in ap (λ k. count_below k f) e
count-more (suc m) n f le h =
    elim (lt_or_le m n) [
      | inl lt ↦ (let e : suc m ≡ n = omega arith in ap (λ k. count_below k f) e)
      | inr ge ↦ (let now = h m ge (omega arith) in let later = count-more m n f ge (λ p a b. h p a (omega arith)) in rw now (omega arith))
    ]

-- ---- Reports

pub decided-alike : (k : ℕ) (f g : ℕ → List Entry) (i : ℕ) → ((p : ℕ) → p < k → f p ≡ g p) → decided_below k f i ≡ decided_below k g i
decided-alike zero f g i h = refl
decided-alike (suc k) f g i h = let here = h k (omega arith) in let before = decided-alike k f g i (λ p lt. h p (omega arith)) in cc

pub highest-alike : (k : ℕ) (f g : ℕ → List Entry) (own : Option (ℕ × Batch)) (i : ℕ) → ((p : ℕ) → p < k → f p ≡ g p) → highest_below k f own i ≡ highest_below k g own i
highest-alike zero f g own i h = refl
highest-alike (suc k) f g own i h = let here = h k (omega arith) in let before = highest-alike k f g own i (λ p lt. h p (omega arith)) in cc

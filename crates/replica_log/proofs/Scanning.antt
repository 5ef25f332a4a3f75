-- What a scan for the first unknown instance finds.
use Rattle.std.proofs.Common.{◌≡◌, ℕ, zero, suc, ◌+◌, ◌≤◌, ◌<◌, ◌⊎◌, Bool, true, false, Option, is_some, if◌then◌else◌, refl, subst, inl, inr, arith, le_refl}
use Rattle.jp_types.specs.Instances.{Batch, first_unknown_from}

-- u is the first of the k instances from i on that is not known, or i + k
pub record Scans (k : ℕ) (known : ℕ → Option Batch) (i u : ℕ) : Type 0 where
  pub low : i ≤ u
  pub high : u ≤ i + k
  pub before : (j : ℕ) → i ≤ j → j < u → is_some (known j) ≡ true
  pub stops : u < i + k → is_some (known u) ≡ false

lt_or_le : (a b : ℕ) → (a < b) ⊎ (b ≤ a)
lt_or_le a b = grind arith

pub scans : (k : ℕ) (known : ℕ → Option Batch) (i : ℕ) → Scans k known i (first_unknown_from k known i)
scans zero known i = record { low = le_refl i; high = omega arith; before = λ j a b. absurd (omega arith); stops = λ a. absurd (omega arith) }
scans (suc k) known i = go (is_some (known i)) refl (scans k known (suc i))
  where
    go : (b : Bool) → is_some (known i) ≡ b → Scans k known (suc i) (first_unknown_from k known (suc i)) → Scans (suc k) known i (if b then first_unknown_from k known (suc i) else i)
    go true e h =
        let low = h.low in
        let high = h.high in
        record {
          low = omega arith;
          high = omega arith;
          before = λ j a b. elim (lt_or_le i j) [
            | inl lt ↦ h.before j (omega arith) b
            | inr ge ↦ (let f : i ≡ j = omega arith in subst (λ x. is_some (known x) ≡ true) f e)
          ];
          stops = λ a. h.stops (omega arith);
        }
    go false e h = record { low = le_refl i; high = omega arith; before = λ j a b. absurd (omega arith); stops = λ a. e }

-- only one instance is the first
not_below : (k : ℕ) (known : ℕ → Option Batch) (i u v : ℕ) → Scans k known i u → Scans k known i v → u < v → ⊥
not_below k known i u v a b lt =
    let high = b.high in
    let no = a.stops (omega arith) in
    let yes = b.before u a.low lt in
    absurd cc

pub only_one : (k : ℕ) (known : ℕ → Option Batch) (i u v : ℕ) → Scans k known i u → Scans k known i v → u ≡ v
only_one k known i u v a b = elim (lt_or_le u v) [
  | inl lt ↦ absurd (not_below k known i u v a b lt)
  | inr ge ↦ elim (lt_or_le v u) [
    | inl gt ↦ absurd (not_below k known i v u b a gt)
    | inr le ↦ omega arith
  ]
]

pub scan_is : (k : ℕ) (known : ℕ → Option Batch) (i u : ℕ) → Scans k known i u → first_unknown_from k known i ≡ u
scan_is k known i u h = only_one k known i _ u (scans k known i) h

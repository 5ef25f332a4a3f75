-- Lemmas on lists, updates and majorities.
use Rattle.std.proofs.Common.{◌≡◌, ◌≢◌, ℕ, zero, suc, ◌+◌, ◌≤◌, ◌<◌, Bool, true, false, cond, ◌&&◌, ◌⊎◌, List, [], ◌∷◌, ◌++◌, refl, sym, subst, inl, inr, arith}
use Rattle.std.proofs.lemmas.Bool.Decides.{eqb_tells}
use Rattle.jp_types.specs.Views.{count_below}
use Rattle.jp_types.specs.Lists.{In}
use Rattle.paxos_world.specs.Setup.{IsQuorum, with_at}

-- a number equals another or not
pub same_or_not : (q k : ℕ) → (q ≡ k) ⊎ (q ≢ k)
same_or_not q k = grind arith

pub le_or_lt : (a b : ℕ) → (a ≤ b) ⊎ (b < a)
le_or_lt a b = grind arith

pub lt_or_le : (a b : ℕ) → (a < b) ⊎ (b ≤ a)
lt_or_le a b = grind arith

-- what holds of the new value at k and of the old values elsewhere holds of each value after the update
pub with_at-cases : {X : Type 0} (P : X → Type 0) (f : ℕ → X) (k : ℕ) (x : X) (q : ℕ) → (q ≡ k → P x) → (q ≢ k → P (f q)) → P (with_at f k x q)
with_at-cases {X} P f k x q here there =
    elim (eqb_tells q k) [
      | inl h ↦ subst (λ b. P (cond b x (f q))) (sym h.0) (here h.1)
      | inr h ↦ subst (λ b. P (cond b x (f q))) (sym h.0) (there h.1)
    ]

pub with_at-same : {X : Type 0} (f : ℕ → X) (k : ℕ) (x : X) → with_at f k x k ≡ x
with_at-same f k x = with_at-cases (λ y. y ≡ x) f k x k (λ e. refl) (λ ne. absurd (ne refl))

pub with_at-other : {X : Type 0} (f : ℕ → X) (k : ℕ) (x : X) (q : ℕ) → q ≢ k → with_at f k x q ≡ f q
with_at-other f k x q ne = with_at-cases (λ y. y ≡ f q) f k x q (λ e. absurd (ne e)) (λ e. refl)

-- an element of a joined list is an element of the first or of the second
pub In-append : {X : Type 0} (x : X) (xs ys : List X) → In x (xs ++ ys) → In x xs ⊎ In x ys
In-append x [] ys h = inr h
In-append x (z ∷ zs) ys (inl e) = inl (inl e)
In-append x (z ∷ zs) ys (inr h) = elim (In-append x zs ys h) [ inl a ↦ inl (inr a) | inr b ↦ inr b ]

pub In-left : {X : Type 0} (x : X) (xs ys : List X) → In x xs → In x (xs ++ ys)
In-left x [] ys h = absurd h
In-left x (z ∷ zs) ys (inl e) = inl e
In-left x (z ∷ zs) ys (inr h) = inr (In-left x zs ys h)

pub In-right : {X : Type 0} (x : X) (xs ys : List X) → In x ys → In x (xs ++ ys)
In-right x [] ys h = h
In-right x (z ∷ zs) ys h = inr (In-right x zs ys h)

-- whether both tests pass
pub both : (ℕ → Bool) → (ℕ → Bool) → ℕ → Bool
both f g p = f p && g p

-- a number below k at which both tests pass
abbrev pub Shared : ℕ → (ℕ → Bool) → (ℕ → Bool) → Type 0
Shared k f g = (p : ℕ) × (p < k) × (f p ≡ true) × (g p ≡ true)

-- two tests that pass more often together than there are numbers below k pass at one of them
pub shared_below : (k : ℕ) (f g : ℕ → Bool) → k < count_below k f + count_below k g → Shared k f g
shared_below zero f g h = absurd (omega arith)
shared_below (suc k) f g h = go (f k) (g k) refl refl (λ less. shared_below k f g less)
  where
    up : Shared k f g → Shared (suc k) f g
    up r = (r.0, omega arith, r.2, r.3)

    go : (a b : Bool) → f k ≡ a → g k ≡ b → (k < count_below k f + count_below k g → Shared k f g) → Shared (suc k) f g
    go true true ea eb again = (k, omega arith, ea, eb)
    go true false ea eb again = up (again (let h' = rw (ea, eb) at h in omega arith))
    go false true ea eb again = up (again (let h' = rw (ea, eb) at h in omega arith))
    go false false ea eb again = up (again (let h' = rw (ea, eb) at h in omega arith))

-- two majorities share a replica
pub shared : (n : ℕ) (f g : ℕ → Bool) → IsQuorum n f → IsQuorum n g → (p : ℕ) × (p < n) × (f p ≡ true) × (g p ≡ true)
shared n f g a b = shared_below n f g (omega arith)

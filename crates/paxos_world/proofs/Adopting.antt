-- Which batch is adopted.
use Rattle.std.proofs.Common.{◌≡◌, ◌≢◌, ℕ, zero, suc, ◌≤◌, ◌<◌, Bool, true, false, eqb, ltb, ◌⊎◌, List, [], ◌∷◌, Option, Some, None, if◌then◌else◌, nat_lt, ◌==◌, refl, sym, ap, subst, ◌∙◌, inl, inr, ⊎_elim, arith}
use Rattle.std.specs.Option.{unwrap_or, option_or, option_map}
use Rattle.std.proofs.lemmas.Bool.Decides.{eqb_tells, leb_tells}
use Rattle.jp_types.specs.declared.message.Entry.{Entry}
use Rattle.jp_types.specs.Lists.{In}
use Rattle.paxos_world.specs.Life.{Life}
use Rattle.jp_types.specs.Instances.{Batch}
use Rattle.paxos_world.specs.Adoption.{adopted_by}
use Rattle.jp_types.specs.Reports.{decided_below, highest_below}
use Rattle.jp_types.specs.Reports.{decided_entry, voted_entry, decided_of, vote_of, decided_in, vote_in, higher}
use Rattle.paxos_world.proofs.Replies.{same, same-test}

some-same : {X : Type 0} (x y : X) → Some x ≡ Some y → x ≡ y
some-same x y e = cc

-- there is something or nothing
pub option_is : {X : Type 0} (o : Option X) → (o ≡ None) ⊎ ((x : X) × (o ≡ Some x))
option_is None = inl refl
option_is (Some x) = inr (x, refl)

pub or-some : {X : Type 0} (a b : Option X) (x : X) → option_or a b ≡ Some x → (a ≡ Some x) ⊎ (b ≡ Some x)
or-some None b x e = inr e
or-some (Some y) b x e = inl e

pub or-left : {X : Type 0} (a b : Option X) (x : X) → a ≡ Some x → option_or a b ≡ Some x
or-left None b x e = cc
or-left (Some y) b x e = e

pub or-right : {X : Type 0} (a b : Option X) (x : X) → b ≡ Some x → (y : X) × (option_or a b ≡ Some y)
or-right None b x e = (x, e)
or-right (Some y) b x e = (y, refl)

decided_of-some : (vote : Option ℕ) (batch b : Batch) → decided_of vote batch ≡ Some b → (vote ≡ None) × (batch ≡ b)
decided_of-some None batch b e = (refl, cc)
decided_of-some (Some v) batch b e = cc

vote_of-some : (vote : Option ℕ) (batch : Batch) (v : ℕ × Batch) → vote_of vote batch ≡ Some v → (vote ≡ Some v.0) × (batch ≡ v.1)
vote_of-some None batch v e = cc
vote_of-some (Some w) batch v e = let p : (w, batch) ≡ v = cc in (ap (λ (k : ℕ × Batch). Some k.0) p, ap (λ (k : ℕ × Batch). k.1) p)

-- an entry of i that may be decided
entry-decided : (t : Bool) (i : ℕ) (e : Entry) (b : Batch) → (t ≡ true → e.instance ≡ i) → (if t then decided_of e.vote e.batch else None) ≡ Some b → e ≡ decided_entry i b
entry-decided true i e b s is =
    let n = s refl in
    let d = decided_of-some e.vote e.batch b is in
    λ k. record { instance = n k; vote = d.0 k; batch = d.1 k }
entry-decided false i e b s is = cc

entry-voted : (t : Bool) (i : ℕ) (e : Entry) (v : ℕ × Batch) → (t ≡ true → e.instance ≡ i) → (if t then vote_of e.vote e.batch else None) ≡ Some v → e ≡ voted_entry i v.0 v.1
entry-voted true i e v s is =
    let n = s refl in
    let d = vote_of-some e.vote e.batch v is in
    λ k. record { instance = n k; vote = d.0 k; batch = d.1 k }
entry-voted false i e v s is = cc

-- what a report's decided batch comes from
pub decided_in-from : (i : ℕ) (es : List Entry) (b : Batch) → decided_in i es ≡ Some b → In (decided_entry i b) es
decided_in-from i [] b e = cc
decided_in-from i (x ∷ xs) b e =
    elim (or-some (if x.instance == i then decided_of x.vote x.batch else None) (decided_in i xs) b e) [
      | inl a ↦ inl (sym (entry-decided (x.instance == i) i x b (same x.instance i) a))
      | inr a ↦ inr (decided_in-from i xs b a)
    ]

pub vote_in-from : (i : ℕ) (es : List Entry) (v : ℕ × Batch) → vote_in i es ≡ Some v → In (voted_entry i v.0 v.1) es
vote_in-from i [] v e = cc
vote_in-from i (x ∷ xs) v e =
    elim (or-some (if x.instance == i then vote_of x.vote x.batch else None) (vote_in i xs) v e) [
      | inl a ↦ inl (sym (entry-voted (x.instance == i) i x v (same x.instance i) a))
      | inr a ↦ inr (vote_in-from i xs v a)
    ]

-- a decided entry in a report gives a decided batch
pub decided_in-has : (i : ℕ) (es : List Entry) (b : Batch) → In (decided_entry i b) es → (d : Batch) × (decided_in i es ≡ Some d)
decided_in-has i [] b h = absurd h
decided_in-has i (x ∷ xs) b (inl e) =
    let f : (if x.instance == i then decided_of x.vote x.batch else None) ≡ Some b
    = subst (λ (y : Entry). (if y.instance == i then decided_of y.vote y.batch else None) ≡ Some b) e (rw (same-test i i refl) refl) in
    (b, or-left (if x.instance == i then decided_of x.vote x.batch else None) (decided_in i xs) b f)
decided_in-has i (x ∷ xs) b (inr h) = let r = decided_in-has i xs b h in or-right (if x.instance == i then decided_of x.vote x.batch else None) (decided_in i xs) r.0 r.1

pub vote_in-has : (i v : ℕ) (es : List Entry) (b : Batch) → In (voted_entry i v b) es → (d : ℕ × Batch) × (vote_in i es ≡ Some d)
vote_in-has i v [] b h = absurd h
vote_in-has i v (x ∷ xs) b (inl e) =
    let f : (if x.instance == i then vote_of x.vote x.batch else None) ≡ Some (v, b)
    = subst (λ (y : Entry). (if y.instance == i then vote_of y.vote y.batch else None) ≡ Some (v, b)) e (rw (same-test i i refl) refl) in
    ((v, b), or-left (if x.instance == i then vote_of x.vote x.batch else None) (vote_in i xs) (v, b) f)
vote_in-has i v (x ∷ xs) b (inr h) = let r = vote_in-has i v xs b h in or-right (if x.instance == i then vote_of x.vote x.batch else None) (vote_in i xs) r.0 r.1

decided_below-from : (n : ℕ) (reports : ℕ → List Entry) (i : ℕ) (b : Batch) → decided_below n reports i ≡ Some b → (p : ℕ) × (p < n) × (decided_in i (reports p) ≡ Some b)
decided_below-from zero reports i b e = cc
decided_below-from (suc k) reports i b e =
    elim (or-some (decided_below k reports i) (decided_in i (reports k)) b e) [
      | inl a ↦ (let r = decided_below-from k reports i b a in (r.0, omega arith, r.2))
      | inr a ↦ (k, omega arith, a)
    ]

decided_below-has : (n : ℕ) (reports : ℕ → List Entry) (i p : ℕ) (b : Batch) → p < n → decided_in i (reports p) ≡ Some b → (d : Batch) × (decided_below n reports i ≡ Some d)
decided_below-has zero reports i p b lt e = absurd (omega arith)
decided_below-has (suc k) reports i p b lt e = go (eqb_tells p k) (λ less. decided_below-has k reports i p b less e)
  where
    go : ((eqb p k ≡ true) × (p ≡ k)) ⊎ ((eqb p k ≡ false) × (p ≢ k)) → (p < k → (d : Batch) × (decided_below k reports i ≡ Some d)) → (d : Batch) × (decided_below (suc k) reports i ≡ Some d)
    go (inl f) again = or-right (decided_below k reports i) (decided_in i (reports k)) b (subst (λ q. decided_in i (reports q) ≡ Some b) f.1 e)
    go (inr f) again = let ne = f.1 in let r = again (omega arith) in (r.0, or-left (decided_below k reports i) (decided_in i (reports k)) r.0 r.1)

-- the higher of two votes is one of them, and at or above both
higher-from : (a b : Option (ℕ × Batch)) (v : ℕ × Batch) → higher a b ≡ Some v → (a ≡ Some v) ⊎ (b ≡ Some v)
higher-from None b v e = inr e
higher-from (Some x) None v e = inl e
higher-from (Some x) (Some y) v e = go (nat_lt x.0 y.0) e
  where
    go : (t : Bool) → (if t then Some y else Some x) ≡ Some v → (Some x ≡ Some v) ⊎ (Some y ≡ Some v)
    go true e = inr e
    go false e = inl e

-- a vote is there, at or above v
abbrev pub IsAtLeast : Option (ℕ × Batch) → ℕ → Type 0
IsAtLeast o v = (top : ℕ × Batch) × (o ≡ Some top) × (v ≤ top.0)

some-at-least : (x : ℕ × Batch) (v : ℕ) → IsAtLeast (Some x) v → v ≤ x.0
some-at-least x v h = subst (λ (k : ℕ × Batch). v ≤ k.0) (some-same h.0 x (sym h.1)) h.2

higher-both : (x y : ℕ × Batch) (v : ℕ) → (v ≤ x.0) ⊎ (v ≤ y.0) → ((ltb x.0 y.0 ≡ true) × (suc x.0 ≤ y.0)) ⊎ ((ltb x.0 y.0 ≡ false) × (y.0 < suc x.0)) → IsAtLeast (higher (Some x) (Some y)) v
higher-both x y v up (inl f) = rw f.0 (y, refl, omega arith)
higher-both x y v up (inr f) = rw f.0 (x, refl, omega arith)

higher-left : (a b : Option (ℕ × Batch)) (v : ℕ) → IsAtLeast a v → IsAtLeast (higher a b) v
higher-left None b v h = let z = h.1 in absurd cc
higher-left (Some x) None v h = h
higher-left (Some x) (Some y) v h = higher-both x y v (inl (some-at-least x v h)) (leb_tells (suc x.0) y.0)

higher-right : (a b : Option (ℕ × Batch)) (v : ℕ) → IsAtLeast b v → IsAtLeast (higher a b) v
higher-right None b v h = h
higher-right (Some x) None v h = let z = h.1 in absurd cc
higher-right (Some x) (Some y) v h = higher-both x y v (inr (some-at-least y v h)) (leb_tells (suc x.0) y.0)

highest_below-from : (n : ℕ) (reports : ℕ → List Entry) (own : Option (ℕ × Batch)) (i : ℕ) (v : ℕ × Batch) → highest_below n reports own i ≡ Some v
    → (own ≡ Some v) ⊎ ((p : ℕ) × (p < n) × (vote_in i (reports p) ≡ Some v))
highest_below-from zero reports own i v e = inl e
highest_below-from (suc k) reports own i v e =
    elim (higher-from (highest_below k reports own i) (vote_in i (reports k)) v e) [
      | inl a ↦ ⊎_elim (λ o. inl o) (λ r. inr (r.0, omega arith, r.2)) (highest_below-from k reports own i v a)
      | inr a ↦ inr (k, omega arith, a)
    ]

highest_below-own : (n : ℕ) (reports : ℕ → List Entry) (own : Option (ℕ × Batch)) (i v : ℕ) → IsAtLeast own v → IsAtLeast (highest_below n reports own i) v
highest_below-own zero reports own i v h = h
highest_below-own (suc k) reports own i v h = higher-left (highest_below k reports own i) (vote_in i (reports k)) v (highest_below-own k reports own i v h)

highest_below-has : (n : ℕ) (reports : ℕ → List Entry) (own : Option (ℕ × Batch)) (i p v : ℕ) → p < n → IsAtLeast (vote_in i (reports p)) v → IsAtLeast (highest_below n reports own i) v
highest_below-has zero reports own i p v lt h = absurd (omega arith)
highest_below-has (suc k) reports own i p v lt h = go (eqb_tells p k) (λ less. highest_below-has k reports own i p v less h)
  where
    go : ((eqb p k ≡ true) × (p ≡ k)) ⊎ ((eqb p k ≡ false) × (p ≢ k)) → (p < k → IsAtLeast (highest_below k reports own i) v) → IsAtLeast (highest_below (suc k) reports own i) v
    go (inl f) again = higher-right (highest_below k reports own i) (vote_in i (reports k)) v (subst (λ q. IsAtLeast (vote_in i (reports q)) v) f.1 h)
    go (inr f) again = let ne = f.1 in higher-left (highest_below k reports own i) (vote_in i (reports k)) v (again (omega arith))

-- where each known, decided and high enough vote has the batch, and one of them is there, it is the batch that is adopted
pub record Agrees (n : ℕ) (reports : ℕ → List Entry) (l : Life) (v i : ℕ) (batch : Batch) : Type 0 where
  pub known : (b : Batch) → l.known i ≡ Some b → b ≡ batch
  pub decided : (p : ℕ) (b : Batch) → p < n → In (decided_entry i b) (reports p) → b ≡ batch
  pub voted : (p : ℕ) (vote : ℕ × Batch) → p < n → In (voted_entry i vote.0 vote.1) (reports p) → v ≤ vote.0 → vote.1 ≡ batch
  pub own : (vote : ℕ × Batch) → l.votes i ≡ Some vote → v ≤ vote.0 → vote.1 ≡ batch

-- something is there from which a batch is adopted
pub data Shows (n : ℕ) (reports : ℕ → List Entry) (l : Life) (v i : ℕ) : Type 0 where
  By_known : (b : Batch) → l.known i ≡ Some b → Shows n reports l v i
  By_decided : (p : ℕ) (b : Batch) → p < n → In (decided_entry i b) (reports p) → Shows n reports l v i
  By_vote : (p : ℕ) → p < n → IsAtLeast (vote_in i (reports p)) v → Shows n reports l v i
  By_own : IsAtLeast (l.votes i) v → Shows n reports l v i

highest-is : (n : ℕ) (reports : ℕ → List Entry) (l : Life) (v i : ℕ) (batch : Batch) → Agrees n reports l v i batch → (h : Option (ℕ × Batch)) → highest_below n reports (l.votes i) i ≡ h
    → IsAtLeast (highest_below n reports (l.votes i) i) v → unwrap_or (option_map (λ v. v.1) h) [] ≡ batch
highest-is n reports l v i batch a None eh t = let z = t.1 in absurd cc
highest-is n reports l v i batch a (Some x) eh t =
    let e : t.0 ≡ x = some-same t.0 x (sym t.1 ∙ eh) in
    let up : v ≤ x.0 = subst (λ (k : ℕ × Batch). v ≤ k.0) e t.2 in
    elim (highest_below-from n reports (l.votes i) i x eh) [
      | inl o ↦ a.own x o up
      | inr r ↦ a.voted r.0 x r.1 (vote_in-from i (reports r.0) x r.2) up
    ]

adopted-go : (n : ℕ) (reports : ℕ → List Entry) (l : Life) (v i : ℕ) (batch : Batch) → Agrees n reports l v i batch → Shows n reports l v i
    → (k d : Option Batch) (h : Option (ℕ × Batch)) → l.known i ≡ k → decided_below n reports i ≡ d → highest_below n reports (l.votes i) i ≡ h → unwrap_or (option_or k (option_or d (option_map (λ v. v.1) h))) [] ≡ batch
adopted-go n reports l v i batch a s (Some b) d h ek ed eh = a.known b ek
adopted-go n reports l v i batch a s None (Some b) h ek ed eh =
    let r = decided_below-from n reports i b ed in
    a.decided r.0 b r.1 (decided_in-from i (reports r.0) b r.2)
adopted-go n reports l v i batch a (By_known b e) None None h ek ed eh = cc
adopted-go n reports l v i batch a (By_decided p b lt j) None None h ek ed eh =
    let r = decided_in-has i (reports p) b j in
    let q = decided_below-has n reports i p r.0 lt r.1 in
    let z = q.1 in
    absurd cc
adopted-go n reports l v i batch a (By_vote p lt j) None None h ek ed eh = highest-is n reports l v i batch a h eh (highest_below-has n reports (l.votes i) i p v lt j)
adopted-go n reports l v i batch a (By_own j) None None h ek ed eh = highest-is n reports l v i batch a h eh (highest_below-own n reports (l.votes i) i v j)

-- the adopted batch
pub adopted-is : (n : ℕ) (reports : ℕ → List Entry) (l : Life) (v i : ℕ) (batch : Batch) → Agrees n reports l v i batch → Shows n reports l v i → adopted_by n reports l i ≡ batch
adopted-is n reports l v i batch a s = adopted-go n reports l v i batch a s (l.known i) (decided_below n reports i) (highest_below n reports (l.votes i) i) refl refl refl

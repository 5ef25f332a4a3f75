-- Each pair of client and number is First once: a client's last number does not fall, and First is above it.
use Rattle.std.proofs.Common.{◌≡◌, ℕ, suc, ◌≤◌, ◌<◌, Bool, true, false, cond, ltb, List, [], ◌∷◌, ◌++◌, Option, Some, ◌⊎◌, if◌then◌else◌, ◌==◌, refl, sym, ap, ◌∙◌, inl, inr, arith, le_refl, nat_cmp, Ordering, Less, Equal, Greater, is_eq}
use Rattle.std.specs.FinMap.{nat_cmp-IsAntisymmetric}
use Rattle.std.specs.Ordering.{eq_by_cmp}
use Rattle.std.proofs.lemmas.Bool.Decides.{leb_tells, nat_tests}
use Rattle.jp_types.specs.declared.command.Request.{Request}
use Rattle.jp_types.specs.declared.command.Reply.{Reply}
use Rattle.kv_service.specs.Store.{apply}
use Rattle.kv_service.specs.Entries
use Rattle.kv_service.proofs.Clients.{get-insert}
use Rattle.kv_service.specs.declared.outcome.Kind.{Kind}
use Rattle.kv_service.specs.declared.outcome.Kind.TheVariants.{First, Repeated, Passed}
use Rattle.kv_service.specs.declared.outcome.Outcome.{Outcome}
use Rattle.kv_service.specs.Service.{State, last_of, take_by, take_request, take_requests, kind_of, execute, start}
use Rattle.jp_types.specs.Lists.{In}
use Rattle.jp_types.specs.Instances.{Batch}
use Rattle.paxos_world.specs.Served.{outcomes_from, FirstsDiffer, FirstOnce}
use Rattle.paxos_world.proofs.Basics.{In-append}

-- client c's last number is at least m
abbrev IsPast : State → ℕ → ℕ → Type 0
IsPast s c m = (last : ℕ × Reply) × (last_of s c ≡ Some last) × (m ≤ last.0)

eq-is : (o : Ordering) → is_eq o ≡ true → o ≡ Equal
eq-is Less e = cc
eq-is Equal e = refl
eq-is Greater e = cc

key-same : (k : ℕ) → eq_by_cmp nat_cmp k k ≡ true
key-same k = grind (arith, nat_tests)

-- a number is First only above the client's last
first-above : (last : ℕ × Reply) (n : ℕ) → kind_of (Some last) n ≡ First → last.0 < n
first-above last n e = go (leb_tells (suc last.0) n)
  where
    inner : (b : Bool) → (if b then Repeated else Passed) ≡ First → ⊥
    inner true f = cc
    inner false f = cc

    go : ((ltb last.0 n ≡ true) × (suc last.0 ≤ n)) ⊎ ((ltb last.0 n ≡ false) × (n < suc last.0)) → last.0 < n
    go (inl h) = h.1
    go (inr h) = absurd (inner (n == last.0) (rw h.0 at e))

-- after one more request
past-insert : (m : List (ℕ × (ℕ × Reply))) (k c b : ℕ) (v : ℕ × Reply) → (c ≡ k → b ≤ v.0) → (last : ℕ × Reply) × (Entries.get nat_cmp m c ≡ Some last) × (b ≤ last.0)
    → (last : ℕ × Reply) × (Entries.get nat_cmp (Entries.insert nat_cmp m k v) c ≡ Some last) × (b ≤ last.0)
past-insert m k c b v here h = go (eq_by_cmp nat_cmp c k) refl
  where
    go : (t : Bool) → eq_by_cmp nat_cmp c k ≡ t → (last : ℕ × Reply) × (Entries.get nat_cmp (Entries.insert nat_cmp m k v) c ≡ Some last) × (b ≤ last.0)
    go true e = (v, get-insert m k c v ∙ ap (λ (x : Bool). cond x (Some v) (Entries.get nat_cmp m c)) e, here (nat_cmp-IsAntisymmetric c k (eq-is (nat_cmp c k) e)))
    go false e = (h.0, get-insert m k c v ∙ ap (λ (x : Bool). cond x (Some v) (Entries.get nat_cmp m c)) e ∙ h.1, h.2)

past-by : (k : Kind) (s : State) (r : Request) (c m : ℕ) → kind_of (last_of s r.client) r.number ≡ k → IsPast s c m → IsPast (take_by k s r).0 c m
past-by First s r c m e h =
    past-insert s.last r.client c m _ (λ f.
    let g : last_of s r.client ≡ Some h.0 = ap (last_of s) (sym f) ∙ h.1 in
    let up = first-above h.0 r.number (ap (λ (o : Option (ℕ × Reply)). kind_of o r.number) (sym g) ∙ e) in
    let low = h.2 in
    omega arith) h
past-by Repeated s r c m e h = h
past-by Passed s r c m e h = h

past-request : (s : State) (r : Request) (c m : ℕ) → IsPast s c m → IsPast (take_request s r).0 c m
past-request s r c m h = past-by (kind_of (last_of s r.client) r.number) s r c m refl h

past-requests : (s : State) (rs : List Request) (c m : ℕ) → IsPast s c m → IsPast (take_requests s rs).0 c m
past-requests s [] c m h = h
past-requests s (r ∷ rs) c m h = past-requests (take_request s r).0 rs c m (past-request s r c m h)

-- the outcome of a request is of its kind, client and number
outcome-by : (k : Kind) (s : State) (r : Request) → ((take_by k s r).1.kind ≡ k) × ((take_by k s r).1.client ≡ r.client) × ((take_by k s r).1.number ≡ r.number)
outcome-by First s r = (refl, refl, refl)
outcome-by Repeated s r = (refl, refl, refl)
outcome-by Passed s r = (refl, refl, refl)

-- after a First its number is at most the client's last one
first-past : (k : Kind) (s : State) (r : Request) → k ≡ First → IsPast (take_by k s r).0 r.client r.number
first-past First s r e =
    let v : ℕ × Reply = (r.number, (apply s.store r.command).1) in
    (v, get-insert s.last r.client r.client v ∙ ap (λ (x : Bool). cond x (Some v) (last_of s r.client)) (key-same r.client), le_refl _)
first-past Repeated s r e = cc
first-past Passed s r e = cc

-- a First of a client whose last number is at least m is above m
first-later : (s : State) (r : Request) (c m : ℕ) → IsPast s c m → kind_of (last_of s r.client) r.number ≡ First → r.client ≡ c → m < r.number
first-later s r c m h e f =
    let g : last_of s r.client ≡ Some h.0 = ap (last_of s) f ∙ h.1 in
    let up = first-above h.0 r.number (ap (λ (o : Option (ℕ × Reply)). kind_of o r.number) (sym g) ∙ e) in
    let low = h.2 in
    omega arith

-- each First among these outcomes is above its client's last number in s
abbrev Above : State → List Outcome → Type 0
Above s os = (c m : ℕ) → IsPast s c m → (p : Outcome) → In p os → p.kind ≡ First → p.client ≡ c → m < p.number

above-requests : (s : State) (rs : List Request) → Above s (take_requests s rs).1
above-requests s [] c m h p i e f = absurd i
above-requests s (r ∷ rs) c m h p (inl is) e f =
    let o = outcome-by (kind_of (last_of s r.client) r.number) s r in
    let k : kind_of (last_of s r.client) r.number ≡ First = sym o.0 ∙ ap (λ (x : Outcome). x.kind) (sym is) ∙ e in
    let g : r.client ≡ c = sym o.1 ∙ ap (λ (x : Outcome). x.client) (sym is) ∙ f in
    let n : p.number ≡ r.number = ap (λ (x : Outcome). x.number) is ∙ o.2 in
    let up = first-later s r c m h k g in
    omega arith
above-requests s (r ∷ rs) c m h p (inr i) e f = above-requests (take_request s r).0 rs c m (past-request s r c m h) p i e f

above-append : (s : State) (rs : List Request) (tail : List Outcome) → Above (take_requests s rs).0 tail → Above s ((take_requests s rs).1 ++ tail)
above-append s rs tail h c m past p i e f =
    elim (In-append p (take_requests s rs).1 tail i) [
      | inl j ↦ above-requests s rs c m past p j e f
      | inr j ↦ h c m (past-requests s rs c m past) p j e f
    ]

differ-requests : (s : State) (rs : List Request) (tail : List Outcome) → Above (take_requests s rs).0 tail → FirstsDiffer tail → FirstsDiffer ((take_requests s rs).1 ++ tail)
differ-requests s [] tail above differ = differ
differ-requests s (r ∷ rs) tail above differ =
    let k = kind_of (last_of s r.client) r.number in
    let o = outcome-by k s r in (
      λ p i e e' same.
          let past : IsPast (take_request s r).0 r.client r.number = first-past k s r (sym o.0 ∙ e) in
          let up = above-append (take_request s r).0 rs tail above r.client r.number past p i e' (same ∙ o.1) in
          let n = o.2 in
          omega arith,
      differ-requests (take_request s r).0 rs tail above differ,
    )

above-from : (s : State) (bs : List Batch) → Above s (outcomes_from s bs)
above-from s [] c m h p i e f = absurd i
above-from s (b ∷ bs) c m h p i e f = above-append s b (outcomes_from (execute s b) bs) (λ c m h p i e f. above-from (execute s b) bs c m h p i e f) c m h p i e f

differ-from : (s : State) (bs : List Batch) → FirstsDiffer (outcomes_from s bs)
differ-from s [] = tt
differ-from s (b ∷ bs) = differ-requests s b (outcomes_from (execute s b) bs) (λ c m h. above-from (execute s b) bs c m h) (differ-from (execute s b) bs)

-- each pair of client and number is First at most once
pub first_once : FirstOnce
first_once bs = differ-from start bs

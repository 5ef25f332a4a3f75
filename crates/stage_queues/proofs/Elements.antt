-- Lemmas on elements and on updates of a function.
use Rattle.std.proofs.Common.{◌≡◌, ◌≢◌, ℕ, Bool, true, false, cond, true≢false, List, [], ◌∷◌, ◌++◌, map, refl, sym, ap, ◌∙◌, subst, inl, inr, append-nil}
use Rattle.std.specs.Prelude.{◌==◌}
use Rattle.std.proofs.lemmas.List.{map-append}
use Rattle.std.proofs.lemmas.Bool.Decides.{eqb_tells}
use Rattle.stage_queues.specs.declared.taken.Taken.{Taken}
use Rattle.stage_queues.specs.declared.taken.Taken.TheVariants.{Item, End}
use Rattle.stage_queues.specs.Lanes.{Element, from_producer, sent_of, items_in, ends_in}
use Rattle.stage_queues.specs.Rule.{with_at, added}

-- what holds of the new value at k and of the old values elsewhere holds of each value after the update
pub with_at-cases : {X : Type 0} (P : X → Type 0) (f : ℕ → X) (k : ℕ) (x : X) (q : ℕ) → (q ≡ k → P x) → (q ≢ k → P (f q)) → P (with_at f k x q)
with_at-cases {X} P f k x q here there =
    elim (eqb_tells q k) [
      | inl h ↦ subst (λ b. P (cond b x (f q))) (sym h.0) (here h.1)
      | inr h ↦ subst (λ b. P (cond b x (f q))) (sym h.0) (there h.1)
    ]

pub with_at-same : {X : Type 0} (f : ℕ → X) (k : ℕ) (x : X) → with_at f k x k ≡ x
with_at-same f k x = with_at-cases (λ y. y ≡ x) f k x k (λ e. refl) (λ ne. absurd (ne refl))

pub with_at-other : {X : Type 0} (f : ℕ → X) (k : ℕ) (x : X) (q : ℕ) → q ≢ k → with_at f k x q ≡ f q
with_at-other f k x q ne = with_at-cases (λ y. y ≡ f q) f k x q (λ e. absurd (ne e)) (λ e. refl)

module _ {T : Type 0} where
  pub from_producer-append : (p : ℕ) (a b : List (Element T)) → from_producer p (a ++ b) ≡ from_producer p a ++ from_producer p b
  from_producer-append p [] b = refl
  from_producer-append p (x ∷ a) b = by (p == x.0) (from_producer-append p a b) where
    by : (c : Bool) → from_producer p (a ++ b) ≡ from_producer p a ++ from_producer p b → cond c (x.1 ∷ from_producer p (a ++ b)) (from_producer p (a ++ b)) ≡ cond c (x.1 ∷ from_producer p a) (from_producer p a) ++ from_producer p b
    by true e = ap (λ l. x.1 ∷ l) e
    by false e = e

  -- one element of p, and one of another producer
  pub from_producer-mine : (p : ℕ) (x : Element T) → p ≡ x.0 → from_producer p (x ∷ []) ≡ x.1 ∷ []
  from_producer-mine p x e = elim (eqb_tells p x.0) [
    | inl h ↦ subst (λ b. cond b (x.1 ∷ []) [] ≡ x.1 ∷ []) (sym h.0) refl
    | inr h ↦ absurd (h.1 e)
  ]

  pub from_producer-other : (p : ℕ) (x : Element T) → p ≢ x.0 → from_producer p (x ∷ []) ≡ []
  from_producer-other p x ne = elim (eqb_tells p x.0) [
    | inl h ↦ absurd (ne h.1)
    | inr h ↦ subst (λ b. cond b (x.1 ∷ []) [] ≡ []) (sym h.0) refl
  ]

  -- a list of elements of one producer has at most one End, which is its last
  pub items_in-map : (xs : List T) → items_in (map Item xs) ≡ xs
  items_in-map [] = refl
  items_in-map (x ∷ xs) = ap (λ l. x ∷ l) (items_in-map xs)

  pub items_in-append : (a b : List (Taken T)) → items_in (a ++ b) ≡ items_in a ++ items_in b
  items_in-append [] b = refl
  items_in-append (Item x ∷ a) b = ap (λ l. x ∷ l) (items_in-append a b)
  items_in-append (End ∷ a) b = items_in-append a b

  pub items_in-sent_of : (put : List T) (ended : Bool) → items_in (sent_of put ended) ≡ put
  items_in-sent_of put false = items_in-map put
  items_in-sent_of put true = items_in-append (map Item put) (End ∷ []) ∙ append-nil (items_in (map Item put)) ∙ items_in-map put

  rest : (x y : Taken T) (xs ys : List (Taken T)) → x ∷ xs ≡ y ∷ ys → xs ≡ ys
  rest x y xs ys h = cc

  none : (a b : List (Taken T)) → a ++ b ≡ [] → b ≡ []
  none [] b h = h
  none (z ∷ a) b h = absurd cc

  -- after an End nothing comes
  pub nothing_after : (put : List T) (a b : List (Taken T)) → ends_in a ≡ true → a ++ b ≡ map Item put → b ≡ []
  nothing_after put [] b e h = absurd (true≢false (sym e))
  nothing_after [] (Item x ∷ a) b e h = absurd cc
  nothing_after (y ∷ put) (Item x ∷ a) b e h = nothing_after put a b e (rest _ _ _ _ h)
  nothing_after [] (End ∷ a) b e h = absurd cc
  nothing_after (y ∷ put) (End ∷ a) b e h = absurd cc

  pub nothing_after_end : (put : List T) (a b : List (Taken T)) → ends_in a ≡ true → a ++ b ≡ map Item put ++ End ∷ [] → b ≡ []
  nothing_after_end put [] b e h = absurd (true≢false (sym e))
  nothing_after_end [] (Item x ∷ a) b e h = absurd cc
  nothing_after_end (y ∷ put) (Item x ∷ a) b e h = nothing_after_end put a b e (rest _ _ _ _ h)
  nothing_after_end [] (End ∷ a) b e h = none a b (rest _ _ _ _ h)
  nothing_after_end (y ∷ put) (End ∷ a) b e h = absurd cc

  pub nothing_follows : (put : List T) (ended : Bool) (a b : List (Taken T)) → ends_in a ≡ true → a ++ b ≡ sent_of put ended → b ≡ []
  nothing_follows put false a b e h = nothing_after put a b e h
  nothing_follows put true a b e h = nothing_after_end put a b e h

  -- what a element adds to its producer's list
  pub sent_of-added : (t : Taken T) (put : List T) (ended : Bool) → ended ≡ false → sent_of (added t (put, ended)).0 (added t (put, ended)).1 ≡ sent_of put ended ++ t ∷ []
  sent_of-added (Item x) put false e = map-append Item put (x ∷ [])
  sent_of-added End put false e = refl
  sent_of-added t put true e = absurd (true≢false e)

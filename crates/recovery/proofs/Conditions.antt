-- The view with which a life rejoins is the one in which it may.
use Rattle.std.proofs.Common.{◌≡◌, ◌<◌, ◌≤◌, ◌⊎◌, inl, inr, ℕ, zero, suc, Bool, true, false, ◌&&◌, ◌==◌, List, Option, Some, None, refl, ap, subst, arith}
use Rattle.std.proofs.Math.Nat.{mod-lt}
use Rattle.std.proofs.lemmas.Bool.{and_parts, and_from, eqb-true, eq-eqb, leb-true, le-leb, cases_lt, cases_eq}
use Rattle.std.proofs.lemmas.Option.{same_Some, none-some}
use Rattle.jp_types.specs.Views.{majority, leader, count_below, number_if}
use Rattle.epoch_vectors.specs.Replies.{is_counted}
use Rattle.epoch_vectors.proofs.Counting.{counted-past}
use Rattle.recovery.specs.Rejoining.{Answer, Rejoining, replicas, counted_answer, view_of_answer, highest_answered, is_next_known, is_leader_ready, is_answered_enough, rejoin_view, LeaderIsReady, MayRejoin}

number_is : (b : Bool) (k m : ℕ) → number_if b k ≡ Some m → (b ≡ true) × (k ≡ m)
number_is false k m e = absurd (none-some m e)
number_is true k m e = (refl, same_Some k m e)

next_is : (next : Option ℕ) (undecided : ℕ) → is_next_known next undecided ≡ true → (x : ℕ) × (next ≡ Some x) × (x ≤ undecided)
next_is None undecided e = absurd (cc)
next_is (Some x) undecided e = (x, refl, leb-true x undecided e)

-- what the test of the leader's answer tells
Ready : Option Answer → ℕ → ℕ → Type 0
Ready a view undecided = (answer : Answer) × (a ≡ Some answer) × (answer.1.view ≡ view) × (is_next_known answer.1.next undecided ≡ true)

ready_is : (a : Option Answer) (view undecided : ℕ) → is_leader_ready a view undecided ≡ true → Ready a view undecided
unfolding Ready
ready_is None view undecided e = absurd (cc)
ready_is (Some answer) view undecided e =
    let parts = and_parts (answer.1.view == view) (is_next_known answer.1.next undecided) e in
    (answer, refl, eqb-true answer.1.view view parts.0, parts.1)

one_at_most : (a : Option Answer) (view : ℕ) → ((answer : Answer) → a ≡ Some answer → answer.1.view ≤ view) → view_of_answer a ≤ view
one_at_most None view most = omega arith
one_at_most (Some answer) view most = most answer refl

module _ (own : List ℕ) (k : Rejoining) where
  -- only a replica that there is has a counted answer
  counted_below : (p : ℕ) (answer : Answer) → counted_answer own k p ≡ Some answer → (p < replicas k) ⊎ (replicas k ≤ p) → p < replicas k
  counted_below p answer at (inl lt) = lt
  counted_below p answer at (inr past) = let none = counted-past own k.answers p past in absurd (none-some answer (rw none at at))

  view_of : (a : Option Answer) (answer : Answer) → a ≡ Some answer → view_of_answer a ≡ answer.1.view
  view_of a answer at = ap view_of_answer at

  up_to_step : (p q : ℕ) (answer : Answer) → counted_answer own k q ≡ Some answer → (q < p → answer.1.view ≤ highest_answered p own k)
      → (q ≡ p) ⊎ (q ≡ p → ⊥) → q < suc p → answer.1.view ≤ highest_answered (suc p) own k
  up_to_step p q answer at rest (inl e) lt =
      let here = view_of (counted_answer own k p) answer (rw e at at) in
      omega arith
  up_to_step p q answer at rest (inr other) lt = let before = rest (omega arith) in omega arith

  up_to : (p q : ℕ) (answer : Answer) → q < p → counted_answer own k q ≡ Some answer → answer.1.view ≤ highest_answered p own k
  up_to zero q answer lt at = absurd (omega arith)
  up_to (suc p) q answer lt at = up_to_step p q answer at (λ h. up_to p q answer h at) (cases_eq q p) lt

  at_most : (p view : ℕ) → ((q : ℕ) (answer : Answer) → counted_answer own k q ≡ Some answer → answer.1.view ≤ view) → highest_answered p own k ≤ view
  at_most zero view most = omega arith
  at_most (suc p) view most =
      let rest = at_most p view most in
      let here = one_at_most (counted_answer own k p) view (most p) in
      omega arith

  module _ (undecided view : ℕ) (some : 0 < replicas k) where
    -- a view in which the life may rejoin is the highest that is answered
    is_highest : MayRejoin own k undecided view → highest_answered (replicas k) own k ≡ view
    is_highest may =
        let ready = may.ready in
        let led = mod-lt view some in
        let up = up_to (replicas k) (leader (replicas k) view) ready.answer led ready.counted in
        let most = at_most (replicas k) view may.highest in
        let at = ready.at in
        omega arith

    is_ready : MayRejoin own k undecided view → is_leader_ready (counted_answer own k (leader (replicas k) view)) view undecided ≡ true
    is_ready may =
        let ready = may.ready in
        rw (ready.counted, ready.prepared) (and_from _ _ (eq-eqb ready.answer.1.view view ready.at) (le-leb ready.next undecided ready.known))

    pub rejoins_where : MayRejoin own k undecided view → rejoin_view own k undecided ≡ Some view
    rejoins_where may =
        let enough = le-leb (majority (replicas k)) (count_below (replicas k) (is_counted own k.answers)) may.enough in
        rw (is_highest may) (ap (λ b. number_if b view) (and_from _ _ enough (is_ready may)))

    pub where_rejoins : rejoin_view own k undecided ≡ Some view → MayRejoin own k undecided view
    unfolding Ready
    where_rejoins e =
        let u = highest_answered (replicas k) own k in
        let tests = number_is (is_answered_enough own k && is_leader_ready (counted_answer own k (leader (replicas k) u)) u undecided) u view e in
        let parts = and_parts (is_answered_enough own k) (is_leader_ready (counted_answer own k (leader (replicas k) u)) u undecided) tests.0 in
        let ready = ready_is (counted_answer own k (leader (replicas k) u)) u undecided parts.1 in
        let next = next_is ready.0.1.next undecided ready.3 in
        record {
          enough = leb-true (majority (replicas k)) (count_below (replicas k) (is_counted own k.answers)) parts.0;
          highest = λ p answer at. let up = up_to (replicas k) p answer (counted_below p answer at (cases_lt p (replicas k))) at in let same = tests.1 in omega arith;
          ready = subst (λ v. LeaderIsReady own k undecided v) tests.1 (record { answer = ready.0; next = next.0; counted = ready.1; at = ready.2; prepared = next.1; known = next.2 });
        }

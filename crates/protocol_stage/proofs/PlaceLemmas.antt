-- Where the newest armed proposal for an instance stands.
use Rattle.std.proofs.Common.{◌≡◌, ℕ, zero, suc, ◌+◌, ◌<◌, ◌==◌, Bool, true, false, cond, List, [], ◌∷◌, length, get_or, Some, None, if◌then◌else◌, refl, sym, ap, ◌∙◌, arith}
use Rattle.std.specs.List.{position, position_from, remove}
use Rattle.std.proofs.lemmas.Iterator.Adapters.{position_from-zero}
use Rattle.std.proofs.lemmas.List.Quantifiers.{position-Some}
use Rattle.retransmitter.specs.Armed.{Armed}
use Rattle.protocol_stage.specs.Repeating.{newest_propose, without_newest_propose}

module _ (i : ℕ) where
  -- whether a proposal is for the instance
  abbrev is_for : ℕ × Armed → Bool
  is_for a = a.0 == i

  none_from : (proposes : List (ℕ × Armed)) (o : ℕ) → position_from is_for o proposes ≡ None → (newest_propose i proposes ≡ None) × (without_newest_propose i proposes ≡ proposes)
  none_from [] o e = (refl, refl)
  none_from (a ∷ more) o e = by (is_for a) e (none_from more (o + 1))
    where
      by : (b : Bool) → cond b (Some o) (position_from is_for (o + 1) more) ≡ None
          → (position_from is_for (o + 1) more ≡ None → (newest_propose i more ≡ None) × (without_newest_propose i more ≡ more))
          → ((if b then Some a.1 else newest_propose i more) ≡ None) × ((if b then more else a ∷ without_newest_propose i more) ≡ a ∷ more)
      by true h k = absurd cc
      by false h k = let rest = k h in (rest.0, ap (λ (l : List (ℕ × Armed)). a ∷ l) rest.1)

  -- where there is no place, none is for the instance
  pub none_newest : (proposes : List (ℕ × Armed)) → position is_for proposes ≡ None → (newest_propose i proposes ≡ None) × (without_newest_propose i proposes ≡ proposes)
  none_newest proposes e = none_from proposes 0 (sym (position_from-zero is_for proposes) ∙ e)

  at_place : (proposes : List (ℕ × Armed)) (k : ℕ) (d : ℕ × Armed) → k < length proposes → is_for (get_or proposes k d) ≡ true → ((j : ℕ) → j < k → is_for (get_or proposes j d) ≡ false)
      → (newest_propose i proposes ≡ Some (get_or proposes k d).1) × (without_newest_propose i proposes ≡ remove proposes k)
  at_place [] k d below is before = absurd (omega (arith, below))
  at_place (a ∷ more) zero d below is before =
      (ap (λ (b : Bool). if b then Some a.1 else newest_propose i more) is, ap (λ (b : Bool). if b then more else a ∷ without_newest_propose i more) is)
  at_place (a ∷ more) (suc k) d below is before =
      let not_first : is_for a ≡ false = before 0 (omega arith) in
      let inside : k < length more = omega (arith, below) in
      let rest = at_place more k d inside is (λ j less. before (suc j) (omega (arith, less))) in (
        ap (λ (b : Bool). if b then Some a.1 else newest_propose i more) not_first ∙ rest.0,
        ap (λ (b : Bool). if b then more else a ∷ without_newest_propose i more) not_first ∙ ap (λ (l : List (ℕ × Armed)). a ∷ l) rest.1,
      )

  -- where there is one, the newest for the instance stands there
  pub place_newest : (proposes : List (ℕ × Armed)) (k : ℕ) (a : ℕ × Armed) → position is_for proposes ≡ Some k → a ≡ get_or proposes k a
      → (newest_propose i proposes ≡ Some a.1) × (without_newest_propose i proposes ≡ remove proposes k)
  place_newest proposes k a e is =
      let first = position-Some is_for proposes k a e in
      let at = at_place proposes k a first.0 first.1 first.2 in
      (at.0 ∙ ap (λ (x : ℕ × Armed). Some x.1) (sym is), at.1)

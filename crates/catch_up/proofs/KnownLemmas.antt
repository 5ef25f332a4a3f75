-- One step along the known batches.
use Rattle.std.proofs.Common.{ℕ, zero, suc, ◌≡◌, ◌+◌, ◌-◌, ◌<◌, ◌≤◌, List, [], ◌∷◌, ◌++◌, Option, Some, None, refl, sym, ap, ◌∙◌, arith, append_assoc, append-nil}
use Rattle.jp_types.specs.Instances.{Batch, known_from, known_then}

module _ (known : ℕ → Option Batch) where
  none_from : (k i : ℕ) → known i ≡ None → known_from k known i ≡ []
  none_from zero i h = refl
  none_from (suc k) i h = ap (λ o. known_then o (known_from k known (suc i))) h

  some_from : (k i : ℕ) (b : Batch) → known i ≡ Some b → known_from (suc k) known i ≡ b ∷ known_from k known (suc i)
  some_from k i b h = ap (λ o. known_then o (known_from k known (suc i))) h

  -- where the next one is not known, the batches so far are all
  pub all_so_far : (k i : ℕ) (so_far all : List Batch) → so_far ++ known_from k known i ≡ all → known i ≡ None → so_far ≡ all
  all_so_far k i so_far all h none = sym (append-nil so_far) ∙ ap (λ later. so_far ++ later) (sym (none_from k i none)) ∙ h

  -- where it is known, it comes next
  pub one_more : (limit count i : ℕ) (b : Batch) (so_far all : List Batch) → count < limit → known i ≡ Some b
      → so_far ++ known_from (limit - count) known i ≡ all → (so_far ++ b ∷ []) ++ known_from (limit - (count + 1)) known (suc i) ≡ all
  one_more limit count i b so_far all few some h =
      let left : limit - count ≡ suc (limit - (count + 1)) = omega arith in
      append_assoc so_far (b ∷ []) (known_from (limit - (count + 1)) known (suc i))
      ∙ ap (λ later. so_far ++ later) (sym (some_from (limit - (count + 1)) i b some))
      ∙ ap (λ k. so_far ++ known_from k known i) (sym left)
      ∙ h

  -- where there are as many as may be, they are all
  pub all_taken : (limit count i : ℕ) (so_far all : List Batch) → limit ≤ count → so_far ++ known_from (limit - count) known i ≡ all → so_far ≡ all
  all_taken limit count i so_far all past h =
      let none : limit - count ≡ 0 = omega arith in
      sym (append-nil so_far) ∙ ap (λ k. so_far ++ known_from k known i) (sym none) ∙ h

-- The least replica whose report has a decided batch.
use Rattle.std.proofs.Common.{◌≡◌, ℕ, zero, suc, ◌<◌, Bool, true, false, List, Some, None, nat_lt, refl, arith}
use Rattle.std.specs.Option.{option_or}
use Rattle.std.proofs.lemmas.Bool.Decides.{nat_tests}
use borrow.Author.Tests.{ltb-true}
use Rattle.jp_types.specs.declared.message.Entry.{Entry}
use Rattle.jp_types.specs.Instances.{Batch}
use Rattle.jp_types.specs.Reports.{decided_in}
use Rattle.jp_types.specs.Reports.{decided_below}

-- the report of k is the first of those below n that has a decided batch
pub decided_first : (n k : ℕ) (reports : ℕ → List Entry) (i : ℕ) (batch : Batch) → decided_below k reports i ≡ None
    → decided_in i (reports k) ≡ Some batch → k < n → decided_below n reports i ≡ Some batch
decided_first zero k reports i batch none some below = absurd (omega arith)
decided_first (suc n) k reports i batch none some below = by (nat_lt k n) refl (λ lower. decided_first n k reports i batch none some lower) where
  by : (b : Bool) → nat_lt k n ≡ b → (k < n → decided_below n reports i ≡ Some batch) → option_or (decided_below n reports i) (decided_in i (reports n)) ≡ Some batch
  by true e before = rw (before (ltb-true k n e)) refl
  by false e before = let same : n ≡ k = grind (arith, nat_tests) in rw (same, none, some) refl

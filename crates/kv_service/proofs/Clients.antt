-- The entry of a client after another was inserted.
use Rattle.std.proofs.Common.{◌≡◌, ℕ, cond, List, [], ◌∷◌, Some, refl, nat_cmp, arith}
use Rattle.std.specs.Ordering.{eq_by_cmp}
use Rattle.std.proofs.lemmas.Bool.Decides.{nat_tests}
use Rattle.kv_service.specs.Entries

pub get-insert : {X : Type 0} (es : List (ℕ × X)) (k c : ℕ) (v : X) → Entries.get nat_cmp (Entries.insert nat_cmp es k v) c ≡ cond (eq_by_cmp nat_cmp c k) (Some v) (Entries.get nat_cmp es c)
get-insert [] k c v = refl
get-insert (e ∷ es) k c v = let ih = get-insert es k c v in grind (arith, nat_tests)

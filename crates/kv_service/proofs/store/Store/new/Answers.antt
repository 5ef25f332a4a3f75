use Rattle.std.proofs.Common.{ℕ, List, sym, subst}
use Rattle.kv_service.specs.Ascending.{IsAscending}
use Rattle.kv_service.specs.Store.{bytes_cmp}
use Rattle.kv_service.proofs.Places.{ascending_none}
use Rattle.kv_service.proofs.store.Store.new.Goals as goal

pub invariant_of-result : goal.invariant_of-result
invariant_of-result c = subst (IsAscending {X = List ℕ} bytes_cmp) (sym c.new.ensures.items) (ascending_none (List ℕ) bytes_cmp)

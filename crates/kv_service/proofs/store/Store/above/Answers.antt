use Rattle.std.proofs.Common.{◌∙◌, rules}
use Rattle.std.specs.Cmp.Lexicographic.{nat_list_cmp_total}
use Rattle.std.proofs.lemmas.Fn.{always_returns_same}
use Rattle.kv_service.specs.Store.{bytes_cmp}
use Rattle.kv_service.proofs.Aboves.{first_above_at, first_above_none, is_up_to}
use Rattle.kv_service.proofs.store.Store.above.Goals as goal

-- the closure tells the keys up to this one, and the slice is the store's pairs
pub returns-in-Some : goal.returns-in-Some
returns-in-Some c =
    let facts = c.partition_point.ensures in
    let key = c.in-Some.key.now in
    let parts = facts.partitioned (is_up_to bytes_cmp (λ pair. pair.0) key) (always_returns_same _ _ _ (λ a r f called. search rules)) in
    let first = first_above_at bytes_cmp (λ pair. pair.0) key nat_list_cmp_total c.deref.result.now _ (rw c.deref.ensures.value c.self.invariant) facts.bound parts in
    rw (← (c.deref.ensures.value ∙ c.self.view_is), c.in-Some.is) first

pub returns-in-None : goal.returns-in-None
returns-in-None c = rw c.in-None.is (first_above_none bytes_cmp (λ pair. pair.0) c.args.self.now)

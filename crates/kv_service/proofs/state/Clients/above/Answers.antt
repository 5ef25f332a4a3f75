use Rattle.std.proofs.Common.{◌∙◌, rules}
use Rattle.std.proofs.lemmas.Fn.{always_returns_same}
use Rattle.kv_service.specs.Above.{pair_cmp}
use Rattle.kv_service.proofs.Aboves.{ascending_pairs, first_above_at, first_above_none, is_up_to, pair_cmp_total}
use Rattle.kv_service.proofs.state.Clients.above.Goals as goal

-- the closure tells the entries up to this one, and the slice is the clients
pub returns-in-Some : goal.returns-in-Some
returns-in-Some c =
    let facts = c.partition_point.ensures in
    let last = c.in-Some.last in
    let parts = facts.partitioned (is_up_to pair_cmp (λ entry. (entry.0, entry.1.0)) last) (always_returns_same _ _ _ (λ a r f called. search rules)) in
    let ascending = ascending_pairs c.deref.result.now (rw c.deref.ensures.value c.self.invariant) in
    let first = first_above_at pair_cmp (λ entry. (entry.0, entry.1.0)) last pair_cmp_total c.deref.result.now _ ascending facts.bound parts in
    rw (← (c.deref.ensures.value ∙ c.self.view_is), c.in-Some.is) first

pub returns-in-None : goal.returns-in-None
returns-in-None c = rw c.in-None.is (first_above_none pair_cmp (λ entry. (entry.0, entry.1.0)) c.args.self.now)

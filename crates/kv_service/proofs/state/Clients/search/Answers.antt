use Rattle.std.proofs.Common.{◌∙◌, nat_cmp, rules}
use Rattle.std.specs.Cmp.{nat_cmp_total}
use Rattle.std.proofs.lemmas.Fn.{always_returns_same}
use Rattle.kv_service.proofs.Searches.{searched}
use Rattle.kv_service.proofs.state.Clients.search.Goals as goal

-- the closure compares an entry's client, and the slice is the clients
pub returns : goal.returns
returns c =
    let facts = c.binary_search_by.ensures in
    let by_client = facts.position (λ entry. nat_cmp entry.0 c.args.client) (always_returns_same _ _ _ (λ a r f called. search rules)) in
    let places = searched nat_cmp_total c.args.client c.deref.result.now _ (rw c.deref.ensures.value c.self.invariant) facts.bound by_client in
    let entries = c.deref.ensures.value ∙ c.self.view_is in
    record { found = rw (← entries) places.found; missing = rw (← entries) places.missing }

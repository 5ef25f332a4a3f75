use Rattle.std.proofs.Common.{◌∙◌, rules}
use Rattle.std.specs.Cmp.Lexicographic.{nat_list_cmp_total}
use Rattle.std.proofs.lemmas.Fn.{always_returns_same}
use Rattle.kv_service.specs.Store.{bytes_cmp}
use Rattle.kv_service.proofs.Searches.{searched}
use Rattle.kv_service.proofs.store.Store.search.Goals as goal

-- the closure compares a pair's key, and the slice is the store's pairs
pub returns : goal.returns
returns c =
    let facts = c.binary_search_by.ensures in
    let by_key = facts.position (λ pair. bytes_cmp pair.0 c.args.key.now) (always_returns_same _ _ _ (λ a r f called. search rules)) in
    let places = searched nat_list_cmp_total c.args.key.now c.deref.result.now _ (rw c.deref.ensures.value c.self.invariant) facts.bound by_key in
    let pairs = c.deref.ensures.value ∙ c.self.view_is in
    record { found = rw (← pairs) places.found; missing = rw (← pairs) places.missing }

use Rattle.std.proofs.Common.{refl, sym, ◌∙◌, subst, ap, rules}
use Rattle.std.specs.List.{remove}
use Rattle.kv_service.specs.Ascending.{IsAscending}
use Rattle.kv_service.specs.Store.{bytes_cmp}
use Rattle.kv_service.proofs.Places.{ascending_remove, found_lt, remove_found}
use Rattle.kv_service.proofs.Puts.{contains_found, contains_missing}
use Rattle.kv_service.proofs.store.Store.remove.Goals as goal

pub remove-requires : goal.remove-requires
remove-requires c = let lt = found_lt (bytes_cmp c.args.key.now) c.args.self.now c.in-Ok.at c.in-Ok.ensures.found in search rules

pub invariant_of-self : goal.invariant_of-self
invariant_of-self c = subst (IsAscending bytes_cmp) (sym c.remove.ensures.items) (ascending_remove bytes_cmp _ _ c.self.invariant)

pub returns-in-Ok : goal.returns-in-Ok
returns-in-Ok c =
    let there = contains_found c.args.self.now c.args.key.now c.in-Ok.at c.in-Ok.ensures.found in
    let removed = remove_found (bytes_cmp c.args.key.now) c.args.self.now c.in-Ok.at c.in-Ok.ensures.found in
    record { found = sym there; after = rw there (c.remove.ensures.items ∙ ap (λ l. remove l c.in-Ok.at) c.self.view_is ∙ sym removed) }

pub returns-in-Err : goal.returns-in-Err
returns-in-Err c =
    let absent = contains_missing c.args.self.now c.args.key.now _ c.in-Err.ensures.missing (subst (IsAscending bytes_cmp) c.self.view_is c.self.invariant) in
    record { found = sym absent; after = rw absent refl }

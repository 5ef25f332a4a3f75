use Rattle.std.proofs.Common.{sym, rules}
use Rattle.kv_service.specs.Store.{bytes_cmp}
use Rattle.std.specs.Cmp.Lexicographic.{nat_list_cmp_total}
use Rattle.kv_service.proofs.Places.{found_lt, lookup_found, lookup_missing}
use Rattle.kv_service.proofs.store.Store.get.Goals as goal

pub index-requires : goal.index-requires
index-requires c = let lt = found_lt (bytes_cmp c.args.key.now) c.args.self.now c.in-Ok.at c.in-Ok.ensures.found in search rules

pub returns-in-Ok : goal.returns-in-Ok
returns-in-Ok c =
    let value = lookup_found (bytes_cmp c.args.key.now) c.args.self.now c.in-Ok.at c.index.result.now c.in-Ok.ensures.found in
    cc (value, c.index.ensures, c.self.view_is)

pub returns-in-Err : goal.returns-in-Err
returns-in-Err c = sym (lookup_missing nat_list_cmp_total c.args.key.now c.args.self.now _ c.in-Err.ensures.missing (rw c.self.view_is at c.self.invariant))

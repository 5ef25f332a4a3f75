use Rattle.std.proofs.Common.{nat_cmp, sym, rules}
use Rattle.std.specs.Cmp.{nat_cmp_total}
use Rattle.kv_service.proofs.Places.{found_lt, lookup_found, lookup_missing}
use Rattle.kv_service.proofs.state.Clients.last.Goals as goal

pub index-requires : goal.index-requires
index-requires c = let lt = found_lt (nat_cmp c.args.client) c.args.self.now c.in-Ok.at c.in-Ok.ensures.found in search rules

pub returns-in-Ok : goal.returns-in-Ok
returns-in-Ok c =
    let last = lookup_found (nat_cmp c.args.client) c.args.self.now c.in-Ok.at c.index.result.now c.in-Ok.ensures.found in
    cc (last, c.index.ensures, c.self.view_is)

pub returns-in-Err : goal.returns-in-Err
returns-in-Err c = sym (lookup_missing nat_cmp_total c.args.client c.args.self.now _ c.in-Err.ensures.missing (rw c.self.view_is at c.self.invariant))

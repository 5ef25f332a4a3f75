use Rattle.std.proofs.Common.{nat_cmp, sym, ◌∙◌, rules}
use Rattle.kv_service.proofs.Places.{found_lt, insert_found}
use Rattle.kv_service.proofs.state.replace.Goals as goal

pub index_mut-requires : goal.index_mut-requires
index_mut-requires c = let lt = found_lt (nat_cmp c.args.entry.0) c.args.last.now.items c.args.at c.requires in search rules

pub returns : goal.returns
returns c =
    let inserted = insert_found nat_cmp c.args.entry.0 c.args.entry.1 c.args.last.now.items c.args.at c.index_mut.result.now c.requires in
    sym (inserted ∙ cc (c.index_mut.ensures.value))

use Rattle.std.proofs.Common.{nat_cmp, sym, ◌∙◌, rules}
use Rattle.kv_service.proofs.Places.{insert_missing, missing_le}
use Rattle.kv_service.proofs.state.add.Goals as goal

pub insert-inserted-requires : goal.insert-inserted-requires
insert-inserted-requires c = let le = missing_le (nat_cmp c.args.entry.0) c.args.last.now.items c.args.at c.requires.missing in search rules

-- there is room, so that the insert succeeds
pub returns : goal.returns
returns c =
    let inserted = insert_missing nat_cmp c.args.entry.0 c.args.entry.1 c.args.last.now.items c.args.at c.requires.missing in
    c.insert-inserted.ensures.items ∙ rw (c.insert-inserted.ensures.succeeds c.requires.room) (sym inserted)

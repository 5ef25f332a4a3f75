use Rattle.std.proofs.Common.{◌≡◌, length, vec_len, sym, ◌∙◌, subst, ap, rules}
use Rattle.std.specs.Cmp.Lexicographic.{nat_list_cmp_total}
use Rattle.kv_service.specs.Ascending.{IsAscending}
use Rattle.kv_service.specs.Store.{bytes_cmp}
use Rattle.kv_service.proofs.Places.{ascending_insert, found_lt, missing_le, insert_found, insert_missing}
use Rattle.kv_service.proofs.Puts.{put_held, put_room, put_full}
use Rattle.kv_service.proofs.store.Store.put.Goals as goal

pub index_mut-requires : goal.index_mut-requires
index_mut-requires c = let lt = found_lt (bytes_cmp c.bytes.result.now) c.args.self.now c.in-Ok.at c.in-Ok.ensures.found in search rules

-- a key that is there takes the value
pub invariant_of-self : goal.invariant_of-self
invariant_of-self c =
    let found = rw (c.bytes.ensures, ← c.self.view_is) at c.in-Ok.ensures.found in
    let inserted = insert_found bytes_cmp c.args.key.now c.in_ok-value-in-Ok.value c.self.inside.pairs.items c.in-Ok.at c.index_mut.result.now found in
    rw (c.index_mut.ensures.value, ← inserted) (ascending_insert nat_list_cmp_total c.args.key.now c.in_ok-value-in-Ok.value c.self.inside.pairs.items c.self.invariant)

pub returns-in_ok-value-in-Ok-clause-reply : goal.returns-in_ok-value-in-Ok-clause-reply
returns-in_ok-value-in-Ok-clause-reply c =
    sym (ap (λ r. r.1) (put_held c.args.self.now c.args.key.now c.args.value.now c.in-Ok.at (rw c.bytes.ensures at c.in-Ok.ensures.found)))

pub returns-in_ok-value-in-Ok-clause-ok : goal.returns-in_ok-value-in-Ok-clause-ok
returns-in_ok-value-in-Ok-clause-ok c =
    let found = rw c.bytes.ensures at c.in-Ok.ensures.found in
    let held = ap (λ r. r.0) (put_held c.args.self.now c.args.key.now c.args.value.now c.in-Ok.at found) in
    let inserted = insert_found bytes_cmp c.args.key.now c.args.value.now c.args.self.now c.in-Ok.at c.index_mut.result.now found in
    sym (held ∙ inserted ∙ cc (c.self.view_is, c.index_mut.ensures.value, c.in_ok-value-in-Ok.ensures))

-- a key that is not there, and no room for it
pub returns-then-len-ge-KEYS : goal.returns-then-len-ge-KEYS
returns-then-len-ge-KEYS c =
    let missing = rw c.bytes.ensures at c.in-Err.ensures.missing in
    let count : vec_len c.self.inside.pairs ≡ length c.args.self.now = search rules in
    let full = put_full c.args.self.now c.args.key.now c.args.value.now c.in-Err.at missing (subst (IsAscending bytes_cmp) c.self.view_is c.self.invariant) (search rules) in
    record { reply = sym (ap (λ r. r.1) full); ok = sym (ap (λ r. r.0) full); err = tt }

-- a key that is not there, and room for it
pub insert-requires : goal.insert-requires
insert-requires c = let le = missing_le (bytes_cmp c.bytes.result.now) c.args.self.now c.in-Err.at c.in-Err.ensures.missing in search rules

pub invariant_of-self-in-Err : goal.invariant_of-self-in-Err
invariant_of-self-in-Err c =
    let key = c.in_ok-copy-in-Err.field-0 in
    let value = c.in_ok-copy-in-Err-2.field-0 in
    let missing = rw (c.bytes.ensures, ← c.in_ok-copy-in-Err.ensures, ← c.self.view_is) at c.in-Err.ensures.missing in
    let inserted = insert_missing bytes_cmp key value c.self.inside.pairs.items c.in-Err.at missing in
    rw (c.in_ok-insert-in-Err.ensures.items, ← inserted) (ascending_insert nat_list_cmp_total key value c.self.inside.pairs.items c.self.invariant)

pub returns-in_ok-insert-in-Err-clause-ok : goal.returns-in_ok-insert-in-Err-clause-ok
returns-in_ok-insert-in-Err-clause-ok c =
    let missing = rw c.bytes.ensures at c.in-Err.ensures.missing in
    let room = ap (λ r. r.0) (put_room c.args.self.now c.args.key.now c.args.value.now c.in-Err.at missing (subst (IsAscending bytes_cmp) c.self.view_is c.self.invariant) (search rules)) in
    let inserted = insert_missing bytes_cmp c.args.key.now c.args.value.now c.args.self.now c.in-Err.at missing in
    c.in_ok-insert-in-Err.ensures.items ∙ sym (room ∙ inserted ∙ cc (c.self.view_is, c.in_ok-copy-in-Err.ensures, c.in_ok-copy-in-Err-2.ensures))

use Rattle.std.proofs.Common.{◌≡◌, true, is_some, nat_cmp, sym, ap, subst, ◌∙◌}
use Rattle.kv_service.specs.Entries
use Rattle.kv_service.specs.Parts.{Joiner, with_part}
use Rattle.snapshots.specs.Joining.{HoldsCuts, whole_of}
use Rattle.snapshots.proofs.Taking.{taken-again}
use Rattle.snapshots.proofs.joiner.Joiner.put.Goals as goal

-- a part that is held already
unchanged : (c : goal.In_ok-whole) → with_part c.args.self.now c.args.part.now ≡ c.args.self.now
unchanged c =
    let cuts = subst (λ (j : Joiner). HoldsCuts j.total j.parts) c.self.view_is c.self.invariant in
    let held = subst (λ (j : Joiner). is_some (Entries.get nat_cmp j.parts c.args.part.now.at) ≡ true) c.self.view_is (sym c.contains_key.ensures ∙ c.if-contains_key.true) in
    taken-again c.args.self.now c.args.part.now cuts c.in_ok-check.ensures.faultless held

pub returns-in_ok-whole-clause-whole : goal.returns-in_ok-whole-clause-whole
returns-in_ok-whole-clause-whole c = c.in_ok-whole.ensures ∙ ap whole_of (sym (unchanged c))

pub returns-in_ok-whole-clause-ok : goal.returns-in_ok-whole-clause-ok
returns-in_ok-whole-clause-ok c = sym (unchanged c)

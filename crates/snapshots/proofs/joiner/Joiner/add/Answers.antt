use Rattle.std.proofs.Common.{ℕ, List, sym, ap, subst, ◌∙◌}
use Rattle.kv_service.specs.Parts.{Joiner}
use Rattle.snapshots.specs.Joining.{HoldsCuts}
use Rattle.snapshots.proofs.Taking.{back, cuts-after}
use Rattle.snapshots.proofs.joiner.Joiner.add.Goals as goal

pub invariant_of-self-2 : goal.invariant_of-self-2
invariant_of-self-2 c =
    cuts-after c.self.inside.total c.args.part.now.at c.self.inside.parts.entries c.insert.new.self.entries c.in_ok-copy.field-0 c.args.part.now.bytes c.in_ok-insert.ensures.entries c.in_ok-copy.ensures
    (rw (← c.self.view_is) at c.requires.cut) c.self.invariant

pub invariant_of-self-in-Ok : goal.invariant_of-self-in-Ok
invariant_of-self-in-Ok c =
    cuts-after c.self.inside.total c.args.part.now.at c.self.inside.parts.entries c.insert.new.self.entries c.in_ok-copy.field-0 c.args.part.now.bytes c.in_ok-insert.ensures.entries c.in_ok-copy.ensures
    (rw (← c.self.view_is) at c.requires.cut) c.self.invariant

-- the part goes out again
pub invariant_of-self-in-Err : goal.invariant_of-self-in-Err
invariant_of-self-in-Err c =
    let same =
    back c.args.part.now.at c.self.inside.parts.entries c.insert.new.self.entries c.remove.new.self.entries c.in_ok-copy.field-0 c.in_ok-insert.ensures.entries c.remove.ensures.entries
    (rw (← c.self.view_is) at c.requires.missing) in
    subst (HoldsCuts c.self.inside.total) (sym same) c.self.invariant

pub returns-in-Err-clause-err : goal.returns-in-Err-clause-err
returns-in-Err-clause-err c =
    let same =
    back c.args.part.now.at c.self.inside.parts.entries c.insert.new.self.entries c.remove.new.self.entries c.in_ok-copy.field-0 c.in_ok-insert.ensures.entries c.remove.ensures.entries
    (rw (← c.self.view_is) at c.requires.missing) in
    ap (with_parts c.self.inside.upto c.self.inside.total) same ∙ c.self.view_is
  where
    with_parts : ℕ → ℕ → List (ℕ × List ℕ) → Joiner
    with_parts upto total parts = record { upto = upto; total = total; parts = parts }

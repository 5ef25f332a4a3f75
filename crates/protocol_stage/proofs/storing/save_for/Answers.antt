use Rattle.std.proofs.Common.{ℕ, Option, Some, sym, ap, subst, ◌∙◌}
use Rattle.std.proofs.lemmas.Result.{on_ok_weaker}
use Rattle.stable_store.specs.Slots.{Loads}
use Rattle.protocol_stage.proofs.StoringLemmas.{none_after, raised_after, stands_loads_as}
use Rattle.protocol_stage.proofs.storing.save_for.Goals as goal

pub returns-in-Some-clause-held : goal.returns-in-Some-clause-held
returns-in-Some-clause-held g c =
    let after = sym c.stored_after.ensures ∙ c.in-Some.is in
    let is = ap (λ (n : ℕ). Some n) (raised_after c.args.stored c.args.acts.now c.in-Some.number after) ∙ sym after in
    on_ok_weaker c.save_above.result (λ held. held ∙ is) c.save_above.ensures.held

pub returns-in-Some-clause-loads : goal.returns-in-Some-clause-loads
returns-in-Some-clause-loads g c =
    let after = sym c.stored_after.ensures ∙ c.in-Some.is in
    let is = ap (λ (n : ℕ). Some n) (raised_after c.args.stored c.args.acts.now c.in-Some.number after) ∙ sym after in
    on_ok_weaker c.save_above.result (λ loads image left. subst (λ (n : Option ℕ). Loads image n) is (loads image left)) c.save_above.ensures.loads

pub returns-in-None-clause-held : goal.returns-in-None-clause-held
returns-in-None-clause-held g c =
    let after = sym c.stored_after.ensures ∙ c.in-None.is in
    c.requires.held ∙ none_after c.args.stored c.args.acts.now after ∙ sym after

pub returns-in-None-clause-loads : goal.returns-in-None-clause-loads
returns-in-None-clause-loads g c =
    let disk = g.D.Disk in
    let old = c.args.disk.now in
    let laws = g.met.D.Disk g.world.𝓛 g.world.𝓜 g.world.𝓡 ((λ s x. x), (λ x. x), (λ x. x), λ x. x) in
    let after = sym c.stored_after.ensures ∙ c.in-None.is in
    stands_loads_as c.args.cell.now (disk.size old) (disk.seen old) (disk.may_leave old) c.requires.stands (laws.whole old) _ (c.requires.held ∙ none_after c.args.stored c.args.acts.now after ∙ sym after)

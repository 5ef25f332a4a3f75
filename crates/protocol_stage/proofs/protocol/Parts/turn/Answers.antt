use Rattle.std.proofs.Common.{◌≡◌, ℕ, Option, Some, sym, ap, subst, ◌∙◌}
use Rattle.std.proofs.lemmas.Result.{on_ok_weaker}
use Rattle.stable_store.proofs.Moments.{widened}
use Rattle.stable_store.specs.Slots.{Loads}
use Rattle.protocol_core.specs.declared.life.Life.{Life}
use Rattle.protocol_stage.specs.Performing.{LoadsOneOf, stored_after}
use Rattle.protocol_stage.specs.Running.{IsSteady}
use Rattle.protocol_core.specs.Turning.{turn}
use Rattle.protocol_stage.proofs.StableLemmas.{turn_steady, turn_stores}
use Rattle.protocol_stage.proofs.StoringLemmas.{loads_one_of}
use Rattle.protocol_stage.proofs.protocol.Parts.turn.Goals as goal

pub returns-clause-stable : goal.returns-clause-stable
returns-clause-stable g c =
    let old = c.args.self.now.life in
    let steady = c.requires.stable.steady in
    let turned = turn old c.args.item c.args.room in
    let stores = ap (stored_after (Some old.stable)) c.in_ok-acts.ensures.acts ∙ turn_stores old c.args.item c.args.room steady in
    let life : c.perform.new.self.life ≡ turned.life = c.perform.ensures.life ∙ c.in_ok-acts.ensures.life in
    on_ok_weaker c.perform.result (λ held. record {
      holds = held ∙ stores ∙ ap (λ (l : Life). Some l.stable) (sym life);
      steady = subst IsSteady (sym life) (turn_steady old c.args.item c.args.room steady);
    }) c.perform.ensures.held

pub returns-clause-loads : goal.returns-clause-loads
returns-clause-loads g c =
    let old = c.args.self.now.life in
    let turned = turn old c.args.item c.args.room in
    let stores = ap (stored_after (Some old.stable)) c.in_ok-acts.ensures.acts ∙ turn_stores old c.args.item c.args.room c.requires.stable.steady in
    let life : c.perform.new.self.life ≡ turned.life = c.perform.ensures.life ∙ c.in_ok-acts.ensures.life in
    on_ok_weaker c.perform.result (λ loads image left. subst (λ (n : Option ℕ). Loads image n) (stores ∙ ap (λ (l : Life). Some l.stable) (sym life)) (loads image left)) c.perform.ensures.loads

pub returns-clause-any_moment : goal.returns-clause-any_moment
returns-clause-any_moment g c =
    let old = c.args.self.now.life in
    let disk = g.D.Disk in
    let turned = turn old c.args.item c.args.room in
    let before = Some old.stable in
    let saved = stored_after before c.in_ok-acts.acts in
    let stores : saved ≡ Some turned.life.stable = ap (stored_after before) c.in_ok-acts.ensures.acts ∙ turn_stores old c.args.item c.args.room c.requires.stable.steady in
    widened disk.moment disk.left_since c.args.disk.now c.perform.new.disk (LoadsOneOf before (Some turned.life.stable)) (LoadsOneOf before saved) c.perform.ensures.any_moment
    (loads_one_of before saved (Some turned.life.stable) stores)

pub returns-clause-untouched : goal.returns-clause-untouched
returns-clause-untouched g c same =
    let old = c.args.self.now.life in
    let before = Some old.stable in
    let stores : stored_after before c.in_ok-acts.acts ≡ Some (turn old c.args.item c.args.room).life.stable =
    ap (stored_after before) c.in_ok-acts.ensures.acts ∙ turn_stores old c.args.item c.args.room c.requires.stable.steady
    in
    c.perform.ensures.untouched (sym (stores ∙ ap (λ (n : ℕ). Some n) same))

use Rattle.std.proofs.Common.{Some, sym, ap, subst, ◌∙◌}
use Rattle.protocol_core.specs.declared.life.Life.{Life}
use Rattle.protocol_stage.specs.Running.{IsSteady}
use Rattle.protocol_stage.proofs.protocol.Protocol.open.Goals as goal

pub invariant_of-result : goal.invariant_of-result
invariant_of-result g c up =
    let life = sym c.perform.ensures.life in
    record {
      holds = c.in-Ok.ensures.held ∙ c.requires.stores ∙ ap (λ (l : Life). Some l.stable) life;
      steady = subst IsSteady life c.requires.steady;
    }

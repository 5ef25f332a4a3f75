use Rattle.std.proofs.Common.{◌<◌, sym, ◌∙◌, arith}
use Rattle.recovery.specs.Rejoining.{replicas}
use Rattle.recovery.proofs.Conditions.{rejoins_where, where_rejoins}
use Rattle.recovery.proofs.rejoiner.Rejoiner.rejoins.Goals as goal

pub returns-clause-may : goal.returns-clause-may
returns-clause-may c view =
    let told = c.rejoin_view.ensures.view in
    let some : 0 < replicas c.args.self.now = omega arith in (
      (λ e. where_rejoins c.args.own.now c.args.self.now c.args.first_undecided view some (sym told ∙ e)),
      (λ may. told ∙ rejoins_where c.args.own.now c.args.self.now c.args.first_undecided view some may),
    )

use Rattle.std.proofs.Common.{OnOk, ap, subst, ◌∙◌}
use Rattle.protocol_core.specs.declared.life.Life.{Life}
use Rattle.protocol_core.specs.Turned.{Does}
use Rattle.protocol_core.specs.Voting.{horizon_to, proposal_followed}
use Rattle.protocol_core.proofs.life.Life.hear_proposal.Goals as goal

pub returns : goal.returns
returns c =
    let heard = c.horizon_to.ensures ∙ ap (horizon_to c.args.self.now) c.saturating_add.ensures in
    subst (λ (life : Life). OnOk c.follow_proposal.result (Does (proposal_followed life c.args.from c.args.propose) c.follow_proposal.new.self c.args.acts.now c.follow_proposal.new.acts)) heard c.follow_proposal.ensures

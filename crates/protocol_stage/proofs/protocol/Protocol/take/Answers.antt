use Rattle.std.proofs.Common.{◌≡◌, subst}
use Rattle.std.specs.Prelude.{IfOk}
use Rattle.protocol_stage.specs.Performing.{outward}
use Rattle.protocol_stage.specs.Running.{Running}
use Rattle.protocol_core.specs.Turning.{turn}
use Rattle.protocol_stage.proofs.protocol.Protocol.take.Goals as goal

pub returns-else-is_err-clause-acts : goal.returns-else-is_err-clause-acts
returns-else-is_err-clause-acts g c =
    subst (λ (p : Running). IfOk c.turn-answer.result (λ acts. acts ≡ outward (turn p.life c.args.item c.args.room).acts)) c.self.view_is c.turn-answer.ensures.out

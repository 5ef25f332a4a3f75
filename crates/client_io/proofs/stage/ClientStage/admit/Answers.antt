use Rattle.client_io.proofs.Turns.{begun_admits}
use Rattle.client_io.proofs.stage.ClientStage.admit.Goals as goal

pub returns-in_ok-begin-in-Ok-Some-clause-admits : goal.returns-in_ok-begin-in-Ok-Some-clause-admits
returns-in_ok-begin-in-Ok-Some-clause-admits g c =
    begun_admits c.args.self.now _ c.begin.new.self _ (rw c.in-Ok-Some.field-0-is at c.in-Ok-Some.ensures.fresh) c.in_ok-begin-in-Ok-Some.ensures.begins (cc)

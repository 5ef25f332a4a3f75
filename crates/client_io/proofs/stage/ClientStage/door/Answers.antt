use Rattle.std.proofs.Common.{ap, subst}
use Rattle.client_io.specs.Doors.{Admits, Stage, let_go}
use Rattle.client_io.proofs.Turns.{turned_ok}
use Rattle.client_io.proofs.stage.ClientStage.door.Goals as goal

pub returns-clause-turned : goal.returns-clause-turned
returns-clause-turned g c =
    turned_ok c.args.self.now c.admit.new.self c.serve_next.new.self c.in_ok-came.came c.serve_next.result
    (subst (λ (s : Stage). Admits s c.in_ok-came.came c.admit.new.self) (ap let_go c.self.view_is) c.in_ok-came.ensures.admits) c.serve_next.ensures.serves

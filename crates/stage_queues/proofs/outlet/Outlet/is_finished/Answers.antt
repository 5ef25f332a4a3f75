use Rattle.stage_queues.proofs.Running.{finished_exactly}
use Rattle.stage_queues.proofs.outlet.Outlet.is_finished.Goals as goal

pub returns : goal.returns
returns g c = finished_exactly c.self.inside.pass c.args.self.now c.self.inside.running c.self.view_is c.self.invariant.1

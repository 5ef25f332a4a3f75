use Rattle.client_io.proofs.Turning.{flushed_turns_ok}
use Rattle.client_io.proofs.session.Session.turn.Goals as goal

pub returns-in-Ok : goal.returns-in-Ok
returns-in-Ok g c = flushed_turns_ok c.args.self.now c.flush.new.self c.receive.new.self c.in-Ok.ensures.ok c.receive.result c.receive.ensures

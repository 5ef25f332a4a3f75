use Rattle.std.proofs.Common.{ap, sym, ◌∙◌}
use Rattle.stage_queues.specs.Lanes.{count_running}
use Rattle.stage_queues.proofs.Running.{count_running-new}
use Rattle.stage_queues.proofs.outlet.Outlet.new.Goals as goal

pub invariant_of-result : goal.invariant_of-result
invariant_of-result g c =
    (c.requires.pass.0, c.requires.producers ∙ sym (count_running-new _ c.args.pass.lane.producers) ∙ ap (λ l. count_running c.args.pass.lane.producers l) (sym c.requires.pass.1))

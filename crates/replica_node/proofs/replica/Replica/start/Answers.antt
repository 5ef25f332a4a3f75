use Rattle.std.proofs.Common.{ℕ, List, Option}
use Rattle.protocol_core.specs.declared.act.Act.{Act}
use Rattle.protocol_stage.specs.Running.{IsHeld}
use Rattle.protocol_stage.proofs.ResultLemmas.{if_ok_weaker}
use Rattle.replica_node.specs.Beginning.{Begins}
use Rattle.replica_node.specs.Following.{FollowsStart}
use Rattle.replica_node.specs.Whole.{Whole}
use Rattle.replica_node.proofs.Whole.{starts-follow}
use Rattle.replica_node.proofs.replica.Replica.start.Goals as goal

pub returns-clause-follows : goal.returns-clause-follows
returns-clause-follows g c =
    let seen = g.D.Disk.seen c.args.disk.now in
    let config = c.args.config.now in
    if_ok_weaker (λ (made : Whole × List Act). (stored : Option ℕ) × IsHeld seen stored × Begins config stored made.0 made.1)
    (λ (made : Whole × List Act). (stored : Option ℕ) × IsHeld seen stored × Begins config stored made.0 made.1 × FollowsStart config stored made.0 made.1) c.begin.result
    (λ made h. (h.0, h.1, h.2, starts-follow config h.0 made.0 made.1 h.2))
    c.begin.ensures.ok

use Rattle.std.proofs.Common.{◌≡◌, ◌-◌, ℕ, Some, subst}
use Rattle.protocol_stage.specs.Performing.{LoadsOneOf}
use Rattle.protocol_core.specs.Turning.{turn}
use Rattle.stable_store.specs.Disks.{LeavesOnly}
use Rattle.replica_node.specs.Lane.{places}
use Rattle.replica_node.proofs.stages.Stages.take_item.Goals as goal

pub returns-in_err-acts-clause-any_moment : goal.returns-in_err-acts-clause-any_moment
returns-in_err-acts-clause-any_moment g c =
    subst
    (λ (count : ℕ). LeavesOnly g.D.Disk.moment g.D.Disk.left_since c.args.disk.now c.turn.new.disk (LoadsOneOf (Some c.args.self.now.protocol.life.stable) (Some (turn c.args.self.now.protocol.life c.args.item (places - count)).life.stable)))
    c.len-room.ensures.len (c.turn.ensures.any_moment c.requires.up)

pub returns-clause-any_moment : goal.returns-clause-any_moment
returns-clause-any_moment g c =
    subst
    (λ (count : ℕ). LeavesOnly g.D.Disk.moment g.D.Disk.left_since c.args.disk.now c.turn.new.disk (LoadsOneOf (Some c.args.self.now.protocol.life.stable) (Some (turn c.args.self.now.protocol.life c.args.item (places - count)).life.stable)))
    c.len-room.ensures.len (c.turn.ensures.any_moment c.requires.up)

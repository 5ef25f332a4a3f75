use Rattle.std.specs.Cmp.{nat_cmp_total}
use Rattle.kv_service.proofs.Places.{ascending_insert}
use Rattle.kv_service.proofs.state.Clients.execute.Goals as goal

pub invariant_of-self-3 : goal.invariant_of-self-3
invariant_of-self-3 c = rw c.keep.ensures (ascending_insert nat_cmp_total _ _ c.reserve.new.self.items (rw c.reserve.ensures.items c.self.invariant))

use Rattle.std.proofs.Common.{◌≤◌, arith}
use Rattle.proposer_core.specs.Adoption.{adoption_end}
use Rattle.proposer_core.proofs.Launches.{capped_max}
use Rattle.proposer_core.proofs.adopting.adoption_end.Goals as goal

-- the own end is a number of the machine, and the reported one is cut to one
pub returns : goal.returns
unfolding adoption_end
returns c =
    let bound : c.own_end.result ≤ 18446744073709551615 = omega (arith, c.own_end.type_inv) in
    rw (c.max.ensures, c.reported_end.ensures, ← c.own_end.ensures) (capped_max _ _ _ bound)

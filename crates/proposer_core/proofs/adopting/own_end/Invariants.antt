use Rattle.std.proofs.Common.{◌≡◌}
use Rattle.proposer_core.specs.Adoption.{own_end}
use Rattle.proposer_core.proofs.adopting.own_end.Given as goal

-- the end of those so far
abbrev pub invariant-loop-offset : goal.invariant-loop-offset
invariant-loop-offset l = l.end ≡ own_end l.offset l.log l.first

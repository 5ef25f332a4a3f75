use Rattle.std.proofs.Common.{◌≡◌, length}
use Rattle.protocol_stage.specs.Repeating.{without_proposes}
use Rattle.protocol_stage.proofs.performing.Repeating.cancel_proposes.Given as goal

-- what the others leave when they are cancelled is what all leave
abbrev pub invariant-loop : goal.invariant-loop
invariant-loop g l = without_proposes l.self ≡ without_proposes l.fn.self

abbrev pub decreases-loop : goal.decreases-loop
decreases-loop g l = length l.self.tokens.proposes

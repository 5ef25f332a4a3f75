use Rattle.std.proofs.Common.{◌≡◌}
use Rattle.protocol_stage.specs.Repeating.{cancelled_for}
use Rattle.protocol_stage.proofs.TokenLemmas.{count_for}
use Rattle.protocol_stage.proofs.performing.Repeating.cancel.Given as goal

-- what the others leave when they are cancelled is what all leave
abbrev pub invariant-loop-topic : goal.invariant-loop-topic
invariant-loop-topic g l = cancelled_for l.topic l.self ≡ cancelled_for l.topic l.fn.self

abbrev pub decreases-loop-topic : goal.decreases-loop-topic
decreases-loop-topic g l = count_for l.topic l.self.tokens

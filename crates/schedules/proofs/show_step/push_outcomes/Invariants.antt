use Rattle.std.proofs.Common.{◌≡◌, ◌++◌, ◌∷◌, drop, flat_map}
use Rattle.schedules.specs.Text.{show_outcome}
use Rattle.schedules.proofs.show_step.push_outcomes.Given as goal

-- what is written so far and what is left is all
abbrev pub invariant-loop-outcome : goal.invariant-loop-outcome
invariant-loop-outcome l = l.out.items ++ flat_map (λ o. 32 ∷ show_outcome o) (drop l.outcome-index l.outcomes) ≡ l.fn.out.items ++ flat_map (λ o. 32 ∷ show_outcome o) l.outcomes

use Rattle.std.proofs.Common.{◌≡◌, ◌++◌, drop, codes, flat_map}
use Rattle.schedules.specs.Text.{show_step}
use Rattle.schedules.proofs.text.push_steps.Given as goal

-- what is written so far and what is left is all
abbrev pub invariant-loop-step : goal.invariant-loop-step
invariant-loop-step l = l.out.items ++ flat_map (λ step. codes "; " ++ show_step step) (drop l.step-index l.steps) ≡ l.fn.out.items ++ flat_map (λ step. codes "; " ++ show_step step) l.steps

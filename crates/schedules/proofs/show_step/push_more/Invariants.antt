use Rattle.std.proofs.Common.{◌≡◌, ◌++◌, drop, codes, flat_map}
use Rattle.schedules.specs.Text.{pair_text}
use Rattle.schedules.proofs.show_step.push_more.Given as goal

-- what is written so far and what is left is all
abbrev pub invariant-loop-request : goal.invariant-loop-request
invariant-loop-request l = l.out.items ++ flat_map (λ q. codes "," ++ pair_text q.client q.number) (drop l.request-index l.requests) ≡ l.fn.out.items ++ flat_map (λ q. codes "," ++ pair_text q.client q.number) l.requests

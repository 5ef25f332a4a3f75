use Rattle.std.proofs.Common.{◌≡◌}
use Rattle.cluster.specs.Stepping.{FirstStarts, fresh}
use Rattle.cluster.proofs.stepper.Stepper.open.Given as goal

-- the replicas so far have started, and their steps are shown
abbrev pub invariant-loop-me : goal.invariant-loop-me
invariant-loop-me l = FirstStarts l.me (fresh l.head) l.steps l.stepper

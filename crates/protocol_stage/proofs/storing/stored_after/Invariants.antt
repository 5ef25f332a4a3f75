use Rattle.std.proofs.Common.{◌≡◌, drop}
use Rattle.protocol_stage.specs.Performing.{stored_after}
use Rattle.protocol_stage.proofs.storing.stored_after.Given as goal

-- what the acts so far leave, and then the others, is what all leave
abbrev pub invariant-loop-act : goal.invariant-loop-act
invariant-loop-act l = stored_after l.number (drop l.act-index l.acts) ≡ stored_after l.fn.stored l.acts

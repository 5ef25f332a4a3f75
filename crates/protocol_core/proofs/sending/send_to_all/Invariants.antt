use Rattle.std.proofs.Common.{◌≡◌, ◌++◌}
use Rattle.protocol_core.specs.Sending.{to_all}
use Rattle.protocol_core.proofs.sending.send_to_all.Given as goal

abbrev pub invariant-loop-to : goal.invariant-loop-to
invariant-loop-to l = l.acts ≡ l.fn.acts ++ to_all l.to l.config.me l.message

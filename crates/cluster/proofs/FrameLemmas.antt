-- Acts that are shown and messages that are sent, one after another.
use Rattle.std.proofs.Common.{◌≡◌, ℕ, List, ◌++◌, length, arith, length-append}
use Rattle.protocol_core.specs.declared.act.Act.{Act}
use Rattle.cluster.specs.declared.sent.Sent.{Sent}
use Rattle.cluster.specs.Frames.{sent_of, number_after}

-- the next message has the number that follows what an act sent
pub number_follows : (sent : List Sent) (from : ℕ) (act : Act) → length (sent ++ sent_of from act) ≡ number_after (length sent) act
number_follows sent from (Act.Step step) = grind (arith, length-append)
number_follows sent from (Act.Send to m) = grind (arith, length-append)
number_follows sent from (Act.Hand d) = grind (arith, length-append)
number_follows sent from (Act.Save k) = grind (arith, length-append)
number_follows sent from (Act.Arm topic outgoing) = grind (arith, length-append)
number_follows sent from (Act.Cancel topic) = grind (arith, length-append)
number_follows sent from Act.CancelProposes = grind (arith, length-append)

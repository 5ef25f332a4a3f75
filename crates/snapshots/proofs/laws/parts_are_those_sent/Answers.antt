-- The law is proved in `Cuts`.
use Rattle.snapshots.proofs.Cuts.{parts-messages}
use Rattle.snapshots.proofs.laws.parts_are_those_sent.Goals as goal

pub returns : goal.returns
returns c = parts-messages

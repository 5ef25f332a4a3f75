-- The law is proved in `Cuts`.
use Rattle.snapshots.proofs.Cuts.{parts-join}
use Rattle.snapshots.proofs.laws.parts_join_to_the_bytes.Goals as goal

pub returns : goal.returns
returns c = parts-join

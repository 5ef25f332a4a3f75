-- The law is proved in `Whole`.
use Rattle.snapshots.proofs.Whole.{joins-in-any-order}
use Rattle.snapshots.proofs.laws.joins_in_any_order.Goals as goal

pub returns : goal.returns
returns c = joins-in-any-order

use Rattle.std.proofs.Common.{length}
use Rattle.snapshots.proofs.Cuts.{cut-out}
use Rattle.snapshots.proofs.cut.part_at.Goals as goal

pub returns : goal.returns
returns c =
    let bytes = cut-out c.args.bytes.now c.args.at c.min.result c.in_ok-from_slice.field-0 c.min.ensures c.in_ok-from_slice.ensures in
    λ i. record { upto = c.args.upto; total = length c.args.bytes.now; at = c.args.at; bytes = bytes i }

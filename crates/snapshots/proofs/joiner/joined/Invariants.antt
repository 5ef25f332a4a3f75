use Rattle.std.proofs.Common.{◌≡◌, ◌++◌, flat_map}
use Rattle.snapshots.proofs.joiner.joined.Given as goal

-- the bytes so far, and those of the parts to come, are all
abbrev pub invariant-loop-part : goal.invariant-loop-part
invariant-loop-part l = l.whole.items ++ flat_map (λ part. part.1) l.part-iterator ≡ flat_map (λ part. part.1) l.parts.entries

use Rattle.std.proofs.Common.{◌≡◌, ◌-◌, ◌++◌, length}
use Rattle.kv_service.specs.Parts.{part_count}
use Rattle.snapshots.specs.Cutting.{cut_from, parts_of}
use Rattle.snapshots.proofs.cut.parts.Given as goal

-- the parts so far, and those from here on, are all
abbrev pub invariant-loop-at : goal.invariant-loop-at
invariant-loop-at l = l.made.items ++ cut_from (part_count (length l.bytes - l.at)) l.upto l.bytes l.at ≡ parts_of l.upto l.bytes

abbrev pub decreases-loop-at : goal.decreases-loop-at
decreases-loop-at l = length l.bytes - l.at

use Rattle.std.proofs.Common.{◌≡◌, ◌++◌, length, take}
use Rattle.std.specs.Int.{w32, to_be_bytes}
use Rattle.std.specs.List.{flat_map}
use Rattle.message_codec.specs.Spelling.{entry_bytes}
use Rattle.message_codec.proofs.writing.push_report.Given as goal

-- the count and the entries so far
abbrev pub invariant-loop-entry : goal.invariant-loop-entry
invariant-loop-entry l = l.out.items ≡ l.fn.out.items ++ to_be_bytes w32 (length l.report) ++ flat_map entry_bytes (take l.entry-index l.report)

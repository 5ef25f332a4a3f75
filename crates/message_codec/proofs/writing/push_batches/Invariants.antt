use Rattle.std.proofs.Common.{◌≡◌, ◌++◌, take}
use Rattle.std.specs.List.{flat_map}
use Rattle.message_codec.specs.Spelling.{batch_bytes}
use Rattle.message_codec.proofs.writing.push_batches.Given as goal

-- the batches so far
abbrev pub invariant-loop-batch : goal.invariant-loop-batch
invariant-loop-batch l = l.out.items ≡ l.fn.out.items ++ flat_map batch_bytes (take l.batch-index l.batches)

use Rattle.std.proofs.Common.{◌≡◌, ◌-◌}
use Rattle.message_codec.specs.Messages.{batch}
use Rattle.message_codec.proofs.Loops.{with_front, times_of}
use Rattle.message_codec.proofs.fields.times_batch.Given as goal

-- the batches so far and those that are left are all that are read
abbrev pub invariant-loop : goal.invariant-loop
invariant-loop l = with_front l.batches.items (times_of batch (l.count - l.counter) tt l.fields) ≡ times_of batch l.count tt l.fn.fields

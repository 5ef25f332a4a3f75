use Rattle.std.proofs.Common.{◌≡◌, ◌-◌}
use Rattle.message_codec.specs.Messages.{entries}
use Rattle.message_codec.proofs.Loops.{with_front}
use Rattle.message_codec.proofs.fields.entries.Given as goal

-- the entries so far and those that are left are all that are read
abbrev pub invariant-loop : goal.invariant-loop
invariant-loop l = with_front l.entries.items (entries (l.count - l.counter) l.least l.fields) ≡ entries l.count 0 l.fn.fields

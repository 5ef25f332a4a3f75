use Rattle.std.proofs.Common.{◌≡◌, ◌++◌, take}
use Rattle.std.specs.List.{flat_map}
use Rattle.message_codec.specs.Spelling.{counter_bytes}
use Rattle.message_codec.proofs.writing.push_vector.Given as goal

-- the epochs so far
abbrev pub invariant-loop-epoch : goal.invariant-loop-epoch
invariant-loop-epoch l = l.out.items ≡ l.fn.out.items ++ flat_map counter_bytes (take l.epoch-index l.vector)

use Rattle.std.proofs.Common.{◌≡◌, ◌-◌, length, take}
use Rattle.frame_fields.specs.Reading.{counter}
use Rattle.message_codec.proofs.Loops.{with_front, times_of}
use Rattle.message_codec.proofs.fields.vector.Given as goal

-- the epochs so far and those that are left are all that are read
abbrev pub invariant-loop-replica : goal.invariant-loop-replica
invariant-loop-replica l =
    record {
      read : with_front (take l.replica l.vector) (times_of counter (9 - l.replica) tt l.fields) ≡ times_of counter 9 tt l.fn.fields;
      size : length l.vector ≡ 9;
    }

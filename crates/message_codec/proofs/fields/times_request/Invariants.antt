use Rattle.std.proofs.Common.{◌≡◌, ◌-◌}
use Rattle.frame_fields.specs.Reading.{request}
use Rattle.message_codec.proofs.Loops.{with_front, times_of}
use Rattle.message_codec.proofs.fields.times_request.Given as goal

-- the requests so far and those that are left are all that are read
abbrev pub invariant-loop : goal.invariant-loop
invariant-loop l = with_front l.batch (times_of request (l.count - l.counter) tt l.fields) ≡ times_of request l.count tt l.fn.fields

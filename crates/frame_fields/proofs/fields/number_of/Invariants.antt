use Rattle.std.proofs.Common.{◌≡◌, ◌<◌, ◌*◌, ◌+◌, ◌^◌, drop, fold}
use Rattle.frame_fields.proofs.fields.number_of.Given as goal

-- the number so far and the bytes that are left, and how great it is
abbrev pub invariant-loop-byte : goal.invariant-loop-byte
invariant-loop-byte l =
    record {
      rest : fold (λ n b. n * 256 + b) l.number (drop l.byte-index l.bytes) ≡ fold (λ n b. n * 256 + b) 0 l.bytes;
      small : l.number < 256 ^ l.byte-index;
    }

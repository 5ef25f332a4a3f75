use Rattle.std.proofs.Common.{◌≡◌, ◌++◌, take}
use Rattle.std.specs.List.{flat_map}
use Rattle.frame_fields.specs.Spelling.{request_bytes}
use Rattle.message_codec.proofs.writing.push_requests.Given as goal

-- the requests so far
abbrev pub invariant-loop-request : goal.invariant-loop-request
invariant-loop-request l = l.out.items ≡ l.fn.out.items ++ flat_map request_bytes (take l.request-index l.requests)

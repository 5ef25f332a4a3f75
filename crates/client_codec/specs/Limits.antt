-- Frames between clients and replicas within their limits.
use Rattle.std.specs.Prelude.{ℕ, ◌^◌, ◌≤◌}
use Rattle.jp_types.specs.Limits.{IsRequest}
use Rattle.frame_fields.specs.Laws.{IsReply}
use Rattle.client_codec.specs.declared.frame.ClientFrame.{ClientFrame}
use Rattle.client_codec.specs.declared.frame.ClientFrame.TheVariants.{Request, Reply, Redirect, Busy, Stop}

-- the number of a request
abbrev pub IsNumber : ℕ → Type 0
IsNumber n = (1 ≤ n) × (n ≤ 2 ^ 48)

-- a frame whose request, numbers, reply and replica are within their limits
abbrev pub IsClientFrame : ClientFrame → Type 0
IsClientFrame (Request r) = IsRequest r
IsClientFrame (Reply number reply) = IsNumber number × IsReply reply
IsClientFrame (Redirect replica) = replica ≤ 8
IsClientFrame (Busy number) = IsNumber number
IsClientFrame Stop = Unit {0}

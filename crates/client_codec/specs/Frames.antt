-- The frames between clients and replicas, and what the fields of each kind spell.
use Rattle.std.specs.Prelude.{ℕ, ◌^◌, Bool, ◌&&◌, nat_lt, ◌==◌, if◌then◌else◌}
use Rattle.frame_fields.specs.Reading.{Reader, gives, ◌>>=◌, number_within, reply, request, read_fields}
use Rattle.frame_stream.specs.Frames.{Rules}
use Rattle.client_codec.specs.declared.frame.ClientFrame.{ClientFrame}
use Rattle.client_codec.specs.declared.frame.ClientFrame.TheVariants.{Request, Reply, Redirect, Busy, Stop}

-- the number of a request
abbrev pub request_number : Reader ℕ
request_number = number_within 8 1 (2 ^ 48)

-- a reply to the request of a number
abbrev pub numbered_reply : Reader ClientFrame
numbered_reply = request_number >>= λ number. reply >>= λ reply. gives (Reply number reply)

-- the fields of a frame of a listed kind
abbrev pub fields_of_kind : ℕ → Reader ClientFrame
fields_of_kind kind =
    if kind == 1 then (request >>= λ r. gives (Request r))
    else (if kind == 2 then numbered_reply
    else (if kind == 3 then (number_within 1 0 8 >>= λ replica. gives (Redirect replica))
    else (if kind == 4 then (request_number >>= λ number. gives (Busy number)) else gives Stop)))

-- whether there are frames of this kind
abbrev pub is_listed : ℕ → Bool
is_listed kind = nat_lt 0 kind && nat_lt kind 6

-- what the frames of a stream may be
abbrev pub client_rules : Rules ClientFrame
client_rules = record { is_listed = is_listed; reads = λ kind at bytes. read_fields (fields_of_kind kind) at bytes }

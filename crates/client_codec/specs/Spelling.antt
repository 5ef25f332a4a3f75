-- How frames between clients and replicas are spelt.
use Rattle.std.specs.Prelude.{ℕ, List, [], ◌∷◌, ◌++◌}
use Rattle.std.specs.Int.{to_be_bytes, w64}
use Rattle.frame_fields.specs.Spelling.{reply_bytes, request_bytes, frame_of}
use Rattle.client_codec.specs.declared.frame.ClientFrame.{ClientFrame}
use Rattle.client_codec.specs.declared.frame.ClientFrame.TheVariants.{Request, Reply, Redirect, Busy, Stop}

-- the kind of a frame
abbrev pub kind_of : ClientFrame → ℕ
kind_of (Request r) = 1
kind_of (Reply number reply) = 2
kind_of (Redirect replica) = 3
kind_of (Busy number) = 4
kind_of Stop = 5

-- the fields of a frame
abbrev pub fields_bytes : ClientFrame → List ℕ
fields_bytes (Request r) = request_bytes r
fields_bytes (Reply number reply) = to_be_bytes w64 number ++ reply_bytes reply
fields_bytes (Redirect replica) = replica ∷ []
fields_bytes (Busy number) = to_be_bytes w64 number
fields_bytes Stop = []

-- a whole frame
abbrev pub frame_bytes : ClientFrame → List ℕ
frame_bytes f = frame_of (kind_of f) (fields_bytes f)

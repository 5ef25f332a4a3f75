-- The kinds of frames of both versions, and the message that the fields of a frame spell.
use Rattle.std.specs.Prelude.{ℕ, ◌^◌, ◌-◌, Bool, ◌&&◌, List, ◌==◌, nat_lt, if◌then◌else◌, Result}
use Rattle.jp_types.specs.declared.message.Message.{Message}
use Rattle.frame_fields.specs.Faults.{Fault, OtherCluster}
use Rattle.frame_fields.specs.Reading.{Reader, gives, fails, ◌>>=◌, here, number_within, read_fields}
use Rattle.frame_stream.specs.Frames.{Rules}
use Rattle.message_codec.specs.Messages.{message_of_kind}

-- whether a number is the kind of a message
abbrev pub is_kind : ℕ → Bool
is_kind kind = nat_lt 0 kind && nat_lt kind 11

-- whether a frame may have this kind: that of a message and 128 more in version 2, and the message's own in version 1, where old frames are read
abbrev pub is_listed : Bool → ℕ → Bool
is_listed old kind = if nat_lt kind 128 then old && is_kind kind else is_kind (kind - 128)

-- the number of the reader's cluster
abbrev pub cluster_number : ℕ → Reader ℕ
cluster_number cluster = here >>= λ at. number_within 8 1 (2 ^ 48) >>= λ got. if got == cluster then gives got else fails (OtherCluster at got)

-- the fields of a frame of version 2: the cluster's number, and those of the message
abbrev pub of_cluster : ℕ → ℕ → Reader Message
of_cluster cluster kind = cluster_number cluster >>= λ got. message_of_kind kind

-- the fields of a frame of a listed kind
abbrev pub frame_of_kind : ℕ → ℕ → Reader Message
frame_of_kind cluster kind = if nat_lt kind 128 then message_of_kind kind else of_cluster cluster (kind - 128)

-- the message that a frame's fields spell, which begin at this place of the stream
abbrev pub read_message : ℕ → ℕ → ℕ → List ℕ → Result Message Fault
read_message cluster kind at fields = read_fields (frame_of_kind cluster kind) at fields

-- what the frames of a stream may be for a reader of this cluster, and whether frames of version 1 are read
abbrev pub rules : ℕ → Bool → Rules Message
rules cluster old = record { is_listed = is_listed old; reads = read_message cluster }

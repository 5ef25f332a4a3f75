-- How messages are spelt. Each number is big-endian.
use Rattle.std.specs.Prelude.{ℕ, ◌+◌, List, [], ◌∷◌, ◌++◌, length, flat_map, Option, Some, None}
use Rattle.std.specs.Int.{to_be_bytes, w8, w32, w64}
use Rattle.jp_types.specs.Instances.{Batch}
use Rattle.jp_types.specs.declared.message.Entry.{Entry}
use Rattle.jp_types.specs.declared.message.Message.{Message}
use Rattle.frame_fields.specs.Spelling.{optional_bytes, request_bytes, frame_of}

-- a view, an instance, a mark or an epoch
abbrev pub counter_bytes : ℕ → List ℕ
counter_bytes n = to_be_bytes w64 n

-- the count of requests, and each request
abbrev pub batch_bytes : Batch → List ℕ
batch_bytes batch = to_be_bytes w32 (length batch) ++ flat_map request_bytes batch

-- a tag 0 and the view of a vote, or a tag 1 for a decided batch
abbrev pub vote_bytes : Option ℕ → List ℕ
vote_bytes (Some view) = 0 ∷ counter_bytes view
vote_bytes None = 1 ∷ []

-- the instance, what stands for it, and the batch
abbrev pub entry_bytes : Entry → List ℕ
entry_bytes e = counter_bytes e.instance ++ vote_bytes e.vote ++ batch_bytes e.batch

-- the count of entries, and each entry
abbrev pub report_bytes : List Entry → List ℕ
report_bytes report = to_be_bytes w32 (length report) ++ flat_map entry_bytes report

-- the kind of a message
abbrev pub kind_of : Message → ℕ
kind_of (Message.Prepare m) = 1
kind_of (Message.PrepareOk m) = 2
kind_of (Message.Propose m) = 3
kind_of (Message.Accept m) = 4
kind_of (Message.Recovery m) = 5
kind_of (Message.RecoveryAnswer m) = 6
kind_of (Message.CatchUpQuery m) = 7
kind_of (Message.CatchUpReply m) = 8
kind_of (Message.SnapshotPart m) = 9
kind_of (Message.Alive m) = 10

-- the fields of a message, one after another
abbrev pub message_fields : Message → List ℕ
message_fields (Message.Prepare m) = counter_bytes m.view ++ counter_bytes m.first ++ counter_bytes m.mark
message_fields (Message.PrepareOk m) =
    counter_bytes m.view ++ counter_bytes m.mark ++ flat_map counter_bytes m.vector ++ counter_bytes m.low ++ report_bytes m.report
message_fields (Message.Propose m) = counter_bytes m.view ++ counter_bytes m.instance ++ batch_bytes m.batch
message_fields (Message.Accept m) = counter_bytes m.view ++ counter_bytes m.instance
message_fields (Message.Recovery m) = counter_bytes m.mark
message_fields (Message.RecoveryAnswer m) = counter_bytes m.mark ++ counter_bytes m.view ++ flat_map counter_bytes m.vector ++ optional_bytes counter_bytes m.next
message_fields (Message.CatchUpQuery m) = counter_bytes m.first
message_fields (Message.CatchUpReply m) = counter_bytes m.first ++ to_be_bytes w8 (length m.batches) ++ flat_map batch_bytes m.batches
message_fields (Message.SnapshotPart m) =
    counter_bytes m.upto ++ to_be_bytes w32 m.total ++ to_be_bytes w32 m.at ++ to_be_bytes w32 (length m.bytes) ++ m.bytes
message_fields (Message.Alive m) = counter_bytes m.view ++ counter_bytes m.first_undecided

-- the frame of version 2: the kind is 128 more, and the cluster's number stands before the fields
abbrev pub frame_bytes : ℕ → Message → List ℕ
frame_bytes cluster m = frame_of (kind_of m + 128) (counter_bytes cluster ++ message_fields m)

-- the frame of version 1
abbrev pub old_frame_bytes : Message → List ℕ
old_frame_bytes m = frame_of (kind_of m) (message_fields m)

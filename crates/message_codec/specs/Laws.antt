-- Frames are read as they are spelt, and the messages of a stream are those of the frames in front.
use Rattle.std.specs.Prelude.{◌≡◌, ℕ, Bool, true, List, [], ◌∷◌, ◌++◌, length, drop, ◌⊎◌}
use Rattle.jp_types.specs.Limits.{AreBytes}
use Rattle.jp_types.specs.declared.message.Message.{Message}
use Rattle.frame_stream.specs.Frames.{Whole, next_frame}
use Rattle.frame_stream.specs.Following.{Progress, Follows}
use Rattle.message_codec.specs.Frames.{rules}
use Rattle.message_codec.specs.Spelling.{frame_bytes, old_frame_bytes}
use Rattle.message_codec.specs.Limits.{IsCluster, IsMessage}

-- the bytes are the frame of a message: that of version 2 in this cluster or, where old frames are read, that of version 1
abbrev pub IsFrame : ℕ → Bool → List ℕ → Message → Type 0
IsFrame cluster old bytes m = (bytes ≡ frame_bytes cluster m) ⊎ ((old ≡ true) × (bytes ≡ old_frame_bytes m))

-- bytes begin with a frame of a message within its limits, and others follow
pub record Begins (cluster : ℕ) (old : Bool) (bytes : List ℕ) (m : Message) (rest : List ℕ) : Type 0 where
  pub frame : List ℕ
  pub message : IsMessage m
  pub spelt : IsFrame cluster old frame m
  pub parts : bytes ≡ frame ++ rest

-- bytes begin with frames of these messages, one after another, and others follow
abbrev pub BeginWith : ℕ → Bool → List ℕ → List Message → List ℕ → Type 0
BeginWith cluster old bytes [] rest = rest ≡ bytes
BeginWith cluster old bytes (m ∷ ms) rest = (behind : List ℕ) × (Begins cluster old bytes m behind × BeginWith cluster old behind ms rest)

-- the longest list of messages with whose frames a stream begins
pub record AreAll (cluster : ℕ) (old : Bool) (stream : List ℕ) (ms : List Message) : Type 0 where
  pub rest : List ℕ
  pub begin : BeginWith cluster old stream ms rest
  pub longest : (others : List Message) (left : List ℕ) → BeginWith cluster old stream others left → (more : List Message) × (ms ≡ others ++ more)

-- a frame of a message within its limits reads back as that message, wherever it stands and whatever follows it
abbrev pub FramesReadBack : Type 0
FramesReadBack =
    (cluster : ℕ) (old : Bool) (at : ℕ) (m : Message) (frame more : List ℕ) → IsCluster cluster → IsMessage m → IsFrame cluster old frame m
    → next_frame (rules cluster old) at (frame ++ more) ≡ Whole m (length frame)

-- a message that is read of bytes is within its limits, and its frame, of so many bytes, stands there
pub record IsRead (cluster : ℕ) (old : Bool) (bytes : List ℕ) (m : Message) (size : ℕ) : Type 0 where
  pub begins : Begins cluster old bytes m (drop size bytes)
  pub size_is : length begins.frame ≡ size

-- what is read was spelt so
abbrev pub FramesWereSpelt : Type 0
FramesWereSpelt =
    (cluster : ℕ) (old : Bool) (at : ℕ) (bytes : List ℕ) (m : Message) (size : ℕ) → AreBytes bytes → next_frame (rules cluster old) at bytes ≡ Whole m size
    → IsRead cluster old bytes m size

-- the messages that a reader has given are all those of the stream that it was fed
abbrev pub MessagesAreAll : Type 0 → Type 0
MessagesAreAll G =
    (cluster : ℕ) (old : Bool) (stream : List ℕ) (ms : List Message) (reader : Progress G) → IsCluster cluster → AreBytes stream → Follows (rules cluster old) stream ms reader
    → AreAll cluster old stream ms

-- Of two frames of version 2 one goes on from the other: they are the same frame, of one cluster and one message.
pub record AreOneFrame (cluster other : ℕ) (m n : Message) (more : List ℕ) : Type 0 where
  pub clusters : cluster ≡ other
  pub messages : m ≡ n
  pub none : more ≡ []

-- no frame of version 2 begins another one, or one of version 1
abbrev pub NoFrameBeginsAnother : Type 0
NoFrameBeginsAnother =
    (cluster other : ℕ) (m n : Message) (more : List ℕ) → IsCluster cluster → IsCluster other → IsMessage m → IsMessage n
    → (frame_bytes cluster m ++ more ≡ frame_bytes other n → AreOneFrame cluster other m n more) × (frame_bytes cluster m ++ more ≡ old_frame_bytes n → ⊥)

-- no frame of version 1 begins another one, or one of version 2
abbrev pub NoOldFrameBeginsAnother : Type 0
NoOldFrameBeginsAnother =
    (cluster : ℕ) (m n : Message) (more : List ℕ) → IsMessage m → IsMessage n
    → (old_frame_bytes m ++ more ≡ old_frame_bytes n → (m ≡ n) × (more ≡ [])) × (old_frame_bytes m ++ more ≡ frame_bytes cluster n → ⊥)

-- What holds of streams of frames between clients and replicas.
use Rattle.std.specs.Prelude.{◌≡◌, ℕ, List, ◌++◌, length, drop, flat_map}
use Rattle.jp_types.specs.Limits.{AreBytes}
use Rattle.jp_types.specs.Lists.{In}
use Rattle.frame_stream.specs.Frames.{Whole, next_frame, Reads}
use Rattle.client_codec.specs.declared.frame.ClientFrame.{ClientFrame}
use Rattle.client_codec.specs.Frames.{client_rules}
use Rattle.client_codec.specs.Spelling.{frame_bytes}
use Rattle.client_codec.specs.Limits.{IsClientFrame}

-- a frame within its limits reads back as it is spelt, at any place and whatever stands behind it
abbrev pub ReadsBack : ClientFrame → Type 0
ReadsBack f = (at : ℕ) (more : List ℕ) → IsClientFrame f → next_frame client_rules at (frame_bytes f ++ more) ≡ Whole f (length (frame_bytes f))

-- a frame within its limits that stands spelt at the front of bytes, and ends behind so many of them
pub record StandsSpelt (f : ClientFrame) (bytes : List ℕ) (size : ℕ) : Type 0 where
  pub within : IsClientFrame f
  pub spelt : bytes ≡ frame_bytes f ++ drop size bytes
  pub ends : size ≡ length (frame_bytes f)

-- bytes that read as a frame are its spelling
abbrev pub WasSpelt : ClientFrame → Type 0
WasSpelt f = (at : ℕ) (bytes : List ℕ) (size : ℕ) → AreBytes bytes → next_frame client_rules at bytes ≡ Whole f size → StandsSpelt f bytes size

-- no frame is the front of another
abbrev pub IsNoFrontOf : ClientFrame → ClientFrame → Type 0
IsNoFrontOf f g = (more rest : List ℕ) → IsClientFrame f → IsClientFrame g → frame_bytes f ++ more ≡ frame_bytes g ++ rest → (f ≡ g) × (more ≡ rest)

-- frames within their limits that stand spelt at the front of a stream, and what is left behind them
pub record AreSpelt (frames : List ClientFrame) (stream rest : List ℕ) : Type 0 where
  pub within : (f : ClientFrame) → In f frames → IsClientFrame f
  pub spelt : stream ≡ flat_map frame_bytes frames ++ rest

-- what is read of a stream is the longest list of frames whose spellings are at its front
pub record IsLongest (frames : List ClientFrame) (stream rest : List ℕ) : Type 0 where
  pub spelt : AreSpelt frames stream rest
  pub longest : (others : List ClientFrame) (left : List ℕ) → AreSpelt others stream left → (more : List ClientFrame) × (frames ≡ others ++ more)

-- What comes over a client's link.
use Rattle.std.specs.Prelude.{◌≡◌, ◌≤◌, ◌⊎◌, ℕ, ◌+◌, ◌-◌, ◌^◌, min, Bool, true, false, List, ◌++◌, length, Option, Some, None, Result, Err, is_ok, ◌≢◌}
use Rattle.std.specs.Io.KnownBytes.{Consumes}
use Rattle.jp_types.specs.Faults.{Rose}
use Rattle.frame_fields.specs.declared.fault.FrameFault.{FrameFault}
use Rattle.frame_fields.specs.declared.fault.FrameFault.TheVariants as answer_kind
use Rattle.client_codec.specs.declared.frame.ClientFrame.{ClientFrame}
use Rattle.client_io.specs.Links.{FollowsClient, LinkState, Progress}
use Rattle.client_io.specs.declared.hearing.Heard.{Heard}
use Rattle.client_io.specs.declared.hearing.Heard.TheVariants.{Quiet, Lost, Frames}

-- A reader that is fed a piece gives these frames: it follows each stream that it followed, with the piece behind the stream
-- and the frames behind those before.
pub record Feeds (before : Progress) (piece : List ℕ) (frames : List ClientFrame) (after : Progress) : Type 0 where
  pub follows : (stream : List ℕ) (items : List ClientFrame) → FollowsClient stream items before → FollowsClient (stream ++ piece) (items ++ frames) after

-- whether a reader has met no fault
abbrev pub is_sound : Option FrameFault → Bool
is_sound None = true
is_sound (Some fault) = false

-- an answer of a reader that is no want of memory, and whether it tells no fault
abbrev pub IsSound : Result (Unit {0}) FrameFault → Bool → Type 0
IsSound answer sound = (answer ≢ Err answer_kind.NoMemory) × (sound ≡ is_ok answer)

-- these frames were read of a piece, which is not sound where the reader met a fault in it
abbrev pub ReadsPiece : Progress → List ℕ → Heard → Progress → Type 0
ReadsPiece before piece (Frames frames sound count) after = Feeds before piece frames after × (sound ≡ is_sound after.fault) × (count ≡ length piece)
ReadsPiece before piece Quiet after = ⊥
ReadsPiece before piece Lost after = ⊥

-- bytes came, and these frames were read of them
pub record Reads (link : LinkState) (before : Progress) (heard : Heard) (later : LinkState) (after : Progress) : Type 0 where
  -- the bytes that came
  pub piece : List ℕ
  pub some : 1 ≤ length piece
  pub consumed : Consumes link.left later.left piece
  pub given : later.given ≡ min (link.given + length piece) (2 ^ 64 - 1)
  pub read : ReadsPiece before piece heard after

-- what a receive brought, by what the link told before and after it
abbrev pub Brought : Heard → LinkState → Progress → LinkState → Progress → Type 0
Brought Quiet link before later after = (later.left ≡ link.left) × (after ≡ before) × Rose link.quiets later.quiets × (later.given ≡ link.given)
Brought Lost link before later after = (later.left ≡ link.left) × (after ≡ before) × (Rose link.faults later.faults ⊎ Rose link.endings later.endings) × (later.given ≡ link.given)
Brought (Frames frames sound count) link before later after = Reads link before (Frames frames sound count) later after

-- what a receive brought, where no count has fallen
pub record Brings (heard : Heard) (link : LinkState) (before : Progress) (later : LinkState) (after : Progress) : Type 0 where
  pub brought : Brought heard link before later after
  pub faults : link.faults ≤ later.faults
  pub quiets : link.quiets ≤ later.quiets
  pub endings : link.endings ≤ later.endings

-- no more bytes than there was room for
abbrev pub BringsAtMost : ℕ → Heard → Type 0
BringsAtMost room (Frames frames sound count) = (1 ≤ count) × (count ≤ room)
BringsAtMost room Quiet = Unit {0}
BringsAtMost room Lost = Unit {0}

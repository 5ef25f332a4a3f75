-- What a turn of a send stage does.
use Rattle.std.specs.Prelude.{◌≡◌, ℕ, List, Option, Some, None, take}
use Rattle.std.specs.Io.KnownBytes.{Appends}
use Rattle.jp_types.specs.Faults.{Rose}
use Rattle.jp_types.specs.Streams.{counted_up}
use Rattle.replica_io.specs.declared.held.Held.{Held}
use Rattle.replica_io.specs.declared.held.Held.TheVariants.{Nothing, Standing, GivenUp}
use Rattle.replica_io.specs.declared.send.Sent.{Sent}
use Rattle.replica_io.specs.declared.send.Sent.TheVariants.{Whole, Lost}
use Rattle.replica_io.specs.Turns.{Observed, IsDown, Uses}

-- a send stage
pub record Sending (L : Type 0) : Type 0 where
  pub cluster : ℕ
  pub link : Held L
  -- how many answers were Whole, and how many Lost
  pub whole : ℕ
  pub lost : ℕ

-- over a link a frame was sent whole, or a beginning of it where the link failed
abbrev pub SentOver : {L : Type 0} → Observed L → L → Held L → List ℕ → Sent → Type 0
SentOver o start Nothing frame answer = ⊥
SentOver o start (Standing link) frame answer = (answer ≡ Whole) × Appends (o.sent start) (o.sent link) frame
SentOver o start (GivenUp link) frame answer =
    (answer ≡ Lost) × ((count : ℕ) × Appends (o.sent start) (o.sent link) (take count frame)) × Rose (o.faults start) (o.faults link)

-- A turn of a send stage: over the link that stands, or else a new one, a frame was sent whole, or a beginning of it where
-- the link failed. Where there is no link, none stood and the dial failed.
abbrev pub HasSent : {L : Type 0} → Observed L → Type 0 → Held L → Held L → List ℕ → Sent → Type 0
HasSent o DialFailed before Nothing frame answer = (answer ≡ Lost) × IsDown before × DialFailed
HasSent o DialFailed before (Standing link) frame answer = (start : _) × (Uses o before start × SentOver o start (Standing link) frame answer)
HasSent o DialFailed before (GivenUp link) frame answer = (start : _) × (Uses o before start × SentOver o start (GivenUp link) frame answer)

-- one answer more is counted
abbrev pub whole_after : Sent → ℕ → ℕ
whole_after Whole count = counted_up count
whole_after Lost count = count

abbrev pub lost_after : Sent → ℕ → ℕ
lost_after Whole count = count
lost_after Lost count = counted_up count

-- What a turn of a receive stage does.
use Rattle.std.specs.Prelude.{◌≡◌, ◌⊎◌, ◌≤◌, ◌+◌, ◌-◌, ◌^◌, min, max, ℕ, Bool, true, false, List, [], ◌++◌, length, Option, Some, None, IsSome, Result, Ok, Err}
use Rattle.std.specs.Io.KnownBytes.{Consumes}
use Rattle.jp_types.specs.Faults.{Rose}
use Rattle.frame_fields.specs.Telling.{fault_of}
use Rattle.frame_fields.specs.declared.fault.FrameFault.{FrameFault}
use Rattle.frame_stream.specs.Frames.{Rules}
use Rattle.frame_stream.specs.Following.{Progress, Follows, HasFollowed, HasBegun, fresh}
use Rattle.replica_io.specs.declared.held.Held.{Held}
use Rattle.replica_io.specs.declared.held.Held.TheVariants.{Nothing, Standing, GivenUp}
use Rattle.replica_io.specs.declared.receive.Got.{Got}
use Rattle.replica_io.specs.declared.receive.Got.TheVariants as got
use Rattle.replica_io.specs.Turns.{Observed, IsDown, Uses}

-- a receive stage
pub record Receiving (L G : Type 0) : Type 0 where
  pub link : Held L
  -- what was read of the bytes that came over the link
  pub reader : Progress G
  -- how many messages were appended
  pub appended : ℕ

-- the reader is at a fault of the bytes
abbrev pub IsFaulty : Option FrameFault → Type 0
IsFaulty None = ⊥
IsFaulty (Some fault) = IsSome (fault_of fault)

-- a tally after so many more: it stays at its type's end
abbrev pub tallied : ℕ → ℕ → ℕ
tallied count before = min (before + count) (2 ^ 64 - 1)

-- the count of the bytes that a link gave after so many more: it does not fall
abbrev pub given_after : ℕ → ℕ → ℕ
given_after count before = max before (tallied count before)

-- These bytes came over a link, and nothing was sent. The messages that they complete were put behind those that were there:
-- where the reader has followed a stream, it follows that stream with these bytes behind it.
pub record Brought {L G Item : Type 0} (o : Observed L) (rules : Rules Item) (start link : L) (reader reader' : Progress G) (before after : List Item) (bytes : List ℕ) : Type 0 where
  pub taken : Consumes (o.left start) (o.left link) bytes
  pub given : o.given link ≡ given_after (length bytes) (o.given start)
  pub sent : o.sent link ≡ o.sent start
  pub follows : (stream : List ℕ) (items : List Item) → Follows rules stream items reader → HasFollowed rules (stream ++ bytes) items before after reader'

-- why a link is given up: it failed, it met its end, or the bytes that came over it are no frames
abbrev pub MayDrop : {L : Type 0} → Observed L → L → L → Option FrameFault → Type 0
MayDrop o start link fault = Rose (o.faults start) (o.faults link) ⊎ Rose (o.endings start) (o.endings link) ⊎ IsFaulty fault

-- what a receive over a link answers
abbrev pub Answers : {L G Item : Type 0} → Observed L → L → L → Progress G → List Item → List Item → List ℕ → Got → Type 0
Answers o start link reader before after bytes (got.Some count) = (1 ≤ length bytes) × Rose (o.given start) (o.given link) × (count ≡ length after - length before)
Answers o start link reader before after bytes got.Quiet = (bytes ≡ []) × Rose (o.quiets start) (o.quiets link)
Answers o start link reader before after bytes got.Dropped = MayDrop o start link reader.fault

-- as above, where memory was wanted while the bytes were read: the messages that were put are some of the first ones
pub record BroughtSome {L G Item : Type 0} (o : Observed L) (rules : Rules Item) (start link : L) (reader : Progress G) (before after : List Item) (bytes : List ℕ) : Type 0 where
  pub taken : Consumes (o.left start) (o.left link) bytes
  pub given : o.given link ≡ given_after (length bytes) (o.given start)
  pub sent : o.sent link ≡ o.sent start
  pub begun : (stream : List ℕ) (items : List Item) → Follows rules stream items reader → HasBegun rules (stream ++ bytes) items before after

-- what a receive over a link does
abbrev pub Receives : {L G Item E : Type 0} → Observed L → Rules Item → L → L → Progress G → Progress G → List Item → List Item → Result Got E → Type 0
Receives o rules start link reader reader' before after (Ok answer) =
    (bytes : List ℕ) × (Brought o rules start link reader reader' before after bytes × Answers o start link reader' before after bytes answer)
Receives o rules start link reader reader' before after (Err want) = (bytes : List ℕ) × BroughtSome o rules start link reader before after bytes

-- whether a link stands after an answer
abbrev pub stands_after : {E : Type 0} → Result Got E → Bool
stands_after (Ok (got.Some count)) = true
stands_after (Ok got.Quiet) = true
stands_after (Ok got.Dropped) = false
stands_after (Err want) = false

-- the link after an answer
abbrev pub held_after : {L : Type 0} → L → Bool → Held L
held_after link true = Standing link
held_after link false = GivenUp link

-- the reader with which a turn begins: that of the link which stands, or else a new one
abbrev pub begun : {L G : Type 0} → Held L → Progress G → Progress G
begun Nothing reader = fresh reader.grammar
begun (Standing link) reader = reader
begun (GivenUp link) reader = fresh reader.grammar

-- why a turn used no link: none was to be accepted, or the accept failed, or memory was wanted
abbrev pub UsedNone : {E : Type 0} → Type 0 → Type 0 → Result Got E → Type 0
UsedNone NoneWaits AcceptFailed (Ok (got.Some count)) = ⊥
UsedNone NoneWaits AcceptFailed (Ok got.Quiet) = NoneWaits
UsedNone NoneWaits AcceptFailed (Ok got.Dropped) = AcceptFailed
UsedNone NoneWaits AcceptFailed (Err want) = Unit {0}

-- a turn received over a link: the one that stood, or else a new one
abbrev pub ReceivedOver : {L G Item E : Type 0} → Observed L → Rules Item → Held L → L → Progress G → Progress G → List Item → List Item → Result Got E → Type 0
ReceivedOver o rules before link reader reader' items items' answer =
    (start : _) × (Uses o before start × Receives o rules start link (begun before reader) reader' items items' answer)

-- A turn of a receive stage: it received once over the link that stands, or else over a new one; or none stood, and there was
-- none to accept.
abbrev pub HasReceived : {L G Item E : Type 0} → Observed L → Rules Item → Type 0 → Type 0 → Held L → Held L → Progress G → Progress G → List Item → List Item → Result Got E → Type 0
HasReceived o rules NoneWaits AcceptFailed before Nothing reader reader' items items' answer =
    IsDown before × (items' ≡ items) × UsedNone NoneWaits AcceptFailed answer
HasReceived o rules NoneWaits AcceptFailed before (Standing link) reader reader' items items' answer =
    (stands_after answer ≡ true) × ReceivedOver o rules before link reader reader' items items' answer
HasReceived o rules NoneWaits AcceptFailed before (GivenUp link) reader reader' items items' answer =
    (stands_after answer ≡ false) × ReceivedOver o rules before link reader reader' items items' answer

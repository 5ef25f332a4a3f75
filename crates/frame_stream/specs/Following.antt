-- How far a reader has read a stream that it was fed in pieces.
use Rattle.std.specs.Prelude.{◌≡◌, ℕ, List, [], ◌++◌, drop, Option, Some, None, Result, Ok, Err}
use Rattle.frame_fields.specs.Faults.{Fault}
use Rattle.frame_fields.specs.Telling.{fault_of}
use Rattle.frame_fields.specs.declared.fault.FrameFault.{FrameFault}
use Rattle.frame_stream.specs.Frames.{Rules, Next, Waits, Faults, Whole, next_frame, Passes}

-- a reader of a stream of frames
pub record Progress (G : Type 0) : Type 0 where
  -- by which grammar
  pub grammar : G
  -- the place behind the last whole frame, as it is told
  pub at : ℕ
  -- the bytes from there on
  pub kept : List ℕ
  -- the fault at which the reader stopped, if it did
  pub fault : Option FrameFault

-- a reader by a grammar that was fed nothing
abbrev pub fresh : {G : Type 0} → G → Progress G
fresh grammar = record { grammar = grammar; at = 0; kept = []; fault = None }

-- a reader with this fault answers it; one without a fault has read all that it was fed
abbrev pub answer_of : Option FrameFault → Result (Unit {0}) FrameFault
answer_of None = Ok tt
answer_of (Some fault) = Err fault

-- the frame at the front is at this fault, where it is a fault of the bytes
abbrev pub IsAt : {Item : Type 0} → Option Fault → Next Item → Type 0
IsAt None next = Unit {0}
IsAt (Some fault) next = next ≡ Faults fault

-- what a search for the frame at the front answers: the item and the size of a frame, nothing where it waits, or a fault
abbrev pub TellsNext : {Item : Type 0} → Result (Option (Item × ℕ)) FrameFault → Next Item → Type 0
TellsNext (Ok None) next = next ≡ Waits
TellsNext (Ok (Some frame)) next = next ≡ Whole frame.0 frame.1
TellsNext (Err fault) next = IsAt (fault_of fault) next

-- Whole frames at the front of bytes, which begin at a place, were read, and what they spell was put behind the items that
-- were there.
abbrev pub HasRead : {Item : Type 0} → Rules Item → ℕ → List ℕ → List Item → List Item → ℕ → List ℕ → Type 0
HasRead {Item} rules at bytes before after end rest = (more : List Item) × ((after ≡ before ++ more) × Passes rules at bytes more end rest)

-- All whole frames at the front of bytes were read, and what is kept waits for more; or the frame behind those that were read
-- is at the fault that is answered.
abbrev pub HasTaken : {Item : Type 0} → Rules Item → ℕ → List ℕ → List Item → List Item → ℕ → List ℕ → Result (Unit {0}) FrameFault → Type 0
HasTaken rules at bytes before after end kept (Ok done) = HasRead rules at bytes before after end kept × (next_frame rules end kept ≡ Waits)
HasTaken rules at bytes before after end kept (Err fault) =
    (rest : List ℕ) × (HasRead rules at bytes before after end rest × IsAt (fault_of fault) (next_frame rules end rest))

-- the answer to reading bytes whose rest is kept where it begins
abbrev pub kept_from : Result ℕ FrameFault → Result (Unit {0}) FrameFault
kept_from (Ok start) = Ok tt
kept_from (Err fault) = Err fault

-- what is left of bytes behind the frames that were read
abbrev pub left_from : List ℕ → Result ℕ FrameFault → List ℕ
left_from bytes (Ok start) = drop start bytes
left_from bytes (Err fault) = []

-- Behind whole frames that spell these items, a stream is at this fault.
abbrev pub StopsAt : {Item : Type 0} → Rules Item → List ℕ → List Item → ℕ → Option Fault → Type 0
StopsAt rules stream items at None = ⊥
StopsAt rules stream items at (Some fault) =
    (rest : List ℕ) × (Passes rules 0 stream items at rest × (next_frame rules at rest ≡ Faults fault))

-- Whole frames that spell these items are at the front of a stream, and behind them comes what is kept, which waits for
-- more; or the stream is at the reader's fault, and nothing is kept.
abbrev pub Keeps : {Item : Type 0} → Rules Item → List ℕ → List Item → ℕ → List ℕ → Option FrameFault → Type 0
Keeps rules stream items at kept None = Passes rules 0 stream items at kept × (next_frame rules at kept ≡ Waits)
Keeps rules stream items at kept (Some fault) = (kept ≡ []) × StopsAt rules stream items at (fault_of fault)

-- A reader that was fed this stream, in whatever pieces, has given these items. No stream is followed by a reader that wanted
-- memory.
abbrev pub Follows : {G Item : Type 0} → Rules Item → List ℕ → List Item → Progress G → Type 0
Follows rules stream items reader = Keeps rules stream items reader.at reader.kept reader.fault

-- Further items were put behind those that were there, and the reader follows the stream with them.
abbrev pub HasFollowed : {G Item : Type 0} → Rules Item → List ℕ → List Item → List Item → List Item → Progress G → Type 0
HasFollowed {G} {Item} rules stream items before after reader =
    (more : List Item) × ((after ≡ before ++ more) × Follows rules stream (items ++ more) reader)

-- Further items were put behind those that were there, and with them the items are those of the first frames of the stream.
abbrev pub HasBegun : {Item : Type 0} → Rules Item → List ℕ → List Item → List Item → List Item → Type 0
HasBegun {Item} rules stream items before after =
    (more : List Item) × ((after ≡ before ++ more) × ((end : ℕ) × ((rest : List ℕ) × Passes rules 0 stream (items ++ more) end rest)))

-- The frames at the front of a stream, read one after another by a grammar.
use Rattle.std.specs.Prelude.{◌≡◌, ℕ, ◌+◌, Bool, not, nat_lt, ◌==◌, if◌then◌else◌, List, [], ◌∷◌, length, take, drop, slice_index, slice_range, Result, Ok, Err}
use Rattle.std.specs.Int.{from_be_bytes, w32}
use Rattle.frame_fields.specs.Faults.{Fault, BadKind, BadLength, TooLong, told}

-- what the frames of a stream may be
pub record Rules (Item : Type 0) : Type 0 where
  -- the kinds that there are
  pub is_listed : ℕ → Bool
  -- what the fields of a frame of a listed kind spell: the kind, the place of the first field as it is told, and the bytes
  pub reads : ℕ → ℕ → List ℕ → Result Item Fault

-- what stands at the front of bytes
pub data Next (Item : Type 0) : Type 0 where
  -- the front of a frame that more bytes may go on
  Waits : Next Item
  -- what is no frame, whatever follows
  Faults : (fault : Fault) → Next Item
  -- a whole frame, which spells this item, and how many bytes it has
  Whole : (item : Item) (size : ℕ) → Next Item

-- the greatest length that a frame may tell
abbrev pub longest : ℕ
longest = 134217728

-- the place so many bytes behind a place, as it is told
abbrev pub behind : ℕ → ℕ → ℕ
behind at count = told (at + count)

-- a frame whose fields were read
abbrev pub spelt : {Item : Type 0} → Result Item Fault → ℕ → Next Item
spelt (Ok item) size = Whole item size
spelt (Err fault) size = Faults fault

-- A frame of this kind and length, which begins at this place: the kind has to be listed, and the fields are read once the
-- frame is whole.
abbrev pub frame_of_kind : {Item : Type 0} → Rules Item → ℕ → ℕ → ℕ → List ℕ → Next Item
frame_of_kind rules at len kind bytes =
    if not (rules.is_listed kind) then Faults (BadKind (behind at 4))
    else (if nat_lt (length bytes) (4 + len) then Waits else spelt (rules.reads kind (behind at 5) (slice_range bytes 5 (4 + len))) (4 + len))

-- a frame of this length, which has to be within its limits, and is told before the kind is there
abbrev pub frame_of_length : {Item : Type 0} → Rules Item → ℕ → ℕ → List ℕ → Next Item
frame_of_length rules at len bytes =
    if nat_lt longest len then Faults (TooLong at)
    else (if len == 0 then Faults (BadLength at)
    else (if nat_lt (length bytes) 5 then Waits else frame_of_kind rules at len (slice_index bytes 4) bytes))

-- What stands at the front of these bytes, which begin at this place: a frame begins with four bytes that tell how many
-- follow, the kind among them.
unfoldable pub next_frame : {Item : Type 0} → Rules Item → ℕ → List ℕ → Next Item
next_frame rules at bytes =
    if nat_lt (length bytes) 4 then Waits else frame_of_length rules at (from_be_bytes w32 (take 4 bytes)) bytes

-- Bytes that begin at a place have whole frames at their front, which spell these items in order. Behind them, at the place
-- `end`, are the bytes `rest`.
abbrev pub Passes : {Item : Type 0} → Rules Item → ℕ → List ℕ → List Item → ℕ → List ℕ → Type 0
Passes rules at bytes [] end rest = (end ≡ at) × (rest ≡ bytes)
Passes rules at bytes (item ∷ items) end rest =
    (size : ℕ) × ((next_frame rules at bytes ≡ Whole item size) × Passes rules (behind at size) (drop size bytes) items end rest)

-- there is no whole frame
abbrev pub IsUnfinished : {Item : Type 0} → Next Item → Type 0
IsUnfinished Waits = Unit {0}
IsUnfinished (Faults fault) = Unit {0}
IsUnfinished (Whole item size) = ⊥

-- These items are all that the whole frames at the front of bytes spell, and no whole frame is at the front of the rest.
pub record Reads {Item : Type 0} (rules : Rules Item) (at : ℕ) (bytes : List ℕ) (items : List Item) (end : ℕ) (rest : List ℕ) : Type 0 where
  pub passes : Passes rules at bytes items end rest
  pub ends : IsUnfinished (next_frame rules end rest)

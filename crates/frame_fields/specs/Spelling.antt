-- How the fields of a frame are spelt. Each number is big-endian.
use Rattle.std.specs.Prelude.{ℕ, ◌+◌, ◌-◌, List, [], ◌∷◌, ◌++◌, length, take, drop, Option, Some, None}
use Rattle.std.specs.Int.{to_be_bytes, w16, w32, w64}
use Rattle.jp_types.specs.declared.command.Command.{Command}
use Rattle.jp_types.specs.declared.command.Command.TheVariants.{Put, Get, Del, Cas}
use Rattle.jp_types.specs.declared.command.Reply.{Reply}
use Rattle.jp_types.specs.declared.command.Reply.TheVariants.{Done, Value, NoKey, NoRoom}
use Rattle.jp_types.specs.declared.command.Request.{Request}

-- a key or a value: its length in two bytes, and then itself
abbrev pub sized_bytes : List ℕ → List ℕ
sized_bytes bytes = to_be_bytes w16 (length bytes) ++ bytes

-- a tag 0 for nothing, or a tag 1 and the thing
abbrev pub optional_bytes : {A : Type 0} → (A → List ℕ) → Option A → List ℕ
optional_bytes spelling None = 0 ∷ []
optional_bytes spelling (Some x) = 1 ∷ spelling x

-- a command's kind, and its parts
abbrev pub command_bytes : Command → List ℕ
command_bytes (Put key value) = 1 ∷ sized_bytes key ++ sized_bytes value
command_bytes (Get key) = 2 ∷ sized_bytes key
command_bytes (Del key) = 3 ∷ sized_bytes key
command_bytes (Cas key old new) = 4 ∷ sized_bytes key ++ optional_bytes sized_bytes old ++ sized_bytes new

-- a reply's kind, and its value
abbrev pub reply_bytes : Reply → List ℕ
reply_bytes Done = 1 ∷ []
reply_bytes (Value value) = 2 ∷ sized_bytes value
reply_bytes NoKey = 3 ∷ []
reply_bytes NoRoom = 4 ∷ []

-- the client, the number and the command
abbrev pub request_bytes : Request → List ℕ
request_bytes r = to_be_bytes w64 r.client ++ to_be_bytes w64 r.number ++ command_bytes r.command

-- a frame: the length of what follows it, its kind, and its fields
abbrev pub frame_of : ℕ → List ℕ → List ℕ
frame_of kind fields = to_be_bytes w32 (length (kind ∷ fields)) ++ kind ∷ fields

-- the front of a frame whose length is filled in later
abbrev pub begun_frame : ℕ → List ℕ
begun_frame kind = 0 ∷ 0 ∷ 0 ∷ 0 ∷ kind ∷ []

-- bytes with the length filled in of the frame that begins at this place and ends where they do
abbrev pub filled : ℕ → List ℕ → List ℕ
filled place bytes = take place bytes ++ to_be_bytes w32 (length bytes - (place + 4)) ++ drop (place + 4) bytes

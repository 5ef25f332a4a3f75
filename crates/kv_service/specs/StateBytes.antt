-- The bytes of a service's state. Each number is big-endian.
use Rattle.std.specs.Prelude.{ℕ, List, [], ◌∷◌, ◌++◌, length, flat_map}
use Rattle.std.specs.Int.{to_be_bytes, w16, w32, w64}
use Rattle.jp_types.specs.declared.command.Reply.{Reply}
use Rattle.jp_types.specs.declared.command.Reply.TheVariants.{Done, Value, NoKey, NoRoom}
use Rattle.kv_service.specs.Service.{State}

-- a key or a value: its length in two bytes, and then itself
abbrev pub sized_bytes : List ℕ → List ℕ
sized_bytes bytes = to_be_bytes w16 (length bytes) ++ bytes

-- a key with its value
abbrev pub pair_bytes : List ℕ × List ℕ → List ℕ
pair_bytes pair = sized_bytes pair.0 ++ sized_bytes pair.1

-- a reply's kind, and its value
abbrev pub reply_bytes : Reply → List ℕ
reply_bytes Done = 1 ∷ []
reply_bytes (Value value) = 2 ∷ sized_bytes value
reply_bytes NoKey = 3 ∷ []
reply_bytes NoRoom = 4 ∷ []

-- a client with its last number and the reply to it
abbrev pub client_bytes : ℕ × (ℕ × Reply) → List ℕ
client_bytes last = to_be_bytes w64 last.0 ++ to_be_bytes w64 last.1.0 ++ reply_bytes last.1.1

-- a service's state: the executed number, the count of keys and each key with its value, the count of clients and each client
unfoldable pub state_bytes : State → List ℕ
state_bytes s =
    to_be_bytes w64 s.executed
    ++ to_be_bytes w32 (length s.store) ++ flat_map pair_bytes s.store
    ++ to_be_bytes w32 (length s.last) ++ flat_map client_bytes s.last

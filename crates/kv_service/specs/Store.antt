-- The store: a finite map from keys to values, and what a command does to it.
use Rattle.std.specs.Prelude.{ℕ, Bool, true, false, ◌&&◌, not, List, if◌then◌else◌, Option, Some, None, nat_le, bytes_eq, length}
use Rattle.std.specs.declared.cmp.Ordering.{Ordering}
use Rattle.std.specs.Ordering.{nat_cmp}
use Rattle.kv_service.specs.Entries
use Rattle.std.specs.Cmp.Lexicographic.{slice_cmp}
use Rattle.jp_types.specs.declared.command.Command.{Command}
use Rattle.jp_types.specs.declared.command.Command.TheVariants.{Put, Get, Del, Cas}
use Rattle.jp_types.specs.declared.command.Reply.{Reply}
use Rattle.jp_types.specs.declared.command.Reply.TheVariants.{Done, Value, NoKey, NoRoom}

-- a store: a finite map from keys to values, both runs of bytes, in ascending byte order of the keys
abbrev pub Store : Type 0
Store = List (List ℕ × List ℕ)

-- byte order
abbrev pub bytes_cmp : List ℕ → List ℕ → Ordering
bytes_cmp = slice_cmp nat_cmp

-- the value at a key
abbrev pub get : Store → List ℕ → Option (List ℕ)
get s key = Entries.get bytes_cmp s key

-- whether a key is there
abbrev pub contains_key : Store → List ℕ → Bool
contains_key s key = Entries.contains_key bytes_cmp s key

-- whether setting this key would add it to a store that has 16,384 keys already
abbrev pub is_over : Store → List ℕ → Bool
is_over s key = nat_le 16384 (length s) && not (contains_key s key)

-- the store and the reply where a key is set
abbrev pub put : Store → List ℕ → List ℕ → Store × Reply
put s key value = if is_over s key then (s, NoRoom) else (Entries.insert bytes_cmp s key value, Done)

-- the reply to a key's value
abbrev pub reply_of : Option (List ℕ) → Reply
reply_of None = NoKey
reply_of (Some value) = Value value

-- whether a key's value is the one that Cas expects, absent meaning None
abbrev pub is_same : Option (List ℕ) → Option (List ℕ) → Bool
is_same None None = true
is_same (Some a) (Some b) = bytes_eq a b
is_same None (Some b) = false
is_same (Some a) None = false

-- what a command leaves and answers
abbrev pub apply : Store → Command → Store × Reply
apply s (Put key value) = put s key value
apply s (Get key) = (s, reply_of (get s key))
apply s (Del key) = if contains_key s key then (Entries.remove bytes_cmp s key, Done) else (s, NoKey)
apply s (Cas key old new) = if is_same (get s key) old then put s key new else (s, reply_of (get s key))

-- whether a reply is the value of a key
abbrev pub is_value : Reply → Bool
is_value Done = false
is_value (Value value) = true
is_value NoKey = false
is_value NoRoom = false

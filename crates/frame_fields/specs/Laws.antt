-- Fields are read as they are spelt.
use Rattle.std.specs.Prelude.{◌≡◌, ℕ, ◌+◌, ◌≤◌, List, ◌++◌, length, Option, Some, None, Ok}
use Rattle.jp_types.specs.Limits.{AreBytes, IsValue}
use Rattle.jp_types.specs.Lists.{In}
use Rattle.jp_types.specs.declared.command.Reply.{Reply}
use Rattle.jp_types.specs.declared.command.Reply.TheVariants.{Done, Value, NoKey, NoRoom}
use Rattle.frame_fields.specs.Reading.{Place, Reader, too_large}

-- the batch that is being read, if one is, is not too large up to this place
abbrev pub HasRoom : Place → Type 0
HasRoom place = too_large place.batch place.at ≡ None

-- these bytes stand between two places of a frame
pub record Spans (from : Place) (bytes : List ℕ) (to : Place) : Type 0 where
  pub rest : from.rest ≡ bytes ++ to.rest
  pub at : to.at ≡ from.at + length bytes
  pub batch : to.batch ≡ from.batch

-- A thing that fits was read up to a place, and its spelling stands before that place.
pub record WasSpelt {A : Type 0} (spelling : A → List ℕ) (Fits : A → Type 0) (from : Place) (x : A) (to : Place) : Type 0 where
  pub fits : Fits x
  pub spans : Spans from (spelling x) to
  pub room : HasRoom to

-- Where this batch, or none, is being read: a reader gives each thing that fits where the thing stands spelt and the batch has
-- room for it, and of bytes it gives no other.
pub record IsReadAsSpelt {A : Type 0} (batch : Option ℕ) (reader : Reader A) (spelling : A → List ℕ) (Fits : A → Type 0) : Type 0 where
  pub reads_back : (from : Place) (x : A) (to : Place) → from.batch ≡ batch → Fits x → Spans from (spelling x) to → HasRoom to → reader from ≡ Ok (x, to)
  pub was_spelt : (from : Place) (x : A) (to : Place) → from.batch ≡ batch → AreBytes from.rest → HasRoom from → reader from ≡ Ok (x, to) → WasSpelt spelling Fits from x to

-- bytes spell a thing that fits
pub record IsSpelling {A : Type 0} (spelling : A → List ℕ) (Fits : A → Type 0) (bytes : List ℕ) (x : A) : Type 0 where
  pub fits : Fits x
  pub spelt : bytes ≡ spelling x

-- each element fits
abbrev pub AllFit : {A : Type 0} → (A → Type 0) → List A → Type 0
AllFit {A} Fits xs = (x : A) → In x xs → Fits x

-- a thing that is there fits
abbrev pub FitsIfThere : {A : Type 0} → (A → Type 0) → Option A → Type 0
FitsIfThere {A} Fits x = (y : A) → x ≡ Some y → Fits y

-- a number from low to high
abbrev pub IsWithin : ℕ → ℕ → ℕ → Type 0
IsWithin low high n = (low ≤ n) × (n ≤ high)

-- a reply whose value, if it is one, is within its limit
abbrev pub IsReply : Reply → Type 0
IsReply Done = Unit {0}
IsReply (Value value) = IsValue value
IsReply NoKey = Unit {0}
IsReply NoRoom = Unit {0}

-- What holds of each stream of frames, whatever its grammar, and of each reader of one.
use Rattle.std.specs.Prelude.{◌≡◌, ℕ, List}
use Rattle.frame_stream.specs.Frames.{Rules, Reads}
use Rattle.frame_stream.specs.Following.{Progress, Follows}

-- two readers have given the same items, and stand at the same place, with the same bytes and the same fault
pub record IsSame {G Item : Type 0} (xs ys : List Item) (one other : Progress G) : Type 0 where
  pub items : xs ≡ ys
  pub at : one.at ≡ other.at
  pub kept : one.kept ≡ other.kept
  pub fault : one.fault ≡ other.fault

-- however a stream is cut into pieces: two readers that were fed it have given the same items, and stand alike
abbrev pub CuttingChangesNothing : Type 0 → Type 0 → Type 0
CuttingChangesNothing G Item =
    (rules : Rules Item) (stream : List ℕ) (xs ys : List Item) (one other : Progress G) → Follows rules stream xs one → Follows rules stream ys other → IsSame xs ys one other

-- bytes are read in one way
abbrev pub OneReading : Type 0 → Type 0
OneReading Item =
    (rules : Rules Item) (at : ℕ) (bytes : List ℕ) (xs ys : List Item) (end end' : ℕ) (rest rest' : List ℕ)
    → Reads rules at bytes xs end rest → Reads rules at bytes ys end' rest' → (xs ≡ ys) × ((end ≡ end') × (rest ≡ rest'))

-- what a reader has given is what is read of the stream that it was fed
abbrev pub GivesWhatIsRead : Type 0 → Type 0 → Type 0
GivesWhatIsRead G Item =
    (rules : Rules Item) (stream : List ℕ) (items : List Item) (reader : Progress G) → Follows rules stream items reader → (end : ℕ) × ((rest : List ℕ) × Reads rules 0 stream items end rest)

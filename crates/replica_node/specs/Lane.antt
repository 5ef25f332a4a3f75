-- One lane.
use Rattle.std.specs.Prelude.{ℕ, Bool, List, [], ◌∷◌, ◌++◌, length, nat_le, if◌then◌else◌}

-- how many items a lane holds at most
abbrev pub places : ℕ
places = 64

-- whether a lane holds as many items as it can
abbrev pub is_full : {A : Type 0} → List A → Bool
is_full lane = nat_le places (length lane)

-- a lane with one item more, where it has a place
abbrev pub with_item : {A : Type 0} → List A → A → List A
with_item lane item = if is_full lane then lane else lane ++ item ∷ []

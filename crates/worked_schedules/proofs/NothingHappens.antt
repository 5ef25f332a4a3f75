-- Nothing happens.
use Rattle.std.specs.Prelude.{◌≡◌, ℕ, true, List, [], ◌∷◌, codes, refl}
use Rattle.schedules.specs.Schedule.{read_schedule}
use Rattle.worked_schedules.proofs.Examples.{gives, joined, whole}
use Rattle.worked_schedules.proofs.Worlds.{ends_alike}
use Rattle.worked_schedules.proofs.Allowance.{all_allowed}

-- the lines of the schedule
abbrev input : List (List ℕ)
input =
    codes "cluster 3 epochss 1" ∷
    codes "end" ∷
    []

-- the text, whole
abbrev text : List (List ℕ)
text =
    codes "cluster 3 epochss 1 = done; first 0; promise 0 0; send 0 1 prepare; send 1 2 prepare; first 1; first 2" ∷
    codes "end = done" ∷
    codes "replica 0 working 0 0" ∷
    codes "replica 1 working 0 0" ∷
    codes "replica 2 working 0 0" ∷
    []

-- the run is written so
pub holds : gives input text ≡ true
unfolding gives
holds = refl

-- its steps of the world send what it sends, and leave the same numbers on the disks
pub alike : ends_alike (read_schedule (joined input)) ≡ true
unfolding whole
alike = refl

-- and each of them is allowed
pub allowed : all_allowed (read_schedule (joined input)) ≡ true
unfolding whole
allowed = refl

-- EpochSS: a promise of an ended life is not counted.
use Rattle.std.specs.Prelude.{◌≡◌, ℕ, true, List, [], ◌∷◌, codes, refl}
use Rattle.schedules.specs.Schedule.{read_schedule}
use Rattle.worked_schedules.proofs.Examples.{begins, joined, whole}
use Rattle.worked_schedules.proofs.Worlds.{ends_alike}
use Rattle.worked_schedules.proofs.Allowance.{all_allowed}

-- the lines of the schedule
abbrev input : List (List ℕ)
input =
    codes "cluster 3 epochss 4" ∷
    codes "deliver 1 0" ∷
    codes "protocol 1" ∷
    codes "deliver 0 2" ∷
    codes "protocol 0" ∷
    codes "suspect 1" ∷
    codes "protocol 1" ∷
    codes "deliver 2 4" ∷
    codes "protocol 2" ∷
    codes "crash 2" ∷
    codes "start 2" ∷
    codes "deliver 1 7" ∷
    codes "protocol 1" ∷
    codes "deliver 1 5" ∷
    codes "protocol 1" ∷
    codes "deliver 0 3" ∷
    codes "protocol 0" ∷
    codes "deliver 1 9" ∷
    codes "protocol 1" ∷
    codes "end" ∷
    []

-- how the text begins
abbrev text : List (List ℕ)
text =
    codes "cluster 3 epochss 4 = done; first 0; promise 0 0; send 0 1 prepare; send 1 2 prepare; first 1; first 2" ∷
    codes "deliver 1 0 = done" ∷
    codes "protocol 1 = done; promise 1 0; send 2 0 promise" ∷
    codes "deliver 0 2 = done" ∷
    codes "protocol 0 = done; prepared 0 0 0" ∷
    codes "suspect 1 = done" ∷
    codes "protocol 1 = done; enter 1 1; promise 1 1; send 3 0 prepare; send 4 2 prepare" ∷
    codes "deliver 2 4 = done" ∷
    codes "protocol 2 = done; enter 2 1; promise 2 1; send 5 1 promise" ∷
    codes "crash 2 = done; crash 2" ∷
    codes "start 2 = done; return 2 2; send 6 0 recovery; send 7 1 recovery" ∷
    codes "deliver 1 7 = done" ∷
    codes "protocol 1 = done; answer 1 2 1 -; send 8 2 answer" ∷
    codes "deliver 1 5 = done" ∷
    codes "protocol 1 = done" ∷
    codes "deliver 0 3 = done" ∷
    codes "protocol 0 = done; enter 0 1; promise 0 1; send 9 1 promise" ∷
    codes "deliver 1 9 = done" ∷
    codes "protocol 1 = done; prepared 1 1 0" ∷
    []

-- the run is written so
pub holds : begins input text ≡ true
unfolding begins
holds = refl

-- its steps of the world send what it sends, and leave the same numbers on the disks
pub alike : ends_alike (read_schedule (joined input)) ≡ true
unfolding whole
alike = refl

-- and each of them is allowed
pub allowed : all_allowed (read_schedule (joined input)) ≡ true
unfolding whole
allowed = refl

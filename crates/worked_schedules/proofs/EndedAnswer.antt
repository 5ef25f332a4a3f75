-- EpochSS, seven replicas: an answer of an ended life is not counted.
use Rattle.std.specs.Prelude.{◌≡◌, ℕ, true, List, [], ◌∷◌, codes, refl}
use Rattle.schedules.specs.Schedule.{read_schedule}
use Rattle.worked_schedules.proofs.Examples.{begins, joined, whole}
use Rattle.worked_schedules.proofs.Worlds.{ends_alike}
use Rattle.worked_schedules.proofs.Allowance.{all_allowed}

-- the lines of the schedule
abbrev input : List (List ℕ)
input =
    codes "cluster 7 epochss 4" ∷
    codes "deliver 1 0" ∷
    codes "protocol 1" ∷
    codes "deliver 2 1" ∷
    codes "protocol 2" ∷
    codes "deliver 3 2" ∷
    codes "protocol 3" ∷
    codes "deliver 0 6" ∷
    codes "protocol 0" ∷
    codes "deliver 0 7" ∷
    codes "protocol 0" ∷
    codes "deliver 0 8" ∷
    codes "protocol 0" ∷
    codes "crash 6" ∷
    codes "start 6" ∷
    codes "deliver 1 10" ∷
    codes "protocol 1" ∷
    codes "crash 1" ∷
    codes "start 1" ∷
    codes "deliver 0 16" ∷
    codes "protocol 0" ∷
    codes "deliver 2 17" ∷
    codes "protocol 2" ∷
    codes "deliver 3 18" ∷
    codes "protocol 3" ∷
    codes "deliver 4 19" ∷
    codes "protocol 4" ∷
    codes "deliver 1 22" ∷
    codes "protocol 1" ∷
    codes "deliver 1 23" ∷
    codes "protocol 1" ∷
    codes "deliver 1 24" ∷
    codes "protocol 1" ∷
    codes "deliver 1 25" ∷
    codes "protocol 1" ∷
    codes "deliver 0 9" ∷
    codes "protocol 0" ∷
    codes "deliver 2 11" ∷
    codes "protocol 2" ∷
    codes "deliver 3 12" ∷
    codes "protocol 3" ∷
    codes "deliver 6 15" ∷
    codes "protocol 6" ∷
    codes "deliver 6 26" ∷
    codes "protocol 6" ∷
    codes "deliver 6 27" ∷
    codes "protocol 6" ∷
    codes "deliver 6 28" ∷
    codes "protocol 6" ∷
    codes "deliver 4 13" ∷
    codes "protocol 4" ∷
    codes "deliver 6 29" ∷
    codes "protocol 6" ∷
    codes "end" ∷
    []

-- how the text begins
abbrev text : List (List ℕ)
text =
    codes "cluster 7 epochss 4 = done; first 0; promise 0 0; send 0 1 prepare; send 1 2 prepare; send 2 3 prepare; send 3 4 prepare; send 4 5 prepare; send 5 6 prepare; first 1; first 2; first 3; first 4; first 5; first 6" ∷
    codes "deliver 1 0 = done" ∷
    codes "protocol 1 = done; promise 1 0; send 6 0 promise" ∷
    codes "deliver 2 1 = done" ∷
    codes "protocol 2 = done; promise 2 0; send 7 0 promise" ∷
    codes "deliver 3 2 = done" ∷
    codes "protocol 3 = done; promise 3 0; send 8 0 promise" ∷
    codes "deliver 0 6 = done" ∷
    codes "protocol 0 = done" ∷
    codes "deliver 0 7 = done" ∷
    codes "protocol 0 = done" ∷
    codes "deliver 0 8 = done" ∷
    codes "protocol 0 = done; prepared 0 0 0" ∷
    codes "crash 6 = done; crash 6" ∷
    codes "start 6 = done; return 6 2; send 9 0 recovery; send 10 1 recovery; send 11 2 recovery; send 12 3 recovery; send 13 4 recovery; send 14 5 recovery" ∷
    codes "deliver 1 10 = done" ∷
    codes "protocol 1 = done; answer 1 6 0 -; send 15 6 answer" ∷
    codes "crash 1 = done; crash 1" ∷
    codes "start 1 = done; return 1 2; send 16 0 recovery; send 17 2 recovery; send 18 3 recovery; send 19 4 recovery; send 20 5 recovery; send 21 6 recovery" ∷
    codes "deliver 0 16 = done" ∷
    codes "protocol 0 = done; answer 0 1 0 0; send 22 1 answer" ∷
    codes "deliver 2 17 = done" ∷
    codes "protocol 2 = done; answer 2 1 0 -; send 23 1 answer" ∷
    codes "deliver 3 18 = done" ∷
    codes "protocol 3 = done; answer 3 1 0 -; send 24 1 answer" ∷
    codes "deliver 4 19 = done" ∷
    codes "protocol 4 = done; answer 4 1 0 -; send 25 1 answer" ∷
    codes "deliver 1 22 = done" ∷
    codes "protocol 1 = done" ∷
    codes "deliver 1 23 = done" ∷
    codes "protocol 1 = done" ∷
    codes "deliver 1 24 = done" ∷
    codes "protocol 1 = done" ∷
    codes "deliver 1 25 = done" ∷
    codes "protocol 1 = done; rejoin 1 0" ∷
    codes "deliver 0 9 = done" ∷
    codes "protocol 0 = done; answer 0 6 0 0; send 26 6 answer" ∷
    codes "deliver 2 11 = done" ∷
    codes "protocol 2 = done; answer 2 6 0 -; send 27 6 answer" ∷
    codes "deliver 3 12 = done" ∷
    codes "protocol 3 = done; answer 3 6 0 -; send 28 6 answer" ∷
    codes "deliver 6 15 = done" ∷
    codes "protocol 6 = done" ∷
    codes "deliver 6 26 = done" ∷
    codes "protocol 6 = done" ∷
    codes "deliver 6 27 = done" ∷
    codes "protocol 6 = done" ∷
    codes "deliver 6 28 = done" ∷
    codes "protocol 6 = done" ∷
    codes "deliver 4 13 = done" ∷
    codes "protocol 4 = done; answer 4 6 0 -; send 29 6 answer" ∷
    codes "deliver 6 29 = done" ∷
    codes "protocol 6 = done; rejoin 6 0" ∷
    []

-- the run is written so
pub holds : begins input text ≡ true
unfolding begins
holds = refl

-- its steps of the world send what it sends, and leave the same numbers on the disks
pub alike : ends_alike (read_schedule (joined input)) ≡ true
unfolding whole
alike = refl

-- and each of them is allowed
pub allowed : all_allowed (read_schedule (joined input)) ≡ true
unfolding whole
allowed = refl

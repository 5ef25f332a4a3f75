-- ViewSS, two crashes: the answer to the first mark is not held.
use Rattle.std.specs.Prelude.{◌≡◌, ℕ, true, List, [], ◌∷◌, codes, refl}
use Rattle.schedules.specs.Schedule.{read_schedule}
use Rattle.worked_schedules.proofs.Examples.{begins, joined, whole}
use Rattle.worked_schedules.proofs.Worlds.{ends_alike}
use Rattle.worked_schedules.proofs.Allowance.{all_allowed}

-- the lines of the schedule
abbrev input : List (List ℕ)
input =
    codes "cluster 3 viewss 4" ∷
    codes "deliver 1 0" ∷
    codes "protocol 1" ∷
    codes "deliver 0 2" ∷
    codes "protocol 0" ∷
    codes "crash 2" ∷
    codes "start 2" ∷
    codes "deliver 0 3" ∷
    codes "protocol 0" ∷
    codes "crash 2" ∷
    codes "start 2" ∷
    codes "deliver 2 5" ∷
    codes "protocol 2" ∷
    codes "deliver 0 6" ∷
    codes "protocol 0" ∷
    codes "deliver 1 7" ∷
    codes "protocol 1" ∷
    codes "deliver 2 10" ∷
    codes "protocol 2" ∷
    codes "deliver 2 11" ∷
    codes "protocol 2" ∷
    codes "deliver 1 8" ∷
    codes "protocol 1" ∷
    codes "deliver 0 12" ∷
    codes "protocol 0" ∷
    codes "retransmit 2" ∷
    codes "deliver 0 13" ∷
    codes "protocol 0" ∷
    codes "deliver 2 15" ∷
    codes "protocol 2" ∷
    codes "end" ∷
    []

-- how the text begins
abbrev text : List (List ℕ)
text =
    codes "cluster 3 viewss 4 = done; first 0; promise 0 0; send 0 1 prepare; send 1 2 prepare; first 1; first 2" ∷
    codes "deliver 1 0 = done" ∷
    codes "protocol 1 = done; promise 1 0; send 2 0 promise" ∷
    codes "deliver 0 2 = done" ∷
    codes "protocol 0 = done; prepared 0 0 0" ∷
    codes "crash 2 = done; crash 2" ∷
    codes "start 2 = done; return 2 1; send 3 0 recovery; send 4 1 recovery" ∷
    codes "deliver 0 3 = done" ∷
    codes "protocol 0 = done; enter 0 1; answer 0 2 1 -; send 5 2 answer" ∷
    codes "crash 2 = done; crash 2" ∷
    codes "start 2 = done; return 2 3; send 6 0 recovery; send 7 1 recovery" ∷
    codes "deliver 2 5 = done" ∷
    codes "protocol 2 = done" ∷
    codes "deliver 0 6 = done" ∷
    codes "protocol 0 = done; enter 0 3; promise 0 3; send 8 1 prepare; send 9 2 prepare; answer 0 2 3 -; send 10 2 answer" ∷
    codes "deliver 1 7 = done" ∷
    codes "protocol 1 = done; enter 1 3; answer 1 2 3 -; send 11 2 answer" ∷
    codes "deliver 2 10 = done" ∷
    codes "protocol 2 = done" ∷
    codes "deliver 2 11 = done" ∷
    codes "protocol 2 = done" ∷
    codes "deliver 1 8 = done" ∷
    codes "protocol 1 = done; promise 1 3; send 12 0 promise" ∷
    codes "deliver 0 12 = done" ∷
    codes "protocol 0 = done; prepared 0 3 0" ∷
    codes "retransmit 2 = done; send 13 0 recovery; send 14 1 recovery" ∷
    codes "deliver 0 13 = done" ∷
    codes "protocol 0 = done; answer 0 2 3 0; send 15 2 answer" ∷
    codes "deliver 2 15 = done" ∷
    codes "protocol 2 = done; rejoin 2 3" ∷
    []

-- the run is written so
pub holds : begins input text ≡ true
unfolding begins
holds = refl

-- its steps of the world send what it sends, and leave the same numbers on the disks
pub alike : ends_alike (read_schedule (joined input)) ≡ true
unfolding whole
alike = refl

-- and each of them is allowed
pub allowed : all_allowed (read_schedule (joined input)) ≡ true
unfolding whole
allowed = refl

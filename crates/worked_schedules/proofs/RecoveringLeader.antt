-- EpochSS: a Recovering replica that itself leads the highest view does not rejoin in it, and rejoins in the next one.
use Rattle.std.specs.Prelude.{◌≡◌, ℕ, true, List, [], ◌∷◌, codes, refl}
use Rattle.schedules.specs.Schedule.{read_schedule}
use Rattle.worked_schedules.proofs.Examples.{begins, joined, whole}
use Rattle.worked_schedules.proofs.Worlds.{ends_alike}
use Rattle.worked_schedules.proofs.Allowance.{all_allowed}

-- the lines of the schedule
abbrev input : List (List ℕ)
input =
    codes "cluster 3 epochss 4" ∷
    codes "deliver 1 0" ∷
    codes "protocol 1" ∷
    codes "deliver 0 2" ∷
    codes "protocol 0" ∷
    codes "suspect 1" ∷
    codes "protocol 1" ∷
    codes "deliver 0 3" ∷
    codes "protocol 0" ∷
    codes "deliver 1 5" ∷
    codes "protocol 1" ∷
    codes "crash 1" ∷
    codes "start 1" ∷
    codes "deliver 0 6" ∷
    codes "protocol 0" ∷
    codes "deliver 2 4" ∷
    codes "protocol 2" ∷
    codes "deliver 2 7" ∷
    codes "protocol 2" ∷
    codes "deliver 1 8" ∷
    codes "protocol 1" ∷
    codes "deliver 1 10" ∷
    codes "protocol 1" ∷
    codes "suspect 2" ∷
    codes "protocol 2" ∷
    codes "deliver 0 11" ∷
    codes "protocol 0" ∷
    codes "deliver 2 13" ∷
    codes "protocol 2" ∷
    codes "retransmit 1" ∷
    codes "deliver 2 15" ∷
    codes "protocol 2" ∷
    codes "deliver 1 16" ∷
    codes "protocol 1" ∷
    codes "end" ∷
    []

-- how the text begins
abbrev text : List (List ℕ)
text =
    codes "cluster 3 epochss 4 = done; first 0; promise 0 0; send 0 1 prepare; send 1 2 prepare; first 1; first 2" ∷
    codes "deliver 1 0 = done" ∷
    codes "protocol 1 = done; promise 1 0; send 2 0 promise" ∷
    codes "deliver 0 2 = done" ∷
    codes "protocol 0 = done; prepared 0 0 0" ∷
    codes "suspect 1 = done" ∷
    codes "protocol 1 = done; enter 1 1; promise 1 1; send 3 0 prepare; send 4 2 prepare" ∷
    codes "deliver 0 3 = done" ∷
    codes "protocol 0 = done; enter 0 1; promise 0 1; send 5 1 promise" ∷
    codes "deliver 1 5 = done" ∷
    codes "protocol 1 = done; prepared 1 1 0" ∷
    codes "crash 1 = done; crash 1" ∷
    codes "start 1 = done; return 1 2; send 6 0 recovery; send 7 2 recovery" ∷
    codes "deliver 0 6 = done" ∷
    codes "protocol 0 = done; answer 0 1 1 -; send 8 1 answer" ∷
    codes "deliver 2 4 = done" ∷
    codes "protocol 2 = done; enter 2 1; promise 2 1; send 9 1 promise" ∷
    codes "deliver 2 7 = done" ∷
    codes "protocol 2 = done; answer 2 1 1 -; send 10 1 answer" ∷
    codes "deliver 1 8 = done" ∷
    codes "protocol 1 = done" ∷
    codes "deliver 1 10 = done" ∷
    codes "protocol 1 = done" ∷
    codes "suspect 2 = done" ∷
    codes "protocol 2 = done; enter 2 2; promise 2 2; send 11 0 prepare; send 12 1 prepare" ∷
    codes "deliver 0 11 = done" ∷
    codes "protocol 0 = done; enter 0 2; promise 0 2; send 13 2 promise" ∷
    codes "deliver 2 13 = done" ∷
    codes "protocol 2 = done; prepared 2 2 0" ∷
    codes "retransmit 1 = done; send 14 0 recovery; send 15 2 recovery" ∷
    codes "deliver 2 15 = done" ∷
    codes "protocol 2 = done; answer 2 1 2 0; send 16 1 answer" ∷
    codes "deliver 1 16 = done" ∷
    codes "protocol 1 = done; rejoin 1 2" ∷
    []

-- the run is written so
pub holds : begins input text ≡ true
unfolding begins
holds = refl

-- its steps of the world send what it sends, and leave the same numbers on the disks
pub alike : ends_alike (read_schedule (joined input)) ≡ true
unfolding whole
alike = refl

-- and each of them is allowed
pub allowed : all_allowed (read_schedule (joined input)) ≡ true
unfolding whole
allowed = refl

-- ViewSS: a replica crashes, returns, is given the batch that it missed, and takes part again.
use Rattle.std.specs.Prelude.{◌≡◌, ℕ, true, List, [], ◌∷◌, codes, refl}
use Rattle.schedules.specs.Schedule.{read_schedule}
use Rattle.worked_schedules.proofs.Examples.{gives, joined, whole}
use Rattle.worked_schedules.proofs.Worlds.{ends_alike}
use Rattle.worked_schedules.proofs.Allowance.{all_allowed}

-- the lines of the schedule
abbrev input : List (List ℕ)
input =
    codes "cluster 3 viewss 4" ∷
    codes "deliver 1 0" ∷
    codes "protocol 1" ∷
    codes "deliver 0 2" ∷
    codes "protocol 0" ∷
    codes "crash 2" ∷
    codes "request 0 7 1 put 61 62" ∷
    codes "batch 0" ∷
    codes "tick 0" ∷
    codes "batch 0" ∷
    codes "protocol 0" ∷
    codes "protocol 0" ∷
    codes "deliver 2 6" ∷
    codes "deliver 1 5" ∷
    codes "protocol 1" ∷
    codes "service 1" ∷
    codes "deliver 0 7" ∷
    codes "protocol 0" ∷
    codes "service 0" ∷
    codes "start 2" ∷
    codes "deliver 0 9" ∷
    codes "protocol 0" ∷
    codes "deliver 1 10" ∷
    codes "protocol 1" ∷
    codes "deliver 0 12" ∷
    codes "protocol 0" ∷
    codes "deliver 1 15" ∷
    codes "protocol 1" ∷
    codes "deliver 2 11" ∷
    codes "protocol 2" ∷
    codes "retransmit 2" ∷
    codes "deliver 1 17" ∷
    codes "protocol 1" ∷
    codes "deliver 2 18" ∷
    codes "protocol 2" ∷
    codes "tick 2" ∷
    codes "protocol 2" ∷
    codes "deliver 0 19" ∷
    codes "protocol 0" ∷
    codes "deliver 2 20" ∷
    codes "protocol 2" ∷
    codes "service 2" ∷
    codes "end" ∷
    []

-- the whole text
abbrev text : List (List ℕ)
text =
    codes "cluster 3 viewss 4 = done; first 0; promise 0 0; send 0 1 prepare; send 1 2 prepare; first 1; first 2" ∷
    codes "deliver 1 0 = done" ∷
    codes "protocol 1 = done; promise 1 0; send 2 0 promise" ∷
    codes "deliver 0 2 = done" ∷
    codes "protocol 0 = done; prepared 0 0 0" ∷
    codes "crash 2 = done; crash 2" ∷
    codes "request 0 7 1 put 61 62 = done" ∷
    codes "batch 0 = done" ∷
    codes "tick 0 = done" ∷
    codes "batch 0 = done" ∷
    codes "protocol 0 = done; send 3 1 alive; send 4 2 alive" ∷
    codes "protocol 0 = done; launch 0 0 0 7.1; vote 0 0 0; send 5 1 propose; send 6 2 propose" ∷
    codes "deliver 2 6 = down" ∷
    codes "deliver 1 5 = done" ∷
    codes "protocol 1 = done; vote 1 0 0; send 7 0 accept; send 8 2 accept; learn 1 0" ∷
    codes "service 1 = done; execute 1 0 7.1+ok" ∷
    codes "deliver 0 7 = done" ∷
    codes "protocol 0 = done; learn 0 0" ∷
    codes "service 0 = done; execute 0 0 7.1+ok" ∷
    codes "start 2 = done; return 2 1; send 9 0 recovery; send 10 1 recovery" ∷
    codes "deliver 0 9 = done" ∷
    codes "protocol 0 = done; enter 0 1; answer 0 2 1 -; send 11 2 answer" ∷
    codes "deliver 1 10 = done" ∷
    codes "protocol 1 = done; enter 1 1; promise 1 1; send 12 0 prepare; send 13 2 prepare; answer 1 2 1 -; send 14 2 answer" ∷
    codes "deliver 0 12 = done" ∷
    codes "protocol 0 = done; promise 0 1; send 15 1 promise" ∷
    codes "deliver 1 15 = done" ∷
    codes "protocol 1 = done; prepared 1 1 1" ∷
    codes "deliver 2 11 = done" ∷
    codes "protocol 2 = done" ∷
    codes "retransmit 2 = done; send 16 0 recovery; send 17 1 recovery" ∷
    codes "deliver 1 17 = done" ∷
    codes "protocol 1 = done; answer 1 2 1 1; send 18 2 answer" ∷
    codes "deliver 2 18 = done" ∷
    codes "protocol 2 = done" ∷
    codes "tick 2 = done" ∷
    codes "protocol 2 = done; send 19 0 query" ∷
    codes "deliver 0 19 = done" ∷
    codes "protocol 0 = done; send 20 2 batches" ∷
    codes "deliver 2 20 = done" ∷
    codes "protocol 2 = done; learn 2 0; rejoin 2 1" ∷
    codes "service 2 = done; execute 2 0 7.1+ok" ∷
    codes "end = done" ∷
    codes "replica 0 working 1 1 61=62" ∷
    codes "replica 1 working 1 1 61=62" ∷
    codes "replica 2 working 1 1 61=62" ∷
    []

-- the run is written so
pub holds : gives input text ≡ true
unfolding gives
holds = refl

-- its steps of the world send what it sends, and leave the same numbers on the disks
pub alike : ends_alike (read_schedule (joined input)) ≡ true
unfolding whole
alike = refl

-- and each of them is allowed
pub allowed : all_allowed (read_schedule (joined input)) ≡ true
unfolding whole
allowed = refl

-- One request goes through two leaders.
use Rattle.std.specs.Prelude.{◌≡◌, ℕ, true, List, [], ◌∷◌, codes, refl}
use Rattle.schedules.specs.Schedule.{read_schedule}
use Rattle.worked_schedules.proofs.Examples.{begins, joined, whole}
use Rattle.worked_schedules.proofs.Worlds.{ends_alike}
use Rattle.worked_schedules.proofs.Allowance.{all_allowed}

-- the lines of the schedule
abbrev input : List (List ℕ)
input =
    codes "cluster 3 viewss 4" ∷
    codes "request 0 7 1 put 61 62" ∷
    codes "batch 0" ∷
    codes "tick 0" ∷
    codes "batch 0" ∷
    codes "deliver 1 0" ∷
    codes "protocol 1" ∷
    codes "deliver 0 2" ∷
    codes "protocol 0" ∷
    codes "protocol 0" ∷
    codes "protocol 0" ∷
    codes "deliver 1 5" ∷
    codes "protocol 1" ∷
    codes "service 1" ∷
    codes "deliver 0 7" ∷
    codes "protocol 0" ∷
    codes "service 0" ∷
    codes "deliver 2 6" ∷
    codes "protocol 2" ∷
    codes "service 2" ∷
    codes "suspect 1" ∷
    codes "protocol 1" ∷
    codes "deliver 2 12" ∷
    codes "protocol 2" ∷
    codes "deliver 1 13" ∷
    codes "protocol 1" ∷
    codes "request 1 7 1 put 61 62" ∷
    codes "batch 1" ∷
    codes "tick 1" ∷
    codes "batch 1" ∷
    codes "protocol 1" ∷
    codes "protocol 1" ∷
    codes "deliver 2 17" ∷
    codes "protocol 2" ∷
    codes "service 2" ∷
    codes "end" ∷
    []

-- how the text begins
abbrev text : List (List ℕ)
text =
    codes "cluster 3 viewss 4 = done; first 0; promise 0 0; send 0 1 prepare; send 1 2 prepare; first 1; first 2" ∷
    codes "request 0 7 1 put 61 62 = done" ∷
    codes "batch 0 = done" ∷
    codes "tick 0 = done" ∷
    codes "batch 0 = done" ∷
    codes "deliver 1 0 = done" ∷
    codes "protocol 1 = done; promise 1 0; send 2 0 promise" ∷
    codes "deliver 0 2 = done" ∷
    codes "protocol 0 = done; send 3 1 alive; send 4 2 alive" ∷
    codes "protocol 0 = done" ∷
    codes "protocol 0 = done; prepared 0 0 0; launch 0 0 0 7.1; vote 0 0 0; send 5 1 propose; send 6 2 propose" ∷
    codes "deliver 1 5 = done" ∷
    codes "protocol 1 = done; vote 1 0 0; send 7 0 accept; send 8 2 accept; learn 1 0" ∷
    codes "service 1 = done; execute 1 0 7.1+ok" ∷
    codes "deliver 0 7 = done" ∷
    codes "protocol 0 = done; learn 0 0" ∷
    codes "service 0 = done; execute 0 0 7.1+ok" ∷
    codes "deliver 2 6 = done" ∷
    codes "protocol 2 = done; vote 2 0 0; send 9 0 accept; send 10 1 accept; learn 2 0" ∷
    codes "service 2 = done; execute 2 0 7.1+ok" ∷
    codes "suspect 1 = done" ∷
    codes "protocol 1 = done; enter 1 1; promise 1 1; send 11 0 prepare; send 12 2 prepare" ∷
    codes "deliver 2 12 = done" ∷
    codes "protocol 2 = done; enter 2 1; promise 2 1; send 13 1 promise" ∷
    codes "deliver 1 13 = done" ∷
    codes "protocol 1 = done; prepared 1 1 1" ∷
    codes "request 1 7 1 put 61 62 = done" ∷
    codes "batch 1 = done" ∷
    codes "tick 1 = done" ∷
    codes "batch 1 = done" ∷
    codes "protocol 1 = done; send 14 0 alive; send 15 2 alive" ∷
    codes "protocol 1 = done; launch 1 1 1 7.1; vote 1 1 1; send 16 0 propose; send 17 2 propose" ∷
    codes "deliver 2 17 = done" ∷
    codes "protocol 2 = done; vote 2 1 1; send 18 0 accept; send 19 1 accept; learn 2 1" ∷
    codes "service 2 = done; execute 2 1 7.1=ok" ∷
    []

-- the run is written so
pub holds : begins input text ≡ true
unfolding begins
holds = refl

-- its steps of the world send what it sends, and leave the same numbers on the disks
pub alike : ends_alike (read_schedule (joined input)) ≡ true
unfolding whole
alike = refl

-- and each of them is allowed
pub allowed : all_allowed (read_schedule (joined input)) ≡ true
unfolding whole
allowed = refl

-- Proposals are taken out of order.
use Rattle.std.specs.Prelude.{◌≡◌, ℕ, true, List, [], ◌∷◌, codes, refl}
use Rattle.schedules.specs.Schedule.{read_schedule}
use Rattle.worked_schedules.proofs.Examples.{begins, joined, whole}
use Rattle.worked_schedules.proofs.Worlds.{ends_alike}
use Rattle.worked_schedules.proofs.Allowance.{all_allowed}

-- the lines of the schedule
abbrev input : List (List ℕ)
input =
    codes "cluster 3 viewss 3" ∷
    codes "deliver 1 0" ∷
    codes "protocol 1" ∷
    codes "deliver 0 2" ∷
    codes "protocol 0" ∷
    codes "request 0 1 1 put 61 31" ∷
    codes "batch 0" ∷
    codes "tick 0" ∷
    codes "batch 0" ∷
    codes "protocol 0" ∷
    codes "protocol 0" ∷
    codes "request 0 2 1 get 61" ∷
    codes "batch 0" ∷
    codes "tick 0" ∷
    codes "batch 0" ∷
    codes "protocol 0" ∷
    codes "protocol 0" ∷
    codes "deliver 1 9" ∷
    codes "protocol 1" ∷
    codes "service 1" ∷
    codes "deliver 1 5" ∷
    codes "protocol 1" ∷
    codes "service 1" ∷
    codes "service 1" ∷
    codes "end" ∷
    []

-- how the text begins
abbrev text : List (List ℕ)
text =
    codes "cluster 3 viewss 3 = done; first 0; promise 0 0; send 0 1 prepare; send 1 2 prepare; first 1; first 2" ∷
    codes "deliver 1 0 = done" ∷
    codes "protocol 1 = done; promise 1 0; send 2 0 promise" ∷
    codes "deliver 0 2 = done" ∷
    codes "protocol 0 = done; prepared 0 0 0" ∷
    codes "request 0 1 1 put 61 31 = done" ∷
    codes "batch 0 = done" ∷
    codes "tick 0 = done" ∷
    codes "batch 0 = done" ∷
    codes "protocol 0 = done; send 3 1 alive; send 4 2 alive" ∷
    codes "protocol 0 = done; launch 0 0 0 1.1; vote 0 0 0; send 5 1 propose; send 6 2 propose" ∷
    codes "request 0 2 1 get 61 = done" ∷
    codes "batch 0 = done" ∷
    codes "tick 0 = done" ∷
    codes "batch 0 = done" ∷
    codes "protocol 0 = done; send 7 1 alive; send 8 2 alive" ∷
    codes "protocol 0 = done; launch 0 0 1 2.1; vote 0 0 1; send 9 1 propose; send 10 2 propose" ∷
    codes "deliver 1 9 = done" ∷
    codes "protocol 1 = done; vote 1 0 1; send 11 0 accept; send 12 2 accept; learn 1 1" ∷
    codes "service 1 = empty" ∷
    codes "deliver 1 5 = done" ∷
    codes "protocol 1 = done; vote 1 0 0; send 13 0 accept; send 14 2 accept; learn 1 0" ∷
    codes "service 1 = done; execute 1 0 1.1+ok" ∷
    codes "service 1 = done; execute 1 1 2.1+value:31" ∷
    []

-- the run is written so
pub holds : begins input text ≡ true
unfolding begins
holds = refl

-- its steps of the world send what it sends, and leave the same numbers on the disks
pub alike : ends_alike (read_schedule (joined input)) ≡ true
unfolding whole
alike = refl

-- and each of them is allowed
pub allowed : all_allowed (read_schedule (joined input)) ≡ true
unfolding whole
allowed = refl

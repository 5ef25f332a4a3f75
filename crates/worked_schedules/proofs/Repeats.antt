-- The plain path, with each message delivered and taken twice more.
use Rattle.std.specs.Prelude.{◌≡◌, ℕ, true, List, [], ◌∷◌, codes, refl}
use Rattle.schedules.specs.Schedule.{read_schedule}
use Rattle.worked_schedules.proofs.Examples.{gives, joined, whole}
use Rattle.worked_schedules.proofs.Worlds.{ends_alike}
use Rattle.worked_schedules.proofs.Allowance.{all_allowed}

-- the lines of the schedule
abbrev input : List (List ℕ)
input =
    codes "cluster 3 viewss 4" ∷
    codes "request 0 7 1 put 61 62" ∷
    codes "batch 0" ∷
    codes "tick 0" ∷
    codes "batch 0" ∷
    codes "deliver 1 0" ∷
    codes "protocol 1" ∷
    codes "deliver 0 2" ∷
    codes "protocol 0" ∷
    codes "protocol 0" ∷
    codes "protocol 0" ∷
    codes "deliver 1 5" ∷
    codes "protocol 1" ∷
    codes "service 1" ∷
    codes "deliver 0 7" ∷
    codes "protocol 0" ∷
    codes "service 0" ∷
    codes "deliver 2 6" ∷
    codes "protocol 2" ∷
    codes "service 2" ∷
    codes "deliver 1 0" ∷
    codes "protocol 1" ∷
    codes "deliver 1 0" ∷
    codes "protocol 1" ∷
    codes "deliver 2 1" ∷
    codes "protocol 2" ∷
    codes "deliver 2 1" ∷
    codes "protocol 2" ∷
    codes "deliver 0 2" ∷
    codes "protocol 0" ∷
    codes "deliver 0 2" ∷
    codes "protocol 0" ∷
    codes "deliver 1 3" ∷
    codes "protocol 1" ∷
    codes "deliver 1 3" ∷
    codes "protocol 1" ∷
    codes "deliver 2 4" ∷
    codes "protocol 2" ∷
    codes "deliver 2 4" ∷
    codes "protocol 2" ∷
    codes "deliver 1 5" ∷
    codes "protocol 1" ∷
    codes "deliver 1 5" ∷
    codes "protocol 1" ∷
    codes "deliver 2 6" ∷
    codes "protocol 2" ∷
    codes "deliver 2 6" ∷
    codes "protocol 2" ∷
    codes "deliver 0 7" ∷
    codes "protocol 0" ∷
    codes "deliver 0 7" ∷
    codes "protocol 0" ∷
    codes "deliver 2 8" ∷
    codes "protocol 2" ∷
    codes "deliver 2 8" ∷
    codes "protocol 2" ∷
    codes "deliver 0 9" ∷
    codes "protocol 0" ∷
    codes "deliver 0 9" ∷
    codes "protocol 0" ∷
    codes "deliver 1 10" ∷
    codes "protocol 1" ∷
    codes "deliver 1 10" ∷
    codes "protocol 1" ∷
    codes "service 0" ∷
    codes "service 1" ∷
    codes "service 2" ∷
    codes "end" ∷
    []

-- the text, whole
abbrev text : List (List ℕ)
text =
    codes "cluster 3 viewss 4 = done; first 0; promise 0 0; send 0 1 prepare; send 1 2 prepare; first 1; first 2" ∷
    codes "request 0 7 1 put 61 62 = done" ∷
    codes "batch 0 = done" ∷
    codes "tick 0 = done" ∷
    codes "batch 0 = done" ∷
    codes "deliver 1 0 = done" ∷
    codes "protocol 1 = done; promise 1 0; send 2 0 promise" ∷
    codes "deliver 0 2 = done" ∷
    codes "protocol 0 = done; send 3 1 alive; send 4 2 alive" ∷
    codes "protocol 0 = done" ∷
    codes "protocol 0 = done; prepared 0 0 0; launch 0 0 0 7.1; vote 0 0 0; send 5 1 propose; send 6 2 propose" ∷
    codes "deliver 1 5 = done" ∷
    codes "protocol 1 = done; vote 1 0 0; send 7 0 accept; send 8 2 accept; learn 1 0" ∷
    codes "service 1 = done; execute 1 0 7.1+ok" ∷
    codes "deliver 0 7 = done" ∷
    codes "protocol 0 = done; learn 0 0" ∷
    codes "service 0 = done; execute 0 0 7.1+ok" ∷
    codes "deliver 2 6 = done" ∷
    codes "protocol 2 = done; vote 2 0 0; send 9 0 accept; send 10 1 accept; learn 2 0" ∷
    codes "service 2 = done; execute 2 0 7.1+ok" ∷
    codes "deliver 1 0 = done" ∷
    codes "protocol 1 = done; promise 1 0; send 11 0 promise" ∷
    codes "deliver 1 0 = done" ∷
    codes "protocol 1 = done; promise 1 0; send 12 0 promise" ∷
    codes "deliver 2 1 = done" ∷
    codes "protocol 2 = done; promise 2 0; send 13 0 promise" ∷
    codes "deliver 2 1 = done" ∷
    codes "protocol 2 = done; promise 2 0; send 14 0 promise" ∷
    codes "deliver 0 2 = done" ∷
    codes "protocol 0 = done" ∷
    codes "deliver 0 2 = done" ∷
    codes "protocol 0 = done" ∷
    codes "deliver 1 3 = done" ∷
    codes "protocol 1 = done" ∷
    codes "deliver 1 3 = done" ∷
    codes "protocol 1 = done" ∷
    codes "deliver 2 4 = done" ∷
    codes "protocol 2 = done" ∷
    codes "deliver 2 4 = done" ∷
    codes "protocol 2 = done" ∷
    codes "deliver 1 5 = done" ∷
    codes "protocol 1 = done; vote 1 0 0; send 15 0 accept; send 16 2 accept" ∷
    codes "deliver 1 5 = done" ∷
    codes "protocol 1 = done; vote 1 0 0; send 17 0 accept; send 18 2 accept" ∷
    codes "deliver 2 6 = done" ∷
    codes "protocol 2 = done; vote 2 0 0; send 19 0 accept; send 20 1 accept" ∷
    codes "deliver 2 6 = done" ∷
    codes "protocol 2 = done; vote 2 0 0; send 21 0 accept; send 22 1 accept" ∷
    codes "deliver 0 7 = done" ∷
    codes "protocol 0 = done" ∷
    codes "deliver 0 7 = done" ∷
    codes "protocol 0 = done" ∷
    codes "deliver 2 8 = done" ∷
    codes "protocol 2 = done" ∷
    codes "deliver 2 8 = done" ∷
    codes "protocol 2 = done" ∷
    codes "deliver 0 9 = done" ∷
    codes "protocol 0 = done" ∷
    codes "deliver 0 9 = done" ∷
    codes "protocol 0 = done" ∷
    codes "deliver 1 10 = done" ∷
    codes "protocol 1 = done" ∷
    codes "deliver 1 10 = done" ∷
    codes "protocol 1 = done" ∷
    codes "service 0 = empty" ∷
    codes "service 1 = empty" ∷
    codes "service 2 = empty" ∷
    codes "end = done" ∷
    codes "replica 0 working 0 1 61=62" ∷
    codes "replica 1 working 0 1 61=62" ∷
    codes "replica 2 working 0 1 61=62" ∷
    []

-- the run is written so
pub holds : gives input text ≡ true
unfolding gives
holds = refl

-- its steps of the world send what it sends, and leave the same numbers on the disks
pub alike : ends_alike (read_schedule (joined input)) ≡ true
unfolding whole
alike = refl

-- and each of them is allowed
pub allowed : all_allowed (read_schedule (joined input)) ≡ true
unfolding whole
allowed = refl

-- The next view adopts a vote.
use Rattle.std.specs.Prelude.{◌≡◌, ℕ, true, List, [], ◌∷◌, codes, refl}
use Rattle.schedules.specs.Schedule.{read_schedule}
use Rattle.worked_schedules.proofs.Examples.{begins, joined, whole}
use Rattle.worked_schedules.proofs.Worlds.{ends_alike}
use Rattle.worked_schedules.proofs.Allowance.{all_allowed}

-- the lines of the schedule
abbrev input : List (List ℕ)
input =
    codes "cluster 5 viewss 4" ∷
    codes "deliver 1 0" ∷
    codes "protocol 1" ∷
    codes "deliver 2 1" ∷
    codes "protocol 2" ∷
    codes "deliver 0 4" ∷
    codes "protocol 0" ∷
    codes "deliver 0 5" ∷
    codes "protocol 0" ∷
    codes "request 0 7 1 put 61 62" ∷
    codes "batch 0" ∷
    codes "tick 0" ∷
    codes "batch 0" ∷
    codes "protocol 0" ∷
    codes "protocol 0" ∷
    codes "deliver 1 10" ∷
    codes "protocol 1" ∷
    codes "crash 0" ∷
    codes "suspect 2" ∷
    codes "protocol 2" ∷
    codes "deliver 1 19" ∷
    codes "protocol 1" ∷
    codes "deliver 3 20" ∷
    codes "protocol 3" ∷
    codes "deliver 2 22" ∷
    codes "protocol 2" ∷
    codes "deliver 2 23" ∷
    codes "protocol 2" ∷
    codes "end" ∷
    []

-- how the text begins
abbrev text : List (List ℕ)
text =
    codes "cluster 5 viewss 4 = done; first 0; promise 0 0; send 0 1 prepare; send 1 2 prepare; send 2 3 prepare; send 3 4 prepare; first 1; first 2; first 3; first 4" ∷
    codes "deliver 1 0 = done" ∷
    codes "protocol 1 = done; promise 1 0; send 4 0 promise" ∷
    codes "deliver 2 1 = done" ∷
    codes "protocol 2 = done; promise 2 0; send 5 0 promise" ∷
    codes "deliver 0 4 = done" ∷
    codes "protocol 0 = done" ∷
    codes "deliver 0 5 = done" ∷
    codes "protocol 0 = done; prepared 0 0 0" ∷
    codes "request 0 7 1 put 61 62 = done" ∷
    codes "batch 0 = done" ∷
    codes "tick 0 = done" ∷
    codes "batch 0 = done" ∷
    codes "protocol 0 = done; send 6 1 alive; send 7 2 alive; send 8 3 alive; send 9 4 alive" ∷
    codes "protocol 0 = done; launch 0 0 0 7.1; vote 0 0 0; send 10 1 propose; send 11 2 propose; send 12 3 propose; send 13 4 propose" ∷
    codes "deliver 1 10 = done" ∷
    codes "protocol 1 = done; vote 1 0 0; send 14 0 accept; send 15 2 accept; send 16 3 accept; send 17 4 accept" ∷
    codes "crash 0 = done; crash 0" ∷
    codes "suspect 2 = done" ∷
    codes "protocol 2 = done; enter 2 2; promise 2 2; send 18 0 prepare; send 19 1 prepare; send 20 3 prepare; send 21 4 prepare" ∷
    codes "deliver 1 19 = done" ∷
    codes "protocol 1 = done; enter 1 2; promise 1 2; send 22 2 promise" ∷
    codes "deliver 3 20 = done" ∷
    codes "protocol 3 = done; enter 3 2; promise 3 2; send 23 2 promise" ∷
    codes "deliver 2 22 = done" ∷
    codes "protocol 2 = done" ∷
    codes "deliver 2 23 = done" ∷
    codes "protocol 2 = done; prepared 2 2 1; launch 2 2 0 7.1; vote 2 2 0; send 24 0 propose; send 25 1 propose; send 26 3 propose; send 27 4 propose" ∷
    []

-- the run is written so
pub holds : begins input text ≡ true
unfolding begins
holds = refl

-- its steps of the world send what it sends, and leave the same numbers on the disks
pub alike : ends_alike (read_schedule (joined input)) ≡ true
unfolding whole
alike = refl

-- and each of them is allowed
pub allowed : all_allowed (read_schedule (joined input)) ≡ true
unfolding whole
allowed = refl

-- Each answer word, and a full lane.
use Rattle.std.specs.Prelude.{◌≡◌, ℕ, true, List, [], ◌∷◌, codes, refl}
use Rattle.schedules.specs.Schedule.{read_schedule}
use Rattle.worked_schedules.proofs.Examples.{begins, joined, whole}
use Rattle.worked_schedules.proofs.Worlds.{ends_alike}
use Rattle.worked_schedules.proofs.Allowance.{all_allowed}

-- the lines of the schedule
abbrev input : List (List ℕ)
input =
    codes "cluster 3 viewss 4" ∷
    codes "deliver 1 99" ∷
    codes "deliver 2 0" ∷
    codes "protocol 0" ∷
    codes "service 0" ∷
    codes "batch 0" ∷
    codes "retransmit 1" ∷
    codes "start 0" ∷
    codes "crash 1" ∷
    codes "protocol 1" ∷
    codes "deliver 1 0" ∷
    codes "crash 1" ∷
    codes "retransmit 0" ∷
    codes "deliver 2 1" ∷
    codes "deliver 2 1" ∷
    codes "deliver 2 1" ∷
    codes "deliver 2 1" ∷
    codes "deliver 2 1" ∷
    codes "deliver 2 1" ∷
    codes "deliver 2 1" ∷
    codes "deliver 2 1" ∷
    codes "deliver 2 1" ∷
    codes "deliver 2 1" ∷
    codes "deliver 2 1" ∷
    codes "deliver 2 1" ∷
    codes "deliver 2 1" ∷
    codes "deliver 2 1" ∷
    codes "deliver 2 1" ∷
    codes "deliver 2 1" ∷
    codes "deliver 2 1" ∷
    codes "deliver 2 1" ∷
    codes "deliver 2 1" ∷
    codes "deliver 2 1" ∷
    codes "deliver 2 1" ∷
    codes "deliver 2 1" ∷
    codes "deliver 2 1" ∷
    codes "deliver 2 1" ∷
    codes "deliver 2 1" ∷
    codes "deliver 2 1" ∷
    codes "deliver 2 1" ∷
    codes "deliver 2 1" ∷
    codes "deliver 2 1" ∷
    codes "deliver 2 1" ∷
    codes "deliver 2 1" ∷
    codes "deliver 2 1" ∷
    codes "deliver 2 1" ∷
    codes "deliver 2 1" ∷
    codes "deliver 2 1" ∷
    codes "deliver 2 1" ∷
    codes "deliver 2 1" ∷
    codes "deliver 2 1" ∷
    codes "deliver 2 1" ∷
    codes "deliver 2 1" ∷
    codes "deliver 2 1" ∷
    codes "deliver 2 1" ∷
    codes "deliver 2 1" ∷
    codes "deliver 2 1" ∷
    codes "deliver 2 1" ∷
    codes "deliver 2 1" ∷
    codes "deliver 2 1" ∷
    codes "deliver 2 1" ∷
    codes "deliver 2 1" ∷
    codes "deliver 2 1" ∷
    codes "deliver 2 1" ∷
    codes "deliver 2 1" ∷
    codes "deliver 2 1" ∷
    codes "deliver 2 1" ∷
    codes "deliver 2 1" ∷
    codes "deliver 2 1" ∷
    codes "deliver 2 1" ∷
    codes "deliver 2 1" ∷
    codes "deliver 2 1" ∷
    codes "deliver 2 1" ∷
    codes "deliver 2 1" ∷
    codes "deliver 2 1" ∷
    codes "deliver 2 1" ∷
    codes "deliver 2 1" ∷
    codes "deliver 2 1" ∷
    codes "end" ∷
    []

-- how the text begins
abbrev text : List (List ℕ)
text =
    codes "cluster 3 viewss 4 = done; first 0; promise 0 0; send 0 1 prepare; send 1 2 prepare; first 1; first 2" ∷
    codes "deliver 1 99 = unsent" ∷
    codes "deliver 2 0 = unsent" ∷
    codes "protocol 0 = empty" ∷
    codes "service 0 = empty" ∷
    codes "batch 0 = empty" ∷
    codes "retransmit 1 = empty" ∷
    codes "start 0 = up" ∷
    codes "crash 1 = done; crash 1" ∷
    codes "protocol 1 = down" ∷
    codes "deliver 1 0 = down" ∷
    codes "crash 1 = down" ∷
    codes "retransmit 0 = done; send 2 1 prepare; send 3 2 prepare" ∷
    codes "deliver 2 1 = done" ∷
    codes "deliver 2 1 = done" ∷
    codes "deliver 2 1 = done" ∷
    codes "deliver 2 1 = done" ∷
    codes "deliver 2 1 = done" ∷
    codes "deliver 2 1 = done" ∷
    codes "deliver 2 1 = done" ∷
    codes "deliver 2 1 = done" ∷
    codes "deliver 2 1 = done" ∷
    codes "deliver 2 1 = done" ∷
    codes "deliver 2 1 = done" ∷
    codes "deliver 2 1 = done" ∷
    codes "deliver 2 1 = done" ∷
    codes "deliver 2 1 = done" ∷
    codes "deliver 2 1 = done" ∷
    codes "deliver 2 1 = done" ∷
    codes "deliver 2 1 = done" ∷
    codes "deliver 2 1 = done" ∷
    codes "deliver 2 1 = done" ∷
    codes "deliver 2 1 = done" ∷
    codes "deliver 2 1 = done" ∷
    codes "deliver 2 1 = done" ∷
    codes "deliver 2 1 = done" ∷
    codes "deliver 2 1 = done" ∷
    codes "deliver 2 1 = done" ∷
    codes "deliver 2 1 = done" ∷
    codes "deliver 2 1 = done" ∷
    codes "deliver 2 1 = done" ∷
    codes "deliver 2 1 = done" ∷
    codes "deliver 2 1 = done" ∷
    codes "deliver 2 1 = done" ∷
    codes "deliver 2 1 = done" ∷
    codes "deliver 2 1 = done" ∷
    codes "deliver 2 1 = done" ∷
    codes "deliver 2 1 = done" ∷
    codes "deliver 2 1 = done" ∷
    codes "deliver 2 1 = done" ∷
    codes "deliver 2 1 = done" ∷
    codes "deliver 2 1 = done" ∷
    codes "deliver 2 1 = done" ∷
    codes "deliver 2 1 = done" ∷
    codes "deliver 2 1 = done" ∷
    codes "deliver 2 1 = done" ∷
    codes "deliver 2 1 = done" ∷
    codes "deliver 2 1 = done" ∷
    codes "deliver 2 1 = done" ∷
    codes "deliver 2 1 = done" ∷
    codes "deliver 2 1 = done" ∷
    codes "deliver 2 1 = done" ∷
    codes "deliver 2 1 = done" ∷
    codes "deliver 2 1 = done" ∷
    codes "deliver 2 1 = done" ∷
    codes "deliver 2 1 = done" ∷
    codes "deliver 2 1 = done" ∷
    codes "deliver 2 1 = done" ∷
    codes "deliver 2 1 = done" ∷
    codes "deliver 2 1 = done" ∷
    codes "deliver 2 1 = done" ∷
    codes "deliver 2 1 = done" ∷
    codes "deliver 2 1 = done" ∷
    codes "deliver 2 1 = done" ∷
    codes "deliver 2 1 = done" ∷
    codes "deliver 2 1 = done" ∷
    codes "deliver 2 1 = done" ∷
    codes "deliver 2 1 = full" ∷
    []

-- the run is written so
pub holds : begins input text ≡ true
unfolding begins
holds = refl

-- its steps of the world send what it sends, and leave the same numbers on the disks
pub alike : ends_alike (read_schedule (joined input)) ≡ true
unfolding whole
alike = refl

-- and each of them is allowed
pub allowed : all_allowed (read_schedule (joined input)) ≡ true
unfolding whole
allowed = refl

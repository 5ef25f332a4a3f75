-- The world after the steps of a run, beside what the run itself keeps.
use Rattle.std.specs.Prelude.{ℕ, zero, suc, Bool, false, ◌&&◌, List, [], ◌∷◌, ◌++◌, length, map, flat_map, bytes_eq, Option, Some, None, Result, Ok, Err}
use Rattle.kv_service.specs.StateBytes.{state_bytes}
use Rattle.paxos_world.specs.Setup.{Setup}
use Rattle.paxos_world.specs.World.{World, Sent, Move, after, opening}
use Rattle.schedules.specs.declared.schedule.Schedule.{Schedule}
use Rattle.text_lines.specs.Lines.{Bad}
use Rattle.schedules.specs.Run.{first_event, cluster_after, moves_of_run}
use Rattle.schedules.specs.Cluster.{Cluster}
use Rattle.worked_schedules.proofs.Codes.{message_code}

-- the constants of a schedule's world
abbrev pub setup_of_run : Schedule → Setup
setup_of_run s = record { n = s.head.n; mode = s.head.mode; encode = state_bytes }

-- the world after these steps
abbrev pub world_after : Setup → World → List Move → World
world_after c w [] = w
world_after c w (m ∷ moves) = world_after c (after c w m) moves

-- the world after the steps of a schedule's run, and the cluster after its lines
abbrev pub end_world : Schedule → World
end_world s = world_after (setup_of_run s) opening (flat_map (λ moves. moves) (moves_of_run s))

abbrev pub end_cluster : Schedule → Cluster
end_cluster s = cluster_after (first_event s.head).cluster s.lines

-- f of 0 up to k
abbrev pub each_below : {A : Type 0} → ℕ → (ℕ → A) → List A
each_below zero f = []
each_below (suc k) f = each_below k f ++ f k ∷ []

-- a message that was sent, and a disk's number, as numbers
abbrev pub sent_code : Sent → List ℕ
sent_code m = let code = message_code m.message in m.from.replica ∷ m.from.number ∷ m.to ∷ length code ∷ code

abbrev pub stable_code : Option ℕ → List ℕ
stable_code None = 0 ∷ []
stable_code (Some k) = 1 ∷ k ∷ []

-- whether the world's steps sent what the run sent, in order, and left the same numbers on the disks
abbrev pub same_end : Schedule → Bool
same_end s =
    let w = end_world s in
    let c = end_cluster s in
    bytes_eq (flat_map sent_code w.sent) (flat_map sent_code c.sent)
    && bytes_eq (flat_map stable_code (each_below s.head.n (λ r. (w.replicas r).stable))) (flat_map stable_code (map (λ place. place.stable) c.places))

abbrev pub ends_alike : Result Schedule Bad → Bool
ends_alike (Ok s) = same_end s
ends_alike (Err bad) = false

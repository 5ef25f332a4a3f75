-- A list of steps as a run.
use Rattle.std.proofs.Common.{◌≡◌, ℕ, zero, suc, ◌+◌, ◌-◌, ◌≤◌, List, [], ◌∷◌, length, slice_get, Option, refl, sym, ap, subst, ◌∙◌, arith}
use Rattle.paxos_world.specs.Setup.{Setup}
use Rattle.jp_types.specs.Instances.{Batch}
use Rattle.paxos_world.specs.World.{World, Move, after, opening}
use Rattle.paxos_world.specs.Trace.{MayHappen, happens, world_from, Trace, at, IsChosenIn, IsChosen, IsRun, end_of}
use Rattle.paxos_world.proofs.Chosen.{chosen-up}

-- the world one moment later is the world at moment t of what follows the first step
pub from-first : (c : Setup) (w : World) (moves : ℕ → Option Move) (t : ℕ) → world_from c w moves (suc t) ≡ world_from c (happens c w (moves 0)) (λ s. moves (suc s)) t
unfolding world_from
from-first c w moves zero = refl
from-first c w moves (suc t) = ap (λ v. happens c v (moves (suc t))) (from-first c w moves t)

-- each moment of a list of steps is allowed
pub allowed-from : (c : Setup) (w : World) (ms : List Move) → IsRun c w ms → (t : ℕ) → MayHappen c (world_from c w (slice_get ms) t) (slice_get ms t)
unfolding world_from
allowed-from c w [] h t = tt
allowed-from c w (m ∷ ms) h zero = h.0
allowed-from c w (m ∷ ms) h (suc t) = subst (λ v. MayHappen c v (slice_get ms t)) (sym (from-first c w (slice_get (m ∷ ms)) t)) (allowed-from c (after c w m) ms h.1 t)

-- where nothing happens the world stays
idle-from : (c : Setup) (w : World) (t : ℕ) → world_from c w (slice_get []) t ≡ w
unfolding world_from
idle-from c w zero = refl
idle-from c w (suc t) = idle-from c w t

-- past its end nothing happens
end-from : (c : Setup) (w : World) (ms : List Move) (k : ℕ) → world_from c w (slice_get ms) (length ms + k) ≡ end_of c w ms
end-from c w [] k = idle-from c w (0 + k)
end-from c w (m ∷ ms) k =
    let e : length (m ∷ ms) + k ≡ suc (length ms + k) = omega arith in
    ap (world_from c w (slice_get (m ∷ ms))) e ∙ from-first c w (slice_get (m ∷ ms)) (length ms + k) ∙ end-from c (after c w m) ms k

-- the run of a list of steps
abbrev pub run_of : (c : Setup) → c.n ≤ 9 → (ms : List Move) → IsRun c opening ms → Trace
run_of c few ms h = record { setup = c; few = few; moves = slice_get ms; allowed = allowed-from c opening ms h }

-- the world of this run from its end on
pub at-end : (c : Setup) (few : c.n ≤ 9) (ms : List Move) (h : IsRun c opening ms) (t : ℕ) → length ms ≤ t → at (run_of c few ms h) t ≡ end_of c opening ms
unfolding at
at-end c few ms h t le = let e : t ≡ length ms + (t - length ms) = omega arith in ap (world_from c opening (slice_get ms)) e ∙ end-from c opening ms (t - length ms)

-- what is chosen in the whole run is chosen by its last votes
pub chosen-at-end : (c : Setup) (few : c.n ≤ 9) (ms : List Move) (h : IsRun c opening ms) (v i : ℕ) (batch : Batch) → IsChosen (run_of c few ms h) v i batch → IsChosenIn c.n (end_of c opening ms) v i batch
chosen-at-end c few ms h v i batch d =
    let run = run_of c few ms h in
    let t = d.0 + length ms in
    subst (λ (w : World). IsChosenIn c.n w v i batch) (at-end c few ms h t (omega arith)) (chosen-up run d.0 t v i batch (omega arith) d.1)

-- Whole runs.
use Rattle.std.specs.Prelude.{◌≡◌, ℕ, zero, suc, ◌≤◌, ◌<◌, Bool, true, List, [], ◌∷◌, Option, Some, None}
use Rattle.jp_types.specs.Lists.{In}
use Rattle.paxos_world.specs.Setup.{Setup, IsQuorum}
use Rattle.paxos_world.specs.Life.{Life}
use Rattle.jp_types.specs.Instances.{Batch}
use Rattle.paxos_world.specs.World.{World, Move, Allowed, after, opening}

-- the condition of what happens at a moment: nothing, or a step that is allowed
abbrev pub MayHappen : Setup → World → Option Move → Type 0
MayHappen c w None = Unit {0}
MayHappen c w (Some m) = Allowed c w m

-- the world after what happens at a moment
abbrev pub happens : Setup → World → Option Move → World
happens c w None = w
happens c w (Some m) = after c w m

-- the world at moment t where w is the world at moment 0 and `moves` says what happens at each moment
unfoldable pub world_from : Setup → World → (ℕ → Option Move) → ℕ → World
world_from c w moves zero = w
world_from c w moves (suc t) = happens c (world_from c w moves t) (moves t)

-- the world at moment t, from the opening on
abbrev pub world_at : Setup → (ℕ → Option Move) → ℕ → World
world_at c moves t = world_from c opening moves t

-- a run: at each moment a step, or nothing
pub record Trace : Type 0 where
  pub setup : Setup
  -- at most nine replicas, since a vector has nine entries
  pub few : setup.n ≤ 9
  pub moves : ℕ → Option Move
  pub allowed : (t : ℕ) → MayHappen setup (world_at setup moves t) (moves t)

-- the world of a run at moment t
unfoldable pub at : Trace → ℕ → World
at run t = world_at run.setup run.moves t

-- the life of r that runs at moment t
abbrev pub Runs : Trace → ℕ → ℕ → Life → Type 0
Runs run t r l = ((at run t).replicas r).running ≡ Some l

-- the step at moment t
abbrev pub Does : Trace → ℕ → Move → Type 0
Does run t m = run.moves t ≡ Some m

-- i is chosen in a view with a batch, by the votes of this world: a majority of replicas, each in any of its lives, voted so
pub record IsChosenIn (n : ℕ) (w : World) (view i : ℕ) (batch : Batch) : Type 0 where
  pub members : ℕ → Bool
  pub quorum : IsQuorum n members
  pub voted : (p : ℕ) → p < n → members p ≡ true → (number : ℕ) × In (record { life = record { replica = p; number = number }; view = view; instance = i; batch = batch }) w.votes

-- i is chosen in a view with a batch, over the whole run
abbrev pub IsChosen : Trace → ℕ → ℕ → Batch → Type 0
IsChosen run view i batch = (t : ℕ) × IsChosenIn run.setup.n (at run t) view i batch

-- a list of steps that are allowed one after another from w on
abbrev pub IsRun : Setup → World → List Move → Type 0
IsRun c w [] = Unit {0}
IsRun c w (m ∷ ms) = Allowed c w m × IsRun c (after c w m) ms

-- the world that a list of steps leads to
abbrev pub end_of : Setup → World → List Move → World
end_of c w [] = w
end_of c w (m ∷ ms) = end_of c (after c w m) ms

-- When what a core keeps is what a stage of the model has.
use Rattle.std.specs.Prelude.{◌≡◌, ℕ, ◌≤◌, ◌<◌, List, [], ◌∷◌, Option, Some, None}
use Rattle.std.specs.FinMap as map
use Rattle.jp_types.specs.Lists.{In}
use Rattle.paxos_world.specs.Stage.{Note, Stage}
use Rattle.paxos_world.specs.Logs.{notes_on}
use Rattle.replica_log.specs.declared.tally.Tally.{Tally}
use Rattle.replica_log.specs.Log.{Log, noted}

-- the tally of notes, the newest first; none of no notes
abbrev pub tally_of : List Note → Option Tally
tally_of [] = None
tally_of (note ∷ notes) = Some (noted (tally_of notes) note.view note.replica note.batch)

-- each note is one of a replica below n
abbrev pub AreOf : ℕ → List Note → Type 0
AreOf n notes = (note : Note) → In note notes → note.replica < n

-- a log keeps what a stage has from its base on: the votes and the known batches of its life, and of each instance that is not known the tally of its notes
pub record KeepsLog (s : Stage) (log : Log) : Type 0 where
  pub n : log.n ≡ s.config.n
  pub base : log.base ≡ s.base
  pub votes : (i : ℕ) → s.base ≤ i → map.get log.votes i ≡ s.life.votes i
  pub known : (i : ℕ) → s.base ≤ i → map.get log.known i ≡ s.life.known i
  pub tallies : (i : ℕ) → s.base ≤ i → s.life.known i ≡ None → map.get log.tallies i ≡ tally_of (notes_on i s.noted)

-- As a life begins, the cores keep what its stage has.
use Rattle.std.specs.Prelude.{ℕ, ◌≤◌, ◌<◌, List}
use Rattle.jp_types.specs.declared.mode.Phase.{Phase}
use Rattle.paxos_world.specs.Life.{new_life}
use Rattle.paxos_world.specs.Stage.{Config, setup_of, Slot, Stage, new_stage}
use Rattle.replica_log.specs.Log.{new_log}
use Rattle.proposer_core.specs.Proposing.{new_proposer}
use Rattle.recovery.specs.Beginning.{first_vector}
use Rattle.recovery.specs.Rejoining.{asking}
use Rattle.core_laws.specs.AcceptLaws.{IsSane}
use Rattle.core_laws.specs.Holding.{KeepsVector, KeepsAnswers}
use Rattle.core_laws.specs.Keeping.{KeepsLog}
use Rattle.core_laws.specs.PrepareLaws.{KeepsProposer}

-- the stage of a life that begins with this mark
abbrev pub stage_at_start : Config → List Slot → ℕ → ℕ → Phase → ℕ → Stage
stage_at_start c slots number mark phase view = new_stage c slots (new_life number mark phase view) mark

-- the cores as they are made keep what the stage has as its life begins
pub record StartsKept : Type 0 where
  pub log : (c : Config) (slots : List Slot) (number mark : ℕ) (phase : Phase) (view : ℕ) → KeepsLog (stage_at_start c slots number mark phase view) (new_log c.n)
  pub sane : (c : Config) (slots : List Slot) (number mark : ℕ) (phase : Phase) (view : ℕ) → c.n ≤ 9 → c.me < c.n → IsSane (stage_at_start c slots number mark phase view)
  pub vector : (c : Config) (number mark : ℕ) (phase : Phase) (view : ℕ) → KeepsVector (setup_of c) c.me (new_life number mark phase view) (first_vector c.mode c.me mark)
  pub proposer : (c : Config) (slots : List Slot) (number mark : ℕ) (phase : Phase) (view : ℕ) → KeepsProposer (stage_at_start c slots number mark phase view) (new_proposer c.n c.me c.window)
  pub answers : (c : Config) (number mark : ℕ) (phase : Phase) (view : ℕ) → KeepsAnswers (setup_of c) c.me (new_life number mark phase view) (first_vector c.mode c.me mark) (asking c.n mark).answers

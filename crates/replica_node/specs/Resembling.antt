-- When a replica is that of the model.
use Rattle.std.specs.Prelude.{◌≡◌, ℕ, suc, ◌≤◌, false, map, Option, Some, None}
use Rattle.batcher.specs.declared.fed.Fed.{Fed}
use Rattle.paxos_world.specs.Batching as model_batching
use Rattle.paxos_world.specs.Replica.{Running}
use Rattle.jp_types.specs.Lists.{In}
use Rattle.paxos_world.specs.Stage.{Item, Decision, Decided, Installed}
use Rattle.protocol_laws.specs.Acting.{item_of, model_decision}
use Rattle.protocol_laws.specs.Coming.{Comes}
use Rattle.protocol_stage.specs.Standing.{Stands}
use Rattle.replica_node.specs.Whole.{Whole}

-- what the Batcher takes, as the code has it
abbrev pub fed_of : model_batching.Fed → Fed
fed_of (model_batching.Asked request) = Fed.Request request
fed_of model_batching.Tick = Fed.Tick

-- the place behind a decision of the model
abbrev pub model_place : Decision → ℕ
model_place (Decided i batch) = suc i
model_place (Installed upto state) = upto

-- what waits in the lanes of a replica of the model
pub record WaitsFitly (a : Running) : Type 0 where
  -- each item may come to the stage
  pub items : (item : Item) → In item a.dispatcher → Comes a.stage item
  -- no decision lies behind what was handed on, nor has the service executed more
  pub decisions : (d : Decision) → In d a.decisions → model_place d ≤ a.stage.handed
  pub executed : a.stage.life.service.executed ≤ a.stage.handed

-- a replica is that of the model
pub record Resembles (a : Running) (w : Whole) : Type 0 where
  pub stage : Stands a.stage w.stages.protocol
  pub me : w.stages.me ≡ a.stage.config.me
  pub requests : w.stages.requests ≡ map fed_of a.requests
  pub held : w.stages.batcher ≡ a.held
  pub dispatcher : w.stages.dispatcher ≡ map item_of a.dispatcher
  pub decisions : map model_decision w.stages.decisions ≡ a.decisions
  pub service : w.stages.service ≡ a.stage.life.service
  pub cursor : w.stages.cursor ≡ a.cursor
  pub up : w.down ≡ false
  pub waits : WaitsFitly a

-- both are up and alike, or both are down
abbrev pub AreAlike : Option Running → Option Whole → Type 0
AreAlike None None = Unit {0}
AreAlike (Some a) (Some w) = Resembles a w
AreAlike None (Some w) = ⊥
AreAlike (Some a) None = ⊥

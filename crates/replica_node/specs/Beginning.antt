-- How a replica begins.
use Rattle.std.specs.Prelude.{◌≡◌, ℕ, false, List, [], Option}
use Rattle.kv_service.specs.Service.{start}
use Rattle.protocol_stage.specs.Running.{IsOpened}
use Rattle.protocol_core.specs.declared.act.Act.{Act}
use Rattle.protocol_core.specs.declared.config.Config.{Config}
use Rattle.retransmitter.specs.Slots.{free_slots}
use Rattle.protocol_stage.specs.Arming.{takes_least}
use Rattle.replica_node.specs.Whole.{Whole}
use Rattle.replica_node.specs.declared.stages.Stages.{Stages}

-- the stages round a Protocol stage that began: the lanes are empty, no batch is being made, and the service executed nothing
pub record IsFresh (me : ℕ) (s : Stages) : Type 0 where
  pub me_is : s.me ≡ me
  pub batcher : s.batcher ≡ []
  pub service : s.service ≡ start
  pub cursor : s.cursor ≡ 0
  pub requests : s.requests ≡ []
  pub dispatcher : s.dispatcher ≡ []
  pub decisions : s.decisions ≡ []

-- a replica that began from the number that its disk holds, and what it does first
pub record Begins (config : Config) (stored : Option ℕ) (made : Whole) (out : List Act) : Type 0 where
  pub opened : IsOpened takes_least free_slots config stored made.stages.protocol out
  pub fresh : IsFresh config.me made.stages
  pub up : made.down ≡ false

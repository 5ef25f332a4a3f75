-- When what a life does is what a stage of the model does.
use Rattle.std.specs.Prelude.{◌≡◌, ◌≤◌, ◌++◌}
use Rattle.paxos_world.specs.Stage as model
use Rattle.protocol_core.specs.Turned.{Turned}
use Rattle.protocol_laws.specs.Acting.{model_acts}
use Rattle.protocol_laws.specs.Arming.{arming_of, armed_after}
use Rattle.protocol_laws.specs.Coming.{SendsFitly, HandsBelow}
use Rattle.protocol_laws.specs.Keeping.{KeepsLife}

-- from one point of a turn of the model to another, a life did what the stage did: it is the stage's, its acts are those that came, and they leave armed what the stage has armed
pub record Follows (before after : model.Turned) (did : Turned) : Type 0 where
  pub config : after.stage.config ≡ before.stage.config
  pub keeps : KeepsLife after.stage did.life
  pub acts : after.acts ≡ before.acts ++ model_acts did.acts
  pub arming : arming_of after.stage ≡ armed_after (arming_of before.stage) did.acts
  -- its messages may be sent, and go to others
  pub sends : SendsFitly before.stage.config did.acts
  -- what is handed on only grows, and a turn does not touch the service
  pub handed : before.stage.handed ≤ after.stage.handed
  pub hands : HandsBelow after.stage.handed did.acts
  pub service : after.stage.life.service ≡ before.stage.life.service

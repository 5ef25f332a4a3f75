-- How a life begins.
use Rattle.std.specs.Prelude.{◌≡◌, ℕ, [], if◌then◌else◌, Option, Some, None}
use Rattle.std.specs.Option.{option_map}
use Rattle.jp_types.specs.declared.message.Message.{Message}
use Rattle.jp_types.specs.declared.mode.Phase.{Phase}
use Rattle.jp_types.specs.declared.mode.Phase.TheVariants.{Recovering, Working}
use Rattle.paxos_world.specs.declared.step.Step.{Step}
use Rattle.replica_log.specs.Log.{new_log}
use Rattle.proposer_core.specs.Proposing.{new_proposer}
use Rattle.recovery.specs.declared.begin.Started.{Started}
use Rattle.recovery.specs.Beginning.{begun}
use Rattle.recovery.specs.Rejoining.{asking}
use Rattle.protocol_core.specs.declared.act.Act.{Act}
use Rattle.protocol_core.specs.declared.act.Topic.{Topic}
use Rattle.protocol_core.specs.declared.config.Config.{Config}
use Rattle.protocol_core.specs.declared.life.Life.{Life}
use Rattle.protocol_core.specs.Leading.{phase_1_begun}
use Rattle.protocol_core.specs.Sending.{does, shown, sent_and_armed}
use Rattle.protocol_core.specs.Turned.{Turned, stay, followed_by}
use Rattle.protocol_core.specs.Voting.{leads}

-- a life that begins so
abbrev pub new_life : Config → Started → Life
new_life config s =
    record {
      config = config;
      phase = s.phase;
      mark = s.mark;
      view = s.view;
      stable = s.mark;
      vector = s.vector;
      log = new_log config.n;
      proposer = new_proposer config.n config.me config.window;
      rejoiner = asking config.n s.mark;
      horizon = 0;
      quiet = 0;
      queries = 0;
      waiting = [];
      newest = None;
      joiner = None;
      handed = 0;
    }

-- the leader of the own view begins phase 1
abbrev pub led : Life → Turned
led life = if leads life life.config.me life.view then phase_1_begun life else stay life

-- the Recovery of a life
abbrev pub recovery_of : ℕ → Message
recovery_of mark = Message.Recovery (record { mark = mark })

-- what a life of this phase does first: a Working one leads its view, where it may, and a Recovering one asks for its recovery
abbrev pub opened_in : Phase → Life → Turned
opened_in Working life = followed_by (shown (Step.First life.config.me) life) led
opened_in Recovering life = followed_by (shown (Step.Return life.config.me life.mark) life) (sent_and_armed Topic.Recovery (recovery_of life.mark))

-- the opening of a life that begins so: its mark is saved first
abbrev pub opened : Config → Started → Turned
opened config s = followed_by (does (Act.Save s.mark) (new_life config s)) (opened_in s.phase)

-- the opening of a life whose replica's disk holds this number, if any; None where the number to save passes the limit
abbrev pub opening : Config → Option ℕ → Option Turned
opening config stored = option_map (opened config) (begun config.mode config.me config.n stored)

-- the number that the disk holds is the last one with which a life can begin
pub record IsSpent (config : Config) (stored : Option ℕ) (number : ℕ) : Type 0 where
  pub held : stored ≡ Some number
  pub none : opening config stored ≡ None

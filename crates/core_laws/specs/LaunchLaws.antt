-- The launches of a leader that becomes Prepared are what the turn of the model does then.
use Rattle.std.specs.Prelude.{◌≡◌, ℕ, ◌≤◌}
use Rattle.paxos_world.specs.World.{lead_of}
use Rattle.paxos_world.specs.Stage.{setup_of, Stage, Turned}
use Rattle.paxos_world.specs.Writing.{◌▹◌, when, for_each, for_range}
use Rattle.paxos_world.specs.Learning.{learns, launches}
use Rattle.paxos_world.specs.Settling.{adopts}
use Rattle.proposer_core.specs.declared.adoption.Launch.{Launch}
use Rattle.core_laws.specs.PrepareLaws.{launches_of}

-- a launch is made, after its batch is learned where it is told as decided
abbrev pub made : Launch → Turned → Turned
made l t = t ▹ when l.decided (learns l.instance l.batch) ▹ launches l.instance l.batch

-- a turn has come to no other configuration, base or known batch from i on than a stage has
pub record GoesOnFrom (s : Stage) (i : ℕ) (t : Turned) : Type 0 where
  pub config : t.stage.config ≡ s.config
  pub base : t.stage.base ≡ s.base
  pub known : (j : ℕ) → i ≤ j → t.stage.life.known j ≡ s.life.known j

-- adopting k instances from i on, as a stage that becomes Prepared with `next` x does, is to make its launches
abbrev pub LaunchesAsTheModel : Type 0
LaunchesAsTheModel =
    (s : Stage) (x k i : ℕ) (t : Turned) → GoesOnFrom s i t → for_range k i (adopts (lead_of (setup_of s.config) s.config.me s.life x)) t ≡ for_each (launches_of k s i) made t

-- What the Service stage does with a decision.
use Rattle.std.specs.Prelude.{suc, ◌%◌, Bool, false, ◌&&◌, nat_lt, ◌==◌}
use Rattle.kv_service.specs.Service.{State, outcomes}
use Rattle.kv_service.specs.StateBytes.{state_bytes}
use Rattle.paxos_world.specs.declared.step.Step.{Step}
use Rattle.paxos_world.specs.World.{Deed}
use Rattle.paxos_world.specs.Stage.{Item, Snapped, Decision, Decided, Installed, Turned}
use Rattle.paxos_world.specs.Writing.{when, shows}
use Rattle.kv_service.specs.Dues.{snapshot_step, is_due}

-- whether a decision makes the executed number one at which a snapshot is taken
abbrev pub makes_snapshot : State → Decision → Bool
makes_snapshot s (Decided i batch) = is_due s i && (suc s.executed % snapshot_step == 0)
makes_snapshot s (Installed upto state) = false

-- the stage and its acts after a decision
abbrev pub serves : Decision → Turned → Turned
serves (Decided i batch) t =
    let s = t.stage in
    when (is_due s.life.service i) (shows (Step.Execute s.config.me i (outcomes s.life.service batch)) (Deed.Execute i)) t
serves (Installed upto state) t =
    let s = t.stage in
    when (nat_lt s.life.service.executed upto) (shows (Step.Restore s.config.me upto) (Deed.Restore upto state)) t

-- the snapshot of a service's state
abbrev pub snapshot_of : State → Item
snapshot_of s = Snapped s.executed (state_bytes s)

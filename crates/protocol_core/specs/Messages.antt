-- What a life does with each message.
use Rattle.std.specs.Prelude.{ℕ, if◌then◌else◌}
use Rattle.jp_types.specs.declared.message.Message.{Message}
use Rattle.protocol_core.specs.declared.life.Life.{Life}
use Rattle.protocol_core.specs.Answering.{on_prepare_ok, on_recovery, on_recovery_answer, on_alive}
use Rattle.protocol_core.specs.CatchingUp.{on_query, on_batches, on_part}
use Rattle.protocol_core.specs.Turned.{Turned, stay}
use Rattle.protocol_core.specs.Voting.{leads, on_prepare, on_propose, on_accept}

-- what is done with a message of replica p, by its kind
abbrev pub on_kind : Life → ℕ → Message → Turned
on_kind life p (Message.Prepare m) = on_prepare life p m
on_kind life p (Message.PrepareOk m) = stay (on_prepare_ok life p m)
on_kind life p (Message.Propose m) = on_propose life p m
on_kind life p (Message.Accept m) = on_accept life p m
on_kind life p (Message.Recovery m) = on_recovery life p m.mark
on_kind life p (Message.RecoveryAnswer m) = stay (on_recovery_answer life p m)
on_kind life p (Message.CatchUpQuery m) = on_query life p m.first
on_kind life p (Message.CatchUpReply m) = on_batches life m.first m.batches
on_kind life p (Message.SnapshotPart m) = on_part life m
on_kind life p (Message.Alive m) = on_alive life p m

-- the leader of the own view was heard, where p is it
abbrev pub heard : Life → ℕ → Life
heard life p = if leads life p life.view then record life { quiet = 0 } else life

-- a message of replica p
abbrev pub on_message : Life → ℕ → Message → Turned
on_message life p m = on_kind (heard life p) p m

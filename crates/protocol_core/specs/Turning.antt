-- The turn of a life: what it does with each item.
use Rattle.std.specs.Prelude.{ℕ, suc, Bool, ◌&&◌, [], ◌∷◌, ◌++◌, length, nat_lt, ◌==◌, if◌then◌else◌}
use Rattle.jp_types.specs.declared.message.Message.{Message}
use Rattle.jp_types.specs.Instances.{Batch}
use Rattle.paxos_world.specs.Leading.{is_working}
use Rattle.replica_log.specs.Log.{first_undecided}
use Rattle.proposer_core.specs.Proposing.{is_leading}
use Rattle.protocol_core.specs.declared.item.Item.{Item}
use Rattle.protocol_core.specs.declared.life.Life.{Life}
use Rattle.protocol_core.specs.CatchingUp.{queried_if_due, on_snapshot}
use Rattle.protocol_core.specs.Leading.{suspected}
use Rattle.protocol_core.specs.Messages.{on_message}
use Rattle.protocol_core.specs.Sending.{sent_to_all}
use Rattle.protocol_core.specs.Settling.{settled}
use Rattle.protocol_core.specs.Turned.{Turned, stay, followed_by}
use Rattle.protocol_core.specs.Voting.{leads}

-- after how many ticks without a message of its leader a life suspects it
abbrev pub quiet_limit : ℕ
quiet_limit = 10

-- how many batches may wait
abbrev pub waiting_limit : ℕ
waiting_limit = 64

-- the leader's word that it is alive
abbrev pub alive_of : Life → Message
alive_of life = Message.Alive (record { view = life.view; first_undecided = first_undecided life.log })

-- the leader is suspected, where it was quiet for so many ticks
abbrev pub suspected_if_quiet : Life → Turned
suspected_if_quiet life = if life.quiet == quiet_limit then suspected life else stay life

-- one more tick without a message of the leader, up to the limit; there the life suspects it
abbrev pub tick_counted : Life → Turned
tick_counted life = if nat_lt life.quiet quiet_limit then suspected_if_quiet (record life { quiet = suc life.quiet }) else stay life

-- a tick at a Working life: a leader sends Alive to all others, and another counts the tick
abbrev pub on_tick_working : Life → Turned
on_tick_working life = if leads life life.config.me life.view then sent_to_all (alive_of life) life else tick_counted life

-- a tick at a life, where it is Working
abbrev pub on_tick_if_working : Life → Turned
on_tick_if_working life = if is_working life.phase then on_tick_working life else stay life

-- a tick: what a Working life does, and then a query where one is due
abbrev pub on_tick : Life → Turned
on_tick life = followed_by (on_tick_if_working life) queried_if_due

-- whether a closed batch may wait: the life is Working, is in phase 1 or Prepared, and fewer than the limit wait
abbrev pub may_wait : Life → Bool
may_wait life = is_working life.phase && is_leading life.proposer.leading && nat_lt (length life.waiting) waiting_limit

-- a closed batch waits, or is dropped
abbrev pub on_batch : Life → Batch → Life
on_batch life batch = if may_wait life then record life { waiting = life.waiting ++ batch ∷ [] } else life

-- what is done with an item
abbrev pub on_item : Life → Item → Turned
on_item life (Item.Message from message) = on_message life from message
on_item life (Item.Batch batch) = stay (on_batch life batch)
on_item life Item.Tick = on_tick life
on_item life Item.Suspect = suspected life
on_item life (Item.Snapshot upto bytes) = stay (on_snapshot life upto bytes)

-- a turn: what is done with the item, and then settling, which hands on at most `room` decisions
abbrev pub turn : Life → Item → ℕ → Turned
turn life item room = followed_by (on_item life item) (λ taken. settled taken room)

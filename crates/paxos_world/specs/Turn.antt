-- The turn of a replica's Protocol stage: what it does with each item, and how a life begins.
use Rattle.std.specs.Prelude.{ℕ, suc, ◌&&◌, not, List, [], ◌∷◌, ◌++◌, length, map, nat_lt, ◌==◌, Option, Some, None}
use Rattle.std.specs.Option.{option_map}
use Rattle.jp_types.specs.declared.message.Message.{Message}
use Rattle.jp_types.specs.declared.mode.Phase.TheVariants.{Recovering, Working}
use Rattle.paxos_world.specs.declared.step.Step.{Step}
use Rattle.paxos_world.specs.Life.{Life, new_life}
use Rattle.jp_types.specs.Instances.{Batch}
use Rattle.jp_types.specs.Marks.{first_mark, view_at_return}
use Rattle.paxos_world.specs.World.{Deed, Move, First, Return}
use Rattle.paxos_world.specs.Stage.{Config, Stage, Slot, new_stage, Item, Came, Closed, Tick, Suspect, Snapped, Act, Show, Save, Turned, Outgoing}
use Rattle.paxos_world.specs.Writing.{◌▹◌, when, for_each, with_stage, says, says_to_all}
use Rattle.paxos_world.specs.Logs.{first_undecided}
use Rattle.paxos_world.specs.Retransmitting.{arms_recovery, cursor_after, claim}
use Rattle.paxos_world.specs.Leading.{works, leads_own, is_leading, begin_phase_1, suspect}
use Rattle.paxos_world.specs.CatchingUp.{query_where_due, on_snapshot}
use Rattle.paxos_world.specs.Messages.{on_message}
use Rattle.paxos_world.specs.Settling.{settles}
use Rattle.jp_types.specs.Marks.{return_mark}

-- after how many ticks without a message of its leader a stage suspects it
abbrev pub quiet_limit : ℕ
quiet_limit = 10

-- how many batches may wait
abbrev pub waiting_limit : ℕ
waiting_limit = 64

-- the Alive message of a leader
abbrev pub alive_of : Stage → Message
alive_of s = Message.Alive (record { view = s.life.view; first_undecided = first_undecided s })

-- one more tick without a message of the leader; at the tenth the stage suspects it
abbrev pub counts_quiet : Turned → Turned
counts_quiet t =
    let quiet = suc t.stage.quiet in
    t ▹ with_stage (λ s. record s { quiet = quiet }) ▹ when (quiet == quiet_limit) suspect

-- a tick at a Working stage: a leader sends Alive to all others, and another counts the tick, up to the limit
abbrev pub on_tick_working : Turned → Turned
on_tick_working t =
    let s = t.stage in
    t ▹ when (leads_own s) (says_to_all (alive_of s))
    ▹ when (not (leads_own s) && nat_lt s.quiet quiet_limit) counts_quiet

-- a tick: what a Working stage does, and then a query where one is due
abbrev pub on_tick : Turned → Turned
on_tick t = t ▹ when (works t.stage) on_tick_working ▹ query_where_due

-- a closed batch waits, where the stage is Working, is in phase 1 or Prepared, and fewer than the limit wait; else it is dropped
abbrev pub on_batch : Batch → Turned → Turned
on_batch batch t =
    let s = t.stage in
    when (works s && is_leading s.life.leading && nat_lt (length s.waiting) waiting_limit) (with_stage (λ s. record s { waiting = s.waiting ++ batch ∷ [] })) t

-- what is done with an item
abbrev pub on_item : Item → Turned → Turned
on_item (Came from message) = on_message from message
on_item (Closed batch) = on_batch batch
on_item Tick = on_tick
on_item Suspect = suspect
on_item (Snapped upto bytes) = on_snapshot upto bytes

-- a turn in which nothing is done yet
abbrev pub untouched : Stage → Turned
untouched s = record { stage = s; acts = []; deeds = [] }

-- a turn: what is done with the item, and then settling, which hands on at most `room` decisions
unfoldable pub turn : Stage → Item → ℕ → Turned
turn s item room = untouched s ▹ on_item item ▹ settles room

-- the stage after these items, each with its room
abbrev pub stage_after : Stage → List (Item × ℕ) → Stage
stage_after s [] = s
stage_after s (x ∷ xs) = stage_after (turn s x.0 x.1).stage xs

-- all acts over these items, in order
abbrev pub acts_over : Stage → List (Item × ℕ) → List Act
acts_over s [] = []
acts_over s (x ∷ xs) = let t = turn s x.0 x.1 in t.acts ++ acts_over t.stage xs

-- how a life begins: the world's step, and what the stage does in its start
pub record Opened : Type 0 where
  pub move : Move
  pub turned : Turned

-- a start so far: the mark is saved and the step is shown
abbrev pub begun : Config → List Slot → Life → Step → Turned
begun c slots life step = record { stage = new_stage c slots life life.mark; acts = Save life.mark ∷ Show step ∷ []; deeds = [] }

-- the first start, as life `number` of its replica: the leader of view 0 begins phase 1
abbrev pub first_start : Config → List Slot → ℕ → Opened
first_start c slots number =
    let life = new_life number (first_mark c.mode) Working 0 in
    record { move = First c.me; turned = begun c slots life (Step.First c.me) ▹ (λ t. when (leads_own t.stage) begin_phase_1 t) }

-- the Recovery of a life
abbrev pub recovery_of : ℕ → Message
recovery_of mark = Message.Recovery (record { mark = mark })

-- a later start with a mark
abbrev pub later_start : Config → List Slot → ℕ → ℕ → Opened
later_start c slots number mark =
    let life = new_life number mark Recovering (view_at_return c.mode mark) in
    record { move = Return c.me mark; turned = begun c slots life (Step.Return c.me mark) ▹ says_to_all (recovery_of mark) ▹ arms_recovery (recovery_of mark) }

-- the start of life `number` of a replica whose retransmitter has these slots and whose disk holds this number, if any; None where the number to save passes the limit
unfoldable pub opening : Config → List Slot → ℕ → Option ℕ → Option Opened
opening c slots number None = Some (first_start c slots number)
opening c slots number (Some stable) = option_map (later_start c slots number) (return_mark c.mode c.n c.me stable)

-- the world's steps of what a life of r did
abbrev pub moves_of : ℕ → List Deed → List Move
moves_of r deeds = map (Move.Act r) deeds

-- the world's steps of a start of replica r
abbrev pub opening_moves : ℕ → Opened → List Move
opening_moves r o = o.move ∷ moves_of r o.turned.deeds

-- a message goes out again to its replicas
abbrev pub repeats : Outgoing → Turned → Turned
repeats m = for_each m.to (λ q. says q m.message)

-- the first live slot's message from the cursor on goes out again: the cursor after it, and what the stage does; None where no slot is live
unfoldable pub retransmit : Stage → ℕ → Option (ℕ × Turned)
retransmit s cursor = option_map (λ found. (cursor_after found.0, untouched s ▹ repeats found.1)) (claim s.slots cursor)

-- Which messages a turn sends, and which ones the Retransmitter does.
use Rattle.std.specs.Prelude.{ℕ, ◌&&◌, List, [], ◌∷◌, ◌++◌, map, nat_le, nat_lt, if◌then◌else◌, Option, Some, None, is_some}
use Rattle.std.specs.Option.{option_map_or, unwrap_or}
use Rattle.jp_types.specs.declared.message.Message.{Message}
use Rattle.jp_types.specs.Instances.{peer}
use Rattle.paxos_world.specs.declared.step.Step.{Step}
use Rattle.paxos_world.specs.CatchingUp.{parts_of, query_of, replied_batches}
use Rattle.paxos_world.specs.Leading.{works, leads, leads_own}
use Rattle.paxos_world.specs.Learning.{accept_of, propose_of}
use Rattle.paxos_world.specs.Life.{LifeId, next_of}
use Rattle.paxos_world.specs.Logs.{first_undecided, report_from}
use Rattle.paxos_world.specs.Messages.{vector_of}
use Rattle.paxos_world.specs.Stage.{Config, setup_of, Stage, Item, Came, Closed, Tick, Suspect, Snapped}
use Rattle.paxos_world.specs.Turn.{alive_of}
use Rattle.paxos_world.specs.World.{Deed, life_after}
use Rattle.paxos_world.specs.Writing.{others}
use Rattle.step_laws.specs.Views.{entered_view, may_vote}

-- a message to each of these replicas
abbrev pub to_each : List ℕ → Message → List (ℕ × Message)
to_each qs m = map (λ q. (q, m)) qs

-- the stage after its life did this
abbrev pub having_done : Deed → Stage → Stage
having_done deed s = record s { life = life_after (setup_of s.config) s.config.me s.life deed }

-- the Prepare of a view that is entered, if one is and the replica leads it
abbrev pub phase_1_sends : Stage → Option ℕ → List (ℕ × Message)
phase_1_sends s None = []
phase_1_sends s (Some view) =
    if leads s s.config.me view then to_each (others s.config) (Message.Prepare (record { view = view; first = first_undecided s; mark = s.life.mark })) else []

-- the answer to a recovery with this mark: the view that the stage is then in, the vector with the one that recovers raised, and `next` where it is Prepared there
abbrev pub answer_to : Stage → LifeId → ℕ → Option ℕ → Message
answer_to s from mark entered =
    let view = unwrap_or entered s.life.view in
    let next = if is_some entered then None else next_of s.life.leading in
    Message.RecoveryAnswer (record { mark = mark; view = view; vector = vector_of (having_done (Deed.Answer from.replica view next mark) s); next = next })

-- the answer to a query: below the base the parts of the newest snapshot, else the known batches, and nothing where the first is not known
abbrev pub query_sends : Stage → ℕ → ℕ → List (ℕ × Message)
query_sends s p first =
    if nat_lt first s.base then option_map_or (λ snapshot. map (λ m. (p, m)) (parts_of snapshot)) s.newest []
    else if is_some (s.life.known first) then (p, Message.CatchUpReply (record { first = first; batches = replied_batches s first })) ∷ []
    else []

-- what a stage answers to a message that it took, beyond the Prepare of a view that the message makes it enter
abbrev pub message_sends : Stage → LifeId → Message → Option ℕ → List (ℕ × Message)
message_sends s from (Message.Prepare m) entered =
    if works s && leads s from.replica m.view && nat_le s.life.view m.view
    then (from.replica, Message.PrepareOk (record { view = m.view; mark = m.mark; vector = vector_of s; low = s.base; report = report_from s m.first })) ∷ []
    else []
message_sends s from (Message.Propose m) entered = if may_vote s from.replica m then to_each (others s.config) (accept_of m.view m.instance) else []
message_sends s from (Message.Recovery m) entered = if works s then (from.replica, answer_to s from m.mark entered) ∷ [] else []
message_sends s from (Message.CatchUpQuery m) entered = query_sends s from.replica m.first
message_sends s from _ entered = []

-- what an item makes a stage send: the Prepare of a view that it enters; the answer to a message; at a tick the Alive of a leader, and a query where something is not known below the horizon
abbrev pub sent_by : Stage → Item → List (ℕ × Message)
sent_by s (Came from m) = let entered = entered_view s (Came from m) in phase_1_sends s entered ++ message_sends (having_done (Deed.Take from m) s) from m entered
sent_by s (Closed batch) = []
sent_by s Tick =
    (if works s && leads_own s then to_each (others s.config) (alive_of s) else [])
    ++ (phase_1_sends s (entered_view s Tick) ++ (if nat_lt (first_undecided s) s.horizon then (peer s.config.me s.config.n s.queries, query_of (first_undecided s)) ∷ [] else []))
sent_by s Suspect = phase_1_sends s (entered_view s Suspect)
sent_by s (Snapped upto bytes) = []

-- the proposals of launches, each to all others
abbrev pub proposals_of : Config → List Step → List (ℕ × Message)
proposals_of c [] = []
proposals_of c (Step.Launch r view i batch ∷ steps) = to_each (others c) (propose_of view i batch) ++ proposals_of c steps
proposals_of c (_ ∷ steps) = proposals_of c steps

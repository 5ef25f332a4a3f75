-- Learning without votes, and launching.
use Rattle.std.specs.Prelude.{ℕ, Bool, not, [], ◌∷◌, ◌++◌, nat_lt, if◌then◌else◌, Some}
use Rattle.jp_types.specs.declared.message.Message.{Message}
use Rattle.jp_types.specs.Instances.{Batch}
use Rattle.paxos_world.specs.declared.step.Step.{Step}
use Rattle.replica_log.specs.Log.{Log, is_in_span, is_known, after_learn, with_vote}
use Rattle.acceptor_core.specs.Learning.{is_open, after_note}
use Rattle.protocol_core.specs.declared.act.Act.{Act}
use Rattle.protocol_core.specs.declared.act.Topic.{Topic}
use Rattle.protocol_core.specs.declared.life.Life.{Life}
use Rattle.protocol_core.specs.Sending.{to_all, armed_for_all}
use Rattle.protocol_core.specs.Turned.{Turned, stay, followed_by}
use Rattle.protocol_core.specs.Voting.{learning_shown}

-- a batch is learned, with its step; the armed Propose of the instance is cancelled
abbrev pub learned : Life → ℕ → Batch → Turned
learned life i batch = learning_shown (record life { log = after_learn life.log i batch }) i

-- a batch is learned, where the instance is in span and not known
abbrev pub learned_if_open : Life → ℕ → Batch → Turned
learned_if_open life i batch = if is_open life.log i then learned life i batch else stay life

-- the Propose of a batch
abbrev pub propose_of : ℕ → ℕ → Batch → Message
propose_of view i batch = Message.Propose (record { view = view; instance = i; batch = batch })

-- the log after the own vote on a launched batch: below the span it keeps none
abbrev pub after_own_vote : Log → ℕ → ℕ → Batch → Log
after_own_vote log i view batch = if is_in_span log i then with_vote log i view batch else log

-- the log after the own acceptance of a launched batch
abbrev pub after_own_note : Log → ℕ → ℕ → ℕ → Batch → Log
after_own_note log i view me batch = if nat_lt me log.n then after_note log i view me (Some batch) else log

-- the log after the own vote on a launched batch, which is the own acceptance too
abbrev pub after_own_acceptance : Log → ℕ → ℕ → ℕ → Batch → Log
after_own_acceptance log i view me batch = after_own_note (after_own_vote log i view batch) i view me batch

-- the steps of a launch: the life votes on the batch
abbrev pub launch_shown : Life → ℕ → Batch → Turned
launch_shown life i batch =
    record {
      life = record life { log = after_own_acceptance life.log i life.view life.config.me batch };
      acts = Act.Step (Step.Launch life.config.me life.view i batch) ∷ Act.Step (Step.Vote life.config.me life.view i) ∷ [];
    }

-- the Propose goes to all others, and is repeated where the test passes
abbrev pub proposed : Bool → ℕ → Message → Life → Turned
proposed repeats i m life =
    record {
      life = life;
      acts = to_all life.config.n life.config.me m ++ (if repeats then armed_for_all life.config.n life.config.me (Topic.Propose i) m else []);
    }

-- a batch is launched at an instance in the own view. Its Propose is repeated where the instance is not known
abbrev pub launched : Life → ℕ → Batch → Turned
launched life i batch = followed_by (launch_shown life i batch) (proposed (not (is_known life.log i)) i (propose_of life.view i batch))

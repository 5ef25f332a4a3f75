-- Learning, voting and launching.
use Rattle.std.specs.Prelude.{ℕ, not, Option, Some, max}
use Rattle.jp_types.specs.declared.message.Message.{Message}
use Rattle.paxos_world.specs.declared.step.Step.{Step}
use Rattle.jp_types.specs.Instances.{Batch}
use Rattle.paxos_world.specs.World.{Deed}
use Rattle.paxos_world.specs.Stage.{Turned}
use Rattle.paxos_world.specs.Writing.{◌▹◌, when, when_some, with_stage, shows, sends_to_all}
use Rattle.paxos_world.specs.Logs.{is_known, with_note, tallied}
use Rattle.paxos_world.specs.Retransmitting.{arms_propose, cancels_propose}

-- the horizon rises to this, where it is lower
abbrev pub horizon_to : ℕ → Turned → Turned
horizon_to i = with_stage (λ s. record s { horizon = max s.horizon i })

-- an acceptance of a replica is noted, where the instance is in span and not known
abbrev pub notes : ℕ → ℕ → ℕ → Option Batch → Turned → Turned
notes i view p batch = with_stage (with_note (record { instance = i; view = view; replica = p; batch = batch }))

-- the batch of an instance is learned, and its armed Propose is cancelled
abbrev pub learns : ℕ → Batch → Turned → Turned
learns i batch t = t ▹ shows (Step.Learn t.stage.config.me i) (Deed.Learn i batch) ▹ cancels_propose i

-- an instance is learned where its tally has a batch and a majority
abbrev pub learn_check : ℕ → Turned → Turned
learn_check i t = when_some (tallied t.stage i) (learns i) t

-- a vote on a batch
abbrev pub votes_for : ℕ → ℕ → Batch → Turned → Turned
votes_for view i batch t = t ▹ shows (Step.Vote t.stage.config.me view i) (Deed.Vote view i batch)

-- the Propose of a batch
abbrev pub propose_of : ℕ → ℕ → Batch → Message
propose_of view i batch = Message.Propose (record { view = view; instance = i; batch = batch })

-- the Accept of an instance
abbrev pub accept_of : ℕ → ℕ → Message
accept_of view i = Message.Accept (record { view = view; instance = i })

-- a batch is launched at an instance in the own view. Its Propose is armed where the instance is not known
abbrev pub launches : ℕ → Batch → Turned → Turned
launches i batch t =
    let s = t.stage in
    let view = s.life.view in
    t ▹ shows (Step.Launch s.config.me view i batch) (Deed.Launch view i batch)
    ▹ votes_for view i batch
    ▹ notes i view s.config.me (Some batch)
    ▹ sends_to_all (propose_of view i batch)
    ▹ when (not (is_known s i)) (arms_propose i (propose_of view i batch))

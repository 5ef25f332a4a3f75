-- Promises, votes, and what is learned by votes.
use Rattle.std.specs.Prelude.{ℕ, ◌+◌, ◌-◌, ◌^◌, Bool, ◌&&◌, max, min, [], ◌∷◌, nat_lt, ◌==◌, if◌then◌else◌, Option, Some, None, is_some}
use Rattle.jp_types.specs.declared.message.Accept.{Accept}
use Rattle.jp_types.specs.declared.message.Message.{Message}
use Rattle.jp_types.specs.declared.message.Prepare.{Prepare}
use Rattle.jp_types.specs.declared.message.PrepareOk.{PrepareOk}
use Rattle.jp_types.specs.declared.message.Propose.{Propose}
use Rattle.jp_types.specs.Views.{leader}
use Rattle.paxos_world.specs.declared.step.Step.{Step}
use Rattle.paxos_world.specs.Leading.{is_working}
use Rattle.replica_log.specs.Log.{Log}
use Rattle.acceptor_core.specs.Promising.{promised}
use Rattle.acceptor_core.specs.Learning.{after_note, votes_on, noted_proposal, learned_with, after_proposal, after_accept}
use Rattle.protocol_core.specs.declared.act.Act.{Act}
use Rattle.protocol_core.specs.declared.act.Topic.{Topic}
use Rattle.protocol_core.specs.declared.life.Life.{Life}
use Rattle.protocol_core.specs.Leading.{raised_up_to}
use Rattle.protocol_core.specs.Sending.{shown, sent_to_all}
use Rattle.protocol_core.specs.Turned.{Turned, stay, followed_by}

-- one more, where that is a number of the machine
abbrev pub up : ℕ → ℕ
up i = min (i + 1) (2 ^ 64 - 1)

-- the horizon is at least this
abbrev pub horizon_to : Life → ℕ → Life
horizon_to life i = record life { horizon = max life.horizon i }

-- whether p leads a view
abbrev pub leads : Life → ℕ → ℕ → Bool
leads life p view = leader life.config.n view == p

-- whether a log counts this replica
abbrev pub counts : Log → ℕ → Bool
counts log p = nat_lt p log.n

-- ---- Promises

-- a promise goes to p, where there is one
abbrev pub promise_sent : Life → ℕ → Option PrepareOk → Turned
promise_sent life p None = stay life
promise_sent life p (Some promise) =
    record { life = life; acts = Act.Step (Step.Promise life.config.me promise.view) ∷ Act.Send p (Message.PrepareOk promise) ∷ [] }

-- the view of a Prepare of p is promised, where it is the own one
abbrev pub promised_if : Life → ℕ → Prepare → Turned
promised_if life p m = promise_sent life p (promised life.log life.view life.vector m)

-- Prepare of the leader of its view: a Working life raises its view to the Prepare's, and promises where the two are now one
abbrev pub on_prepare : Life → ℕ → Prepare → Turned
on_prepare life p m = if is_working life.phase && leads life p m.view then followed_by (raised_up_to life m.view) (λ raised. promised_if raised p m) else stay life

-- ---- Votes

-- the Accept of an instance
abbrev pub accept_of : ℕ → ℕ → Message
accept_of view i = Message.Accept (record { view = view; instance = i })

-- a vote is shown, and the Accept goes to all others
abbrev pub vote_shown : Life → ℕ → ℕ → Turned
vote_shown life view i = followed_by (shown (Step.Vote life.config.me view i) life) (sent_to_all (accept_of view i))

-- a vote is shown, where there was one
abbrev pub vote_shown_if : Life → Bool → ℕ → ℕ → Turned
vote_shown_if life voted view i = if voted then vote_shown life view i else stay life

-- a learning is shown, and the armed Propose of the instance is cancelled
abbrev pub learning_shown : Life → ℕ → Turned
learning_shown life i = record { life = life; acts = Act.Step (Step.Learn life.config.me i) ∷ Act.Cancel (Topic.Propose i) ∷ [] }

-- a learning is shown, where there was one
abbrev pub learning_shown_if : Life → Bool → ℕ → Turned
learning_shown_if life learned i = if learned then learning_shown life i else stay life

-- the log takes a proposal of p
abbrev pub with_proposal : Life → ℕ → Propose → Life
with_proposal life p m = record life { log = after_proposal life.log life.config.me (is_working life.phase) life.view p m }

-- whether the life votes on a proposal
abbrev pub votes : Life → Propose → Bool
votes life m = votes_on life.log (is_working life.phase) life.view m

-- whether a proposal of p makes its instance learned
abbrev pub learns : Life → ℕ → Propose → Bool
learns life p m = is_some (learned_with (noted_proposal life.log life.config.me (is_working life.phase) life.view p m) m.instance)

-- what a proposal of p makes the life do, once its view is raised
abbrev pub proposal_taken : Life → ℕ → Propose → Turned
proposal_taken life p m =
    followed_by (vote_shown_if (with_proposal life p m) (votes life m) m.view m.instance) (λ voted. learning_shown_if voted (learns life p m) m.instance)

-- a proposal of p, where the log counts p and the life's own replica
abbrev pub proposal_taken_if : Life → ℕ → Propose → Turned
proposal_taken_if life p m = if counts life.log p && counts life.log life.config.me then proposal_taken life p m else stay life

-- a proposal of p is followed: a Working life raises its view to the Propose's; the leader's acceptance is noted; a vote where the life may; and the instance is learned where its tally is full
abbrev pub proposal_followed : Life → ℕ → Propose → Turned
proposal_followed life p m = followed_by (raised_up_to life m.view) (λ raised. proposal_taken_if raised p m)

-- a proposal of p: the horizon rises above its instance, and the proposal is followed
abbrev pub proposal_heard : Life → ℕ → Propose → Turned
proposal_heard life p m = proposal_followed (horizon_to life (up m.instance)) p m

-- Propose of the leader of its view
abbrev pub on_propose : Life → ℕ → Propose → Turned
on_propose life p m = if leads life p m.view then proposal_heard life p m else stay life

-- the log takes an Accept of p
abbrev pub with_accept : Life → ℕ → Accept → Life
with_accept life p m = record life { log = after_accept life.log p m }

-- whether an Accept of p makes its instance learned
abbrev pub learns_by : Life → ℕ → Accept → Bool
learns_by life p m = is_some (learned_with (after_note life.log m.instance m.view p None) m.instance)

-- an Accept of p, where the log counts p
abbrev pub acceptance_taken : Life → ℕ → Accept → Turned
acceptance_taken life p m = if counts life.log p then learning_shown_if (with_accept life p m) (learns_by life p m) m.instance else stay life

-- Accept: the horizon rises above its instance, the acceptance is noted, and the instance is learned where its tally is full
abbrev pub on_accept : Life → ℕ → Accept → Turned
on_accept life p m = acceptance_taken (horizon_to life (up m.instance)) p m

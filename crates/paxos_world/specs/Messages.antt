-- What a stage does with each message, beyond taking it. Which replies it holds and counts is read from all that it took.
use Rattle.std.specs.Prelude.{ℕ, suc, Bool, ◌&&◌, List, ◌==◌, Some, None}
use Rattle.jp_types.specs.declared.message.Message.{Message}
use Rattle.jp_types.specs.declared.message.Prepare.{Prepare}
use Rattle.jp_types.specs.declared.message.PrepareOk.{PrepareOk}
use Rattle.jp_types.specs.declared.message.Propose.{Propose}
use Rattle.jp_types.specs.declared.message.RecoveryAnswer.{RecoveryAnswer}
use Rattle.jp_types.specs.declared.message.Alive.{Alive}
use Rattle.paxos_world.specs.declared.step.Step.{Step}
use Rattle.paxos_world.specs.Life.{LifeId, preparing_in, next_of}
use Rattle.paxos_world.specs.Counting.{is_view, is_recovering, entry_in}
use Rattle.jp_types.specs.Vectors.{table}
use Rattle.paxos_world.specs.World.{Deed}
use Rattle.paxos_world.specs.Stage.{Stage, Turned}
use Rattle.paxos_world.specs.Writing.{◌▹◌, when, when_some, with_stage, does, shows, sends, sends_to_all}
use Rattle.paxos_world.specs.Logs.{is_in_span, report_from}
use Rattle.paxos_world.specs.Leading.{works, leads, is_view_ss, raise_up_to}
use Rattle.paxos_world.specs.Learning.{horizon_to, notes, learn_check, votes_for, accept_of}
use Rattle.paxos_world.specs.CatchingUp.{on_query, on_batches, on_part}

-- the vector of the life
abbrev pub vector_of : Stage → List ℕ
vector_of s = table (entry_in s.config.mode s.config.me s.life)

-- the own view is promised to p, whose Prepare came
abbrev pub promises : ℕ → Prepare → Turned → Turned
promises p m t =
    let s = t.stage in
    let report = report_from s m.first in
    t ▹ shows (Step.Promise s.config.me m.view) (Deed.Promise m.view m.first m.mark s.base report)
    ▹ sends p (Message.PrepareOk (record { view = m.view; mark = m.mark; vector = vector_of s; low = s.base; report = report }))

-- the Prepare's view is promised, where it is the own one
abbrev pub promises_if : ℕ → Prepare → Turned → Turned
promises_if p m t = when (t.stage.life.view == m.view) (promises p m) t

-- Prepare of the leader of its view: a Working stage raises its view to the Prepare's, and promises where the two are now one
abbrev pub on_prepare : ℕ → Prepare → Turned → Turned
on_prepare p m t = when (works t.stage && leads t.stage p m.view) (λ t. t ▹ raise_up_to m.view ▹ promises_if p m) t

-- whether the stage is in phase 1 of this view and has this mark
abbrev pub prepares : Stage → ℕ → ℕ → Bool
prepares s view mark = is_view (preparing_in s.life.leading s.life.view) view && (s.life.mark == mark)

-- PrepareOk: where it answers the phase 1 that the stage is in, the horizon rises to its `low`
abbrev pub on_prepare_ok : PrepareOk → Turned → Turned
on_prepare_ok m t = when (prepares t.stage m.view m.mark) (horizon_to m.low) t

-- a proposal is voted on: the vote is noted, and the Accept goes to all others
abbrev pub votes_on : Propose → Turned → Turned
votes_on m t =
    t ▹ votes_for m.view m.instance m.batch
    ▹ notes m.instance m.view t.stage.config.me None
    ▹ sends_to_all (accept_of m.view m.instance)

-- a Working stage votes, where the proposal's view is its own and the instance is in span
abbrev pub votes_if : Propose → Turned → Turned
votes_if m t = when (works t.stage && (t.stage.life.view == m.view) && is_in_span t.stage m.instance) (votes_on m) t

-- Propose of the leader of its view: the horizon rises above its instance; a Working stage raises its view to the Propose's; the leader's acceptance is noted; a vote where the stage may; and the instance is learned where its tally is full
abbrev pub on_propose : ℕ → Propose → Turned → Turned
on_propose p m t =
    when (leads t.stage p m.view) (λ t.
    t ▹ horizon_to (suc m.instance)
    ▹ raise_up_to m.view
    ▹ notes m.instance m.view p (Some m.batch)
    ▹ votes_if m
    ▹ learn_check m.instance) t

-- Accept: the horizon rises above its instance, the acceptance is noted, and the instance is learned where its tally is full
abbrev pub on_accept : ℕ → ℕ → ℕ → Turned → Turned
on_accept p view i t = t ▹ horizon_to (suc i) ▹ notes i view p None ▹ learn_check i

-- a recovery is answered: the step raises the vector's entry for p to the mark, and the answer has the vector after it
abbrev pub answers : ℕ → ℕ → Turned → Turned
answers p mark t =
    let s = t.stage in
    let next = next_of s.life.leading in
    let after = t ▹ shows (Step.Answer s.config.me p s.life.view next) (Deed.Answer p s.life.view next mark) in
    after ▹ sends p (Message.RecoveryAnswer (record { mark = mark; view = s.life.view; vector = vector_of after.stage; next = next }))

-- Recovery: a Working stage answers. In ViewSS it first raises its view to the mark
abbrev pub on_recovery : ℕ → ℕ → Turned → Turned
on_recovery p mark t = when (works t.stage) (λ t. t ▹ when (is_view_ss t.stage.config.mode) (raise_up_to mark) ▹ answers p mark) t

-- RecoveryAnswer: where it answers this life, and that is Recovering, the horizon rises to its `next`
abbrev pub on_recovery_answer : RecoveryAnswer → Turned → Turned
on_recovery_answer m t = when (is_recovering t.stage.life.phase && (t.stage.life.mark == m.mark)) (when_some m.next horizon_to) t

-- Alive of the leader of its view: the horizon rises to the leader's first undecided instance, and a Working stage raises its view to the Alive's
abbrev pub on_alive : ℕ → Alive → Turned → Turned
on_alive p m t = when (leads t.stage p m.view) (λ t. t ▹ horizon_to m.first_undecided ▹ raise_up_to m.view) t

-- what is done with a message of replica p, by its kind
abbrev pub on_kind : ℕ → Message → Turned → Turned
on_kind p (Message.Prepare m) = on_prepare p m
on_kind p (Message.PrepareOk m) = on_prepare_ok m
on_kind p (Message.Propose m) = on_propose p m
on_kind p (Message.Accept m) = on_accept p m.view m.instance
on_kind p (Message.Recovery m) = on_recovery p m.mark
on_kind p (Message.RecoveryAnswer m) = on_recovery_answer m
on_kind p (Message.CatchUpQuery m) = on_query p m.first
on_kind p (Message.CatchUpReply m) = on_batches m.first m.batches
on_kind p (Message.SnapshotPart m) = on_part m
on_kind p (Message.Alive m) = on_alive p m

-- a message from a life: it is taken; where its replica leads the stage's view, `quiet` is 0; and then what its kind asks for
abbrev pub on_message : LifeId → Message → Turned → Turned
on_message from m t =
    t ▹ does (Deed.Take from m)
    ▹ when (leads t.stage from.replica t.stage.life.view) (with_stage (λ s. record s { quiet = 0 }))
    ▹ on_kind from.replica m

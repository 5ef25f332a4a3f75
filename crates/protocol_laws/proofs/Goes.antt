-- What is shown of each part of a turn.
use Rattle.std.specs.Prelude.{◌≡◌, ◌≢◌, ℕ, ◌≤◌, ◌<◌, ◌^◌, true, false, ◌&&◌, not, List, length, nat_lt, None}
use Rattle.jp_types.specs.declared.message.Message.{Message}
use Rattle.jp_types.specs.declared.message.Accept.{Accept}
use Rattle.jp_types.specs.declared.message.Alive.{Alive}
use Rattle.jp_types.specs.declared.message.Prepare.{Prepare}
use Rattle.jp_types.specs.declared.message.PrepareOk.{PrepareOk}
use Rattle.jp_types.specs.declared.message.Propose.{Propose}
use Rattle.jp_types.specs.declared.message.RecoveryAnswer.{RecoveryAnswer}
use Rattle.jp_types.specs.declared.message.SnapshotPart.{SnapshotPart}
use Rattle.jp_types.specs.Instances.{Batch}
use Rattle.kv_service.specs.Parts.{part_size}
use Rattle.jp_types.specs.Lists.{In}
use Rattle.paxos_world.specs.Life.{LifeId, Taken, preparing_in}
use Rattle.paxos_world.specs.Counting.{is_view, own_ok, own_answer}
use Rattle.paxos_world.specs.World.{Deed, lead_after}
use Rattle.paxos_world.specs.Stage.{Stage}
use Rattle.paxos_world.specs.Stage as model
use Rattle.paxos_world.specs.Writing.{when, with_stage, does}
use Rattle.paxos_world.specs.Logs as logs
use Rattle.paxos_world.specs.Leading as leading
use Rattle.paxos_world.specs.Learning as learning
use Rattle.paxos_world.specs.CatchingUp as catching
use Rattle.paxos_world.specs.Messages as messages
use Rattle.paxos_world.specs.Settling as settling
use Rattle.paxos_world.specs.Turn as model_turn
use Rattle.core_laws.specs.PrepareLaws.{leading_as}
use Rattle.core_laws.specs.RejoinLaws.{IsPlain}
use Rattle.protocol_core.specs.declared.life.Life.{Life}
use Rattle.protocol_core.specs.Answering as answering
use Rattle.protocol_core.specs.CatchingUp as catching_up
use Rattle.protocol_core.specs.Launching as launching
use Rattle.protocol_core.specs.Leading as raising
use Rattle.protocol_core.specs.Messages as kinds
use Rattle.protocol_core.specs.Settling as settles
use Rattle.protocol_core.specs.Turning as turning
use Rattle.protocol_core.specs.Turned.{Turned, stay}
use Rattle.protocol_core.specs.Voting as voting
use Rattle.protocol_laws.specs.Keeping.{Cores, life_in}
use Rattle.protocol_laws.specs.Following.{Follows}

-- a life does what its stage does
abbrev pub Goes : (model.Turned → model.Turned) → (Life → Turned) → Type 0
Goes by does = (t : model.Turned) (c : Cores t.stage) → Follows t (by t) (does (life_in t.stage c))

-- the same, where this holds of the stage
abbrev pub GoesWhere : (Stage → Type 0) → (model.Turned → model.Turned) → (Life → Turned) → Type 0
GoesWhere P by does = (t : model.Turned) (c : Cores t.stage) → P t.stage → Follows t (by t) (does (life_in t.stage c))

-- ---- Raising the view

-- the stage works, and took nothing in phase 1 of its view
pub record MayBegin (s : Stage) : Type 0 where
  pub works : leading.works s ≡ true
  pub untaken : (x : Taken) → In x s.life.taken → is_view x.preparing s.life.view ≡ false

abbrev pub GoesPhase1 : Type 0
GoesPhase1 = GoesWhere MayBegin leading.begin_phase_1 raising.phase_1_begun

abbrev pub GoesRaise : Type 0
GoesRaise = (view : ℕ) → GoesWhere (λ s. (leading.works s ≡ true) × (s.life.view < view)) (leading.raise_to view) (λ l. raising.raised_to l view)

abbrev pub GoesRaiseUp : Type 0
GoesRaiseUp = (view : ℕ) → Goes (leading.raise_up_to view) (λ l. raising.raised_up_to l view)

abbrev pub GoesSuspect : Type 0
GoesSuspect = Goes leading.suspect raising.suspected

-- ---- Learning and launching

abbrev pub GoesLearn : Type 0
GoesLearn =
    (i : ℕ) (batch : Batch)
    → GoesWhere (λ s. (logs.is_in_span s i && not (logs.is_known s i)) ≡ true) (learning.learns i batch) (λ l. launching.learned l i batch)

abbrev pub GoesLearnOpen : Type 0
GoesLearnOpen =
    (i : ℕ) (batch : Batch)
    → Goes (λ t. when (logs.is_in_span t.stage i && not (logs.is_known t.stage i)) (learning.learns i batch) t) (λ l. launching.learned_if_open l i batch)

-- the life of a stage whose leader launched this instance
abbrev pub leading_after : (s : Stage) → Cores s → ℕ → Life
leading_after s c i =
    let l = life_in s c in
    record l { proposer = record l.proposer { leading = leading_as (lead_after s.life.leading i) s.life.view s.life.mark } }

-- an instance past the span's end is not launched: the code would keep no vote on it
abbrev pub GoesLaunch : Type 0
GoesLaunch =
    (i : ℕ) (batch : Batch) (t : model.Turned) (c : Cores t.stage) → nat_lt i (logs.span_end t.stage) ≡ true
    → Follows t (learning.launches i batch t) (launching.launched (leading_after t.stage c i) i batch)

-- ---- Messages

-- a message that is no own reply of the life changes nothing that is kept
abbrev pub GoesTake : Type 0
GoesTake =
    (from : LifeId) (m : Message)
    → GoesWhere (λ s. (own_ok s.life.mark (preparing_in s.life.leading s.life.view) m ≡ None) × (own_answer s.life.mark s.life.phase m ≡ None)) (does (Deed.Take from m)) stay

-- a replica is another
abbrev pub IsOther : ℕ → Stage → Type 0
IsOther p s = (p < s.config.n) × (p ≢ s.config.me)

abbrev pub GoesPrepare : Type 0
GoesPrepare = (p : ℕ) (m : Prepare) → GoesWhere (IsOther p) (messages.on_prepare p m) (λ l. voting.on_prepare l p m)

-- the sender counts, and the instance is within the limit
abbrev pub MayVote : ℕ → ℕ → Stage → Type 0
MayVote p i s = (p < s.config.n) × (i ≤ 2 ^ 48)

abbrev pub GoesPropose : Type 0
GoesPropose = (p : ℕ) (m : Propose) → GoesWhere (MayVote p m.instance) (messages.on_propose p m) (λ l. voting.on_propose l p m)

abbrev pub GoesAccept : Type 0
GoesAccept = (p : ℕ) (m : Accept) → GoesWhere (MayVote p m.instance) (messages.on_accept p m.view m.instance) (λ l. voting.on_accept l p m)

abbrev pub GoesRecovery : Type 0
GoesRecovery = (p mark : ℕ) → GoesWhere (IsOther p) (messages.on_recovery p mark) (λ l. answering.on_recovery l p mark)

abbrev pub GoesAlive : Type 0
GoesAlive = (p : ℕ) (m : Alive) → Goes (messages.on_alive p m) (λ l. answering.on_alive l p m)

abbrev pub GoesQuery : Type 0
GoesQuery = (p first : ℕ) → GoesWhere (IsOther p) (catching.on_query p first) (λ l. catching_up.on_query l p first)

abbrev pub GoesBatches : Type 0
GoesBatches = (first : ℕ) (batches : List Batch) → Goes (catching.on_batches first batches) (λ l. catching_up.on_batches l first batches)

abbrev pub GoesPart : Type 0
GoesPart = (m : SnapshotPart) → GoesWhere (λ s. (m.total ≤ 2 ^ 28) × (length m.bytes ≤ part_size)) (catching.on_part m) (λ l. catching_up.on_part l m)

-- the leader of the own view was heard, where the replica is it
abbrev pub hears : ℕ → model.Turned → model.Turned
hears p t = when (leading.leads t.stage p t.stage.life.view) (with_stage (λ s. record s { quiet = 0 })) t

abbrev pub GoesHear : Type 0
GoesHear = (p : ℕ) → Goes (hears p) (λ l. stay (kinds.heard l p))

-- a PrepareOk and a RecoveryAnswer, from their taking on
abbrev pub MayAnswer : ℕ → List ℕ → Stage → Type 0
MayAnswer p vector s = (p < s.config.n) × (p ≢ s.config.me) × IsPlain s.config.mode vector

abbrev pub GoesPrepareOk : Type 0
GoesPrepareOk =
    (from : LifeId) (m : PrepareOk)
    → GoesWhere (MayAnswer from.replica m.vector) (messages.on_message from (Message.PrepareOk m)) (λ l. kinds.on_message l from.replica (Message.PrepareOk m))

abbrev pub GoesAnswer : Type 0
GoesAnswer =
    (from : LifeId) (m : RecoveryAnswer)
    → GoesWhere (MayAnswer from.replica m.vector) (messages.on_message from (Message.RecoveryAnswer m)) (λ l. kinds.on_message l from.replica (Message.RecoveryAnswer m))

-- ---- Other items

abbrev pub GoesTick : Type 0
GoesTick = Goes model_turn.on_tick turning.on_tick

abbrev pub GoesBatch : Type 0
GoesBatch = (batch : Batch) → Goes (model_turn.on_batch batch) (λ l. stay (turning.on_batch l batch))

abbrev pub GoesSnapshot : Type 0
GoesSnapshot =
    (upto : ℕ) (bytes : List ℕ)
    → GoesWhere (λ s. (upto ≤ s.handed) × (length bytes ≤ 2 ^ 28)) (catching.on_snapshot upto bytes) (λ l. stay (catching_up.on_snapshot l upto bytes))

-- ---- Settling

abbrev pub GoesRejoin : Type 0
GoesRejoin = Goes settling.settles_rejoin settles.settled_rejoin

abbrev pub GoesPrepared : Type 0
GoesPrepared = Goes settling.settles_prepared settles.settled_prepared

abbrev pub GoesWaiting : Type 0
GoesWaiting = Goes settling.settles_waiting settles.settled_waiting

abbrev pub GoesHanding : Type 0
GoesHanding = (room : ℕ) → Goes (settling.hands_on room) (settles.settled_handing room)

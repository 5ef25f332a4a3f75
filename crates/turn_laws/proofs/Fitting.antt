-- What a stage keeps true of its life, and a turn so far with the world that its steps lead to.
use Rattle.std.specs.Prelude.{◌≡◌, ◌≢◌, ℕ, ◌+◌, ◌%◌, ◌≤◌, ◌<◌, ◌⊎◌, Bool, true, List, [], ◌∷◌, ◌++◌, Option, Some, None}
use Rattle.jp_types.specs.declared.message.Message.{Message}
use Rattle.jp_types.specs.declared.mode.Phase.{Phase}
use Rattle.jp_types.specs.declared.mode.Phase.TheVariants.{Recovering}
use Rattle.jp_types.specs.declared.mode.Mode.{Mode}
use Rattle.jp_types.specs.declared.mode.Mode.TheVariants.{ViewSs}
use Rattle.kv_service.specs.Service.{State}
use Rattle.kv_service.specs.StateBytes.{state_bytes}
use Rattle.kv_service.specs.StateReading.{state_in}
use Rattle.paxos_world.specs.declared.step.Step.{Step}
use Rattle.jp_types.specs.Lists.{In}
use Rattle.paxos_world.specs.Setup.{Setup}
use Rattle.paxos_world.specs.Life.{LifeId, Taken, Life, Preparing, IsKnown, Took}
use Rattle.jp_types.specs.Instances.{Batch}
use Rattle.paxos_world.specs.World.{World, Sent, Ballot, id_of, Enter, HasLaunched, HasProposal, HasAccepted, stable_after, to_others}
use Rattle.kv_service.specs.Parts.{part_size}
use Rattle.paxos_world.specs.Trace.{IsRun, end_of}
use Rattle.paxos_world.specs.Stage.{Config, setup_of, Outgoing, Armed, Note, Snapshot, Stage, Act, Show, Send, Hand, Save, Turned}
use Rattle.kv_service.specs.Parts.{Joiner}
use Rattle.jp_types.specs.Views.{number_limit}
use Rattle.jp_types.specs.Instances.{span}
use Rattle.paxos_world.specs.Retransmitting.{live_at}
use Rattle.paxos_world.specs.CatchingUp.{place_of}
use Rattle.paxos_world.specs.Turn.{moves_of}
use Rattle.paxos_world.proofs.Sound.{WorldSound}
use Rattle.jp_types.specs.Limits.{IsBatch}
use Rattle.turn_laws.specs.Limits.{StatesRead}
use Rattle.turn_laws.specs.Nodes.{sent_by, handed_by, Onward}
use Rattle.turn_laws.proofs.Sane.{Sane, SaneRun}

-- each element of the one list is an element of the other
abbrev pub Within : {X : Type 0} → List X → List X → Type 0
Within {X} xs ys = (x : X) → In x xs → In x ys

-- a note is true: its instance is below the end, its batch was proposed, and its replica counts among those that accepted
abbrev pub NoteTrue : Setup → World → ℕ → Life → ℕ → Note → Type 0
NoteTrue c w r l end x =
    (x.instance < end) × ((batch : Batch) → x.batch ≡ Some batch → HasProposal l x.view x.instance batch) × HasAccepted c w r l x.view x.instance x.replica

-- a snapshot is the bytes of a state that the life's service had, or that the life installed; one that was installed reads as that state
abbrev pub SnapshotTrue : Life → Snapshot → Type 0
SnapshotTrue l n =
    (state : State) × (In state l.states ⊎ In state l.installed) × (state.executed ≡ n.place) × (n.bytes ≡ state_bytes state)
    × (n.installed ≡ true → In state l.installed × (state_in n.bytes ≡ Some state))

-- the offsets of parts rise
abbrev pub Rising : List (ℕ × List ℕ) → Type 0
Rising [] = Unit {0}
Rising (a ∷ more) = ((b : ℕ × List ℕ) → In b more → a.0 < b.0) × Rising more

-- the parts of a joiner were taken, each at an offset that is a multiple of the part size and below the total
abbrev pub JoinerTrue : Life → Joiner → Type 0
JoinerTrue l j =
    ((a : ℕ × List ℕ) → In a j.parts
    → ((p : ℕ) × Took l p (Message.SnapshotPart (record { upto = j.upto; total = j.total; at = a.0; bytes = a.1 }))) × (a.0 % part_size ≡ 0) × (a.0 < j.total))
    × Rising j.parts

-- the armed message is in this slot
abbrev pub IsArmedAt : Option Armed → ℕ → Type 0
IsArmedAt None k = ⊥
IsArmedAt (Some a) k = a.slot ≡ k

-- a message that slot k repeats is one that the life may send with no step. Where `clean` is false, a Prepare may also be of an earlier phase 1
abbrev pub MayRepeat : Life → Option Armed → Bool → ℕ → Message → Type 0
MayRepeat l armed clean k (Message.Prepare m) = IsArmedAt armed k × (clean ≡ true → (l.leading ≡ Preparing m.first) × (l.view ≡ m.view) × (l.mark ≡ m.mark))
MayRepeat l armed clean k (Message.Recovery m) = l.mark ≡ m.mark
MayRepeat l armed clean k (Message.Propose m) = HasLaunched l m.view m.instance m.batch
MayRepeat l armed clean k (Message.CatchUpQuery m) = Unit {0}
MayRepeat l armed clean k _ = ⊥

-- what a slot repeats goes to others
abbrev pub SlotTrue : ℕ → Life → Option Armed → Bool → ℕ → Outgoing → Type 0
SlotTrue r l armed clean k o = ((q : ℕ) → In q o.to → q ≢ r) × MayRepeat l armed clean k o.message

-- what a stage of replica r keeps true of its life, in this world
pub record Fits (c : Setup) (w : World) (r : ℕ) (clean : Bool) (s : Stage) : Type 0 where
  pub below : s.life.below ≤ s.base
  pub base_known : (i : ℕ) → i < s.base → IsKnown s.life i
  pub known_end : (i : ℕ) (batch : Batch) → s.life.known i ≡ Some batch → i < s.base + span
  pub voted_end : (i : ℕ) (vote : ℕ × Batch) → s.life.votes i ≡ Some vote → i < s.base + span
  pub noted : (x : Note) → In x s.noted → NoteTrue c w r s.life (s.base + span) x
  pub waiting : (batch : Batch) → In batch s.waiting → IsBatch batch
  pub base_place : s.base ≤ place_of s.newest
  pub place_known : (i : ℕ) → i < place_of s.newest → IsKnown s.life i
  pub newest : (n : Snapshot) → s.newest ≡ Some n → SnapshotTrue s.life n
  pub joiner : (j : Joiner) → s.joiner ≡ Some j → JoinerTrue s.life j
  pub slots : (k : ℕ) (o : Outgoing) → live_at s.slots k ≡ Some o → SlotTrue r s.life s.armed_prepare clean k o

-- the view or mark of a message is within the limit
abbrev pub IsLimited : Message → Type 0
IsLimited (Message.Prepare m) = m.view ≤ number_limit
IsLimited (Message.Propose m) = m.view ≤ number_limit
IsLimited (Message.Recovery m) = m.mark ≤ number_limit
IsLimited (Message.RecoveryAnswer m) = m.view ≤ number_limit
IsLimited (Message.Alive m) = m.view ≤ number_limit
IsLimited _ = Unit {0}

-- what is true of each world that a run comes to
pub record Good (c : Setup) (w : World) : Type 0 where
  pub sound : WorldSound c w
  pub lives : (q : ℕ) (l : Life) → (w.replicas q).running ≡ Some l → (l.view ≤ number_limit) × (l.mark ≤ number_limit)
  pub sent : (x : Sent) → In x w.sent → (x.from.replica ≢ x.to) × IsLimited x.message

-- the step, if it is an execution
abbrev pub executions : Step → List Step
executions (Step.Execute r i outcomes) = Step.Execute r i outcomes ∷ []
executions _ = []

-- the executions that acts show
abbrev pub shown_by : List Act → List Step
shown_by [] = []
shown_by (Show step ∷ acts) = executions step ++ shown_by acts
shown_by (Send to m ∷ acts) = shown_by acts
shown_by (Hand d ∷ acts) = shown_by acts
shown_by (Save k ∷ acts) = shown_by acts

-- the world's stable number is the one on the stage's disk; or, where the stage has saved a view before the step that enters it, becomes that one by entering the view
abbrev pub Ahead : Option ℕ → Mode → Option ℕ → ℕ → Type 0
Ahead None mode stable s = stable ≡ Some s
Ahead (Some view) mode stable s = stable_after mode stable (Enter view) ≡ Some s

-- where a turn began, and what only some of its steps change
pub record Frame : Type 0 where
  -- the world, the life and all that was sent, before the turn
  pub world : World
  pub life : Life
  pub sent : List Sent
  pub config : Config
  pub number : ℕ
  pub taken : List Taken
  pub phase : Phase
  pub clean : Bool
  pub ahead : Option ℕ

-- a vote of a life of r
abbrev pub ballot_of : ℕ → Life → ℕ → ℕ × Batch → Ballot
ballot_of r l i vote = record { life = id_of r l; view = vote.0; instance = i; batch = vote.1 }

-- the life whose turn it is
abbrev pub who_of : Frame → LifeId
who_of f = record { replica = f.config.me; number = f.number }

-- a lawful turn so far: its steps of the world are a run to a world in which its life runs and its stage fits. What the world's steps have sent and the acts have not yet sent is `owed`
pub record Goes (f : Frame) (owed : List Sent) (t : Turned) : Type 0 where
  pub config : t.stage.config ≡ f.config
  pub number : t.stage.life.number ≡ f.number
  pub taken : t.stage.life.taken ≡ f.taken
  pub phase : t.stage.life.phase ≡ f.phase
  pub me : t.stage.config.me < t.stage.config.n
  pub more : 2 ≤ t.stage.config.n
  pub world : World
  pub run : IsRun (setup_of t.stage.config) f.world (moves_of t.stage.config.me t.deeds)
  pub ends : end_of (setup_of t.stage.config) f.world (moves_of t.stage.config.me t.deeds) ≡ world
  pub good : Good (setup_of t.stage.config) world
  pub running : (world.replicas t.stage.config.me).running ≡ Some t.stage.life
  pub stable : Ahead f.ahead t.stage.config.mode (world.replicas t.stage.config.me).stable t.stage.stable
  pub fresh : f.ahead ≡ None → f.phase ≡ Recovering → t.stage.config.mode ≡ ViewSs → t.stage.stable ≡ t.stage.life.mark
  pub fits : Fits (setup_of t.stage.config) world t.stage.config.me f.clean t.stage
  -- the life's latest votes are among the world's
  pub cast : (i : ℕ) (vote : ℕ × Batch) → t.stage.life.votes i ≡ Some vote → In (ballot_of t.stage.config.me t.stage.life i vote) world.votes
  pub served : In t.stage.life.service t.stage.life.states
  pub reads : StatesRead
  pub sane : Sane world
  pub along : SaneRun (setup_of t.stage.config) f.world (moves_of t.stage.config.me t.deeds)
  pub sent : world.sent ≡ (f.sent ++ sent_by (who_of f) t.acts) ++ owed
  -- no decision was handed on yet, and no execution was shown
  pub handed : (handed_by t.acts ≡ []) × (shown_by t.acts ≡ [])
  pub onward : Onward f.life t.stage.life

-- a message to all others of a turn's replica
abbrev pub to_all : Frame → Message → List Sent
to_all f m = to_others f.config.n f.config.me (who_of f) m

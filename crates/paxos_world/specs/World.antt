-- The world: replicas, every vote and every message ever sent, and the steps that it may take.
use Rattle.std.specs.Prelude.{◌≡◌, ◌≢◌, ℕ, zero, suc, ◌+◌, ◌*◌, ◌%◌, ◌^◌, ◌≤◌, ◌<◌, max, Bool, true, List, [], ◌∷◌, ◌++◌, length, take, drop, slice_get, if◌then◌else◌, ◌==◌, Option, Some, None, ◌⊎◌}
use Rattle.std.specs.List.{flat_map}
use Rattle.jp_types.specs.declared.message.Message.{Message}
use Rattle.jp_types.specs.declared.message.Entry.{Entry}
use Rattle.jp_types.specs.declared.message.PrepareOk.{PrepareOk}
use Rattle.jp_types.specs.declared.message.RecoveryAnswer.{RecoveryAnswer}
use Rattle.jp_types.specs.declared.mode.Phase.TheVariants.{Recovering, Working}
use Rattle.jp_types.specs.declared.mode.Mode.{Mode}
use Rattle.jp_types.specs.declared.mode.Mode.TheVariants.{ViewSs, EpochSs}
use Rattle.kv_service.specs.Service.{State, execute}
use Rattle.jp_types.specs.Views.{leader}
use Rattle.jp_types.specs.Lists.{In}
use Rattle.paxos_world.specs.Setup.{Setup, IsQuorum, with_at}
use Rattle.paxos_world.specs.Life.{LifeId, Lead, Leading, No, Preparing, Leads, Life, IsKnown, IsFirstUnknown, Took, preparing_in, next_of, new_life}
use Rattle.jp_types.specs.Instances.{Batch}
use Rattle.jp_types.specs.Marks.{first_mark, view_at_return}
use Rattle.paxos_world.specs.Counting.{Held, entry_in, counted_ok, counted_answer, is_promised, is_answered}
use Rattle.jp_types.specs.Vectors.{table}
use Rattle.paxos_world.specs.Adoption.{IsReport, counted_report, adopted_by}
use Rattle.jp_types.specs.Reports.{decided_entry}
use Rattle.kv_service.specs.Parts.{part_size}

-- a replica: how often it started, its stable number, and the life that runs, if any
pub record Replica : Type 0 where
  pub starts : ℕ
  pub stable : Option ℕ
  pub running : Option Life

-- a vote that a life cast
pub record Ballot : Type 0 where
  pub life : LifeId
  pub view : ℕ
  pub instance : ℕ
  pub batch : Batch

-- a message that was sent
pub record Sent : Type 0 where
  pub from : LifeId
  pub to : ℕ
  pub message : Message

-- the world. Every vote ever cast and every message ever sent stays in it, the oldest first
pub record World : Type 0 where
  pub replicas : ℕ → Replica
  pub votes : List Ballot
  pub sent : List Sent

-- what a running life does
pub data Deed : Type 0 where
  -- takes a message
  Take : (from : LifeId) (message : Message) → Deed
  -- raises its view
  Enter : (view : ℕ) → Deed
  -- begins phase 1 in the view that it leads
  Open : (view first : ℕ) → Deed
  -- promises a view to the life of its leader that has this mark
  Promise : (view first mark low : ℕ) (report : List Entry) → Deed
  -- becomes Prepared, with `next` x
  Prepared : (view x : ℕ) → Deed
  -- proposes a batch
  Launch : (view instance : ℕ) (batch : Batch) → Deed
  -- votes on a batch
  Vote : (view instance : ℕ) (batch : Batch) → Deed
  -- learns the batch of an instance
  Learn : (instance : ℕ) (batch : Batch) → Deed
  -- answers a recovery
  Answer : (to view : ℕ) (next : Option ℕ) (mark : ℕ) → Deed
  -- rejoins: Working from now on, in this view
  Rejoin : (view : ℕ) → Deed
  -- installs a service state: all instances below its place are known from now on
  Install : (upto : ℕ) (state : State) → Deed
  -- its service executes the batch of an instance
  Execute : (instance : ℕ) → Deed
  -- its service goes on from a state that it installed
  Restore : (upto : ℕ) (state : State) → Deed
  -- sends one of the messages that need no step of their own
  Say : (to : ℕ) (message : Message) → Deed

-- a step of the world
pub data Move : Type 0 where
  -- a first start
  First : (replica : ℕ) → Move
  -- a later start
  Return : (replica mark : ℕ) → Move
  -- the running life ends
  Crash : (replica : ℕ) → Move
  -- the running life does something
  Act : (replica : ℕ) (deed : Deed) → Move

-- the identity of a life of r
abbrev pub id_of : ℕ → Life → LifeId
id_of r l = record { replica = r; number = l.number }

-- the life launched this batch
abbrev pub HasLaunched : Life → ℕ → ℕ → Batch → Type 0
HasLaunched l view i batch = In (record { view = view; instance = i; batch = batch }) l.launched

-- the life launched the batch, or took its Propose from a life of any replica
abbrev pub HasProposal : Life → ℕ → ℕ → Batch → Type 0
HasProposal l view i batch =
    HasLaunched l view i batch ⊎ ((p : ℕ) × Took l p (Message.Propose (record { view = view; instance = i; batch = batch })))

-- a message may be taken that was sent to r, any number of times
pub record CanTake (w : World) (r : ℕ) (from : LifeId) (message : Message) : Type 0 where
  pub sent : In (record { from = from; to = r; message = message }) w.sent

-- a Working life may raise its view
pub record CanEnter (l : Life) (view : ℕ) : Type 0 where
  pub working : l.phase ≡ Working
  pub above : l.view < view
  pub limit : view ≤ 2 ^ 48

-- the leader of its view may begin phase 1 in it, from its first unknown instance
pub record CanOpen (c : Setup) (r : ℕ) (l : Life) (view first : ℕ) : Type 0 where
  pub working : l.phase ≡ Working
  pub in_view : l.view ≡ view
  pub leads : leader c.n view ≡ r
  pub idle : l.leading ≡ No
  pub first_unknown : IsFirstUnknown l first

-- a Working life may promise its view to the life of the leader that asked with this first and mark
pub record CanPromise (c : Setup) (r : ℕ) (l : Life) (view first mark low : ℕ) (report : List Entry) : Type 0 where
  pub working : l.phase ≡ Working
  pub in_view : l.view ≡ view
  pub asked : Took l (leader c.n view) (Message.Prepare (record { view = view; first = first; mark = mark }))
  -- `low` is from `below` to the first unknown instance
  pub low_from : l.below ≤ low
  pub low_known : (i : ℕ) → i < low → IsKnown l i
  pub reported : IsReport l first low report

-- a life in phase 1 may become Prepared where a majority counts toward phase 1 (the leader, and the replicas whose held PrepareOk is counted), all below their lows is known, and x is above all that is reported
pub record CanPrepared (c : Setup) (r : ℕ) (l : Life) (view x : ℕ) : Type 0 where
  pub in_view : l.view ≡ view
  pub first : ℕ
  pub preparing : l.leading ≡ Preparing first
  pub quorum : IsQuorum c.n (is_promised c r l)
  -- each instance below the `low` of each counted PrepareOk is known
  pub lows : (p : ℕ) (h : Held PrepareOk) → p < c.n → counted_ok c r l p ≡ Some h → (i : ℕ) → i < h.body.low → IsKnown l i
  -- x is above each instance in a counted report,
  pub above_reports : (p : ℕ) (e : Entry) → p < c.n → In e (counted_report c r l p) → e.instance < x
  -- above each instance, from `first` on, that the life knows or voted on,
  pub above_known : (i : ℕ) → first ≤ i → IsKnown l i → i < x
  pub above_voted : (i : ℕ) (vote : ℕ × Batch) → first ≤ i → l.votes i ≡ Some vote → i < x
  -- and at least the first unknown instance
  pub unknown : ℕ
  pub first_unknown : IsFirstUnknown l unknown
  pub at_least : unknown ≤ x

-- what a Prepared leader may propose: below x, from the floor on, the adopted batch; from x on, any batch at `next`
abbrev pub MayLaunch : Lead → ℕ → Batch → Type 0
MayLaunch lead i batch = ((i < lead.x) × (lead.floor ≤ i) × (batch ≡ lead.adopted i)) ⊎ ((lead.x ≤ i) × (i ≡ lead.next))

-- a Prepared life may launch an instance once
pub record CanLaunch (l : Life) (view i : ℕ) (batch : Batch) : Type 0 where
  pub in_view : l.view ≡ view
  pub lead : Lead
  pub leads : l.leading ≡ Leads lead
  pub once : (other : Batch) → ¬ HasLaunched l view i other
  pub may : MayLaunch lead i batch

-- a Working life may vote on what its view's leader proposed
pub record CanVote (c : Setup) (l : Life) (view i : ℕ) (batch : Batch) : Type 0 where
  pub working : l.phase ≡ Working
  pub in_view : l.view ≡ view
  -- the life launched the batch, or took its Propose from the view's leader
  pub proposal : HasLaunched l view i batch ⊎ Took l (leader c.n view) (Message.Propose (record { view = view; instance = i; batch = batch }))

-- p counts among those that accepted i in this view: its leader, whoever sent an Accept that was taken, and the life's own replica if it voted there
abbrev pub HasAccepted : Setup → World → ℕ → Life → ℕ → ℕ → ℕ → Type 0
HasAccepted c w r l view i p =
    (p ≡ leader c.n view) ⊎ (Took l p (Message.Accept (record { view = view; instance = i }))
    ⊎ ((p ≡ r) × ((batch : Batch) × In (record { life = id_of r l; view = view; instance = i; batch = batch }) w.votes)))

-- the ways to learn a batch: by votes, by a decided entry of a counted PrepareOk at Prepared, by a CatchUpReply
pub data MayLearn (c : Setup) (w : World) (r : ℕ) (l : Life) (i : ℕ) (batch : Batch) : Type 0 where
  By_votes : (view : ℕ) (members : ℕ → Bool) → HasProposal l view i batch → IsQuorum c.n members
      → ((p : ℕ) → p < c.n → members p ≡ true → HasAccepted c w r l view i p) → MayLearn c w r l i batch
  By_report : (lead : Lead) (p : ℕ) → l.leading ≡ Leads lead → p < c.n → In (decided_entry i batch) (lead.reports p) → MayLearn c w r l i batch
  By_catch_up : (p first at : ℕ) (batches : List Batch) → Took l p (Message.CatchUpReply (record { first = first; batches = batches }))
      → i ≡ first + at → slice_get batches at ≡ Some batch → MayLearn c w r l i batch

-- a Working life may answer a recovery, with `next` exactly where it is Prepared
pub record CanAnswer (c : Setup) (r : ℕ) (l : Life) (to view : ℕ) (next : Option ℕ) (mark : ℕ) : Type 0 where
  pub working : l.phase ≡ Working
  pub in_view : l.view ≡ view
  pub asked : Took l to (Message.Recovery (record { mark = mark }))
  pub at_least : c.mode ≡ ViewSs → mark ≤ view
  pub next_is : next ≡ next_of l.leading

-- a Recovering life may rejoin where the answers of a majority are counted, none of them its own: in the highest view of these, where that view's leader answered as Prepared in it and all below that answer's `next` is known
pub record CanRejoin (c : Setup) (r : ℕ) (l : Life) (view : ℕ) : Type 0 where
  pub recovering : l.phase ≡ Recovering
  pub quorum : IsQuorum c.n (is_answered c r l)
  -- the view is the highest of the counted answers,
  pub highest : (p : ℕ) (h : Held RecoveryAnswer) → p < c.n → counted_answer c r l p ≡ Some h → h.body.view ≤ view
  -- its leader's answer is counted, is at that view and has `next`,
  pub leader_answer : Held RecoveryAnswer
  pub leader_counted : counted_answer c r l (leader c.n view) ≡ Some leader_answer
  pub leader_view : leader_answer.body.view ≡ view
  pub next : ℕ
  pub leader_next : leader_answer.body.next ≡ Some next
  -- and each instance below that is known
  pub known : (i : ℕ) → i < next → IsKnown l i

-- a SnapshotPart that is a part of these bytes: it has their length as `total`, and those from `at` on, which is a multiple of the part size
pub record IsPart (bytes : List ℕ) (upto total at : ℕ) (part : List ℕ) : Type 0 where
  pub total_is : total ≡ length bytes
  pub within : at < total
  pub at_cut : at % part_size ≡ 0
  pub part_is : part ≡ take part_size (drop at bytes)

-- a life may install a state whose bytes it took in parts, above its first unknown instance
pub record CanInstall (c : Setup) (l : Life) (upto : ℕ) (state : State) : Type 0 where
  pub place : state.executed ≡ upto
  pub unknown : ℕ
  pub first_unknown : IsFirstUnknown l unknown
  pub above : unknown < upto
  -- parts of one total that were taken, each behind the one before it and the last at the end, which join to the state's bytes
  pub total : ℕ
  pub parts : List (List ℕ)
  pub all : total ≤ part_size * length parts
  pub joined : flat_map (λ part. part) parts ≡ c.encode state
  pub taken : (k : ℕ) (part : List ℕ) → slice_get parts k ≡ Some part
      → (p : ℕ) × Took l p (Message.SnapshotPart (record { upto = upto; total = total; at = part_size * k; bytes = part }))

-- a life may execute the known batch at its executed number
pub record CanExecute (l : Life) (i : ℕ) : Type 0 where
  pub place : i ≡ l.service.executed
  pub batch : Batch
  pub known : l.known i ≡ Some batch

-- a life may restore a state that it installed, above its executed number
pub record CanRestore (l : Life) (upto : ℕ) (state : State) : Type 0 where
  pub place : state.executed ≡ upto
  pub above : l.service.executed < upto
  pub installed : In state l.installed

-- a message that a life of r may send with no step of its own
abbrev pub MaySay : Setup → ℕ → Life → Message → Type 0
-- Prepare by the life that prepares that view, with its first and mark
MaySay c r l (Message.Prepare m) = (l.leading ≡ Preparing m.first) × (l.view ≡ m.view) × (l.mark ≡ m.mark)
-- Recovery by the life with that mark
MaySay c r l (Message.Recovery m) = l.mark ≡ m.mark
-- Propose by the life that launched it
MaySay c r l (Message.Propose m) = HasLaunched l m.view m.instance m.batch
-- CatchUpReply with known batches
MaySay c r l (Message.CatchUpReply m) = (at : ℕ) (batch : Batch) → slice_get m.batches at ≡ Some batch → l.known (m.first + at) ≡ Some batch
-- SnapshotPart with a part of the bytes of a service's state that the life had, or installed
MaySay c r l (Message.SnapshotPart m) =
    (state : State) × (In state l.states ⊎ In state l.installed) × (state.executed ≡ m.upto) × IsPart (c.encode state) m.upto m.total m.at m.bytes
-- Alive by the leader in that view
MaySay c r l (Message.Alive m) = (l.phase ≡ Working) × (l.view ≡ m.view) × (leader c.n l.view ≡ r)
-- CatchUpQuery freely
MaySay c r l (Message.CatchUpQuery m) = Unit {0}
-- the others only by steps
MaySay c r l (Message.PrepareOk m) = ⊥
MaySay c r l (Message.Accept m) = ⊥
MaySay c r l (Message.RecoveryAnswer m) = ⊥

-- the condition of what a life of r does
abbrev pub Can : Setup → World → ℕ → Life → Deed → Type 0
Can c w r l (Take from message) = CanTake w r from message
Can c w r l (Enter view) = CanEnter l view
Can c w r l (Open view first) = CanOpen c r l view first
Can c w r l (Promise view first mark low report) = CanPromise c r l view first mark low report
Can c w r l (Prepared view x) = CanPrepared c r l view x
Can c w r l (Launch view i batch) = CanLaunch l view i batch
Can c w r l (Vote view i batch) = CanVote c l view i batch
Can c w r l (Learn i batch) = MayLearn c w r l i batch
Can c w r l (Answer to view next mark) = CanAnswer c r l to view next mark
Can c w r l (Rejoin view) = CanRejoin c r l view
Can c w r l (Install upto state) = CanInstall c l upto state
Can c w r l (Execute i) = CanExecute l i
Can c w r l (Restore upto state) = CanRestore l upto state
Can c w r l (Say to message) = (to ≢ r) × MaySay c r l message

-- the stable number and mark of a later start: in ViewSS the least view above s that r does not lead, in EpochSS s + 1
abbrev pub IsNextMark : Mode → ℕ → ℕ → ℕ → ℕ → Type 0
IsNextMark ViewSs n r s mark = (s < mark) × (leader n mark ≢ r) × ((v : ℕ) → s < v → v < mark → leader n v ≡ r)
IsNextMark EpochSs n r s mark = mark ≡ s + 1

-- a replica that is down and has no stable number may start
pub record CanFirst (c : Setup) (a : Replica) : Type 0 where
  pub down : a.running ≡ None
  pub fresh : a.stable ≡ None

-- a replica that is down may start again, with the next mark
pub record CanReturn (c : Setup) (r : ℕ) (a : Replica) (mark : ℕ) : Type 0 where
  pub down : a.running ≡ None
  pub number : ℕ
  pub stable : a.stable ≡ Some number
  pub next : IsNextMark c.mode c.n r number mark
  pub limit : mark ≤ 2 ^ 48

-- a replica that runs may crash
pub record CanCrash (a : Replica) : Type 0 where
  pub life : Life
  pub running : a.running ≡ Some life

-- a running life of r can do this
pub record CanAct (c : Setup) (w : World) (r : ℕ) (deed : Deed) : Type 0 where
  pub life : Life
  pub running : (w.replicas r).running ≡ Some life
  pub can : Can c w r life deed

-- the replica whose step it is
abbrev pub who : Move → ℕ
who (First r) = r
who (Return r mark) = r
who (Crash r) = r
who (Act r deed) = r

-- the condition of a step
abbrev pub Meets : Setup → World → Move → Type 0
Meets c w (First r) = CanFirst c (w.replicas r)
Meets c w (Return r mark) = CanReturn c r (w.replicas r) mark
Meets c w (Crash r) = CanCrash (w.replicas r)
Meets c w (Act r deed) = CanAct c w r deed

-- a step of a replica below n that meets its condition
pub record Allowed (c : Setup) (w : World) (m : Move) : Type 0 where
  pub within : who m < c.n
  pub meets : Meets c w m

-- what a Prepared step with `next` x fixes
abbrev pub lead_of : Setup → ℕ → Life → ℕ → Lead
lead_of c r l x =
    record { x = x; floor = l.below; adopted = adopted_by c.n (counted_report c r l) l; reports = counted_report c r l; next = x }

-- `next` rises by 1 where that instance was proposed
abbrev pub lead_after : Leading → ℕ → Leading
lead_after No i = No
lead_after (Preparing first) i = Preparing first
lead_after (Leads lead) i = Leads (record lead { next = if i == lead.next then suc i else lead.next })

-- the service's state after the known batch, if there is one
abbrev pub executed_with : State → Option Batch → State
executed_with s None = s
executed_with s (Some batch) = execute s batch

-- the life after what it did
abbrev pub life_after : Setup → ℕ → Life → Deed → Life
life_after c r l (Take from message) =
    record l { taken = record { from = from; message = message; phase = l.phase; preparing = preparing_in l.leading l.view } ∷ l.taken }
life_after c r l (Enter view) = record l { view = view; leading = No }
life_after c r l (Open view first) = record l { leading = Preparing first }
life_after c r l (Promise view first mark low report) = l
life_after c r l (Prepared view x) = record l { leading = Leads (lead_of c r l x) }
life_after c r l (Launch view i batch) =
    record l {
      leading = lead_after l.leading i;
      launched = record { view = view; instance = i; batch = batch } ∷ l.launched;
      votes = with_at l.votes i (Some (view, batch));
    }
life_after c r l (Vote view i batch) = record l { votes = with_at l.votes i (Some (view, batch)) }
life_after c r l (Learn i batch) = record l { known = with_at l.known i (Some batch) }
life_after c r l (Answer to view next mark) = record l { answered = (to, mark) ∷ l.answered }
life_after c r l (Rejoin view) = record l { phase = Working; view = view }
life_after c r l (Install upto state) = record l { below = upto; installed = state ∷ l.installed }
life_after c r l (Execute i) = let s = executed_with l.service (l.known i) in record l { service = s; states = s ∷ l.states }
life_after c r l (Restore upto state) = record l { service = state; states = state ∷ l.states }
life_after c r l (Say to message) = l

-- the greater of the stable number and a view
abbrev pub raised : Option ℕ → ℕ → Option ℕ
raised None view = Some view
raised (Some s) view = Some (max s view)

-- the stable number after what a life did: in ViewSS it is at least each view that was entered or rejoined with
abbrev pub stable_after : Mode → Option ℕ → Deed → Option ℕ
stable_after ViewSs s (Enter view) = raised s view
stable_after ViewSs s (Rejoin view) = raised s view
stable_after ViewSs s _ = s
stable_after EpochSs s _ = s

-- f of the life that runs, and nothing where none runs
abbrev pub of_running : {X : Type 0} → Option Life → (Life → List X) → List X
of_running None f = []
of_running (Some l) f = f l

-- the replica after its running life, if there is one, did this
abbrev pub act : Setup → ℕ → Replica → Deed → Option Life → Replica
act c r a deed None = a
act c r a deed (Some l) = record { starts = a.starts; stable = stable_after c.mode a.stable deed; running = Some (life_after c r l deed) }

-- the replica after the step
abbrev pub replica_after : Setup → Replica → Move → Replica
replica_after c a (First r) =
    record { starts = suc a.starts; stable = Some (first_mark c.mode); running = Some (new_life (suc a.starts) (first_mark c.mode) Working 0) }
replica_after c a (Return r mark) =
    record { starts = suc a.starts; stable = Some mark; running = Some (new_life (suc a.starts) mark Recovering (view_at_return c.mode mark)) }
replica_after c a (Crash r) = record { starts = a.starts; stable = a.stable; running = None }
replica_after c a (Act r deed) = act c r a deed a.running

-- the votes that a life casts by what it does: a leader's vote goes with its Launch
abbrev pub ballots_of : ℕ → Life → Deed → List Ballot
ballots_of r l (Launch view i batch) = record { life = id_of r l; view = view; instance = i; batch = batch } ∷ []
ballots_of r l (Vote view i batch) = record { life = id_of r l; view = view; instance = i; batch = batch } ∷ []
ballots_of r l _ = []

-- the votes that a step adds
abbrev pub ballots : World → Move → List Ballot
ballots w (Act r deed) = of_running (w.replicas r).running (λ l. ballots_of r l deed)
ballots w _ = []

-- a message to each replica below k but r, ascending
abbrev pub to_others : ℕ → ℕ → LifeId → Message → List Sent
to_others zero r from message = []
to_others (suc k) r from message = to_others k r from message ++ (if k == r then [] else record { from = from; to = k; message = message } ∷ [])

-- what a life sends by what it does
abbrev pub sends_of : Setup → ℕ → Life → Deed → List Sent
sends_of c r l (Promise view first mark low report) =
    record {
      from = id_of r l;
      to = leader c.n view;
      message = Message.PrepareOk (record { view = view; mark = mark; vector = table (entry_in c.mode r l); low = low; report = report });
    } ∷ []
sends_of c r l (Launch view i batch) = to_others c.n r (id_of r l) (Message.Propose (record { view = view; instance = i; batch = batch }))
sends_of c r l (Vote view i batch) =
    if r == leader c.n view then [] else to_others c.n r (id_of r l) (Message.Accept (record { view = view; instance = i }))
sends_of c r l (Answer to view next mark) =
    record {
      from = id_of r l;
      to = to;
      message = Message.RecoveryAnswer (record { mark = mark; view = view; vector = table (entry_in c.mode r (life_after c r l (Answer to view next mark))); next = next });
    } ∷ []
sends_of c r l (Say to message) = record { from = id_of r l; to = to; message = message } ∷ []
sends_of c r l _ = []

-- the messages that a step adds
abbrev pub sends : Setup → World → Move → List Sent
sends c w (Act r deed) = of_running (w.replicas r).running (λ l. sends_of c r l deed)
sends c w _ = []

-- the world after the step
abbrev pub after : Setup → World → Move → World
after c w m =
    record {
      replicas = with_at w.replicas (who m) (replica_after c (w.replicas (who m)) m);
      votes = w.votes ++ ballots w m;
      sent = w.sent ++ sends c w m;
    }

-- a replica before its first start
abbrev pub fresh : Replica
fresh = record { starts = 0; stable = None; running = None }

-- the opening: no life, no stable number, nothing sent
abbrev pub opening : World
opening = record { replicas = λ r. fresh; votes = []; sent = [] }

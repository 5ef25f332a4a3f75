-- A test of the conditions of the world's steps that computes, for the examples. It looks only at the instances below a bound.
use Rattle.std.specs.Prelude.{ℕ, zero, suc, ◌+◌, ◌-◌, ◌*◌, ◌/◌, ◌%◌, ◌^◌, max, Bool, true, false, ◌&&◌, ◌||◌, not, List, [], ◌∷◌, ◌++◌, length, take, drop, flat_map, bytes_eq, nat_le, nat_lt, ◌==◌, if◌then◌else◌, Option, Some, None, is_some, is_none, slice_get, Result, Ok, Err}
use Rattle.std.specs.List.{list_any, list_all}
use Rattle.jp_types.specs.declared.message.Entry.{Entry}
use Rattle.jp_types.specs.declared.message.Message.{Message}
use Rattle.jp_types.specs.declared.message.PrepareOk.{PrepareOk}
use Rattle.jp_types.specs.declared.message.RecoveryAnswer.{RecoveryAnswer}
use Rattle.jp_types.specs.declared.mode.Mode.{Mode}
use Rattle.jp_types.specs.declared.mode.Mode.TheVariants.{ViewSs, EpochSs}
use Rattle.kv_service.specs.Service.{State}
use Rattle.kv_service.specs.StateBytes.{state_bytes}
use Rattle.jp_types.specs.Views.{majority, leader, count_below}
use Rattle.paxos_world.specs.Setup.{Setup}
use Rattle.paxos_world.specs.Life.{LifeId, Leading, No, Preparing, Leads, Life, next_of}
use Rattle.jp_types.specs.Instances.{Batch}
use Rattle.paxos_world.specs.Counting.{Held, is_recovering, counted_ok, counted_answer, is_promised, is_answered}
use Rattle.paxos_world.specs.Adoption.{counted_report}
use Rattle.paxos_world.specs.World.{World, Deed, Take, Enter, Open, Promise, Prepared, Launch, Vote, Learn, Answer, Rejoin, Install, Execute, Restore, Say, Move, First, Return, Crash, Act, after, opening}
use Rattle.kv_service.specs.Parts.{part_size}
use Rattle.jp_types.specs.Reports.{entry_by}
use Rattle.schedules.specs.declared.schedule.Schedule.{Schedule}
use Rattle.text_lines.specs.Lines.{Bad}
use Rattle.schedules.specs.Run.{moves_of_run}
use Rattle.worked_schedules.proofs.Codes.{entry_code, same_message, same_batch, same_life, same_next}
use Rattle.worked_schedules.proofs.Worlds.{setup_of_run}

-- the bound: the examples reach no instance from here on
abbrev bound : ℕ
bound = 80

-- ---- Parts of the conditions

-- whether the test passes for each number below k
abbrev all_below : ℕ → (ℕ → Bool) → Bool
all_below zero test = true
all_below (suc k) test = test k && all_below k test

abbrev known : Life → ℕ → Bool
known l i = nat_lt i l.below || is_some (l.known i)

abbrev is_first_unknown : Life → ℕ → Bool
is_first_unknown l f = all_below f (known l) && not (known l f)

-- the first of the k instances from i on that is not known, or i + k where each is known
abbrev unknown_from : ℕ → Life → ℕ → ℕ
unknown_from zero l i = i
unknown_from (suc k) l i = let later = unknown_from k l (suc i) in if known l i then later else i

abbrev unknown : Life → ℕ
unknown l = unknown_from bound l 0

abbrev took : Life → ℕ → Message → Bool
took l p message = list_any (λ t. (t.from.replica == p) && same_message t.message message) l.taken

abbrev working : Life → Bool
working l = not (is_recovering l.phase)

abbrev has_launched : Life → ℕ → ℕ → Batch → Bool
has_launched l view i batch = list_any (λ x. (x.view == view) && (x.instance == i) && same_batch x.batch batch) l.launched

abbrev launched_any : Life → ℕ → ℕ → Bool
launched_any l view i = list_any (λ x. (x.view == view) && (x.instance == i)) l.launched

abbrev propose : ℕ → ℕ → Batch → Message
propose view i batch = Message.Propose (record { view = view; instance = i; batch = batch })

-- the views in which an instance was proposed to the life, or launched by it, with this batch
abbrev proposed_in : ℕ → Batch → Message → List ℕ
proposed_in i batch (Message.Propose m) = if (m.instance == i) && same_batch m.batch batch then m.view ∷ [] else []
proposed_in i batch _ = []

abbrev proposal_views : Life → ℕ → Batch → List ℕ
proposal_views l i batch =
    flat_map (λ t. proposed_in i batch t.message) l.taken
    ++ flat_map (λ x. if (x.instance == i) && same_batch x.batch batch then x.view ∷ [] else []) l.launched

abbrev voted : World → LifeId → ℕ → ℕ → Bool
voted w life view i = list_any (λ b. same_life b.life life && (b.view == view) && (b.instance == i)) w.votes

abbrev accepted : Setup → World → ℕ → Life → ℕ → ℕ → ℕ → Bool
accepted c w r l view i p =
    (p == leader c.n view) || took l p (Message.Accept (record { view = view; instance = i })) || ((p == r) && voted w (record { replica = r; number = l.number }) view i)

abbrev by_votes : Setup → World → ℕ → Life → ℕ → Batch → Bool
by_votes c w r l i batch = list_any (λ view. nat_le (majority c.n) (count_below c.n (accepted c w r l view i))) (proposal_views l i batch)

abbrev decided_here : ℕ → Batch → Entry → Bool
decided_here i batch e = (e.instance == i) && is_none e.vote && same_batch e.batch batch

abbrev by_report : Setup → Leading → ℕ → Batch → Bool
by_report c (Leads lead) i batch = not (nat_eq_zero (count_below c.n (λ p. list_any (decided_here i batch) (lead.reports p))))
  where
    nat_eq_zero : ℕ → Bool
    nat_eq_zero zero = true
    nat_eq_zero (suc k) = false
by_report c No i batch = false
by_report c (Preparing first) i batch = false

abbrev batch_is : Batch → Option Batch → Bool
batch_is batch None = false
batch_is batch (Some b) = same_batch b batch

abbrev in_reply : ℕ → Batch → Message → Bool
in_reply i batch (Message.CatchUpReply m) = nat_le m.first i && batch_is batch (slice_get m.batches (i - m.first))
in_reply i batch _ = false

abbrev reports_same : List Entry → List Entry → Bool
reports_same a b = bytes_eq (flat_map entry_code a) (flat_map entry_code b)

-- what a report from `first` with `low` must be
abbrev expected_from : ℕ → Life → ℕ → List Entry
expected_from zero l i = []
expected_from (suc k) l i = entry_by i (l.known i) (l.votes i) ++ expected_from k l (suc i)

abbrev is_report : Life → ℕ → ℕ → List Entry → Bool
is_report l first low report = reports_same report (expected_from bound l (max first low))

abbrev is_preparing : Leading → Bool
is_preparing (Preparing first) = true
is_preparing No = false
is_preparing (Leads lead) = false

abbrev first_of : Leading → ℕ
first_of (Preparing first) = first
first_of No = 0
first_of (Leads lead) = 0

abbrev low_known : Life → Option (Held PrepareOk) → Bool
low_known l None = true
low_known l (Some h) = all_below h.body.low (known l)

abbrev may_launch : Leading → ℕ → Batch → Bool
may_launch (Leads lead) i batch =
    (nat_lt i lead.x && nat_le lead.floor i && same_batch batch (lead.adopted i)) || (nat_le lead.x i && (i == lead.next))
may_launch No i batch = false
may_launch (Preparing first) i batch = false

abbrev view_at_most : ℕ → Option (Held RecoveryAnswer) → Bool
view_at_most view None = true
view_at_most view (Some h) = nat_le h.body.view view

abbrev ready : Life → ℕ → Option (Held RecoveryAnswer) → Bool
ready l view None = false
ready l view (Some h) = (h.body.view == view) && by h.body.next
  where
    by : Option ℕ → Bool
    by None = false
    by (Some next) = all_below next (known l)

abbrev same_state : State → State → Bool
same_state a b = bytes_eq (state_bytes a) (state_bytes b)

abbrev part_taken : Life → ℕ → List ℕ → ℕ → Bool
part_taken l upto bytes k =
    list_any (λ t. same_message t.message (Message.SnapshotPart (record { upto = upto; total = length bytes; at = part_size * k; bytes = take part_size (drop (part_size * k) bytes) }))) l.taken

abbrev part_of : State → ℕ → ℕ → ℕ → List ℕ → Bool
part_of s upto total at part =
    let bytes = state_bytes s in
    (s.executed == upto) && (total == length bytes) && nat_lt at total && (at % part_size == 0) && bytes_eq part (take part_size (drop at bytes))

abbrev reply_known : Life → ℕ → List Batch → Bool
reply_known l i [] = true
reply_known l i (batch ∷ batches) = batch_is batch (l.known i) && reply_known l (suc i) batches

abbrev may_say : Setup → ℕ → Life → Message → Bool
may_say c r l (Message.Prepare m) = is_preparing l.leading && (first_of l.leading == m.first) && (l.view == m.view) && (l.mark == m.mark)
may_say c r l (Message.Recovery m) = l.mark == m.mark
may_say c r l (Message.Propose m) = has_launched l m.view m.instance m.batch
may_say c r l (Message.CatchUpReply m) = reply_known l m.first m.batches
may_say c r l (Message.SnapshotPart m) = list_any (λ s. part_of s m.upto m.total m.at m.bytes) (l.states ++ l.installed)
may_say c r l (Message.Alive m) = working l && (l.view == m.view) && (leader c.n l.view == r)
may_say c r l (Message.CatchUpQuery m) = true
may_say c r l (Message.PrepareOk m) = false
may_say c r l (Message.Accept m) = false
may_say c r l (Message.RecoveryAnswer m) = false

abbrev view_covers : Mode → ℕ → ℕ → Bool
view_covers ViewSs mark view = nat_le mark view
view_covers EpochSs mark view = true

-- ---- The conditions

abbrev can : Setup → World → ℕ → Life → Deed → Bool
can c w r l (Take from message) = list_any (λ s. same_life s.from from && (s.to == r) && same_message s.message message) w.sent
can c w r l (Enter view) = working l && nat_lt l.view view && nat_le view (2 ^ 48)
can c w r l (Open view first) = working l && (l.view == view) && (leader c.n view == r) && not (is_preparing l.leading || is_some (next_of l.leading)) && is_first_unknown l first
can c w r l (Promise view first mark low report) =
    working l && (l.view == view) && took l (leader c.n view) (Message.Prepare (record { view = view; first = first; mark = mark }))
    && nat_le l.below low && all_below low (known l) && is_report l first low report
can c w r l (Prepared view x) =
    let first = first_of l.leading in
    (l.view == view) && is_preparing l.leading && nat_le (majority c.n) (count_below c.n (is_promised c r l))
    && all_below c.n (λ p. low_known l (counted_ok c r l p))
    && all_below c.n (λ p. list_all (λ e. nat_lt e.instance x) (counted_report c r l p))
    && all_below bound (λ i. nat_lt i first || nat_lt i x || not (known l i || is_some (l.votes i)))
    && nat_le (unknown l) x
can c w r l (Launch view i batch) = (l.view == view) && not (launched_any l view i) && may_launch l.leading i batch
can c w r l (Vote view i batch) = working l && (l.view == view) && (has_launched l view i batch || took l (leader c.n view) (propose view i batch))
can c w r l (Learn i batch) = by_votes c w r l i batch || by_report c l.leading i batch || list_any (λ t. in_reply i batch t.message) l.taken
can c w r l (Answer to view next mark) =
    working l && (l.view == view) && took l to (Message.Recovery (record { mark = mark })) && view_covers c.mode mark view && same_next next (next_of l.leading)
can c w r l (Rejoin view) =
    is_recovering l.phase && nat_le (majority c.n) (count_below c.n (is_answered c r l))
    && all_below c.n (λ p. view_at_most view (counted_answer c r l p)) && ready l view (counted_answer c r l (leader c.n view))
can c w r l (Install upto state) =
    (state.executed == upto) && nat_lt (unknown l) upto
    && (let bytes = state_bytes state in all_below ((length bytes + (part_size - 1)) / part_size) (part_taken l upto bytes))
can c w r l (Execute i) = (i == l.service.executed) && is_some (l.known i)
can c w r l (Restore upto state) = (state.executed == upto) && nat_lt l.service.executed upto && list_any (same_state state) l.installed
can c w r l (Say to message) = not (to == r) && may_say c r l message

-- the mark of a later start
abbrev next_mark : Mode → ℕ → ℕ → ℕ → ℕ
next_mark ViewSs n r s = if leader n (s + 1) == r then s + 2 else s + 1
next_mark EpochSs n r s = s + 1

abbrev running_can : Setup → World → ℕ → Option Life → Deed → Bool
running_can c w r None deed = false
running_can c w r (Some l) deed = can c w r l deed

-- whether a replica with this stable number may start again with this mark
abbrev returns : Setup → ℕ → Option ℕ → ℕ → Bool
returns c r None mark = false
returns c r (Some s) mark = (mark == next_mark c.mode c.n r s) && nat_le mark (2 ^ 48)

-- whether a step is allowed
abbrev pub allowed : Setup → World → Move → Bool
allowed c w (First r) = nat_lt r c.n && is_none (w.replicas r).running && is_none (w.replicas r).stable
allowed c w (Return r mark) = nat_lt r c.n && is_none (w.replicas r).running && returns c r (w.replicas r).stable mark
allowed c w (Crash r) = nat_lt r c.n && is_some (w.replicas r).running
allowed c w (Act r deed) = nat_lt r c.n && running_can c w r (w.replicas r).running deed

-- how many of these steps are allowed in a row, up to the first that is not
abbrev pub allowed_count : Setup → World → List Move → ℕ
allowed_count c w [] = 0
allowed_count c w (m ∷ moves) = let rest = allowed_count c (after c w m) moves in if allowed c w m then suc rest else 0

-- the steps of a run, and how many of them are allowed
abbrev pub moves_of : Result Schedule Bad → List Move
moves_of (Ok s) = flat_map (λ moves. moves) (moves_of_run s)
moves_of (Err bad) = []

abbrev pub allowed_moves : Result Schedule Bad → ℕ
allowed_moves (Ok s) = allowed_count (setup_of_run s) opening (moves_of (Ok s))
allowed_moves (Err bad) = 0

-- whether the run has steps and all are allowed
abbrev pub all_allowed : Result Schedule Bad → Bool
all_allowed s = let n = length (moves_of s) in nat_lt 0 n && (allowed_moves s == n)

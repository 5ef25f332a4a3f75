-- Settling, at the end of each turn: rejoining, becoming Prepared, proposing what waits, and handing on.
use Rattle.std.specs.Prelude.{ℕ, zero, suc, ◌+◌, ◌-◌, max, Bool, false, ◌&&◌, ◌||◌, not, List, [], ◌∷◌, nat_le, nat_lt, ◌==◌, if◌then◌else◌, Option, Some, None, is_some}
use Rattle.std.specs.Option.{option_map}
use Rattle.jp_types.specs.declared.message.RecoveryAnswer.{RecoveryAnswer}
use Rattle.jp_types.specs.declared.message.PrepareOk.{PrepareOk}
use Rattle.kv_service.specs.StateReading.{state_in}
use Rattle.paxos_world.specs.declared.step.Step.{Step}
use Rattle.jp_types.specs.Views.{majority, leader, count_below, number_if}
use Rattle.paxos_world.specs.Life.{Lead, Leading, No, Preparing, Leads, Life}
use Rattle.jp_types.specs.Instances.{Batch}
use Rattle.paxos_world.specs.Counting.{Held, is_recovering, counted_ok, counted_answer, is_promised, is_answered}
use Rattle.paxos_world.specs.Adoption.{counted_report}
use Rattle.jp_types.specs.Reports.{decided_below}
use Rattle.paxos_world.specs.World.{Deed}
use Rattle.paxos_world.specs.Stage.{setup_of, Snapshot, Stage, Decision, Decided, Installed, Turned}
use Rattle.paxos_world.specs.Writing.{◌▹◌, when, when_some, for_range, with_stage, shows, saves, hands}
use Rattle.paxos_world.specs.Logs.{span_end, is_known, first_undecided}
use Rattle.jp_types.specs.Instances.{span}
use Rattle.jp_types.specs.Reports.{report_end}
use Rattle.paxos_world.specs.Retransmitting.{cancels_prepare, cancels_recovery}
use Rattle.paxos_world.specs.Leading.{is_view_ss}
use Rattle.paxos_world.specs.Learning.{learns, launches}

-- 1. Rejoining

-- the counted answer of p
abbrev pub answer_from : Stage → ℕ → Option (Held RecoveryAnswer)
answer_from s p = counted_answer (setup_of s.config) s.config.me s.life p

-- the view of an answer, and 0 where there is none
abbrev pub view_of_answer : Option (Held RecoveryAnswer) → ℕ
view_of_answer None = 0
view_of_answer (Some h) = h.body.view

-- the highest view of the counted answers of the replicas below k
abbrev pub highest_answered : ℕ → Stage → ℕ
highest_answered zero s = 0
highest_answered (suc k) s = max (highest_answered k s) (view_of_answer (answer_from s k))

-- whether there is a `next`, and it is at most the first undecided instance
abbrev pub is_next_known : Option ℕ → ℕ → Bool
is_next_known None undecided = false
is_next_known (Some next) undecided = nat_le next undecided

-- whether the answer of a view's leader is counted, is at that view and has a `next` below which all instances are known
abbrev pub is_leader_ready : Option (Held RecoveryAnswer) → ℕ → ℕ → Bool
is_leader_ready None view undecided = false
is_leader_ready (Some h) view undecided = (h.body.view == view) && is_next_known h.body.next undecided

-- whether a majority of other replicas' answers is counted
abbrev pub is_answered_enough : Stage → Bool
is_answered_enough s = nat_le (majority s.config.n) (count_below s.config.n (is_answered (setup_of s.config) s.config.me s.life))

-- the view to rejoin with, where the condition holds
abbrev pub rejoin_view : Stage → Option ℕ
rejoin_view s =
    let view = highest_answered s.config.n s in
    number_if (is_recovering s.life.phase && is_answered_enough s && is_leader_ready (answer_from s (leader s.config.n view)) view (first_undecided s)) view

-- the life rejoins in this view. In ViewSS a view above the mark is saved first
abbrev pub rejoins : ℕ → Turned → Turned
rejoins view t =
    let s = t.stage in
    t ▹ when (is_view_ss s.config.mode && nat_lt s.life.mark view) (saves view)
    ▹ with_stage (λ s. record s { quiet = 0 })
    ▹ cancels_recovery
    ▹ shows (Step.Rejoin s.config.me view) (Deed.Rejoin view)

-- the stage rejoins, where the condition holds
abbrev pub settles_rejoin : Turned → Turned
settles_rejoin t = when_some (rejoin_view t.stage) rejoins t

-- 2. Prepared

-- among the k instances from `base` on, one more than the highest from `first` on that has a vote or a known batch; 0 where none has
abbrev pub own_end : ℕ → Life → ℕ → ℕ → ℕ
own_end zero l base first = 0
own_end (suc k) l base first =
    let lower = own_end k l base first in
    if nat_le first (base + k) && (is_some (l.votes (base + k)) || is_some (l.known (base + k))) then suc (base + k) else lower

-- one more than the highest instance in the counted reports of the replicas below k, or 0
abbrev pub reported_end : ℕ → Stage → ℕ
reported_end zero s = 0
reported_end (suc k) s = max (reported_end k s) (report_end (counted_report (setup_of s.config) s.config.me s.life k))

-- one more than the highest instance in the counted reports or, from `first` on, in the own votes and known batches; 0 where there is none
unfoldable pub adoption_end : Stage → ℕ → ℕ
adoption_end s first = max (reported_end s.config.n s) (own_end span s.life s.base first)

-- whether the replicas that count toward phase 1, which are the leader and those whose held PrepareOk is counted, are a majority
abbrev pub is_promised_enough : Stage → Bool
is_promised_enough s = nat_le (majority s.config.n) (count_below s.config.n (is_promised (setup_of s.config) s.config.me s.life))

-- the `low` of a promise, and 0 where there is none
abbrev pub low_of : Option (Held PrepareOk) → ℕ
low_of None = 0
low_of (Some h) = h.body.low

-- the greatest `low` of the counted promises of the replicas below k
abbrev pub greatest_low : ℕ → Stage → ℕ
greatest_low zero s = 0
greatest_low (suc k) s = max (greatest_low k s) (low_of (counted_ok (setup_of s.config) s.config.me s.life k))

-- whether a stage in phase 1 from `first` on becomes Prepared
abbrev pub is_prepared : Stage → ℕ → Bool
is_prepared s first =
    is_promised_enough s && nat_le (greatest_low s.config.n s) (first_undecided s) && nat_le (adoption_end s first) (span_end s)

-- an instance is launched with its adopted batch, after it is learned where a counted report has it as decided
abbrev pub adopts : Lead → ℕ → Turned → Turned
adopts lead i t =
    t ▹ when (not (is_known t.stage i)) (when_some (decided_below t.stage.config.n lead.reports i) (learns i))
    ▹ launches i (lead.adopted i)

-- the instances from `from` to below `end` are launched with their adopted batches, where the stage is Prepared
abbrev pub adopts_where : Leading → ℕ → ℕ → Turned → Turned
adopts_where No from end t = t
adopts_where (Preparing first) from end t = t
adopts_where (Leads lead) from end t = for_range (end - from) from (adopts lead) t

-- the instances from `from` to below `end` are launched with their adopted batches
abbrev pub adopts_range : ℕ → ℕ → Turned → Turned
adopts_range from end t = adopts_where t.stage.life.leading from end t

-- a stage in phase 1 from `first` on becomes Prepared: `next` is the greater of the adoption's end and the first undecided instance, and the instances below the adoption's end are launched with their adopted batches
abbrev pub becomes_prepared : ℕ → Turned → Turned
becomes_prepared first t =
    let s = t.stage in
    let end = adoption_end s first in
    let next = max end (first_undecided s) in
    t ▹ cancels_prepare
    ▹ shows (Step.Prepared s.config.me s.life.view next) (Deed.Prepared s.life.view next)
    ▹ adopts_range (max first s.base) end

-- a stage in phase 1 becomes Prepared, where the condition holds. `leading` is its own
abbrev pub settles_leading : Leading → Turned → Turned
settles_leading No t = t
settles_leading (Preparing first) t = when (is_prepared t.stage first) (becomes_prepared first) t
settles_leading (Leads lead) t = t

-- the stage becomes Prepared, where it is in phase 1 and the condition holds
abbrev pub settles_prepared : Turned → Turned
settles_prepared t = settles_leading t.stage.life.leading t

-- 3. Waiting

-- the instance for the next waiting batch: `next` of a Prepared leader, where it lies in the window and in span
abbrev pub place_in : Leading → Stage → Option ℕ
place_in No s = None
place_in (Preparing first) s = None
place_in (Leads lead) s = number_if (nat_lt lead.next (first_undecided s + s.config.window) && nat_lt lead.next (span_end s)) lead.next

-- the stage's instance for the next waiting batch
abbrev pub open_place : Stage → Option ℕ
open_place s = place_in s.life.leading s

-- these waiting batches are launched in order, while there is an instance for the next one
abbrev pub launches_waiting : List Batch → Turned → Turned
launches_waiting [] t = t
launches_waiting (batch ∷ batches) t =
    when_some (open_place t.stage) (λ i t. launches_waiting batches (t ▹ with_stage (λ s. record s { waiting = batches }) ▹ launches i batch)) t

-- the waiting batches are launched, while there is an instance for the next one
abbrev pub settles_waiting : Turned → Turned
settles_waiting t = launches_waiting t.stage.waiting t

-- 4. Handing on

-- a decision to hand on, and the value of `handed` after it
abbrev pub Handing : Type 0
Handing = Decision × ℕ

-- the newest snapshot, if it came by an Install and its place is above `handed`
abbrev pub install_above : Option Snapshot → ℕ → Option Snapshot
install_above None handed = None
install_above (Some snapshot) handed = if snapshot.installed && nat_lt handed snapshot.place then Some snapshot else None

-- the Installed of this snapshot, or where there is none the Decided of the batch that is known at `handed`
abbrev pub handing_of : Option Snapshot → Stage → Option Handing
handing_of (Some snapshot) s = option_map (λ state. (Installed snapshot.place state, snapshot.place)) (state_in snapshot.bytes)
handing_of None s = option_map (λ batch. (Decided s.handed batch, suc s.handed)) (s.life.known s.handed)

-- the next decision to hand on: an installed state above `handed`, or else the batch that is known at `handed`
abbrev pub next_handing : Stage → Option Handing
next_handing s = handing_of (install_above s.newest s.handed) s

-- decisions are handed on, at most `room` of them
abbrev pub hands_on : ℕ → Turned → Turned
hands_on zero t = t
hands_on (suc room) t =
    when_some (next_handing t.stage) (λ handing t. hands_on room (t ▹ with_stage (λ s. record s { handed = handing.1 }) ▹ hands handing.0)) t

-- settling: rejoining, becoming Prepared, launching what waits, and handing on, in this order
abbrev pub settles : ℕ → Turned → Turned
settles room t = t ▹ settles_rejoin ▹ settles_prepared ▹ settles_waiting ▹ hands_on room

-- Catching up: queries, known batches, and snapshots in parts.
use Rattle.std.specs.Prelude.{ℕ, suc, ◌+◌, ◌-◌, ◌%◌, Bool, true, false, ◌&&◌, not, List, [], ◌∷◌, length, nat_le, nat_lt, ◌==◌, if◌then◌else◌, Option, Some, None, is_some}
use Rattle.std.specs.Option.{option_map_or}
use Rattle.jp_types.specs.declared.message.Message.{Message}
use Rattle.jp_types.specs.declared.message.SnapshotPart.{SnapshotPart}
use Rattle.kv_service.specs.Service.{State}
use Rattle.kv_service.specs.StateReading.{state_in}
use Rattle.paxos_world.specs.declared.step.Step.{Step}
use Rattle.jp_types.specs.Instances.{Batch}
use Rattle.paxos_world.specs.World.{Deed}
use Rattle.paxos_world.specs.Stage.{Snapshot, Stage, Turned}
use Rattle.kv_service.specs.Parts.{Joiner}
use Rattle.paxos_world.specs.Writing.{◌▹◌, when, when_some, for_each, with_stage, shows, says}
use Rattle.paxos_world.specs.Logs.{is_in_span, is_known, first_undecided}
use Rattle.paxos_world.specs.Retransmitting.{arms_query, cancels_query}
use Rattle.paxos_world.specs.Learning.{learns}
use Rattle.jp_types.specs.Instances.{reply_limit, known_from, peer}
use Rattle.kv_service.specs.Parts.{part_count, parts_from, takes_part, with_part, is_joined, joined_bytes}

-- the query for the batches from this instance on
abbrev pub query_of : ℕ → Message
query_of first = Message.CatchUpQuery (record { first = first })

-- a query goes out to the next peer, and is armed in place of the one before
abbrev pub queries_peer : Turned → Turned
queries_peer t =
    let s = t.stage in
    let query = query_of (first_undecided s) in
    let to = peer s.config.me s.config.n s.queries in
    t ▹ cancels_query
    ▹ says to query
    ▹ arms_query query to
    ▹ with_stage (λ s. record s { queries = (s.queries + 1) % (s.config.n - 1) })

-- a query goes out where the first undecided instance is below the horizon
abbrev pub query_where_due : Turned → Turned
query_where_due t = when (nat_lt (first_undecided t.stage) t.stage.horizon) queries_peer t

-- the known batches that answer a query from an instance on
unfoldable pub replied_batches : Stage → ℕ → List Batch
replied_batches s first = known_from reply_limit s.life.known first

-- a snapshot's parts, in order
abbrev pub parts_of : Snapshot → List Message
parts_of snapshot = parts_from (part_count (length snapshot.bytes)) snapshot.place (length snapshot.bytes) snapshot.bytes 0

-- the answer to a query from p: below the base the newest snapshot's parts; else the known batches, at most `reply_limit`; nothing where the first is not known
abbrev pub on_query : ℕ → ℕ → Turned → Turned
on_query p first t =
    let s = t.stage in
    t ▹ when (nat_lt first s.base) (when_some s.newest (λ snapshot. for_each (parts_of snapshot) (says p)))
    ▹ when (not (nat_lt first s.base) && is_some (s.life.known first)) (says p (Message.CatchUpReply (record { first = first; batches = replied_batches s first })))

-- each of these batches, from instance i on, is learned where it is in span and not known
abbrev pub learns_each : ℕ → List Batch → Turned → Turned
learns_each i [] t = t
learns_each i (batch ∷ batches) t =
    learns_each (suc i) batches (t ▹ when (is_in_span t.stage i && not (is_known t.stage i)) (learns i batch))

-- known batches came: the query is answered, and each of them is learned
abbrev pub on_batches : ℕ → List Batch → Turned → Turned
on_batches first batches t = t ▹ cancels_query ▹ learns_each first batches

-- whether there is a joiner for a higher place
abbrev pub is_joining_above : Option Joiner → ℕ → Bool
is_joining_above None upto = false
is_joining_above (Some j) upto = nat_lt upto j.upto

-- the joiner that a part goes to: a new one where there is none or the part's place is above its place, and else the one that there is
abbrev pub joiner_for : Option Joiner → ℕ → ℕ → Joiner
joiner_for None upto total = record { upto = upto; total = total; parts = [] }
joiner_for (Some j) upto total = if nat_lt j.upto upto then record { upto = upto; total = total; parts = [] } else j

-- the stage's joiner is this one
abbrev pub keeps_joiner : Option Joiner → Turned → Turned
keeps_joiner j = with_stage (λ s. record s { joiner = j })

-- a snapshot from another replica is installed: it is the newest, and its place is the base
abbrev pub installs : ℕ → List ℕ → State → Turned → Turned
installs upto bytes state t =
    t ▹ cancels_query
    ▹ with_stage (λ s. record s { base = upto; newest = Some (record { place = upto; bytes = bytes; installed = true }) })
    ▹ shows (Step.Install t.stage.config.me upto) (Deed.Install upto state)

-- joined bytes are installed where their state is one of this place
abbrev pub installs_if : ℕ → List ℕ → State → Turned → Turned
installs_if upto bytes state t = when (state.executed == upto) (installs upto bytes state) t

-- a joiner with one part more is kept; where all parts are held it is dropped, and their bytes are installed where they are a state
abbrev pub has_part : Joiner → Turned → Turned
has_part j t =
    t ▹ when (not (is_joined j)) (keeps_joiner (Some j))
    ▹ when (is_joined j) (λ t. t ▹ keeps_joiner None ▹ when_some (state_in (joined_bytes j)) (installs_if j.upto (joined_bytes j)))

-- a part is put into the joiner; a part that it refuses is passed over
abbrev pub puts_part : Joiner → SnapshotPart → Turned → Turned
puts_part j m t =
    t ▹ when (takes_part j m) (has_part (with_part j m))
    ▹ when (not (takes_part j m)) (keeps_joiner (Some j))

-- a part whose place is not above the first undecided instance, or is below the joiner's, is passed over
abbrev pub on_part : SnapshotPart → Turned → Turned
on_part m t =
    let s = t.stage in
    when (nat_lt (first_undecided s) m.upto && not (is_joining_above s.joiner m.upto)) (puts_part (joiner_for s.joiner m.upto m.total) m) t

-- the place of the newest snapshot, and 0 where there is none
abbrev pub place_of : Option Snapshot → ℕ
place_of newest = option_map_or (λ snapshot. snapshot.place) newest 0

-- a snapshot of the own service: where its place is above the newest one's and all below it is known, the log is cut below the newest one's place, and this one is the newest
abbrev pub on_snapshot : ℕ → List ℕ → Turned → Turned
on_snapshot upto bytes t =
    when (nat_lt (place_of t.stage.newest) upto && nat_le upto (first_undecided t.stage))
    (with_stage (λ s. record s { base = place_of s.newest; newest = Some (record { place = upto; bytes = bytes; installed = false }) })) t

-- Catching up: queries, known batches, and snapshots in parts.
use Rattle.std.specs.Prelude.{ℕ, ◌^◌, Bool, true, false, ◌&&◌, not, List, [], ◌∷◌, length, nat_le, nat_lt, ◌==◌, if◌then◌else◌, Option, Some, None}
use Rattle.jp_types.specs.declared.message.Message.{Message}
use Rattle.jp_types.specs.declared.message.SnapshotPart.{SnapshotPart}
use Rattle.jp_types.specs.Instances.{Batch, peer}
use Rattle.jp_types.specs.ReplicaSets.{no_members, with_member}
use Rattle.kv_service.specs.Service.{State}
use Rattle.kv_service.specs.StateReading.{state_in}
use Rattle.kv_service.specs.Parts.{Joiner, with_part}
use Rattle.paxos_world.specs.declared.step.Step.{Step}
use Rattle.replica_log.specs.Log.{first_undecided, above}
use Rattle.catch_up.specs.declared.reply.Given.{Given}
use Rattle.catch_up.specs.declared.reply.Given.TheVariants as given
use Rattle.catch_up.specs.Replying.{reply_to}
use Rattle.snapshots.specs.declared.joiner.PartFault.{PartFault}
use Rattle.snapshots.specs.Cutting.{parts_of}
use Rattle.snapshots.specs.Joining.{empty_joiner, part_fault, whole_of}
use Rattle.protocol_core.specs.declared.act.Act.{Act}
use Rattle.protocol_core.specs.declared.act.Topic.{Topic}
use Rattle.protocol_core.specs.declared.life.Life.{Life}
use Rattle.protocol_core.specs.declared.life.Snapshot.{Snapshot}
use Rattle.protocol_core.specs.Launching.{learned_if_open}
use Rattle.protocol_core.specs.Others.{queries_after}
use Rattle.protocol_core.specs.Sending.{does}
use Rattle.protocol_core.specs.Turned.{Turned, stay, followed_by}
use Rattle.protocol_core.specs.Voting.{up}

-- ---- Queries

-- the query for the batches from this instance on
abbrev pub query_of : ℕ → Message
query_of first = Message.CatchUpQuery (record { first = first })

-- a query goes out to a replica, and is repeated to it in place of the one before
abbrev pub query_sent : Life → ℕ → Message → Turned
query_sent life to query =
    record {
      life = record life { queries = queries_after life.config.n life.queries };
      acts =
          Act.Cancel Topic.Query
          ∷ Act.Send to query
          ∷ Act.Arm Topic.Query (record { to = with_member no_members to; message = query })
          ∷ [];
    }

-- a query goes out to the next peer
abbrev pub queried : Life → Turned
queried life = query_sent life (peer life.config.me life.config.n life.queries) (query_of (first_undecided life.log))

-- a query goes out where the first undecided instance is below the horizon
abbrev pub queried_if_due : Life → Turned
queried_if_due life = if nat_lt (first_undecided life.log) life.horizon then queried life else stay life

-- ---- Answers to queries

-- each of these parts goes to p, in order
abbrev pub each_sent : ℕ → List SnapshotPart → List Act
each_sent p [] = []
each_sent p (part ∷ parts) = Act.Send p (Message.SnapshotPart part) ∷ each_sent p parts

-- the parts of a snapshot go to p, where it is no larger than a state may be
abbrev pub snapshot_sent : ℕ → Snapshot → List Act
snapshot_sent p snapshot = if nat_le (length snapshot.bytes) (2 ^ 28) then each_sent p (parts_of snapshot.place snapshot.bytes) else []

-- the parts of the newest snapshot go to p, if there is one
abbrev pub newest_sent : ℕ → Option Snapshot → List Act
newest_sent p None = []
newest_sent p (Some snapshot) = snapshot_sent p snapshot

-- the known batches from an instance on go to p
abbrev pub batches_sent : ℕ → ℕ → List Batch → List Act
batches_sent p first batches = Act.Send p (Message.CatchUpReply (record { first = first; batches = batches })) ∷ []

-- what a query of p from an instance on is answered with goes to p
abbrev pub given_sent : Life → ℕ → ℕ → Given → List Act
given_sent life p first given.Offer = newest_sent p life.newest
given_sent life p first given.Nothing = []
given_sent life p first (given.Batches batches) = batches_sent p first batches

-- the answer to a query of p: below the base the newest snapshot's parts; else the known batches; nothing where the first is not known
abbrev pub query_answered : Life → ℕ → ℕ → List Act
query_answered life p first = given_sent life p first (reply_to life.log first)

-- a query of p for the batches from an instance on
abbrev pub on_query : Life → ℕ → ℕ → Turned
on_query life p first = record { life = life; acts = query_answered life p first }

-- ---- Known batches

-- each of these batches, from instance i on, is learned where it is in span and not known
abbrev pub learned_each : Life → ℕ → List Batch → Turned
learned_each life i [] = stay life
learned_each life i (batch ∷ batches) = followed_by (learned_if_open life i batch) (λ next. learned_each next (up i) batches)

-- known batches came: the query is answered, and each of them is learned
abbrev pub on_batches : Life → ℕ → List Batch → Turned
on_batches life first batches = followed_by (does (Act.Cancel Topic.Query) life) (λ answered. learned_each answered first batches)

-- ---- Parts of a snapshot

-- whether there is a joiner for a higher place
abbrev pub is_joining_above : Option Joiner → ℕ → Bool
is_joining_above None upto = false
is_joining_above (Some j) upto = nat_lt upto j.upto

-- whether a part of this place is put into a joiner: the place is above the first undecided instance, and is not below the joiner's
abbrev pub is_wanted : Life → ℕ → Bool
is_wanted life upto = nat_lt (first_undecided life.log) upto && not (is_joining_above life.joiner upto)

-- the joiner that a part goes to: the one that there is, where it is of the part's place, and else a new one
abbrev pub joiner_for : Option Joiner → SnapshotPart → Joiner
joiner_for None m = empty_joiner m.upto m.total
joiner_for (Some j) m = if j.upto == m.upto then j else empty_joiner m.upto m.total

-- a joiner after a part, which it refuses where there is a fault
abbrev pub after_part : Option PartFault → Joiner → SnapshotPart → Joiner
after_part None j m = with_part j m
after_part (Some fault) j m = j

-- the whole bytes after a part, which the joiner refuses where there is a fault
abbrev pub joined_by : Option PartFault → Joiner → SnapshotPart → Option (List ℕ)
joined_by None j m = whole_of (with_part j m)
joined_by (Some fault) j m = None

-- whether a state was read, and has executed all below this place and nothing else
abbrev pub is_state_at : ℕ → Option State → Bool
is_state_at upto None = false
is_state_at upto (Some state) = state.executed == upto

-- a snapshot from another replica is installed: it is the newest, and its place is the base
abbrev pub installed : Life → ℕ → List ℕ → Turned
installed life upto bytes =
    record {
      life = record life { log = above life.log upto; newest = Some (record { place = upto; bytes = bytes; installed = true }) };
      acts = Act.Cancel Topic.Query ∷ Act.Step (Step.Install life.config.me upto) ∷ [];
    }

-- joined bytes are installed where they are a state of this place
abbrev pub installed_if : Life → ℕ → List ℕ → Turned
installed_if life upto bytes = if is_state_at upto (state_in bytes) then installed life upto bytes else stay life

-- a joiner of this place is kept while it lacks parts; the whole bytes take its place
abbrev pub joined : Life → ℕ → Joiner → Option (List ℕ) → Turned
joined life upto j None = stay (record life { joiner = Some j })
joined life upto j (Some bytes) = installed_if (record life { joiner = None }) upto bytes

-- a part is put into this joiner
abbrev pub part_put : Life → Joiner → SnapshotPart → Turned
part_put life j m = joined life m.upto (after_part (part_fault j m) j m) (joined_by (part_fault j m) j m)

-- a part, which is passed over where it is not wanted
abbrev pub on_part : Life → SnapshotPart → Turned
on_part life m = if is_wanted life m.upto then part_put life (joiner_for life.joiner m) m else stay life

-- ---- Snapshots of the own service

-- the place of the newest snapshot, and 0 where there is none
abbrev pub place_of : Option Snapshot → ℕ
place_of None = 0
place_of (Some snapshot) = snapshot.place

-- the log is cut below the place of the newest snapshot, and this one is the newest
abbrev pub with_snapshot : Life → ℕ → List ℕ → Life
with_snapshot life upto bytes =
    record life { log = above life.log (place_of life.newest); newest = Some (record { place = upto; bytes = bytes; installed = false }) }

-- whether a snapshot is taken: its place is above the newest one's, which is not below the base, and all below it is known
abbrev pub is_taken : Life → ℕ → Bool
is_taken life upto =
    nat_le life.log.base (place_of life.newest) && nat_lt (place_of life.newest) upto && nat_le upto (first_undecided life.log)

-- a snapshot of the own service
abbrev pub on_snapshot : Life → ℕ → List ℕ → Life
on_snapshot life upto bytes = if is_taken life upto then with_snapshot life upto bytes else life

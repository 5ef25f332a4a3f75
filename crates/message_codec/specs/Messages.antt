-- The fields of messages, read from the front.
use Rattle.std.specs.Prelude.{ℕ, zero, suc, ◌+◌, ◌^◌, ◌-◌, List, [], ◌∷◌, ◌==◌, if◌then◌else◌, Option, Some, None}
use Rattle.jp_types.specs.Instances.{Batch}
use Rattle.jp_types.specs.declared.message.Entry.{Entry}
use Rattle.jp_types.specs.declared.message.Prepare.{Prepare}
use Rattle.jp_types.specs.declared.message.PrepareOk.{PrepareOk}
use Rattle.jp_types.specs.declared.message.Propose.{Propose}
use Rattle.jp_types.specs.declared.message.Accept.{Accept}
use Rattle.jp_types.specs.declared.message.Recovery.{Recovery}
use Rattle.jp_types.specs.declared.message.RecoveryAnswer.{RecoveryAnswer}
use Rattle.jp_types.specs.declared.message.CatchUpQuery.{CatchUpQuery}
use Rattle.jp_types.specs.declared.message.CatchUpReply.{CatchUpReply}
use Rattle.jp_types.specs.declared.message.SnapshotPart.{SnapshotPart}
use Rattle.jp_types.specs.declared.message.Alive.{Alive}
use Rattle.jp_types.specs.declared.message.Message.{Message}
use Rattle.frame_fields.specs.Reading.{Reader, gives, ◌>>=◌, bytes, number_within, counter, optional, times, in_batch, request}

-- nine epochs
abbrev pub vector : Reader (List ℕ)
vector = times 9 counter

-- a batch's count, at most 1,024, and its requests
abbrev pub requests : Reader Batch
requests = number_within 4 0 1024 >>= λ count. times count request

abbrev pub batch : Reader Batch
batch = in_batch requests

-- what stands for an instance: a tag 0 and the view of a vote, or a tag 1 where its batch is decided
abbrev pub vote : Reader (Option ℕ)
vote = number_within 1 0 1 >>= λ tag. if tag == 0 then (counter >>= λ view. gives (Some view)) else gives None

-- an entry of a report, whose instance is not below the least one
abbrev pub entry : ℕ → Reader Entry
entry least =
    number_within 8 least (2 ^ 48) >>= λ instance. vote >>= λ vote. batch >>= λ batch.
    gives (record { instance = instance; vote = vote; batch = batch })

-- as many entries, the first not below the least instance and each of the others above the one before it
abbrev pub entries : ℕ → ℕ → Reader (List Entry)
entries zero least = gives []
entries (suc k) least = entry least >>= λ e. entries k (e.instance + 1) >>= λ more. gives (e ∷ more)

-- a report: at most 1,024 entries in ascending order of their instances
abbrev pub report : Reader (List Entry)
report = number_within 4 0 1024 >>= λ count. entries count 0

abbrev pub prepare : Reader Prepare
prepare = counter >>= λ view. counter >>= λ first. counter >>= λ mark. gives (record { view = view; first = first; mark = mark })

abbrev pub prepare_ok : Reader PrepareOk
prepare_ok =
    counter >>= λ view. counter >>= λ mark. vector >>= λ vector. counter >>= λ low. report >>= λ report.
    gives (record { view = view; mark = mark; vector = vector; low = low; report = report })

abbrev pub propose : Reader Propose
propose = counter >>= λ view. counter >>= λ instance. batch >>= λ batch. gives (record { view = view; instance = instance; batch = batch })

abbrev pub accept : Reader Accept
accept = counter >>= λ view. counter >>= λ instance. gives (record { view = view; instance = instance })

abbrev pub recovery : Reader Recovery
recovery = counter >>= λ mark. gives (record { mark = mark })

abbrev pub recovery_answer : Reader RecoveryAnswer
recovery_answer =
    counter >>= λ mark. counter >>= λ view. vector >>= λ vector. optional counter >>= λ next.
    gives (record { mark = mark; view = view; vector = vector; next = next })

abbrev pub catch_up_query : Reader CatchUpQuery
catch_up_query = counter >>= λ first. gives (record { first = first })

-- the first instance, and the batches of 1 to 64 instances from it on
abbrev pub catch_up_reply : Reader CatchUpReply
catch_up_reply =
    counter >>= λ first. number_within 1 1 64 >>= λ count. times count batch >>= λ batches.
    gives (record { first = first; batches = batches })

-- a part of at most 65,536 bytes, of a state of at most 268,435,456
abbrev pub snapshot_part : Reader SnapshotPart
snapshot_part =
    counter >>= λ upto. number_within 4 0 268435456 >>= λ total. number_within 4 0 (2 ^ 32 - 1) >>= λ at.
    number_within 4 0 65536 >>= λ size. bytes size >>= λ part.
    gives (record { upto = upto; total = total; at = at; bytes = part })

abbrev pub alive : Reader Alive
alive = counter >>= λ view. counter >>= λ first_undecided. gives (record { view = view; first_undecided = first_undecided })

-- a message of a listed kind
abbrev pub message_of_kind : ℕ → Reader Message
message_of_kind kind =
    if kind == 1 then (prepare >>= λ m. gives (Message.Prepare m))
    else (if kind == 2 then (prepare_ok >>= λ m. gives (Message.PrepareOk m))
    else (if kind == 3 then (propose >>= λ m. gives (Message.Propose m))
    else (if kind == 4 then (accept >>= λ m. gives (Message.Accept m))
    else (if kind == 5 then (recovery >>= λ m. gives (Message.Recovery m))
    else (if kind == 6 then (recovery_answer >>= λ m. gives (Message.RecoveryAnswer m))
    else (if kind == 7 then (catch_up_query >>= λ m. gives (Message.CatchUpQuery m))
    else (if kind == 8 then (catch_up_reply >>= λ m. gives (Message.CatchUpReply m))
    else (if kind == 9 then (snapshot_part >>= λ m. gives (Message.SnapshotPart m))
    else (alive >>= λ m. gives (Message.Alive m))))))))))

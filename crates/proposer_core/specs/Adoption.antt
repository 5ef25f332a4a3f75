-- What a replica adopts from the counted promises and its own log, and when it becomes Prepared.
use Rattle.std.specs.Prelude.{ℕ, zero, suc, ◌+◌, ◌-◌, max, Bool, ◌&&◌, ◌||◌, not, List, [], ◌∷◌, if◌then◌else◌, nat_le, Option, Some, None, is_some}
use Rattle.std.specs.Option.{unwrap_or, option_or, option_map}
use Rattle.std.specs.FinMap as map
use Rattle.jp_types.specs.declared.message.Entry.{Entry}
use Rattle.jp_types.specs.declared.message.PrepareOk.{PrepareOk}
use Rattle.jp_types.specs.Instances.{Batch, span}
use Rattle.epoch_vectors.specs.Replies.{Replies, counted_set}
use Rattle.replica_log.specs.Log.{Log, first_undecided, is_known, span_end}
use Rattle.proposer_core.specs.declared.adoption.Launch.{Launch}
use Rattle.proposer_core.specs.declared.adoption.Adopted.{Adopted}
use Rattle.proposer_core.specs.declared.leading.Leading.{Leading}
use Rattle.proposer_core.specs.declared.leading.Leading.TheVariants.{No, Preparing, Prepared}
use Rattle.proposer_core.specs.Counting.{report_in, is_promised_enough, greatest_low, reported_end}
use Rattle.jp_types.specs.Reports.{decided_below, highest_below}
use Rattle.proposer_core.specs.Proposing.{Proposer, with_leading}

-- whether the log has a vote or a known batch for i
abbrev pub has_own : Log → ℕ → Bool
has_own log i = is_some (map.get log.votes i) || is_some (map.get log.known i)

-- among the k instances from the base on, one more than the highest from `first` on that has a vote or a known batch; 0 where none has
abbrev pub own_end : ℕ → Log → ℕ → ℕ
own_end zero log first = 0
own_end (suc k) log first =
    let lower = own_end k log first in
    if nat_le first (log.base + k) && has_own log (log.base + k) then suc (log.base + k) else lower

-- one more than the highest instance in the counted reports or, from `first` on, in the own votes and known batches; 0 where there is none
unfoldable pub adoption_end : ℕ → List Bool → Replies PrepareOk → Log → ℕ → ℕ
adoption_end n counted held log first = max (reported_end n counted held) (own_end span log first)

-- whether replica `me`, in phase 1 from `first` on, becomes Prepared: a majority promised, each instance below each counted `low` is known, and what was reported lies below the span's end
abbrev pub is_prepared : ℕ → ℕ → List Bool → Replies PrepareOk → Log → ℕ → Bool
is_prepared n me counted held log first =
    is_promised_enough counted n me && nat_le (greatest_low n counted held) (first_undecided log) && nat_le (adoption_end n counted held log first) (span_end log)

-- the batch adopted for i: the own known one; else a decided one; else that of the vote of highest view; else the empty one
abbrev pub batch_of : ℕ → (ℕ → List Entry) → Log → ℕ → Option Batch → Batch
batch_of n reports log i decided =
    unwrap_or (option_or (map.get log.known i) (option_or decided (option_map (λ vote. vote.1) (highest_below n reports (map.get log.votes i) i)))) []

-- the batch adopted for i
abbrev pub adopted_batch : ℕ → (ℕ → List Entry) → Log → ℕ → Batch
adopted_batch n reports log i = batch_of n reports log i (decided_below n reports i)

-- the launch of i with its adopted batch, and whether a report has that as decided where the log does not know i
abbrev pub launch_of : ℕ → (ℕ → List Entry) → Log → ℕ → Launch
launch_of n reports log i =
    record { instance = i; batch = adopted_batch n reports log i; decided = not (is_known log i) && is_some (decided_below n reports i) }

-- the launches of k instances from i on
abbrev pub launches_from : ℕ → ℕ → (ℕ → List Entry) → Log → ℕ → List Launch
launches_from zero n reports log i = []
launches_from (suc k) n reports log i = launch_of n reports log i ∷ launches_from k n reports log (suc i)

-- what is adopted as the replica becomes Prepared: the instances from the greater of `first` and the base up to the end are launched, and the next batch goes into the first instance that is neither launched nor known
abbrev pub adoption : ℕ → List Bool → Replies PrepareOk → Log → ℕ → Adopted
adoption n counted held log first =
    let end = adoption_end n counted held log first in
    let from = max first log.base in
    record { next = max end (first_undecided log); launches = launches_from (end - from) n (report_in counted held) log from }

-- what a proposer that leads so adopts, where it becomes Prepared
abbrev pub adopted_by : Leading → Proposer → List Bool → Log → Option Adopted
adopted_by No s counted log = None
adopted_by (Preparing view first mark) s counted log = if is_prepared s.n s.me counted s.held log first then Some (adoption s.n counted s.held log first) else None
adopted_by (Prepared view next) s counted log = None

-- what a proposer with this log and this own vector adopts, where it becomes Prepared
abbrev pub adopted : Proposer → Log → List ℕ → Option Adopted
adopted s log own = adopted_by s.leading s (counted_set own s.held) log

-- Prepared in the view of the phase 1 that is under way
abbrev pub prepared_at : Leading → ℕ → Leading
prepared_at No next = No
prepared_at (Preparing view first mark) next = Prepared view next
prepared_at (Prepared view old) next = Prepared view old

-- the proposer after it adopted, or did not
abbrev pub after_adoption : Proposer → Option Adopted → Proposer
after_adoption s None = s
after_adoption s (Some adopted) = with_leading s (prepared_at s.leading adopted.next)

-- What a log holds of the instances in span, and what becomes of it.
use Rattle.std.specs.Prelude.{◌≡◌, ℕ, zero, suc, ◌+◌, min, Bool, false, ◌&&◌, ◌||◌, List, [], ◌++◌, filter, Option, Some, None, is_some, Result, Err, IsOkUnless, if◌then◌else◌, nat_le, nat_lt, ◌==◌}
use Rattle.std.specs.Ordering.{nat_cmp}
use Rattle.std.specs.FinMap as map
use denote.Ref.{Bor}
use Rattle.jp_types.specs.declared.message.Entry.{Entry}
use Rattle.jp_types.specs.Views.{number_limit, majority, count_below}
use Rattle.jp_types.specs.ReplicaSets.{is_member, no_members, with_member}
use Rattle.jp_types.specs.Instances.{Batch, span, first_unknown_from}
use Rattle.jp_types.specs.Reports.{entry_by}
use Rattle.replica_log.specs.declared.fault.LogFault.{LogFault}
use Rattle.replica_log.specs.declared.fault.LogFault.TheVariants.{BelowBase, PastSpan, NoMemory}
use Rattle.replica_log.specs.declared.tally.Tally.{Tally}

-- the log of one of n replicas: the instances below the base are known and dropped, and above it the vote on each instance, a view and a batch, each known batch, and the tally of each instance that is not known
pub record Log : Type 0 where
  pub n : ℕ
  pub base : ℕ
  pub votes : map.FinMap nat_cmp (ℕ × Batch)
  pub known : map.FinMap nat_cmp Batch
  pub tallies : map.FinMap nat_cmp Tally

-- the log that holds nothing
abbrev pub new_log : ℕ → Log
new_log n = record { n = n; base = 0; votes = map.empty; known = map.empty; tallies = map.empty }

-- one more than the last instance in span: the span begins at the base, and ends at the limit of numbers at the latest
abbrev pub span_end : Log → ℕ
span_end log = min (log.base + span) number_limit

-- whether an instance is in span
abbrev pub is_in_span : Log → ℕ → Bool
is_in_span log i = nat_le log.base i && nat_lt i (span_end log)

-- whether an instance is known: below the base each is
abbrev pub is_known : Log → ℕ → Bool
is_known log i = nat_lt i log.base || map.contains_key log.known i

-- the fault of an instance that is not in span
abbrev pub span_fault : Log → ℕ → Option LogFault
span_fault log i = if nat_lt i log.base then Some (BelowBase log.base) else (if nat_lt i (span_end log) then None else Some (PastSpan (span_end log)))

-- the answer is the fault, where there is one; else it is a value or want of memory
abbrev pub AnswersBy : {A : Type 0} → Option LogFault → Result A LogFault → Type 0
AnswersBy None result = IsOkUnless result NoMemory
AnswersBy (Some fault) result = result ≡ Err fault

-- the log with a vote
abbrev pub with_vote : Log → ℕ → ℕ → Batch → Log
with_vote log i view batch = record log { votes = map.insert log.votes i (view, batch) }

-- the newer batch, where there is one
abbrev pub newer_batch : Option Batch → Option Batch → Option Batch
newer_batch None older = older
newer_batch (Some batch) older = Some batch

-- a tally that begins with the note that a replica accepted in a view
abbrev pub begun : ℕ → ℕ → Option Batch → Tally
begun view from batch = record { view = view; from = with_member no_members from; batch = batch }

-- a tally with one more note of its view
abbrev pub joined : Tally → ℕ → Option Batch → Tally
joined tally from batch = record { view = tally.view; from = with_member tally.from from; batch = newer_batch batch tally.batch }

-- the tally after one more note: a higher view starts it anew, and a lower one is passed over
abbrev pub noted : Option Tally → ℕ → ℕ → Option Batch → Tally
noted None view from batch = begun view from batch
noted (Some tally) view from batch = if nat_lt view tally.view then tally else (if view == tally.view then joined tally from batch else begun view from batch)

-- the log with a note in the tally of an instance
abbrev pub with_note : Log → ℕ → ℕ → ℕ → Option Batch → Log
with_note log i view from batch = record log { tallies = map.insert log.tallies i (noted (map.get log.tallies i) view from batch) }

-- the batch of a tally
abbrev pub batch_of : Option Tally → Option Batch
batch_of None = None
batch_of (Some tally) = tally.batch

-- whether a tally has a majority of n replicas
abbrev pub has_majority : ℕ → Option Tally → Bool
has_majority n None = false
has_majority n (Some tally) = nat_le (majority n) (count_below 9 (is_member tally.from))

-- whether a tally has a batch and a majority of n replicas
abbrev pub is_full : ℕ → Option Tally → Bool
is_full n tally = is_some (batch_of tally) && has_majority n tally

-- the log with a known batch, whose tally is needed no more
abbrev pub with_known : Log → ℕ → Batch → Log
with_known log i batch = record log { known = map.insert log.known i batch; tallies = map.remove log.tallies i }

-- the log after a batch is learned, which changes nothing where the instance was known
abbrev pub after_learn : Log → ℕ → Batch → Log
after_learn log i batch = if is_known log i then log else with_known log i batch

-- the least instance that is not known. All that is known lies below the span's end
unfoldable pub first_undecided : Log → ℕ
first_undecided log = first_unknown_from span (map.get log.known) log.base

-- the vote, where its batch stands behind a reference
abbrev pub vote_behind : Option (ℕ × Bor Batch) → Option (ℕ × Batch)
vote_behind None = None
vote_behind (Some vote) = Some (vote.0, vote.1.now)

-- the entries of k instances from i on: the known batch, or else the vote
unfoldable pub entries_from : ℕ → Log → ℕ → List Entry
entries_from zero log i = []
entries_from (suc k) log i = entry_by i (map.get log.known i) (map.get log.votes i) ++ entries_from k log (suc i)

-- the report from `first`: each instance from that and the base on that is known, or else voted
unfoldable pub report_from : Log → ℕ → List Entry
report_from log first = filter (λ e. nat_le first e.instance) (entries_from span log log.base)

-- the log with another base, and without what lies below it
abbrev pub above : Log → ℕ → Log
above log base =
    record {
      n = log.n;
      base = base;
      votes = map.retain_keys log.votes (nat_le base);
      known = map.retain_keys log.known (nat_le base);
      tallies = map.retain_keys log.tallies (nat_le base);
    }

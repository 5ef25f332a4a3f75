-- What a stage reads of its log: what is known, the span, the tallies, and the report.
use Rattle.std.specs.Prelude.{ℕ, zero, suc, ◌+◌, min, max, Bool, ◌&&◌, ◌||◌, not, List, [], ◌∷◌, ◌++◌, filter, nat_le, nat_lt, ◌==◌, if◌then◌else◌, Option, None, is_some}
use Rattle.std.specs.List.{list_any}
use Rattle.jp_types.specs.declared.message.Entry.{Entry}
use Rattle.jp_types.specs.Views.{number_limit, majority, count_below}
use Rattle.paxos_world.specs.Life.{Life}
use Rattle.jp_types.specs.Instances.{Batch}
use Rattle.paxos_world.specs.Stage.{Note, Stage}
use Rattle.jp_types.specs.Instances.{span, first_unknown_from}
use Rattle.jp_types.specs.Reports.{entry_by}

-- one more than the last instance in span: the span begins at the base, and ends at the limit of numbers at the latest
abbrev pub span_end : Stage → ℕ
span_end s = min (s.base + span) number_limit

-- whether an instance is in span
abbrev pub is_in_span : Stage → ℕ → Bool
is_in_span s i = nat_le s.base i && nat_lt i (span_end s)

-- whether an instance is known: below the base each is
abbrev pub is_known : Stage → ℕ → Bool
is_known s i = nat_lt i s.base || is_some (s.life.known i)

-- the least instance that is not known. All that is known lies below the span's end
unfoldable pub first_undecided : Stage → ℕ
first_undecided s = first_unknown_from span s.life.known s.base

-- a note is added, where its instance is in span and not known
abbrev pub with_note : Note → Stage → Stage
with_note note s = record s { noted = if is_in_span s note.instance && not (is_known s note.instance) then note ∷ s.noted else s.noted }

-- the notes on an instance
abbrev pub notes_on : ℕ → List Note → List Note
notes_on i notes = filter (λ note. note.instance == i) notes

-- the highest view among notes
abbrev pub highest_view : List Note → ℕ
highest_view [] = 0
highest_view (note ∷ notes) = max note.view (highest_view notes)

-- the tally of an instance: what was noted of it in the highest view
abbrev pub tally : Stage → ℕ → List Note
tally s i = let notes = notes_on i s.noted in filter (λ note. note.view == highest_view notes) notes

-- whether a replica accepted by these notes
abbrev pub has_accepted : List Note → ℕ → Bool
has_accepted notes p = list_any (λ note. note.replica == p) notes

-- the batch in these notes, the newest
abbrev pub batch_in : List Note → Option Batch
batch_in [] = None
batch_in (note ∷ notes) = let older = batch_in notes in if is_some note.batch then note.batch else older

-- the batch of these notes, where a majority accepted by them
abbrev pub full_batch : ℕ → List Note → Option Batch
full_batch n notes = if nat_le (majority n) (count_below n (has_accepted notes)) then batch_in notes else None

-- the batch with which an instance is learned by votes: it is not known, and its tally has that batch and a majority
abbrev pub tallied : Stage → ℕ → Option Batch
tallied s i = if is_known s i then None else full_batch s.config.n (tally s i)

-- the entries of k instances from i on
abbrev pub entries_from : ℕ → Life → ℕ → List Entry
entries_from zero l i = []
entries_from (suc k) l i = entry_by i (l.known i) (l.votes i) ++ entries_from k l (suc i)

-- the report from `first`: each instance from that and the base on that is known, or else voted
unfoldable pub report_from : Stage → ℕ → List Entry
report_from s first = filter (λ e. nat_le first e.instance) (entries_from span s.life s.base)

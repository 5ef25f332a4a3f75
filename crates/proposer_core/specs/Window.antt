-- The window in which a Prepared leader proposes.
use Rattle.std.specs.Prelude.{ℕ, suc, ◌+◌, min, if◌then◌else◌, nat_lt, Option, Some, None, Result, Ok, Err}
use Rattle.jp_types.specs.Instances.{Batch}
use Rattle.replica_log.specs.Log.{Log, first_undecided, span_end}
use Rattle.proposer_core.specs.declared.leading.Leading.{Leading}
use Rattle.proposer_core.specs.declared.leading.Leading.TheVariants.{No, Preparing, Prepared}
use Rattle.proposer_core.specs.declared.not_now.NotNow.{NotNow}
use Rattle.proposer_core.specs.declared.not_now.NotNow.TheVariants.{NotLeader, Waiting}
use Rattle.proposer_core.specs.Proposing.{Proposer}

-- one more than the last instance in which a batch has its place now: the window's end, or the span's
abbrev pub limit : Proposer → Log → ℕ
limit s log = min (first_undecided log + s.window) (span_end log)

-- the place of a batch that is offered to a proposer that leads so, below the limit; or why it has none, and the batch back
abbrev pub offered_below : Leading → ℕ → Batch → Result ℕ (NotNow × Batch)
offered_below No limit batch = Err (NotLeader, batch)
offered_below (Preparing view first mark) limit batch = Err (NotLeader, batch)
offered_below (Prepared view next) limit batch = if nat_lt next limit then Ok next else Err (Waiting limit, batch)

-- the place of a batch that is offered, or why it has none, and the batch back
abbrev pub offered : Proposer → Log → Batch → Result ℕ (NotNow × Batch)
offered s log batch = offered_below s.leading (limit s log) batch

-- the place that a batch has below the limit, if it has one
abbrev pub place_below : Leading → ℕ → Option ℕ
place_below No limit = None
place_below (Preparing view first mark) limit = None
place_below (Prepared view next) limit = if nat_lt next limit then Some next else None

-- the next instance of a Prepared leader is raised, where it is below the limit
abbrev pub raised_below : Leading → ℕ → Leading
raised_below No limit = No
raised_below (Preparing view first mark) limit = Preparing view first mark
raised_below (Prepared view next) limit = if nat_lt next limit then Prepared view (suc next) else Prepared view next

-- the proposer after an offer
abbrev pub after_offer : Proposer → Log → Proposer
after_offer s log = record s { leading = raised_below s.leading (limit s log) }

-- What a proposer is, and which promises it takes.
use Rattle.std.specs.Prelude.{ℕ, Bool, true, false, ◌&&◌, List, if◌then◌else◌, ◌==◌, nat_lt, Option, Some, None}
use Rattle.jp_types.specs.declared.message.PrepareOk.{PrepareOk}
use Rattle.jp_types.specs.Vectors.{entry, merged}
use Rattle.epoch_vectors.specs.Replies.{Replies, reply_of, with_reply, no_replies}
use Rattle.proposer_core.specs.declared.leading.Leading.{Leading}
use Rattle.proposer_core.specs.declared.leading.Leading.TheVariants.{No, Preparing, Prepared}

-- a proposer: how many replicas there are, which one it is, the window, whether it leads a view, and the promises that it holds in phase 1
pub record Proposer : Type 0 where
  pub n : ℕ
  pub me : ℕ
  pub window : ℕ
  pub leading : Leading
  pub held : Replies PrepareOk

-- a proposer that leads nothing
abbrev pub new_proposer : ℕ → ℕ → ℕ → Proposer
new_proposer n me window = record { n = n; me = me; window = window; leading = No; held = no_replies n }

-- the proposer that leads so, and holds no promise
abbrev pub with_leading : Proposer → Leading → Proposer
with_leading s leading = record s { leading = leading; held = no_replies s.n }

-- whether it is in phase 1 of a view or Prepared in it
abbrev pub is_leading : Leading → Bool
is_leading No = false
is_leading (Preparing view first mark) = true
is_leading (Prepared view next) = true

-- the view that it leads
abbrev pub view_of : Leading → Option ℕ
view_of No = None
view_of (Preparing view first mark) = Some view
view_of (Prepared view next) = Some view

-- the instance for the next batch, where it is Prepared
abbrev pub next_of : Leading → Option ℕ
next_of No = None
next_of (Preparing view first mark) = None
next_of (Prepared view next) = Some next

-- whether a promise is for the phase 1 that is under way: it has that view and that mark
abbrev pub is_awaited : Leading → PrepareOk → Bool
is_awaited No promise = false
is_awaited (Preparing view first mark) promise = (promise.view == view) && (promise.mark == mark)
is_awaited (Prepared view next) promise = false

-- whether a promise of p is better than the one held: there is none, or its epoch is above the held one's
abbrev pub is_better : ℕ → Option (List ℕ × PrepareOk) → PrepareOk → Bool
is_better p None promise = true
is_better p (Some held) promise = nat_lt (entry held.0 p) (entry promise.vector p)

-- whether the proposer takes a promise of p to hold it
abbrev pub takes : Proposer → ℕ → PrepareOk → Bool
takes s p promise = is_awaited s.leading promise && is_better p (reply_of s.held p) promise

-- the proposer that holds this promise of p
abbrev pub with_promise : Proposer → ℕ → PrepareOk → Proposer
with_promise s p promise = record s { held = with_reply s.held p promise.vector promise }

-- the proposer after a promise of p, which it holds where it takes it
abbrev pub after_promise : Proposer → ℕ → PrepareOk → Proposer
after_promise s p promise = if takes s p promise then with_promise s p promise else s

-- the own vector after a promise, whose vector is merged where it is for the phase 1 that is under way
abbrev pub vector_after : Proposer → List ℕ → PrepareOk → List ℕ
vector_after s own promise = if is_awaited s.leading promise then merged own promise.vector else own

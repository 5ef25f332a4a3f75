-- What the counted promises say together. They are given by the held promises and the set of the replicas that are counted.
use Rattle.std.specs.Prelude.{ℕ, zero, suc, max, Bool, ◌||◌, List, [], if◌then◌else◌, ◌==◌, nat_le, Option, Some, None}
use Rattle.std.specs.Option.{option_map}
use Rattle.jp_types.specs.declared.message.PrepareOk.{PrepareOk}
use Rattle.jp_types.specs.declared.message.Entry.{Entry}
use Rattle.jp_types.specs.Views.{majority, count_below}
use Rattle.jp_types.specs.ReplicaSets.{is_member}
use Rattle.jp_types.specs.Reports.{report_end}
use Rattle.epoch_vectors.specs.Replies.{Replies, reply_of}

-- the held promise of p, where it is counted
abbrev pub promise_in : List Bool → Replies PrepareOk → ℕ → Option PrepareOk
promise_in counted held p = if is_member counted p then option_map (λ reply. reply.1) (reply_of held p) else None

-- the report of a promise, and nothing where there is none
abbrev pub report_of : Option PrepareOk → List Entry
report_of None = []
report_of (Some promise) = promise.report

-- the `low` of a promise, and 0 where there is none
abbrev pub low_of : Option PrepareOk → ℕ
low_of None = 0
low_of (Some promise) = promise.low

-- the report of p that is counted, and nothing where none is
abbrev pub report_in : List Bool → Replies PrepareOk → ℕ → List Entry
report_in counted held p = report_of (promise_in counted held p)

-- the `low` of p that is counted, and 0 where none is
abbrev pub low_in : List Bool → Replies PrepareOk → ℕ → ℕ
low_in counted held p = low_of (promise_in counted held p)

-- whether p is among the replicas that count toward phase 1: the leader and those whose promise is counted
abbrev pub is_promised : List Bool → ℕ → ℕ → Bool
is_promised counted me p = (p == me) || is_member counted p

-- whether the replicas that count toward phase 1 are a majority
abbrev pub is_promised_enough : List Bool → ℕ → ℕ → Bool
is_promised_enough counted n me = nat_le (majority n) (count_below n (is_promised counted me))

-- the greatest `low` of the counted promises of the replicas below k
abbrev pub greatest_low : ℕ → List Bool → Replies PrepareOk → ℕ
greatest_low zero counted held = 0
greatest_low (suc k) counted held = max (greatest_low k counted held) (low_in counted held k)

-- one more than the highest instance in the counted reports of the replicas below k, or 0
abbrev pub reported_end : ℕ → List Bool → Replies PrepareOk → ℕ
reported_end zero counted held = 0
reported_end (suc k) counted held = max (reported_end k counted held) (report_end (report_in counted held k))

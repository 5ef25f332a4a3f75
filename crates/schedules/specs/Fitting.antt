-- Lines and schedules whose numbers and bytes are within their ranges.
use Rattle.std.specs.Prelude.{ℕ, ◌≤◌, ◌<◌}
use Rattle.std.specs.List.{All}
use Rattle.jp_types.specs.Limits.{IsRequest}
use Rattle.schedules.specs.declared.line.Line.{Line}
use Rattle.schedules.specs.declared.schedule.Schedule.{Schedule}
use Rattle.schedules.specs.Heads.{IsHead}

-- a line after the first, among n replicas: its replica is one of them, and its request and its message are within their ranges
abbrev pub IsLineFit : ℕ → Line → Type 0
IsLineFit n (Line.Cluster head) = ⊥
IsLineFit n (Line.Request r request) = (r < n) × IsRequest request
IsLineFit n (Line.Batch r) = r < n
IsLineFit n (Line.Tick r) = r < n
IsLineFit n (Line.Suspect r) = r < n
IsLineFit n (Line.Deliver r m) = (r < n) × (m ≤ 4294967295)
IsLineFit n (Line.Protocol r) = r < n
IsLineFit n (Line.Service r) = r < n
IsLineFit n (Line.Retransmit r) = r < n
IsLineFit n (Line.Crash r) = r < n
IsLineFit n (Line.Start r) = r < n
IsLineFit n Line.End = Unit {0}

-- a schedule with a first line and lines within their ranges
pub record IsFit (s : Schedule) : Type 0 where
  pub head : IsHead s.head
  pub lines : All (IsLineFit s.head.n) s.lines

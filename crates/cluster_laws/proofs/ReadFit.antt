-- A schedule that is read is one of the laws.
use Rattle.std.proofs.Common.{◌≡◌, ℕ, List, [], ◌∷◌, Ok, sym, subst, inl, inr, arith}
use Rattle.std.specs.List.{All}
use Rattle.std.proofs.lemmas.List.Elements.{All-head, All-tail}
use Rattle.jp_types.specs.Lists.{In}
use Rattle.schedules.specs.declared.line.Line.{Line}
use Rattle.schedules.specs.declared.schedule.Schedule.{Schedule}
use Rattle.schedules.specs.Schedule.{read_schedule}
use Rattle.schedules.specs.Fitting.{IsLineFit, IsFit}
use Rattle.schedules.proofs.Fitting.{schedules_fit}
use Rattle.cluster_laws.specs.Laws.{IsLine, IsSchedule}

-- a line within its ranges has a request within the limits, if it has one
line-fits : (n : ℕ) (line : Line) → IsLineFit n line → IsLine line
line-fits n (Line.Cluster head) h = tt
line-fits n (Line.Request r request) h = h.1
line-fits n (Line.Batch r) h = tt
line-fits n (Line.Tick r) h = tt
line-fits n (Line.Suspect r) h = tt
line-fits n (Line.Deliver r m) h = tt
line-fits n (Line.Protocol r) h = tt
line-fits n (Line.Service r) h = tt
line-fits n (Line.Retransmit r) h = tt
line-fits n (Line.Crash r) h = tt
line-fits n (Line.Start r) h = tt
line-fits n Line.End h = tt

-- so has each of a list of them
lines-fit : (n : ℕ) (lines : List Line) (line : Line) → All (IsLineFit n) lines → In line lines → IsLine line
lines-fit n [] line all there = absurd there
lines-fit n (first ∷ lines) line all (inl e) = subst IsLine (sym e) (line-fits n first (All-head (IsLineFit n) first lines all))
lines-fit n (first ∷ lines) line all (inr there) = lines-fit n lines line (All-tail (IsLineFit n) first lines all) there

-- a schedule within its ranges is one of the laws
pub within : (s : Schedule) → IsFit s → IsSchedule s
within s h =
    let three = h.head.some in
    record { some = omega arith; few = h.head.few; lines = λ line there. lines-fit s.head.n s.lines line h.lines there }

pub schedules_within : (input : List ℕ) (s : Schedule) → read_schedule input ≡ Ok s → IsSchedule s
schedules_within input s e = within s (schedules_fit input s e)

-- Schedules that are drawn by a seed, each line with the state of the run at that point, as the generator draws them.
use Rattle.std.specs.Prelude.{◌≡◌, ◌<◌, ◌≤◌, ◌⊎◌, ℕ, suc, ◌-◌, Bool, List, [], ◌∷◌, ◌++◌, length, replicate, drop, count_by, nat_lt, ◌==◌, if◌then◌else◌, Option, Some, None, slice_get, slice_index, slice_set}
use Rattle.jp_types.specs.declared.command.Command.TheVariants.{Put}
use Rattle.jp_types.specs.Views.{majority}
use Rattle.replica_node.specs.Whole.{Whole}
use Rattle.schedules.specs.declared.event.Event.{Event}
use Rattle.schedules.specs.declared.event.Run.{Run}
use Rattle.schedules.specs.declared.line.Head.{Head}
use Rattle.schedules.specs.declared.line.Line.{Line}
use Rattle.cluster.specs.Machine.{Machine}
use Rattle.schedules.specs.declared.schedule.Schedule.{Schedule}
use Rattle.cluster.specs.declared.sent.Sent.{Sent}
use Rattle.schedules.specs.Generator.{next_word, drawn, mode_of_seed}
use Rattle.cluster.specs.Machines.{is_away_by}
use Rattle.cluster.specs.Runs.{OpensPast, PassesAt}
use Rattle.cluster.specs.Stepping.{Stepping, Opens, Happens, replica_at, lasts_of}

-- what a generator keeps between two lines: its 64-bit word, of each replica the number from which on messages to it are delivered next, and of each client how many requests it made
pub record Drawing : Type 0 where
  pub word : ℕ
  pub from : List ℕ
  pub made : List ℕ

-- a line, and the generator after its draws
abbrev pub Drawn : Type 0
Drawn = Line × Drawing

-- the generator after a draw
abbrev pub after_draw : Drawing → Drawing
after_draw g = record g { word = next_word g.word }

-- the number of the first message to r among these, the first of which has this number
abbrev pub message_to : ℕ → ℕ → List Sent → Option ℕ
message_to r number [] = None
message_to r number (m ∷ more) = if m.to == r then Some number else message_to r (suc number) more

-- the number of the first message to r from a number on
abbrev pub message_from : ℕ → ℕ → List Sent → Option ℕ
message_from r number sent = message_to r number (drop number sent)

-- the next message to r is delivered, or where there is none its Protocol stage turns
abbrev pub delivers_next : Option ℕ → ℕ → Drawing → Drawn
delivers_next None r g = (Line.Protocol r, g)
delivers_next (Some m) r g = (Line.Deliver r m, record g { from = slice_set g.from r (suc m) })

-- a request of a client below 8: its next number, and a Put of a byte below 16
abbrev pub requests : ℕ → Drawing → Drawn
requests r g =
    let a = after_draw g in
    let b = after_draw a in
    let c = after_draw b in
    let client = drawn a.word 8 in
    let number = suc (slice_index g.made client) in (
      Line.Request r (record { client = client; number = number; command = Put (drawn b.word 16 ∷ []) (drawn c.word 256 ∷ []) }),
      record c { made = slice_set g.made client number },
    )

-- any message is delivered once more
abbrev pub redelivers : Option Sent → ℕ → Line
redelivers None m = Line.Deliver 0 m
redelivers (Some sent) m = Line.Deliver sent.to m

-- any message is delivered once more, by a draw
abbrev pub delivers_again : List Sent → Drawing → Drawn
delivers_again sent g =
    let h = after_draw g in
    let m = drawn h.word (length sent) in
    (redelivers (slice_get sent m) m, h)

-- whether a machine's replica is down or Recovering
abbrev pub is_away : Machine → Bool
is_away m = is_away_by m.running

-- how many replicas are down or Recovering
abbrev pub away_count : Stepping → ℕ
away_count s = count_by is_away s.machines

-- a replica that is down starts; one that is up crashes, where fewer than `n` less a majority are down or Recovering; else its Protocol stage turns
abbrev pub ends_or_begins : Option Whole → ℕ → Stepping → Line
ends_or_begins None r s = Line.Start r
ends_or_begins (Some a) r s = if nat_lt (away_count s) (s.head.n - majority s.head.n) then Line.Crash r else Line.Protocol r

-- one time in ten replica r suspects its leader, and else it has a tick
abbrev pub suspects_or_ticks : ℕ → Drawing → Drawn
suspects_or_ticks r g = let h = after_draw g in (if drawn h.word 10 == 0 then Line.Suspect r else Line.Tick r, h)

-- the line for the draw d of 85 or more and the replica r
abbrev pub late_line : ℕ → ℕ → Stepping → Drawing → Drawn
late_line d r s g =
    if nat_lt d 93 then (Line.Batch r, g)
    else (if nat_lt d 95 then (Line.Tick r, g)
    else (if nat_lt d 97 then (Line.Retransmit r, g)
    else (if d == 97 then delivers_again s.sent g
    else (if d == 98 then (ends_or_begins (replica_at s r) r s, g)
    else suspects_or_ticks r g))))

-- the line for the draw d and the replica r
abbrev pub line_for : ℕ → ℕ → Stepping → Drawing → Drawn
line_for d r s g =
    if nat_lt d 30 then delivers_next (message_from r (slice_index g.from r) s.sent) r g
    else (if nat_lt d 70 then (Line.Protocol r, g)
    else (if nat_lt d 80 then (Line.Service r, g)
    else (if nat_lt d 85 then requests r g
    else late_line d r s g)))

-- the next line: a draw below 100, a draw below n, and what they say
abbrev pub next_line : Stepping → Drawing → Drawn
next_line s g =
    let a = after_draw g in
    let b = after_draw a in
    line_for (drawn a.word 100) (drawn b.word s.head.n) s b

-- the generator before its first line
abbrev pub first_drawing : ℕ → ℕ → Drawing
first_drawing seed n = record { word = seed; from = replicate n 0; made = replicate 8 0 }

-- the constants of the schedule that a seed draws
abbrev pub drawn_head : ℕ → ℕ → Head
drawn_head seed n = record { n = n; mode = mode_of_seed seed; window = 8 }

-- these lines are drawn one after another, each with the run's state at that point; they have these events, and leave the generator and the run so
abbrev pub Draws : Drawing → Stepping → List Line → List Event → Drawing → Stepping → Type 0
Draws g s [] [] g_after after = (g_after ≡ g) × (after ≡ s)
Draws g s [] (e ∷ events) g_after after = ⊥
Draws g s (line ∷ lines) [] g_after after = ⊥
Draws g s (line ∷ lines) (e ∷ events) g_after after =
    (line ≡ (next_line s g).0) × ((next : Stepping) × (Happens s line e next × Draws (next_line s g).1 next lines events g_after after))

-- the lines between the first and the last are drawn from a seed, and their run goes so
pub record DrawsFrom (seed n : ℕ) (lines : List Line) (events : List Event) (g : Drawing) (s : Stepping) : Type 0 where
  pub first : Event
  pub more : List Event
  pub begun : Stepping
  pub events_are : events ≡ first ∷ more
  pub opens : Opens (drawn_head seed n) first begun
  pub draws : Draws (first_drawing seed n) begun lines more g s

-- a seed draws this schedule for n replicas, with so many lines between the first and the last, and this is its run
pub record IsDrawn (seed n steps : ℕ) (schedule : Schedule) (run : Run) : Type 0 where
  pub lines : List Line
  pub events : List Event
  pub g : Drawing
  pub before : Stepping
  pub last : Event
  pub after : Stepping
  pub head_is : schedule.head ≡ drawn_head seed n
  pub draws : DrawsFrom seed n lines events g before
  pub count : length lines ≡ steps
  pub ends : Happens before Line.End last after
  pub lines_are : schedule.lines ≡ lines ++ Line.End ∷ []
  pub events_are : run.events ≡ events ++ last ∷ []
  pub last_is : run.last ≡ lasts_of after.machines

-- a line that may come next where so many lines are to be drawn: the one that is drawn, or behind the last one `end`
abbrev pub MayComeNext : ℕ → List Line → Drawing → Stepping → Line → Type 0
MayComeNext steps lines g s line = ((length lines < steps) × (line ≡ (next_line s g).0)) ⊎ ((length lines ≡ steps) × (line ≡ Line.End))

-- some of the lines that a seed draws, and a line behind them, send frames that pass the limit
pub record DrawsPast (seed n steps : ℕ) : Type 0 where
  pub lines : List Line
  pub events : List Event
  pub g : Drawing
  pub before : Stepping
  pub line : Line
  pub draws : DrawsFrom seed n lines events g before
  pub comes : MayComeNext steps lines g before line
  pub passes : PassesAt line before

-- what a seed draws sends frames that pass the limit, at the first starts or at a line after them
abbrev pub IsDrawnPast : ℕ → ℕ → ℕ → Type 0
IsDrawnPast seed n steps = OpensPast (drawn_head seed n) ⊎ DrawsPast seed n steps

-- ---- What is looked at

-- a generator, and of each replica how many messages were looked at for it
pub record Generating : Type 0 where
  pub drawing : Drawing
  pub seen : List ℕ

-- from this number on and from the one up to which messages were looked at, the same message to r is found, whatever is sent later
pub record IsLookedAt (r from seen : ℕ) (sent : List Sent) : Type 0 where
  pub within : seen ≤ length sent
  pub same : (later : List Sent) → message_from r from (sent ++ later) ≡ message_from r seen (sent ++ later)

-- the same of each replica
abbrev pub AreLookedAt : Generating → List Sent → Type 0
AreLookedAt g sent = (r : ℕ) → r < length g.seen → IsLookedAt r (slice_index g.drawing.from r) (slice_index g.seen r) sent

-- each client made fewer requests than this
abbrev pub MadeBelow : ℕ → Generating → Type 0
MadeBelow bound g = (client : ℕ) → slice_index g.drawing.made client < bound

-- a generator for a run of so many replicas, which has looked at some of its messages
pub record Serves (s : Stepping) (g : Generating) : Type 0 where
  pub replicas : length g.drawing.from ≡ s.head.n
  pub places : length g.seen ≡ s.head.n
  pub looked : AreLookedAt g s.sent

-- a schedule that is being drawn: so many lines so far, their events, the generator and the run
pub record IsBeingDrawn (seed n count : ℕ) (g : Generating) (s : Stepping) (lines : List Line) (events : List Event) : Type 0 where
  pub draws : DrawsFrom seed n lines events g.drawing s
  pub count_is : length lines ≡ count
  pub serves : Serves s g
  pub made : MadeBelow (suc count) g

-- Runs that go on by a line.
use Rattle.std.proofs.Common.{◌≡◌, ◌∙◌, ◌+◌, ◌<◌, ℕ, List, [], ◌∷◌, ◌++◌, length, take, get_or, refl, sym, ap, subst, arith}
use Rattle.std.proofs.lemmas.List.{take_more}
use Rattle.schedules.specs.declared.event.Event.{Event}
use Rattle.schedules.specs.declared.line.Head.{Head}
use Rattle.schedules.specs.declared.line.Line.{Line}
use Rattle.cluster.specs.Drawing.{Drawing, Draws, DrawsFrom, drawn_head, first_drawing, next_line}
use Rattle.schedules.specs.Lines.{lines_of_events}
use Rattle.schedules.specs.declared.schedule.Schedule.{Schedule}
use Rattle.cluster.specs.Runs.{Goes, OpensPast, PassesAt, Reaches, RunsPast}
use Rattle.cluster.specs.Stepping.{Happens, Opens, Stepping}

-- one line more
pub goes_more : (s : Stepping) (lines : List Line) (events : List Event) (middle : Stepping) (line : Line) (e : Event) (after : Stepping)
    → Goes s lines events middle → Happens middle line e after → Goes s (lines ++ line ∷ []) (events ++ e ∷ []) after
goes_more s [] [] middle line e after g h = (after, (subst (λ (t : Stepping). Happens t line e after) g h, refl))
goes_more s [] (f ∷ events) middle line e after g h = absurd g
goes_more s (k ∷ lines) [] middle line e after g h = absurd g
goes_more s (k ∷ lines) (f ∷ events) middle line e after (next, (first, rest)) h =
    (next, (first, goes_more next lines events middle line e after rest h))

-- one line more, behind the first
pub reaches_more : (head : Head) (lines : List Line) (events : List Event) (s : Stepping) (line : Line) (e : Event) (after : Stepping)
    → Reaches head lines events s → Happens s line e after → Reaches head (lines ++ line ∷ []) (events ++ e ∷ []) after
reaches_more head lines events s line e after r h =
    record {
      first = r.first;
      more = r.more ++ e ∷ [];
      begun = r.begun;
      events_are = ap (λ (es : List Event). es ++ e ∷ []) r.events_are;
      opens = r.opens;
      goes = goes_more r.begun lines r.more s line e after r.goes h;
    }

-- no line yet behind the first
pub reaches_first : (head : Head) (e : Event) (s : Stepping) → Opens head e s → Reaches head [] (e ∷ []) s
reaches_first head e s opens = record { first = e; more = []; begun = s; events_are = refl; opens = opens; goes = refl }

-- the events answer the lines
pub goes_lines : (s : Stepping) (lines : List Line) (events : List Event) (after : Stepping) → Goes s lines events after → lines_of_events events ≡ lines
goes_lines s [] [] after g = refl
goes_lines s [] (e ∷ events) after g = absurd g
goes_lines s (line ∷ lines) [] after g = absurd g
goes_lines s (line ∷ lines) (e ∷ events) after (next, (first, rest)) =
    let front = first.0 in
    let back = goes_lines next lines events after rest in
    ap (λ (l : Line). l ∷ lines_of_events events) front ∙ ap (λ (ls : List Line). line ∷ ls) back

-- the events answer the first line and the lines
pub reaches_lines : (head : Head) (lines : List Line) (events : List Event) (s : Stepping)
    → Reaches head lines events s → lines_of_events events ≡ Line.Cluster head ∷ lines
reaches_lines head lines events s r =
    ap (λ (es : List Event). lines_of_events es) r.events_are
    ∙ ap (λ (l : Line). l ∷ lines_of_events r.more) r.opens.line
    ∙ ap (λ (ls : List Line). Line.Cluster head ∷ ls) (goes_lines r.begun lines r.more s r.goes)

-- one line more of a schedule
pub reaches_next : (head : Head) (lines : List Line) (k : ℕ) (events : List Event) (s : Stepping) (line : Line) (e : Event) (after : Stepping)
    → k < length lines → line ≡ get_or lines k line → Reaches head (take k lines) events s → Happens s line e after
    → Reaches head (take (k + 1) lines) (events ++ e ∷ []) after
reaches_next head lines k events s line e after low is r h =
    let more : take (k + 1) lines ≡ take k lines ++ line ∷ [] = take_more lines k line low ∙ ap (λ (l : Line). take k lines ++ l ∷ []) (sym is) in
    subst (λ (ls : List Line). Reaches head ls (events ++ e ∷ []) after) (sym more) (reaches_more head (take k lines) events s line e after r h)

-- the first starts of a schedule pass the limit of frames
pub opens_past_runs : (schedule : Schedule) → OpensPast schedule.head → RunsPast schedule
opens_past_runs schedule o =
    record { count = 0; front = omega arith; events = o.event ∷ []; after = o.after; reaches = reaches_first schedule.head o.event o.after o.opens; past = o.past }

-- a line of a schedule passes it
pub line_past_runs : (schedule : Schedule) (k : ℕ) (line : Line) (events : List Event) (s : Stepping)
    → k < length schedule.lines → line ≡ get_or schedule.lines k line → Reaches schedule.head (take k schedule.lines) events s → PassesAt line s → RunsPast schedule
line_past_runs schedule k line events s low is r p =
    record {
      count = k + 1;
      front = omega arith;
      events = events ++ p.event ∷ [];
      after = p.after;
      reaches = reaches_next schedule.head schedule.lines k events s line p.event p.after low is r p.happens;
      past = p.past;
    }

-- ---- Lines that are drawn

-- one line more
pub draws_more : (g : Drawing) (s : Stepping) (lines : List Line) (events : List Event) (g_middle : Drawing) (middle : Stepping) (e : Event) (after : Stepping)
    → Draws g s lines events g_middle middle → Happens middle (next_line middle g_middle).0 e after
    → Draws g s (lines ++ (next_line middle g_middle).0 ∷ []) (events ++ e ∷ []) (next_line middle g_middle).1 after
draws_more g s [] [] g_middle middle e after (gs, ss) h = rw (gs, ss) (refl, (after, (rw (gs, ss) at h, (refl, refl))))
draws_more g s [] (f ∷ events) g_middle middle e after d h = absurd d
draws_more g s (k ∷ lines) [] g_middle middle e after d h = absurd d
draws_more g s (k ∷ lines) (f ∷ events) g_middle middle e after (drawn, (next, (first, rest))) h =
    (drawn, (next, (first, draws_more (next_line s g).1 next lines events g_middle middle e after rest h)))

-- what is drawn is run
pub draws_goes : (g : Drawing) (s : Stepping) (lines : List Line) (events : List Event) (g_after : Drawing) (after : Stepping)
    → Draws g s lines events g_after after → Goes s lines events after
draws_goes g s [] [] g_after after (gs, ss) = ss
draws_goes g s [] (e ∷ events) g_after after d = absurd d
draws_goes g s (line ∷ lines) [] g_after after d = absurd d
draws_goes g s (line ∷ lines) (e ∷ events) g_after after (drawn, (next, (first, rest))) =
    (next, (first, draws_goes (next_line s g).1 next lines events g_after after rest))

-- the same from the first line on
pub drawn_reaches : (seed n : ℕ) (lines : List Line) (events : List Event) (g : Drawing) (s : Stepping)
    → DrawsFrom seed n lines events g s → Reaches (drawn_head seed n) lines events s
drawn_reaches seed n lines events g s d =
    record {
      first = d.first;
      more = d.more;
      begun = d.begun;
      events_are = d.events_are;
      opens = d.opens;
      goes = draws_goes (first_drawing seed n) d.begun lines d.more g s d.draws;
    }

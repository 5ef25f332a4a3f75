-- Schedules that are drawn by a seed, each line with the run's state at that point, and the summary of their runs.
use Rattle.std.specs.Prelude.{ℕ, zero, suc, ◌+◌, ◌*◌, ◌-◌, ◌/◌, ◌%◌, ◌^◌, Bool, true, false, List, [], ◌∷◌, ◌++◌, length, replicate, count_by, nat_lt, ◌==◌, if◌then◌else◌, Option, Some, None, slice_get, slice_index, slice_set, codes}
use Rattle.jp_types.specs.declared.mode.Mode.{Mode}
use Rattle.jp_types.specs.declared.mode.Mode.TheVariants.{ViewSs, EpochSs}
use Rattle.jp_types.specs.declared.command.Command.TheVariants.{Put}
use Rattle.paxos_world.specs.declared.step.Step.{Step}
use Rattle.jp_types.specs.Views.{majority}
use Rattle.paxos_world.specs.World.{Sent}
use Rattle.paxos_world.specs.Counting.{is_recovering}
use Rattle.schedules.specs.declared.line.Head.{Head}
use Rattle.schedules.specs.declared.line.Line.{Line}
use Rattle.schedules.specs.declared.line.Word.{Word}
use Rattle.schedules.specs.declared.line.Word.TheVariants.{Done, Empty, Full, Down, Up, Unsent}
use Rattle.schedules.specs.declared.schedule.Schedule.{Schedule}
use Rattle.paxos_world.specs.Replica.{Running}
use Rattle.schedules.specs.Cluster.{Place, Cluster, running_of}
use Rattle.schedules.specs.declared.event.Event.{Event}
use Rattle.schedules.specs.declared.event.Run.{Run}
use Rattle.paxos_world.specs.declared.last.Last.{Last}
use Rattle.schedules.specs.Run.{event, first_event}
use Rattle.schedules.specs.Text.{show_phase}
use Rattle.text_lines.specs.Texts.{numbers, spaced}

-- ---- Drawing

-- the generator: its 64-bit word, the cluster so far, of each replica the number from which on messages to it are delivered next, and of each client how many requests it made
pub record Drawing : Type 0 where
  pub word : ℕ
  pub cluster : Cluster
  pub from : List ℕ
  pub made : List ℕ

-- the word after a draw
abbrev pub next_word : ℕ → ℕ
next_word x = (x * 6364136223846793005 + 1442695040888963407) % 2 ^ 64

-- what a draw below k gives at the word after it
abbrev pub drawn : ℕ → ℕ → ℕ
drawn word k = (word / 2 ^ 33) % k

-- a line, and the generator after its draws
abbrev pub Drawn : Type 0
Drawn = Line × Drawing

-- the generator after k draws
abbrev pub after_draws : ℕ → Drawing → Drawing
after_draws zero g = g
after_draws (suc k) g = after_draws k (record g { word = next_word g.word })

-- the first number from `number` on of a message to r among these, which begin with that number
abbrev pub message_to : ℕ → ℕ → List Sent → Option ℕ
message_to r number [] = None
message_to r number (m ∷ more) = let later = message_to r (suc number) more in if m.to == r then Some number else later

-- the messages from number k on
abbrev pub dropped : ℕ → List Sent → List Sent
dropped zero sent = sent
dropped (suc k) [] = []
dropped (suc k) (m ∷ more) = dropped k more

-- the next message to r is delivered, or where there is none its Protocol stage turns
abbrev pub delivers_next : Option ℕ → ℕ → Drawing → Drawn
delivers_next None r g = (Line.Protocol r, g)
delivers_next (Some m) r g = (Line.Deliver r m, record g { from = slice_set g.from r (suc m) })

-- a request of a client below 8: its next number, and a Put of a byte below 16
abbrev pub requests : ℕ → Drawing → Drawn
requests r g =
    let a = record g { word = next_word g.word } in
    let b = record a { word = next_word a.word } in
    let c = record b { word = next_word b.word } in
    let client = drawn a.word 8 in
    let number = suc (slice_index g.made client) in (
      Line.Request r (record { client = client; number = number; command = Put (drawn b.word 16 ∷ []) (drawn c.word 256 ∷ []) }),
      record c { made = slice_set g.made client number },
    )

-- any message is delivered once more
abbrev pub redelivers : Option Sent → ℕ → Drawing → Drawn
redelivers None m g = (Line.Deliver 0 m, g)
redelivers (Some sent) m g = (Line.Deliver sent.to m, g)

-- whether nothing runs, or what runs is Recovering
abbrev pub is_away_by : Option Running → Bool
is_away_by None = true
is_away_by (Some a) = is_recovering a.stage.life.phase

-- whether a replica is down or Recovering
abbrev pub is_away : Place → Bool
is_away place = is_away_by place.running

-- a replica that is down starts; one that is up crashes, where fewer than `n` less a majority are down or Recovering; else its Protocol stage turns
abbrev pub ends_or_begins : Option Running → ℕ → Drawing → Drawn
ends_or_begins None r g = (Line.Start r, g)
ends_or_begins (Some a) r g =
    let n = g.cluster.head.n in
    (if nat_lt (count_by is_away g.cluster.places) (n - majority n) then Line.Crash r else Line.Protocol r, g)

-- the line for the draw d and the replica r
abbrev pub line_for : ℕ → ℕ → Drawing → Drawn
line_for d r g =
    if nat_lt d 30 then delivers_next (message_to r (slice_index g.from r) (dropped (slice_index g.from r) g.cluster.sent)) r g
    else (if nat_lt d 70 then (Line.Protocol r, g)
    else (if nat_lt d 80 then (Line.Service r, g)
    else (if nat_lt d 85 then requests r g
    else (if nat_lt d 93 then (Line.Batch r, g)
    else (if nat_lt d 95 then (Line.Tick r, g)
    else (if nat_lt d 97 then (Line.Retransmit r, g)
    else (if d == 97 then (let h = after_draws 1 g in let m = drawn h.word (length g.cluster.sent) in redelivers (slice_get g.cluster.sent m) m h)
    else (if d == 98 then ends_or_begins (running_of (slice_get g.cluster.places r)) r g
    else (let h = after_draws 1 g in if drawn h.word 10 == 0 then (Line.Suspect r, h) else (Line.Tick r, h))))))))))

-- the next line: a draw below 100, a draw below n, and what they say
abbrev pub next_line : Drawing → Drawn
next_line g =
    let a = record g { word = next_word g.word } in
    let b = record a { word = next_word a.word } in
    line_for (drawn a.word 100) (drawn b.word g.cluster.head.n) b

-- so many lines and the last line `end`; each line is run before the next is drawn
abbrev pub lines_drawn : ℕ → Drawing → List Line
lines_drawn zero g = Line.End ∷ []
lines_drawn (suc k) g =
    let next = next_line g in
    let after = next.1 in
    next.0 ∷ lines_drawn k (record after { cluster = (event after.cluster next.0).cluster })

-- EpochSS for an odd seed, else ViewSS
abbrev pub mode_of_seed : ℕ → Mode
mode_of_seed seed = if seed % 2 == 1 then EpochSs else ViewSs

-- the schedule that a seed draws: n replicas, and so many lines between the first and the last
unfoldable pub generate : ℕ → ℕ → ℕ → Schedule
generate seed n steps =
    let head : Head = record { n = n; mode = mode_of_seed seed; window = 8 } in
    record { head = head; lines = lines_drawn steps (record { word = seed; cluster = (first_event head).cluster; from = replicate n 0; made = replicate 8 0 }) }

-- ---- The summary

-- whether two answer words are one
abbrev pub is_word : Word → Word → Bool
is_word Done Done = true
is_word Empty Empty = true
is_word Full Full = true
is_word Down Down = true
is_word Up Up = true
is_word Unsent Unsent = true
is_word _ _ = false

-- how many events of a run have an answer word
abbrev pub word_count : Word → List Event → ℕ
word_count word events = count_by (λ e. is_word word e.word) events

-- whether a step is the sending of a message
abbrev pub is_send : Step → Bool
is_send (Step.Send number to kind) = true
is_send _ = false

-- how many messages these events send
abbrev pub send_count : List Event → ℕ
send_count [] = 0
send_count (e ∷ events) = count_by is_send e.steps + send_count events

-- the answer words with their counts
abbrev pub counts_text : List Event → List ℕ
counts_text events =
    codes "done" ++ numbers (word_count Done events ∷ []) ++ codes " empty" ++ numbers (word_count Empty events ∷ []) ++ codes " full" ++ numbers (word_count Full events ∷ [])
    ++ codes " down" ++ numbers (word_count Down events ∷ []) ++ codes " up" ++ numbers (word_count Up events ∷ []) ++ codes " unsent" ++ numbers (word_count Unsent events ∷ [])

-- how a replica ends: its phase, its view, the executed number and the count of its keys
abbrev pub last_summary : Option Last → List ℕ
last_summary None = codes " down"
last_summary (Some last) = spaced (show_phase last.phase ∷ []) ++ numbers (last.view ∷ last.state.executed ∷ length last.state.store ∷ [])

-- a line for each replica from r on
abbrev pub replica_summaries : ℕ → List (Option Last) → List ℕ
replica_summaries r [] = []
replica_summaries r (last ∷ more) = codes "replica" ++ numbers (r ∷ []) ++ last_summary last ++ (10 ∷ replica_summaries (suc r) more)

-- the summary of a run: `steps` counts the events but the first and the last, and the words are those of all
unfoldable pub summary : Run → ℕ → List ℕ
summary run seed =
    let events = run.events in
    codes "seed" ++ numbers (seed ∷ []) ++ codes " replicas" ++ numbers (length run.last ∷ []) ++ codes " steps" ++ numbers ((length events - 2) ∷ []) ++ 10 ∷ []
    ++ counts_text events ++ 10 ∷ []
    ++ codes "messages" ++ numbers (send_count events ∷ []) ++ 10 ∷ []
    ++ replica_summaries 0 run.last

-- The text of a run.
use Rattle.std.specs.Prelude.{ℕ, suc, ◌/◌, ◌%◌, false, List, [], ◌∷◌, ◌++◌, flat_map, ◌==◌, if◌then◌else◌, Option, Some, None, Result, Ok, codes, decimal}
use Rattle.std.specs.List.{join_by}
use Rattle.std.specs.Fmt.{digit_glyph}
use Rattle.jp_types.specs.declared.mode.Mode.{Mode}
use Rattle.jp_types.specs.declared.mode.Mode.TheVariants.{ViewSs, EpochSs}
use Rattle.jp_types.specs.declared.mode.Phase.{Phase}
use Rattle.jp_types.specs.declared.mode.Phase.TheVariants.{Recovering, Working}
use Rattle.jp_types.specs.declared.command.Command.{Command}
use Rattle.jp_types.specs.declared.command.Command.TheVariants.{Put, Get, Del, Cas}
use Rattle.jp_types.specs.declared.command.Reply.{Reply}
use Rattle.kv_service.specs.declared.outcome.Kind.{Kind}
use Rattle.kv_service.specs.declared.outcome.Kind.TheVariants.{First, Repeated, Passed}
use Rattle.kv_service.specs.declared.outcome.Outcome.{Outcome}
use Rattle.paxos_world.specs.declared.step.Step.{Step}
use Rattle.jp_types.specs.Instances.{Batch}
use Rattle.schedules.specs.declared.line.Line.{Line}
use Rattle.schedules.specs.declared.line.Word.{Word}
use Rattle.schedules.specs.declared.line.Word.TheVariants.{Done, Empty, Full, Down, Up, Unsent}
use Rattle.jp_types.specs.Words.{◌>>=◌}
use Rattle.text_lines.specs.Lines.{Bad}
use Rattle.text_lines.specs.Texts.{spaced, numbers, hex, show_bytes, show_reply}
use Rattle.schedules.specs.Schedule.{read_schedule}
use Rattle.schedules.specs.declared.event.Event.{Event}
use Rattle.schedules.specs.declared.event.Run.{Run}
use Rattle.paxos_world.specs.declared.last.Last.{Last}
use Rattle.schedules.specs.Run.{run_of}

-- the value that `cas` expects, or `none`
abbrev pub show_old : Option (List ℕ) → List ℕ
show_old None = codes "none"
show_old (Some value) = show_bytes value

-- a command
abbrev pub show_command : Command → List ℕ
show_command (Put key value) = codes "put" ++ spaced (show_bytes key ∷ show_bytes value ∷ [])
show_command (Get key) = codes "get" ++ spaced (show_bytes key ∷ [])
show_command (Del key) = codes "del" ++ spaced (show_bytes key ∷ [])
show_command (Cas key old new) = codes "cas" ++ spaced (show_bytes key ∷ show_old old ∷ show_bytes new ∷ [])

-- a mode
abbrev pub show_mode : Mode → List ℕ
show_mode ViewSs = codes "viewss"
show_mode EpochSs = codes "epochss"

-- a line as it stands in the schedule
abbrev pub show_line : Line → List ℕ
show_line (Line.Cluster head) = codes "cluster" ++ numbers (head.n ∷ []) ++ spaced (show_mode head.mode ∷ []) ++ numbers (head.window ∷ [])
show_line (Line.Request r q) = codes "request" ++ numbers (r ∷ q.client ∷ q.number ∷ []) ++ spaced (show_command q.command ∷ [])
show_line (Line.Batch r) = codes "batch" ++ numbers (r ∷ [])
show_line (Line.Tick r) = codes "tick" ++ numbers (r ∷ [])
show_line (Line.Suspect r) = codes "suspect" ++ numbers (r ∷ [])
show_line (Line.Deliver r m) = codes "deliver" ++ numbers (r ∷ m ∷ [])
show_line (Line.Protocol r) = codes "protocol" ++ numbers (r ∷ [])
show_line (Line.Service r) = codes "service" ++ numbers (r ∷ [])
show_line (Line.Retransmit r) = codes "retransmit" ++ numbers (r ∷ [])
show_line (Line.Crash r) = codes "crash" ++ numbers (r ∷ [])
show_line (Line.Start r) = codes "start" ++ numbers (r ∷ [])
show_line Line.End = codes "end"

-- an answer word
abbrev pub show_word : Word → List ℕ
show_word Done = codes "done"
show_word Empty = codes "empty"
show_word Full = codes "full"
show_word Down = codes "down"
show_word Up = codes "up"
show_word Unsent = codes "unsent"

-- a client and a number
abbrev pub pair_text : ℕ → ℕ → List ℕ
pair_text client number = decimal client ++ codes "." ++ decimal number

-- a batch: client.number of each request, or `-`
abbrev pub show_batch : Batch → List ℕ
show_batch [] = codes "-"
show_batch (r ∷ rs) = join_by (λ q. pair_text q.client q.number) (codes ",") (r ∷ rs)

-- the reply, if there is one
abbrev pub reply_text : Option Reply → List ℕ
reply_text None = []
reply_text (Some reply) = show_reply reply

-- how a request was taken, as one sign, and the reply to it
abbrev pub kind_text : Kind → Option Reply → List ℕ
kind_text First reply = codes "+" ++ reply_text reply
kind_text Repeated reply = codes "=" ++ reply_text reply
kind_text Passed reply = codes "~"

-- an outcome: client.number, how the request was taken, and the reply
abbrev pub show_outcome : Outcome → List ℕ
show_outcome o = pair_text o.client o.number ++ kind_text o.kind o.reply

-- `next`, or `-`
abbrev pub show_next : Option ℕ → List ℕ
show_next None = codes "-"
show_next (Some next) = decimal next

-- the word of a message's kind
abbrev pub kind_word : ℕ → List ℕ
kind_word kind =
    if kind == 1 then codes "prepare" else (
    if kind == 2 then codes "promise" else (
    if kind == 3 then codes "propose" else (
    if kind == 4 then codes "accept" else (
    if kind == 5 then codes "recovery" else (
    if kind == 6 then codes "answer" else (
    if kind == 7 then codes "query" else (
    if kind == 8 then codes "batches" else (
    if kind == 9 then codes "part" else (
    codes "alive")))))))))

-- a step
abbrev pub show_step : Step → List ℕ
show_step (Step.First r) = codes "first" ++ numbers (r ∷ [])
show_step (Step.Return r mark) = codes "return" ++ numbers (r ∷ mark ∷ [])
show_step (Step.Crash r) = codes "crash" ++ numbers (r ∷ [])
show_step (Step.Enter r view) = codes "enter" ++ numbers (r ∷ view ∷ [])
show_step (Step.Promise r view) = codes "promise" ++ numbers (r ∷ view ∷ [])
show_step (Step.Prepared r view next) = codes "prepared" ++ numbers (r ∷ view ∷ next ∷ [])
show_step (Step.Launch r view i batch) = codes "launch" ++ numbers (r ∷ view ∷ i ∷ []) ++ spaced (show_batch batch ∷ [])
show_step (Step.Vote r view i) = codes "vote" ++ numbers (r ∷ view ∷ i ∷ [])
show_step (Step.Learn r i) = codes "learn" ++ numbers (r ∷ i ∷ [])
show_step (Step.Answer r to view next) = codes "answer" ++ numbers (r ∷ to ∷ view ∷ []) ++ spaced (show_next next ∷ [])
show_step (Step.Rejoin r view) = codes "rejoin" ++ numbers (r ∷ view ∷ [])
show_step (Step.Install r upto) = codes "install" ++ numbers (r ∷ upto ∷ [])
show_step (Step.Execute r i outcomes) = codes "execute" ++ numbers (r ∷ i ∷ []) ++ flat_map (λ o. 32 ∷ show_outcome o) outcomes
show_step (Step.Restore r upto) = codes "restore" ++ numbers (r ∷ upto ∷ [])
show_step (Step.Send number to kind) = codes "send" ++ numbers (number ∷ to ∷ []) ++ spaced (kind_word kind ∷ [])

-- an event: the line, its answer word and each step, and a line feed
abbrev pub show_event : Event → List ℕ
show_event e = show_line e.line ++ codes " = " ++ show_word e.word ++ flat_map (λ step. codes "; " ++ show_step step) e.steps ++ 10 ∷ []

-- a phase
abbrev pub show_phase : Phase → List ℕ
show_phase Working = codes "working"
show_phase Recovering = codes "recovering"

-- how a replica ends
abbrev pub show_last : Option Last → List ℕ
show_last None = codes " down"
show_last (Some last) =
    spaced (show_phase last.phase ∷ []) ++ numbers (last.view ∷ last.state.executed ∷ [])
    ++ flat_map (λ pair. 32 ∷ hex pair.0 ++ codes "=" ++ show_bytes pair.1) last.state.store

-- the lines of the replicas from r on
abbrev pub show_replicas : ℕ → List (Option Last) → List ℕ
show_replicas r [] = []
show_replicas r (last ∷ more) = codes "replica" ++ numbers (r ∷ []) ++ show_last last ++ (10 ∷ show_replicas (suc r) more)

-- the text of a run
unfoldable pub show : Run → List ℕ
show run = flat_map show_event run.events ++ show_replicas 0 run.last

-- the text of the run of the schedule that an input spells
unfoldable pub text_of : List ℕ → Result (List ℕ) Bad
text_of input = read_schedule input >>= λ s. Ok (show (run_of s))

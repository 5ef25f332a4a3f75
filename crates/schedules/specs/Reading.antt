-- What the readers of lines and schedules answer, beside what there is to read.
use Rattle.std.specs.Prelude.{◌≡◌, ℕ, ◌++◌, ◌==◌, nat_lt, length, if◌then◌else◌, bytes_eq, codes, List, [], ◌∷◌, Bool, true, Option, Some, None, Result, Ok, Err}
use Rattle.std.specs.List.{position_or_len, before_first, after_first}
use Rattle.jp_types.specs.declared.cause.Cause.{Cause}
use Rattle.jp_types.specs.declared.cause.Cause.TheVariants.{NoCluster, Operands, Unknown, NoEnd, Text}
use Rattle.jp_types.specs.Words.{◌>>=◌, where_so, words_of}
use Rattle.schedules.specs.declared.line.Head.{Head}
use Rattle.schedules.specs.declared.line.Line.{Line}
use Rattle.jp_types.specs.declared.read_command.LineFault.{LineFault}
use Rattle.jp_types.specs.declared.read_command.LineFault.TheVariants as line_fault
use Rattle.schedules.specs.declared.schedule.ScheduleFault.{ScheduleFault}
use Rattle.schedules.specs.declared.schedule.ScheduleFault.TheVariants as fault
use Rattle.text_lines.specs.Lines.{Bad, Raw, as_text, at_line, lines_of, first_raw, behind_first}
use Rattle.schedules.specs.Schedule.{replica, plain, deliver_of, end_of, line_by_words, first_by_words, rest_of}

-- ---- Lines

-- the replica that is a line's one operand
abbrev pub lone_replica : ℕ → List (List ℕ) → Result ℕ Cause
lone_replica n (r ∷ []) = replica n r
lone_replica n _ = Err Operands

-- the lines that end a life, begin one, or end the schedule
abbrev pub line_of_life : ℕ → List ℕ → List (List ℕ) → Result Line Cause
line_of_life n word operands =
    if bytes_eq word (codes "crash") then plain n Line.Crash operands
    else (if bytes_eq word (codes "start") then plain n Line.Start operands
    else (if bytes_eq word (codes "end") then end_of operands
    else Err Unknown))

-- that by which a message is repeated, and these
abbrev pub line_of_retransmitter : ℕ → List ℕ → List (List ℕ) → Result Line Cause
line_of_retransmitter n word operands = if bytes_eq word (codes "retransmit") then plain n Line.Retransmit operands else line_of_life n word operands

-- those by which a stage takes an item, and these
abbrev pub line_of_stage : ℕ → List ℕ → List (List ℕ) → Result Line Cause
line_of_stage n word operands =
    if bytes_eq word (codes "protocol") then plain n Line.Protocol operands
    else (if bytes_eq word (codes "service") then plain n Line.Service operands
    else line_of_retransmitter n word operands)

-- all but `request`
abbrev pub line_to_lane : ℕ → List ℕ → List (List ℕ) → Result Line Cause
line_to_lane n word operands =
    if bytes_eq word (codes "batch") then plain n Line.Batch operands
    else (if bytes_eq word (codes "tick") then plain n Line.Tick operands
    else (if bytes_eq word (codes "suspect") then plain n Line.Suspect operands
    else (if bytes_eq word (codes "deliver") then deliver_of n operands
    else line_of_stage n word operands)))

-- the line that a text spells without its line feed: the first where there is none yet, and else one after it
abbrev pub line_of_text : Option Head → List ℕ → Result Line Cause
line_of_text None text = as_text (record { text = text; ended = true }) first_by_words >>= λ head. Ok (Line.Cluster head)
line_of_text (Some head) text = as_text (record { text = text; ended = true }) (line_by_words head.n)

-- ---- Schedules

-- a reader answers what is read, or the wrong line and its cause; of want of memory nothing is said
abbrev pub ReadsLines : {A : Type 0} → Result A ScheduleFault → Result A Bad → Type 0
ReadsLines (Ok x) r = r ≡ Ok x
ReadsLines (Err (fault.Bad line cause)) r = r ≡ Err (record { line = line; cause = cause })
ReadsLines (Err fault.TooLarge) r = ⊥
ReadsLines (Err fault.NoMemory) r = Unit {0}

-- what is told of a fault at line k
abbrev pub fault_at : ℕ → LineFault → ScheduleFault
fault_at k (line_fault.Cause cause) = fault.Bad k cause
fault_at k line_fault.NoMemory = fault.NoMemory

-- the first line of a schedule
abbrev pub head_at : List ℕ → Result Head Bad
head_at [] = Err (record { line = 1; cause = NoCluster })
head_at (c ∷ cs) = at_line 1 (as_text (first_raw (c ∷ cs)) first_by_words)

-- the line that stands first, at line k
abbrev pub line_at : ℕ → ℕ → List ℕ → Result Line Bad
line_at n k [] = Err (record { line = k; cause = NoEnd })
line_at n k (c ∷ cs) = at_line k (as_text (first_raw (c ∷ cs)) (line_by_words n))

-- the lines that were read, and those that an input spells from line k on
abbrev pub with_lines : ℕ → ℕ → List Line → List ℕ → Result (List Line) Bad
with_lines n k lines input = rest_of n k (lines_of input) >>= λ others. Ok (lines ++ others)

-- A schedule, and the bytes that spell one: its lines, or the first line that is wrong and why.
use Rattle.std.specs.Prelude.{ℕ, suc, ◌-◌, ◌^◌, Bool, true, false, ◌&&◌, not, List, [], ◌∷◌, length, nat_lt, ◌==◌, if◌then◌else◌, Result, Ok, Err, bytes_eq, codes}
use Rattle.std.specs.List.{list_all, slice_split}
use Rattle.std.specs.Int.{is_in_range}
use Rattle.jp_types.specs.declared.cause.Cause.{Cause}
use Rattle.jp_types.specs.declared.cause.Cause.TheVariants.{NoCluster, Unknown, Operands, BadMode, NoEnd, AfterEnd, Text}
use Rattle.jp_types.specs.declared.mode.Mode.{Mode}
use Rattle.jp_types.specs.declared.mode.Mode.TheVariants.{ViewSs, EpochSs}
use Rattle.jp_types.specs.Words.{◌>>=◌, where_so, is_empty, words_of, number}
use Rattle.jp_types.specs.Commands.{command}
use Rattle.text_lines.specs.Lines.{Bad, Raw, lines_of, as_text, at_line, mode}
use Rattle.schedules.specs.declared.line.Head.{Head}
use Rattle.schedules.specs.declared.line.Line.{Line}
use Rattle.schedules.specs.declared.schedule.Schedule.{Schedule}

-- ---- Operands

-- a replica of so many
abbrev pub replica : ℕ → List ℕ → Result ℕ Cause
replica n word = number 0 (n - 1) word

-- ---- Lines by their first word

-- the operands of `cluster`
abbrev pub head_of : List (List ℕ) → Result Head Cause
head_of (n ∷ m ∷ w ∷ []) = number 3 9 n >>= λ n. mode m >>= λ m. number 1 64 w >>= λ w. Ok (record { n = n; mode = m; window = w })
head_of _ = Err Operands

-- a line with a replica as its one operand
abbrev pub plain : ℕ → (ℕ → Line) → List (List ℕ) → Result Line Cause
plain n line (r ∷ []) = replica n r >>= λ r. Ok (line r)
plain n line _ = Err Operands

-- the operands of `request`: a replica, a client, a number and a command
abbrev pub request_of : ℕ → List (List ℕ) → Result Line Cause
request_of n (r ∷ c ∷ s ∷ word ∷ operands) =
    replica n r >>= λ r. number 0 1023 c >>= λ c. number 1 (2 ^ 48) s >>= λ s. command (word ∷ operands) >>= λ command.
    Ok (Line.Request r (record { client = c; number = s; command = command }))
request_of n _ = Err Operands

-- the operands of `deliver`: a replica and a message
abbrev pub deliver_of : ℕ → List (List ℕ) → Result Line Cause
deliver_of n (r ∷ m ∷ []) = replica n r >>= λ r. number 0 4294967295 m >>= λ m. Ok (Line.Deliver r m)
deliver_of n _ = Err Operands

-- `end` has none
abbrev pub end_of : List (List ℕ) → Result Line Cause
end_of [] = Ok Line.End
end_of (word ∷ words) = Err Operands

-- a line after the first, by its words
abbrev pub line_by_words : ℕ → List (List ℕ) → Result Line Cause
line_by_words n [] = Err Unknown
line_by_words n (word ∷ operands) =
    if bytes_eq word (codes "request") then request_of n operands
    else (if bytes_eq word (codes "batch") then plain n Line.Batch operands
    else (if bytes_eq word (codes "tick") then plain n Line.Tick operands
    else (if bytes_eq word (codes "suspect") then plain n Line.Suspect operands
    else (if bytes_eq word (codes "deliver") then deliver_of n operands
    else (if bytes_eq word (codes "protocol") then plain n Line.Protocol operands
    else (if bytes_eq word (codes "service") then plain n Line.Service operands
    else (if bytes_eq word (codes "retransmit") then plain n Line.Retransmit operands
    else (if bytes_eq word (codes "crash") then plain n Line.Crash operands
    else (if bytes_eq word (codes "start") then plain n Line.Start operands
    else (if bytes_eq word (codes "end") then end_of operands
    else Err Unknown))))))))))

-- the first line, by its words
abbrev pub first_by_words : List (List ℕ) → Result Head Cause
first_by_words [] = Err NoCluster
first_by_words (word ∷ operands) = if bytes_eq word (codes "cluster") then head_of operands else Err NoCluster

-- whether a line is the last
abbrev pub is_end : Line → Bool
is_end Line.End = true
is_end _ = false

-- behind `end` no line stands
abbrev pub after_end : ℕ → List Raw → Result (List Line) Bad
after_end k [] = Ok []
after_end k (raw ∷ raws) = at_line k (as_text raw (λ words. Err AfterEnd))

-- the lines from line k on, up to `end`
abbrev pub rest_of : ℕ → ℕ → List Raw → Result (List Line) Bad
rest_of n k [] = Err (record { line = k; cause = NoEnd })
rest_of n k (raw ∷ raws) =
    at_line k (as_text raw (line_by_words n)) >>= λ line.
    (let others = rest_of n (suc k) raws in if is_end line then after_end (suc k) raws else others) >>= λ lines.
    Ok (line ∷ lines)

-- the schedule that lines spell
abbrev pub schedule_of : List Raw → Result Schedule Bad
schedule_of [] = Err (record { line = 1; cause = NoCluster })
schedule_of (raw ∷ raws) =
    at_line 1 (as_text raw first_by_words) >>= λ head. rest_of head.n 2 raws >>= λ lines. Ok (record { head = head; lines = lines })

-- the schedule that an input spells
unfoldable pub read_schedule : List ℕ → Result Schedule Bad
read_schedule input = schedule_of (lines_of input)

-- how many bytes an input may have
abbrev pub input_limit : ℕ
input_limit = 67108864

-- and how many lines
abbrev pub line_limit : ℕ
line_limit = 100000

-- whether an input has too many bytes
abbrev pub is_too_long : List ℕ → Bool
is_too_long input = nat_lt input_limit (length input)

-- whether it has too many lines; a last piece without a line feed counts as one
abbrev pub has_too_many_lines : List ℕ → Bool
has_too_many_lines input = nat_lt line_limit (length (lines_of input))

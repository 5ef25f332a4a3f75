-- The lines of a schedule, read one after another.
use Rattle.std.proofs.Common.{◌≡◌, ℕ, suc, ◌+◌, ◌<◌, ◌≤◌, Bool, true, false, List, [], ◌∷◌, ◌++◌, length, None, Result, Ok, Err, refl, sym, ap, ◌∙◌, arith, append_assoc, take_all, inl, inr, add-one, append-nil, not}
use Rattle.std.specs.List.{All, position, position_or_len, before_first, slice_split}
use Rattle.std.proofs.lemmas.List.Splits.{slice_split_first, slice_split_none, length-slice_split}
use Rattle.std.proofs.lemmas.List.Sums.{fails_before_first, prefix_len-le-length}
use Rattle.std.proofs.lemmas.Bool.{cases_lt, lt-ltb, le-ltb}
use Rattle.std.proofs.lemmas.List.{drop_all}
use Rattle.std.proofs.lemmas.Grind.{common_steps}
use Rattle.std.specs.Prelude.{if◌then◌else◌, ◌⊎◌}
use Rattle.jp_types.specs.declared.cause.Cause.{Cause}
use Rattle.jp_types.specs.declared.cause.Cause.TheVariants.{AfterEnd}
use Rattle.jp_types.specs.declared.read_command.LineFault.{LineFault}
use Rattle.jp_types.specs.declared.read_command.LineFault.TheVariants as line_fault
use Rattle.jp_types.specs.Words.{◌>>=◌}
use Rattle.jp_types.specs.Reading.{Reads}
use Rattle.schedules.specs.declared.schedule.ScheduleFault.{ScheduleFault}
use Rattle.schedules.specs.declared.schedule.ScheduleFault.TheVariants as fault
use Rattle.text_lines.specs.Lines.{Bad, lines_of, at_line, as_text, first_raw, behind_first}
use Rattle.text_lines.proofs.Feeds.{lines_first}
use Rattle.schedules.specs.Schedule.{is_end, after_end, rest_of, schedule_of}
use Rattle.schedules.specs.declared.line.Head.{Head}
use Rattle.schedules.specs.declared.line.Line.{Line}
use Rattle.schedules.specs.declared.schedule.Schedule.{Schedule}
use Rattle.schedules.specs.Reading.{head_at, line_at, with_lines, fault_at, ReadsLines}

-- ---- Lines after the first

-- what stands behind a line, and this line in front of it
behind_line : ℕ → ℕ → List ℕ → Line → Result (List Line) Bad
behind_line n k input line =
    (let others = rest_of n (suc k) (lines_of (behind_first input)) in if is_end line then after_end (suc k) (lines_of (behind_first input)) else others)
    >>= λ lines. Ok (line ∷ lines)

-- the lines from line k on begin with the one that stands first
rest_first : (n k : ℕ) (input : List ℕ) → rest_of n k (lines_of input) ≡ (line_at n k input >>= behind_line n k input)
unfolding behind_line
rest_first n k [] = refl
rest_first n k (c ∷ cs) = ap (rest_of n k) (lines_first (c ∷ cs) (omega arith))

-- lines that were read, in front of what there is
in_front : List Line → Result (List Line) Bad → Result (List Line) Bad
in_front lines r = r >>= λ others. Ok (lines ++ others)

with_first : (n k : ℕ) (lines : List Line) (input : List ℕ) → with_lines n k lines input ≡ in_front lines (line_at n k input >>= behind_line n k input)
unfolding in_front
with_first n k lines input = ap (in_front lines) (rest_first n k input)

-- one line more in front
in_front-push : (lines : List Line) (line : Line) (r : Result (List Line) Bad) → in_front lines (r >>= λ others. Ok (line ∷ others)) ≡ in_front (lines ++ line ∷ []) r
unfolding in_front
in_front-push lines line (Ok others) = ap Ok (sym (append_assoc lines (line ∷ []) others))
in_front-push lines line (Err bad) = refl

-- where the line is wrong, so is the whole
unread : (n k : ℕ) (lines : List Line) (input : List ℕ) (bad : Bad) → line_at n k input ≡ Err bad → with_lines n k lines input ≡ Err bad
unfolding in_front
unread n k lines input bad e = with_first n k lines input ∙ ap (λ r. in_front lines (r >>= behind_line n k input)) e

-- a line that is there
with_line : (n k : ℕ) (lines : List Line) (input : List ℕ) (line : Line) → line_at n k input ≡ Ok line → with_lines n k lines input ≡ in_front lines (behind_line n k input line)
with_line n k lines input line e = with_first n k lines input ∙ ap (λ r. in_front lines (r >>= behind_line n k input)) e

-- one that is not the last
pub going_on : (n k : ℕ) (lines : List Line) (input : List ℕ) (line : Line) → line_at n k input ≡ Ok line → is_end line ≡ false
    → with_lines n (k + 1) (lines ++ line ∷ []) (behind_first input) ≡ with_lines n k lines input
unfolding in_front behind_line
going_on n k lines input line e more =
    let followed : Bool → Result (List Line) Bad = λ b. (if b then after_end (suc k) (lines_of (behind_first input)) else rest_of n (suc k) (lines_of (behind_first input))) in
    sym
    (with_line n k lines input line e
    ∙ ap (λ b. in_front lines (followed b >>= λ others. Ok (line ∷ others))) more
    ∙ in_front-push lines line (rest_of n (suc k) (lines_of (behind_first input)))
    ∙ ap (λ j. with_lines n j (lines ++ line ∷ []) (behind_first input)) (sym (add-one k)))

-- the last, and what stands behind it
with_end : (n k : ℕ) (lines : List Line) (input : List ℕ) (line : Line) → line_at n k input ≡ Ok line → is_end line ≡ true
    → with_lines n k lines input ≡ in_front (lines ++ line ∷ []) (after_end (k + 1) (lines_of (behind_first input)))
unfolding behind_line
with_end n k lines input line e last =
    let followed : Bool → Result (List Line) Bad = λ b. (if b then after_end (suc k) (lines_of (behind_first input)) else rest_of n (suc k) (lines_of (behind_first input))) in
    with_line n k lines input line e
    ∙ ap (λ b. in_front lines (followed b >>= λ others. Ok (line ∷ others))) last
    ∙ in_front-push lines line (after_end (suc k) (lines_of (behind_first input)))
    ∙ ap (λ j. in_front (lines ++ line ∷ []) (after_end j (lines_of (behind_first input)))) (sym (add-one k))

-- the last, with nothing behind it
pub ended : (n k : ℕ) (lines : List Line) (input : List ℕ) (line : Line) → line_at n k input ≡ Ok line → is_end line ≡ true
    → after_end (k + 1) (lines_of (behind_first input)) ≡ Ok [] → with_lines n k lines input ≡ Ok (lines ++ line ∷ [])
unfolding in_front
ended n k lines input line e last none =
    with_end n k lines input line e last ∙ ap (in_front (lines ++ line ∷ [])) none ∙ ap Ok (append-nil (lines ++ line ∷ []))

-- ---- What is told of a fault

-- a fault at line k
pub fault_told : {A : Type 0} (k : ℕ) (f : LineFault) (r : Result A Cause) → Reads (Err f) r → ReadsLines (Err (fault_at k f)) (at_line k r)
fault_told k (line_fault.Cause cause) r h = ap (at_line k) h
fault_told k line_fault.NoMemory r h = tt

-- a wrong line is that of the whole
pub unread_told : (n k : ℕ) (lines : List Line) (input : List ℕ) (f : ScheduleFault) → ReadsLines {A = Line} (Err f) (line_at n k input) → ReadsLines {A = List Line} (Err f) (with_lines n k lines input)
unread_told n k lines input (fault.Bad line cause) h = unread n k lines input (record { line = line; cause = cause }) h
unread_told n k lines input fault.TooLarge h = h
unread_told n k lines input fault.NoMemory h = tt

-- and so is one behind the last
pub behind_told : (n k : ℕ) (lines : List Line) (input : List ℕ) (line : Line) (f : ScheduleFault) → line_at n k input ≡ Ok line → is_end line ≡ true
    → ReadsLines {A = List Line} (Err f) (after_end (k + 1) (lines_of (behind_first input))) → ReadsLines {A = List Line} (Err f) (with_lines n k lines input)
unfolding in_front
behind_told n k lines input line (fault.Bad line' cause) e last h = with_end n k lines input line e last ∙ ap (in_front (lines ++ line ∷ [])) h
behind_told n k lines input line fault.TooLarge e last h = h
behind_told n k lines input line fault.NoMemory e last h = tt

-- behind the last, a line is wrong whatever it says
pub after_told : (k : ℕ) (input : List ℕ) (f : LineFault) → 0 < length input → Reads {A = List Line} (Err f) (as_text (first_raw input) (λ words. Err AfterEnd))
    → ReadsLines {A = List Line} (Err (fault_at k f)) (after_end k (lines_of input))
after_told k input f h told = rw (lines_first input h) (fault_told k f (as_text (first_raw input) (λ words. Err AfterEnd)) told)

-- ---- Schedules

-- the lines behind a first line
rest_after : List ℕ → Head → Result Schedule Bad
rest_after input head = rest_of head.n 2 (lines_of (behind_first input)) >>= λ lines. Ok (record { head = head; lines = lines })

schedule_by_head : (input : List ℕ) → schedule_of (lines_of input) ≡ (head_at input >>= rest_after input)
unfolding rest_after
schedule_by_head [] = refl
schedule_by_head (c ∷ cs) = ap (schedule_of) (lines_first (c ∷ cs) (omega arith))

-- a schedule that is read
pub schedule_first : (input : List ℕ) (head : Head) (lines : List Line) → head_at input ≡ Ok head → rest_of head.n 2 (lines_of (behind_first input)) ≡ Ok lines
    → schedule_of (lines_of input) ≡ Ok (record { head = head; lines = lines })
unfolding rest_after
schedule_first input head lines e rest =
    schedule_by_head input ∙ ap (λ r. r >>= rest_after input) e ∙ ap (λ r. r >>= λ lines. Ok (record { head = head; lines = lines })) rest

-- a wrong line among several steps
told_first : {A B : Type 0} (f : ScheduleFault) (r : Result A Bad) (next : A → Result B Bad) → ReadsLines {A = A} (Err f) r → ReadsLines {A = B} (Err f) (r >>= next)
told_first (fault.Bad line cause) r next h = ap (λ r. r >>= next) h
told_first fault.TooLarge r next h = h
told_first fault.NoMemory r next h = tt

-- the first line is wrong
pub head_told : (input : List ℕ) (f : ScheduleFault) → ReadsLines {A = Head} (Err f) (head_at input) → ReadsLines {A = Schedule} (Err f) (schedule_of (lines_of input))
head_told input f h = rw (schedule_by_head input) (told_first f (head_at input) (rest_after input) h)

-- one after it is
pub rest_told : (input : List ℕ) (head : Head) (f : ScheduleFault) → head_at input ≡ Ok head → ReadsLines {A = List Line} (Err f) (rest_of head.n 2 (lines_of (behind_first input)))
    → ReadsLines {A = Schedule} (Err f) (schedule_of (lines_of input))
unfolding rest_after
rest_told input head f e h =
    rw (schedule_by_head input, e) (told_first f (rest_of head.n 2 (lines_of (behind_first input))) (λ lines. Ok (record { head = head; lines = lines })) h)

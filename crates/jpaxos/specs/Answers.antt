-- What a schedule is answered: the status, and the text that is written.
use Rattle.std.specs.Prelude.{◌≡◌, ℕ, true, false, List, take, Option, IfSome, Ok, Err, ◌⊎◌}
use Rattle.std.specs.Io.KnownBytes.{Appends}
use Rattle.jp_types.specs.declared.status.Status.{Status}
use Rattle.jp_types.specs.declared.status.Status.TheVariants.{Done, Usage, BadSchedule, TooLarge, ReadFault, WriteFault, NoMemory}
use Rattle.schedules.specs.declared.event.Run.{Run}
use Rattle.schedules.specs.declared.schedule.Schedule.{Schedule}
use Rattle.text_lines.specs.Lines.{Bad}
use Rattle.schedules.specs.Schedule.{is_too_long, has_too_many_lines, read_schedule}
use Rattle.schedules.specs.Run.{run_of, sends_too_much}
use Rattle.schedules.specs.Text.{show}
use Rattle.schedules.specs.Generator.{generate, summary}
use Rattle.observed_laws.specs.Observed.{Observed}
use Rattle.jpaxos.specs.Headline.{Headline}
use Rattle.jpaxos.specs.Words.{refusal}

-- an input within the sizes
pub record Fits (input : List ℕ) : Type 0 where
  pub bytes : is_too_long input ≡ false
  pub lines : has_too_many_lines input ≡ false

-- the text of the run of a schedule
pub record IsShown (schedule : Schedule) (text : List ℕ) : Type 0 where
  pub within : sends_too_much schedule ≡ false
  pub shown : text ≡ show (run_of schedule)

-- the answer to a schedule: its status, with its text
abbrev pub IsRunAnswer : Schedule → List ℕ → Status → Type 0
IsRunAnswer schedule text Done = IsShown schedule text
IsRunAnswer schedule text (TooLarge kind) = (kind ≡ 3) × (sends_too_much schedule ≡ true) × (text ≡ refusal (TooLarge 3))
IsRunAnswer schedule text _ = ⊥

-- an input that spells a schedule, and the text of its run, of which the laws hold
pub record IsRunText (input text : List ℕ) : Type 0 where
  pub fits : Fits input
  pub schedule : Schedule
  pub reads : read_schedule input ≡ Ok schedule
  pub shown : IsShown schedule text
  pub laws : Headline schedule

-- an input that spells a schedule, and the text of a run that shows what the run of this schedule must show. No state of the model occurs in it
pub record IsObservedText (input text : List ℕ) : Type 0 where
  pub schedule : Schedule
  pub reads : read_schedule input ≡ Ok schedule
  pub run : Run
  pub shown : text ≡ show run
  pub observed : Observed schedule run

-- an input whose first bad line is this one, and the line that tells it
pub record IsBadLine (input text : List ℕ) (status : Status) (bad : Bad) : Type 0 where
  pub fits : Fits input
  pub reads : read_schedule input ≡ Err bad
  pub told : text ≡ refusal status

-- an input with too many bytes, and the line that tells it
pub record HasTooManyBytes (input text : List ℕ) : Type 0 where
  pub bytes : is_too_long input ≡ true
  pub told : text ≡ refusal (TooLarge 1)

-- an input with too many lines, within the limit of bytes, and the line that tells it
pub record HasTooManyLines (input text : List ℕ) : Type 0 where
  pub bytes : is_too_long input ≡ false
  pub lines : has_too_many_lines input ≡ true
  pub told : text ≡ refusal (TooLarge 2)

-- an input that spells a schedule whose run sends too many bytes, and the line that tells it
pub record SendsTooManyBytes (input text : List ℕ) : Type 0 where
  pub fits : Fits input
  pub schedule : Schedule
  pub reads : read_schedule input ≡ Ok schedule
  pub sends : sends_too_much schedule ≡ true
  pub told : text ≡ refusal (TooLarge 3)

-- an input that is too large, by the limit that it passes: 1 for bytes, 2 for lines, 3 for sent bytes
abbrev pub IsTooLarge : List ℕ → List ℕ → ℕ → Type 0
IsTooLarge input text kind = ((kind ≡ 1) × HasTooManyBytes input text) ⊎ (((kind ≡ 2) × HasTooManyLines input text) ⊎ ((kind ≡ 3) × SendsTooManyBytes input text))

-- the answer to an input: its status, with its text
abbrev pub IsAnswer : List ℕ → List ℕ → Status → Type 0
IsAnswer input text Done = IsRunText input text
IsAnswer input text (BadSchedule line cause) = IsBadLine input text (BadSchedule line cause) (record { line = line; cause = cause })
IsAnswer input text (TooLarge kind) = IsTooLarge input text kind
IsAnswer input text _ = ⊥

-- the whole input was answered so: what was held is followed by the text of the answer
abbrev pub Answers : Option (List ℕ) → Option (List ℕ) → Option (List ℕ) → Status → Type 0
Answers left held held_after status = IfSome left (λ input. (text : List ℕ) × (IsAnswer input text status × Appends held held_after text))

-- the whole input was answered by such a text: what was held is followed by it
abbrev pub AnswersObserved : Option (List ℕ) → Option (List ℕ) → Option (List ℕ) → Type 0
AnswersObserved left held held_after = IfSome left (λ input. (text : List ℕ) × (IsObservedText input text × Appends held held_after text))

-- what was held is followed by a beginning of the text of an answer to the input
abbrev pub BeginsAnswer : Option (List ℕ) → Option (List ℕ) → Option (List ℕ) → Type 0
BeginsAnswer left held held_after =
    IfSome left (λ input. (status : Status) × ((text : List ℕ) × (IsAnswer input text status × ((count : ℕ) × Appends held held_after (take count text)))))

-- the statuses that a schedule can be answered with
abbrev pub IsClusterStatus : Status → Type 0
IsClusterStatus Done = Unit {0}
IsClusterStatus (BadSchedule line cause) = Unit {0}
IsClusterStatus (TooLarge kind) = Unit {0}
IsClusterStatus ReadFault = Unit {0}
IsClusterStatus WriteFault = Unit {0}
IsClusterStatus NoMemory = Unit {0}
IsClusterStatus _ = ⊥

-- those that tell an answer that was written whole
abbrev pub IsTold : Status → Type 0
IsTold Done = Unit {0}
IsTold (BadSchedule line cause) = Unit {0}
IsTold (TooLarge kind) = Unit {0}
IsTold _ = ⊥

-- ---- Drawn schedules

-- the summary of the run of the schedule that a seed draws, of which the laws hold
pub record IsSummary (seed n steps : ℕ) (text : List ℕ) : Type 0 where
  pub within : sends_too_much (generate seed n steps) ≡ false
  pub summed : text ≡ summary (run_of (generate seed n steps)) seed
  pub laws : Headline (generate seed n steps)

-- the schedule that a seed draws sends too many bytes, and the line that tells it
pub record DrawsTooManyBytes (seed n steps : ℕ) (text : List ℕ) : Type 0 where
  pub sends : sends_too_much (generate seed n steps) ≡ true
  pub told : text ≡ refusal (TooLarge 3)

-- the answer to a seed, a count of replicas and a count of lines: its status, with its text
abbrev pub IsDrawnAnswer : ℕ → ℕ → ℕ → List ℕ → Status → Type 0
IsDrawnAnswer seed n steps text Done = IsSummary seed n steps text
IsDrawnAnswer seed n steps text (TooLarge kind) = (kind ≡ 3) × DrawsTooManyBytes seed n steps text
IsDrawnAnswer seed n steps text _ = ⊥

-- they were answered so: what was held is followed by the text of the answer
abbrev pub AnswersDrawn : ℕ → ℕ → ℕ → Option (List ℕ) → Option (List ℕ) → Status → Type 0
AnswersDrawn seed n steps held held_after status = (text : List ℕ) × (IsDrawnAnswer seed n steps text status × Appends held held_after text)

-- what was held is followed by a beginning of the text of an answer to them
abbrev pub BeginsDrawn : ℕ → ℕ → ℕ → Option (List ℕ) → Option (List ℕ) → Type 0
BeginsDrawn seed n steps held held_after = (status : Status) × ((text : List ℕ) × (IsDrawnAnswer seed n steps text status × ((count : ℕ) × Appends held held_after (take count text))))

-- the statuses that they can be answered with
abbrev pub IsDrawnStatus : Status → Type 0
IsDrawnStatus Done = Unit {0}
IsDrawnStatus (TooLarge kind) = Unit {0}
IsDrawnStatus WriteFault = Unit {0}
IsDrawnStatus NoMemory = Unit {0}
IsDrawnStatus _ = ⊥

-- ---- Words that are no command

-- the statuses where the words are no command
abbrev pub IsUsageStatus : Status → Type 0
IsUsageStatus Usage = Unit {0}
IsUsageStatus WriteFault = Unit {0}
IsUsageStatus NoMemory = Unit {0}
IsUsageStatus _ = ⊥

-- ---- Completeness

-- an input within the sizes that spells a schedule whose run is
pub record IsRunnable (input : List ℕ) : Type 0 where
  pub fits : Fits input
  pub schedule : Schedule
  pub reads : read_schedule input ≡ Ok schedule
  pub within : sends_too_much schedule ≡ false

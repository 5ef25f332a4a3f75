-- The words of the command line, and the lines that tell a refusal.
use Rattle.std.specs.Prelude.{◌≡◌, ◌≤◌, ℕ, ◌-◌, ◌^◌, Option, Some, None, Result, Ok, Err, bytes_eq, if◌then◌else◌, List, [], ◌∷◌, ◌++◌, codes}
use Rattle.jp_types.specs.declared.cause.Cause.{Cause}
use Rattle.jp_types.specs.declared.status.Status.{Status}
use Rattle.jp_types.specs.declared.status.Status.TheVariants.{Usage, BadSchedule, TooLarge}
use Rattle.jp_types.specs.Causes.{cause_number}
use Rattle.jp_types.specs.Words.{◌>>=◌, number}
use Rattle.text_lines.specs.Texts.{numbers}
use Rattle.jpaxos.specs.declared.command.Command.{Command}
use Rattle.jpaxos.specs.declared.command.Command.TheVariants.{Cluster, Gen}

-- the command `cluster` has no operands
abbrev pub cluster_of : List (List ℕ) → Option Command
cluster_of [] = Some Cluster
cluster_of (word ∷ words) = None

-- the command `gen` by its operands: a seed, 3 to 9 replicas, and at most 99,998 lines
unfoldable pub drawn_by : List ℕ → List ℕ → List ℕ → Result Command Cause
drawn_by seed n steps = number 0 (2 ^ 64 - 1) seed >>= λ seed. number 3 9 n >>= λ n. number 0 99998 steps >>= λ steps. Ok (Gen seed n steps)

-- what was read, if it was
abbrev pub if_read : Result Command Cause → Option Command
if_read (Ok command) = Some command
if_read (Err cause) = None

-- the operands of `gen`
abbrev pub gen_of : List (List ℕ) → Option Command
gen_of (seed ∷ n ∷ steps ∷ []) = if_read (drawn_by seed n steps)
gen_of _ = None

-- the command that the words spell, by their bytes
abbrev pub command_of : List (List ℕ) → Option Command
command_of [] = None
command_of (word ∷ operands) = if bytes_eq word (codes "cluster") then cluster_of operands else (if bytes_eq word (codes "gen") then gen_of operands else None)

-- what a command is given is in its range
abbrev pub IsInRange : Command → Type 0
IsInRange Cluster = Unit {0}
IsInRange (Gen seed n steps) = (3 ≤ n) × (n ≤ 9) × (steps ≤ 99998)

-- the words are no command
abbrev pub IsNoCommand : List (List ℕ) → Type 0
IsNoCommand words = command_of words ≡ None

-- the words are the command `cluster`
abbrev pub IsCluster : List (List ℕ) → Type 0
IsCluster words = command_of words ≡ Some Cluster

-- the words are the command `gen` with this seed, so many replicas and so many lines
abbrev pub IsGen : List (List ℕ) → ℕ → ℕ → ℕ → Type 0
IsGen words seed n steps = command_of words ≡ Some (Gen seed n steps)

-- what is written where the words are no command
abbrev pub usage_line : List ℕ
usage_line = codes "usage: jpaxos cluster | gen SEED N STEPS | serve FILE | client FILE" ++ 10 ∷ []

-- the line that tells a refusal, and nothing where a status has none
abbrev pub refusal : Status → List ℕ
refusal Usage = usage_line
refusal (BadSchedule line cause) = codes "jpaxos: schedule line" ++ numbers (line ∷ []) ++ codes " cause" ++ numbers (cause_number cause ∷ []) ++ 10 ∷ []
refusal (TooLarge kind) = codes "jpaxos: too large" ++ numbers (kind ∷ []) ++ 10 ∷ []
refusal _ = []

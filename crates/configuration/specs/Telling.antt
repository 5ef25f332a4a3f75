-- What a reader of configurations answers: what its definition reads, or nothing where memory is refused.
use Rattle.std.specs.Prelude.{◌≡◌, ℕ, List, map, Result, Ok, Err}
use Rattle.std.specs.Borrow.{Bor}
use Rattle.jp_types.specs.declared.read_command.LineFault.{LineFault}
use Rattle.jp_types.specs.declared.read_command.LineFault.TheVariants as line_fault
use Rattle.configuration.specs.declared.fault.ConfigFault.{ConfigFault}
use Rattle.configuration.specs.declared.fault.ConfigFault.TheVariants as told
use Rattle.text_lines.specs.Lines.{Bad}

-- the answer, seen by view, is what was read, or the wrong line; of want of memory nothing is said
abbrev pub Tells : {X Y : Type 0} → (X → Y) → Result X ConfigFault → Result Y Bad → Type 0
Tells view (Ok x) read = read ≡ Ok (view x)
Tells view (Err (told.Bad line cause)) read = read ≡ Err (record { line = line; cause = cause })
Tells view (Err told.NoMemory) read = Unit {0}

-- the words that references point to
abbrev pub spelt : List (Bor (List ℕ)) → List (List ℕ)
spelt words = map (λ (word : Bor (List ℕ)). word.now) words

-- what is told of a fault at a line
abbrev pub fault_at : ℕ → LineFault → ConfigFault
fault_at line (line_fault.Cause cause) = told.Bad line cause
fault_at line line_fault.NoMemory = told.NoMemory

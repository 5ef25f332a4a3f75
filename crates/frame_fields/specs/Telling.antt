-- What a reader that may want memory answers: what its definition reads, or nothing.
use Rattle.std.specs.Prelude.{◌≡◌, Option, Some, None, Result, Ok, Err}
use Rattle.frame_fields.specs.declared.fault.FrameFault.{FrameFault}
use Rattle.frame_fields.specs.declared.fault.FrameFault.TheVariants as answer
use Rattle.frame_fields.specs.Faults.{Fault}

-- the fault of the bytes that an answer tells; want of memory tells none
abbrev pub fault_of : FrameFault → Option Fault
fault_of (answer.BadKind at) = Some (Fault.BadKind at)
fault_of (answer.BadLength at) = Some (Fault.BadLength at)
fault_of (answer.BadField at) = Some (Fault.BadField at)
fault_of (answer.TooLong at) = Some (Fault.TooLong at)
fault_of (answer.OtherCluster at got) = Some (Fault.OtherCluster at got)
fault_of answer.NoMemory = None

-- what was read is this fault, if it is one
abbrev pub IsFault : {Y : Type 0} → Option Fault → Result Y Fault → Type 0
IsFault None read = Unit {0}
IsFault (Some fault) read = read ≡ Err fault

-- an answer, seen by view, is what was read, or want of memory
abbrev pub Tells : {X Y : Type 0} → (X → Y) → Result X FrameFault → Result Y Fault → Type 0
Tells view (Ok x) read = read ≡ Ok (view x)
Tells view (Err e) read = IsFault (fault_of e) read

-- What a reader that may want memory answers: what its definition reads, or nothing.
use Rattle.std.specs.Prelude.{◌≡◌, ℕ, ◌^◌, List, if◌then◌else◌, Option, Some, None, Result, Ok, Err}
use Rattle.std.specs.Ordering.{nat_cmp}
use Rattle.jp_types.specs.declared.command.Reply.{Reply}
use Rattle.kv_service.specs.declared.fault.StateFault.{StateFault}
use Rattle.kv_service.specs.declared.fault.StateFault.TheVariants as told
use Rattle.kv_service.specs.declared.reading.Parts.{Parts}
use Rattle.kv_service.specs.Service.{State}
use Rattle.kv_service.specs.Store.{bytes_cmp}
use Rattle.kv_service.specs.StateReading.{Fault, Unordered, Reader, gives, fails, ◌>>=◌, here, number_within, key, value, reply, follows}

-- the fault of the bytes that an answer tells; want of memory tells none
abbrev pub fault_of : StateFault → Option Fault
fault_of (told.Truncated at) = Some (Fault.Truncated at)
fault_of (told.Unordered at) = Some (Fault.Unordered at)
fault_of (told.TooLong at) = Some (Fault.TooLong at)
fault_of (told.Trailing at) = Some (Fault.Trailing at)
fault_of (told.BadField at) = Some (Fault.BadField at)
fault_of told.NoMemory = None

-- what was read is this fault, if it is one
abbrev pub IsFault : {Y : Type 0} → Option Fault → Result Y Fault → Type 0
IsFault None read = Unit {0}
IsFault (Some fault) read = read ≡ Err fault

-- an answer, seen by view, is what was read, or want of memory
abbrev pub Tells : {X Y : Type 0} → (X → Y) → Result X StateFault → Result Y Fault → Type 0
Tells view (Ok x) read = read ≡ Ok (view x)
Tells view (Err e) read = IsFault (fault_of e) read

-- the parts of a state, as the state that they make
abbrev pub of_parts : Parts → State
of_parts p = record { store = p.pairs.items; executed = p.executed; last = p.clients.items }

-- a key with its value, above the key before it
abbrev pub pair : Option (List ℕ) → Reader (List ℕ × List ℕ)
pair before = here >>= λ at. key >>= λ q. if follows bytes_cmp before q then (value >>= λ v. gives (q, v)) else fails (Unordered at)

-- a client with its last number and the reply to it, above the client before it
abbrev pub client : Option ℕ → Reader (ℕ × (ℕ × Reply))
client before =
    here >>= λ at. number_within 8 0 1023 >>= λ c.
    if follows nat_cmp before c then (number_within 8 1 (2 ^ 48) >>= λ n. reply >>= λ r. gives (c, (n, r))) else fails (Unordered at)

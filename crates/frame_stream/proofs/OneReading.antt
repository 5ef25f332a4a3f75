-- There is one way to read a stream, whatever the pieces in which it comes.
use Rattle.std.proofs.Common.{◌≡◌, ℕ, List, refl, sym, ◌∙◌, ap, Option, Some, None}
use Rattle.frame_fields.specs.Faults.{Fault}
use Rattle.frame_fields.specs.Telling.{fault_of}
use Rattle.frame_fields.specs.declared.fault.FrameFault.{FrameFault}
use Rattle.frame_fields.specs.declared.fault.FrameFault.TheVariants as told_fault
use Rattle.frame_stream.specs.Frames.{Rules, Next, Waits, Faults, next_frame, Passes, IsUnfinished, Reads}
use Rattle.frame_stream.specs.Following.{StopsAt, Keeps}
use Rattle.frame_stream.specs.Laws.{OneReading, GivesWhatIsRead, CuttingChangesNothing}
use Rattle.frame_stream.proofs.Passing.{one_passing}

-- the answer that tells a fault of the bytes
told_of : Fault → FrameFault
told_of (Fault.BadKind at) = told_fault.BadKind at
told_of (Fault.BadLength at) = told_fault.BadLength at
told_of (Fault.BadField at) = told_fault.BadField at
told_of (Fault.TooLong at) = told_fault.TooLong at
told_of (Fault.OtherCluster at got) = told_fault.OtherCluster at got

tells : (e : FrameFault) (fault : Fault) → fault_of e ≡ Some fault → e ≡ told_of fault
unfolding told_of
tells (told_fault.BadKind at) fault e = let f : Fault.BadKind at ≡ fault = cc in ap told_of f
tells (told_fault.BadLength at) fault e = let f : Fault.BadLength at ≡ fault = cc in ap told_of f
tells (told_fault.BadField at) fault e = let f : Fault.BadField at ≡ fault = cc in ap told_of f
tells (told_fault.TooLong at) fault e = let f : Fault.TooLong at ≡ fault = cc in ap told_of f
tells (told_fault.OtherCluster at got) fault e = let f : Fault.OtherCluster at got ≡ fault = cc in ap told_of f
tells told_fault.NoMemory fault e = absurd cc

waits-unfinished : {Item : Type 0} (next : Next Item) → next ≡ Waits → IsUnfinished next
waits-unfinished next e = rw e tt

faults-unfinished : {Item : Type 0} (next : Next Item) (fault : Fault) → next ≡ Faults fault → IsUnfinished next
faults-unfinished next fault e = rw e tt

pub one_reading : {Item : Type 0} → OneReading Item
one_reading rules at bytes xs ys end end' rest rest' r s = one_passing rules at bytes xs ys end rest end' rest' r.passes r.ends s.passes s.ends

-- a stop is at some fault of the bytes
stop : {Item : Type 0} (rules : Rules Item) (stream : List ℕ) (items : List Item) (at : ℕ) (o : Option Fault) → StopsAt rules stream items at o
    → (fault : Fault) × ((o ≡ Some fault) × ((rest : List ℕ) × (Passes rules 0 stream items at rest × (next_frame rules at rest ≡ Faults fault))))
stop rules stream items at None s = absurd s
stop rules stream items at (Some fault) s = (fault, (refl, s))

read_by : {Item : Type 0} (rules : Rules Item) (stream : List ℕ) (items : List Item) (at : ℕ) (kept : List ℕ) (o : Option FrameFault) → Keeps rules stream items at kept o
    → (end : ℕ) × ((rest : List ℕ) × Reads rules 0 stream items end rest)
read_by rules stream items at kept None k = (at, (kept, record { passes = k.0; ends = waits-unfinished (next_frame rules at kept) k.1 }))
read_by rules stream items at kept (Some e) k =
    let s = stop rules stream items at (fault_of e) k.1 in
    (at, (s.1.1.0, record { passes = s.1.1.1.0; ends = faults-unfinished (next_frame rules at s.1.1.0) s.0 s.1.1.1.1 }))

pub gives_what_is_read : {G Item : Type 0} → GivesWhatIsRead G Item
gives_what_is_read rules stream items reader f = read_by rules stream items reader.at reader.kept reader.fault f

-- a fault at one place is a fault at the same place
fault-moved : {Item : Type 0} (rules : Rules Item) (at at' : ℕ) (rest rest' : List ℕ) (fault : Fault) → at ≡ at' → rest ≡ rest' → next_frame rules at' rest' ≡ Faults fault → next_frame rules at rest ≡ Faults fault
fault-moved rules at at' rest rest' fault place bytes e = rw (place, bytes) e

-- where two readers of one stream stand
kept_alike : {Item : Type 0} (rules : Rules Item) (stream : List ℕ) (xs ys : List Item) (at : ℕ) (kept : List ℕ) (o : Option FrameFault) (at' : ℕ) (kept' : List ℕ) (o' : Option FrameFault)
    → Keeps rules stream xs at kept o → Keeps rules stream ys at' kept' o' → (xs ≡ ys) × ((at ≡ at') × ((kept ≡ kept') × (o ≡ o')))
kept_alike {Item} rules stream xs ys at kept None at' kept' None k l =
    let same : (xs ≡ ys) × ((at ≡ at') × (kept ≡ kept')) = one_passing rules 0 stream xs ys at kept at' kept' k.0 (waits-unfinished (next_frame rules at kept) k.1) l.0 (waits-unfinished (next_frame rules at' kept') l.1) in
    (same.0, (same.1.0, (same.1.1, refl)))
kept_alike {Item} rules stream xs ys at kept None at' kept' (Some e) k l =
    let s = stop rules stream ys at' (fault_of e) l.1 in
    let rest : List ℕ = s.1.1.0 in
    let same : (xs ≡ ys) × ((at ≡ at') × (kept ≡ rest)) = one_passing rules 0 stream xs ys at kept at' rest k.0 (waits-unfinished (next_frame rules at kept) k.1) s.1.1.1.0 (faults-unfinished (next_frame rules at' rest) s.0 s.1.1.1.1) in
    let waits : next_frame rules at kept ≡ Waits = k.1 in
    let faults : next_frame rules at kept ≡ Faults s.0 = fault-moved rules at at' kept rest s.0 same.1.0 same.1.1 s.1.1.1.1 in
    absurd cc
kept_alike {Item} rules stream xs ys at kept (Some e) at' kept' None k l =
    let s = stop rules stream xs at (fault_of e) k.1 in
    let rest : List ℕ = s.1.1.0 in
    let same : (xs ≡ ys) × ((at ≡ at') × (rest ≡ kept')) = one_passing rules 0 stream xs ys at rest at' kept' s.1.1.1.0 (faults-unfinished (next_frame rules at rest) s.0 s.1.1.1.1) l.0 (waits-unfinished (next_frame rules at' kept') l.1) in
    let waits : next_frame rules at' kept' ≡ Waits = l.1 in
    let faults : next_frame rules at' kept' ≡ Faults s.0 = fault-moved rules at' at kept' rest s.0 (sym same.1.0) (sym same.1.1) s.1.1.1.1 in
    absurd cc
kept_alike {Item} rules stream xs ys at kept (Some e) at' kept' (Some e') k l =
    let s = stop rules stream xs at (fault_of e) k.1 in
    let t = stop rules stream ys at' (fault_of e') l.1 in
    let rest : List ℕ = s.1.1.0 in
    let rest' : List ℕ = t.1.1.0 in
    let same : (xs ≡ ys) × ((at ≡ at') × (rest ≡ rest')) =
    one_passing rules 0 stream xs ys at rest at' rest' s.1.1.1.0 (faults-unfinished (next_frame rules at rest) s.0 s.1.1.1.1) t.1.1.1.0 (faults-unfinished (next_frame rules at' rest') t.0 t.1.1.1.1) in
    let one : next_frame rules at rest ≡ Faults s.0 = s.1.1.1.1 in
    let other : next_frame rules at rest ≡ Faults t.0 = fault-moved rules at at' rest rest' t.0 same.1.0 same.1.1 t.1.1.1.1 in
    let fault : s.0 ≡ t.0 = cc in
    let answer : e ≡ e' = tells e s.0 s.1.0 ∙ ap told_of fault ∙ sym (tells e' t.0 t.1.0) in
    (same.0, (same.1.0, (k.0 ∙ sym l.0, ap (λ (x : FrameFault). Some x) answer)))

pub cutting_changes_nothing : {G Item : Type 0} → CuttingChangesNothing G Item
cutting_changes_nothing rules stream xs ys one other f h =
    let same = kept_alike rules stream xs ys one.at one.kept one.fault other.at other.kept other.fault f h in
    record { items = same.0; at = same.1.0; kept = same.1.1.0; fault = same.1.1.1 }

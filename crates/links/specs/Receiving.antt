-- What the answers of a link say of its bytes and its counts.
use Rattle.std.specs.Prelude.{◌≡◌, ℕ, ◌+◌, ◌-◌, ◌^◌, ◌≤◌, min, List, take, ⊤, Option, Result, Ok, Err, MatchResult}
use Rattle.std.specs.Io.KnownBytes.{Appends, Consumes}
use Rattle.jp_types.specs.Faults.{Rose}
use Rattle.links.specs.declared.came.Came.{Came}
use Rattle.links.specs.declared.came.Came.TheVariants.{Bytes, Quiet, Ended}

-- there is at least one byte, and no more than there is room for
abbrev pub FitsRoom : Came → ℕ → Type 0
FitsRoom (Bytes count) room = (1 ≤ count) × (count ≤ room)
FitsRoom Quiet room = ⊤
FitsRoom Ended room = ⊤

-- a send appends the bytes that it took, and a failure leaves what was sent
abbrev pub SendAppends : {E : Type 0} → Option (List ℕ) → Option (List ℕ) → Result ℕ E → List ℕ → Type 0
SendAppends old new result piece = MatchResult result (λ count. Appends old new (take count piece)) (λ _. new ≡ old)

-- a receive takes the bytes that it brings from those that are left, and any other answer leaves them
abbrev pub ReceiveConsumes : {E : Type 0} → Option (List ℕ) → Option (List ℕ) → Result Came E → List ℕ → Type 0
ReceiveConsumes old new (Ok (Bytes count)) room = Consumes old new (take count room)
ReceiveConsumes old new (Ok Quiet) room = new ≡ old
ReceiveConsumes old new (Ok Ended) room = new ≡ old
ReceiveConsumes old new (Err failed) room = new ≡ old

-- a count over a call that raises it: it does not fall, and rose
abbrev pub Rises : ℕ → ℕ → Type 0
Rises before now = (before ≤ now) × Rose before now

-- the count of quiet receives over a receive
abbrev pub CountsQuiet : {E : Type 0} → ℕ → ℕ → Result Came E → Type 0
CountsQuiet before now (Ok (Bytes count)) = now ≡ before
CountsQuiet before now (Ok Quiet) = Rises before now
CountsQuiet before now (Ok Ended) = now ≡ before
CountsQuiet before now (Err failed) = now ≡ before

-- the count of receives that met the end over a receive
abbrev pub CountsEnded : {E : Type 0} → ℕ → ℕ → Result Came E → Type 0
CountsEnded before now (Ok (Bytes count)) = now ≡ before
CountsEnded before now (Ok Quiet) = now ≡ before
CountsEnded before now (Ok Ended) = Rises before now
CountsEnded before now (Err failed) = now ≡ before

-- the count of received bytes over a receive
abbrev pub CountsGiven : {E : Type 0} → ℕ → ℕ → Result Came E → Type 0
CountsGiven before now (Ok (Bytes count)) = (before ≤ now) × (now ≡ min (before + count) (2 ^ 64 - 1))
CountsGiven before now (Ok Quiet) = now ≡ before
CountsGiven before now (Ok Ended) = now ≡ before
CountsGiven before now (Err failed) = now ≡ before

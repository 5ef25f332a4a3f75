-- What one read takes, and what it takes behind what was taken before.
use Rattle.std.proofs.Common.{ℕ, ◌+◌, ◌≤◌, List, ◌++◌, length, Option, Result, Ok, Err, arith}
use Rattle.std.specs.Io.{ReadsAtMost}
use Rattle.std.specs.Io.KnownBytes.{Consumes, ReadConsumes}
use Rattle.std.proofs.KnownBytes.{Consumes-kept, Consumes-trans, ConsumesCount-from_read}
use Rattle.std.proofs.lemmas.List.{length-append}
use Rattle.jpaxos.specs.Taking.{TakesAtMost}

-- what was taken, within a limit
pub takes_so : (limit : ℕ) (a b : Option (List ℕ)) (bs : List ℕ) → Consumes a b bs → length bs ≤ limit → TakesAtMost limit a b
takes_so limit a b bs e few = record { taken = bs; consumed = e; few = few }

-- what was taken, and a read with room behind it
pub takes_read : {E : Type 0} (limit : ℕ) (start a b : Option (List ℕ)) (r : Result ℕ E) (room bs : List ℕ)
    → ReadsAtMost r room → ReadConsumes a b r room → Consumes start a bs → length bs + length room ≤ limit → TakesAtMost limit start b
takes_read {E} limit start a b (Ok n) room bs most read before fits =
    let one = ConsumesCount-from_read {E = E} a b (Ok n) room most read in
    record {
      taken = bs ++ one.0;
      consumed = Consumes-trans start a b bs one.0 before one.1;
      few = (let sum = length-append bs one.0 in let count = one.2 in omega (most, arith));
    }
takes_read {E} limit start a b (Err e) room bs most read before fits =
    record { taken = bs; consumed = Consumes-kept start a b bs before read; few = omega (fits, arith) }

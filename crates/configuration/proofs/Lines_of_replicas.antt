-- The replicas that lines name, read one after another.
use Rattle.std.proofs.Common.{◌≡◌, ℕ, zero, suc, ◌-◌, ◌+◌, List, [], ◌∷◌, ◌++◌, Option, Some, None, Result, Ok, Err, refl, sym, ap, ◌∙◌, arith, ◌≢◌}
use Rattle.configuration.specs.declared.address.Address.{Address}
use Rattle.configuration.specs.declared.fault.ConfigFault.{ConfigFault}
use Rattle.configuration.specs.declared.fault.ConfigFault.TheVariants as told
use Rattle.configuration.specs.Configuration.{Place, Reader, gives, read_on, next_replica, behind_replica, replicas}
use Rattle.configuration.specs.Telling.{Tells}
use Rattle.text_lines.specs.Lines.{Bad}

-- where no line may follow, nothing is read
pub no_more : (before : List Address) (i : ℕ) (place : Place) → replicas 0 before i place ≡ Ok (before, place)
unfolding replicas
no_more before i place = refl

-- else one line is read, and then the others
pub one_more : (more : ℕ) (before : List Address) (i : ℕ) (place : Place) → more ≢ 0
    → replicas more before i place ≡ read_on (next_replica i place) (behind_replica (λ found. replicas (more - 1) found (i + 1)) before)
unfolding replicas
one_more zero before i place some = absurd (some refl)
one_more (suc more) before i place some =
    let less : suc more - 1 ≡ more = omega arith in
    let next : i + 1 ≡ suc i = omega arith in
    rw (less, next) refl

-- a fault of the first line is that of all
pub first_fails : (more : ℕ) (before : List Address) (i : ℕ) (place : Place) (fault : ConfigFault) → more ≢ 0
    → Tells {X = Option Address} {Y = Option Address × Place} (λ found. (found, place)) (Err fault) (next_replica i place)
    → Tells {X = Unit {0}} {Y = List Address × Place} (λ _. (before, place)) (Err fault) (replicas more before i place)
first_fails more before i place (told.Bad line cause) some h =
    one_more more before i place some ∙ ap (λ r. read_on r (behind_replica (λ found. replicas (more - 1) found (i + 1)) before)) h
first_fails more before i place told.NoMemory some h = tt

-- what is read behind the first line
pub first_read : (more : ℕ) (before : List Address) (i : ℕ) (place next : Place) (address : Address) → more ≢ 0 → next_replica i place ≡ Ok (Some address, next)
    → replicas (more - 1) (before ++ address ∷ []) (i + 1) next ≡ replicas more before i place
first_read more before i place next address some h =
    sym (one_more more before i place some ∙ ap (λ r. read_on r (behind_replica (λ found. replicas (more - 1) found (i + 1)) before)) h)

-- where there is no further one
pub none_read : (more : ℕ) (before : List Address) (i : ℕ) (place next : Place) → more ≢ 0 → next_replica i place ≡ Ok (None, next) → replicas more before i place ≡ Ok (before, next)
none_read more before i place next some h =
    one_more more before i place some ∙ ap (λ r. read_on r (behind_replica (λ found. replicas (more - 1) found (i + 1)) before)) h

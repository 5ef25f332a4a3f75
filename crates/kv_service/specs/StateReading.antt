-- The service's state that bytes hold, or the first fault that is met as they are read from the front.
use Rattle.std.specs.Prelude.{ℕ, zero, suc, ◌+◌, ◌*◌, ◌^◌, Bool, true, List, [], ◌∷◌, length, take, drop, fold, nat_lt, ◌==◌, if◌then◌else◌, Option, Some, None, Result, Ok, Err}
use Rattle.std.specs.declared.cmp.Ordering.{Ordering}
use Rattle.std.specs.Ordering.{nat_cmp, is_lt}
use Rattle.jp_types.specs.declared.command.Reply.{Reply}
use Rattle.jp_types.specs.declared.command.Reply.TheVariants.{Done, Value, NoKey, NoRoom}
use Rattle.kv_service.specs.Store.{Store, bytes_cmp}
use Rattle.kv_service.specs.Service.{State}

-- why bytes are no state; `at` is the place of the first field or entry that is wrong
pub data Fault : Type 0 where
  Truncated Unordered TooLong Trailing BadField : (at : ℕ) → Fault

-- how far the bytes were read: the place, and the bytes from there on
pub record Place : Type 0 where
  pub at : ℕ
  pub rest : List ℕ

-- what reading from a place gives: a value and the place behind it, or a fault
abbrev pub Reader : Type 0 → Type 0
Reader A = Place → Result (A × Place) Fault

-- x, with nothing read
abbrev pub gives : {A : Type 0} → A → Reader A
gives x place = Ok (x, place)

-- the fault
abbrev pub fails : {A : Type 0} → Fault → Reader A
fails fault place = Err fault

-- what f reads behind what was read
abbrev pub read_on : {A B : Type 0} → Result (A × Place) Fault → (A → Reader B) → Result (B × Place) Fault
read_on (Ok r) f = f r.0 r.1
read_on (Err fault) f = Err fault

-- one reader, and then the one that f makes of what it gave
infixl 20 ◌>>=◌
abbrev pub ◌>>=◌ : {A B : Type 0} → Reader A → (A → Reader B) → Reader B
◌>>=◌ reader f place = read_on (reader place) f

-- the place that is reached
abbrev pub here : Reader ℕ
here place = Ok (place.at, place)

-- the next k bytes, where they are all there
abbrev pub bytes : ℕ → Reader (List ℕ)
bytes k place =
    if length (take k place.rest) == k then Ok (take k place.rest, record { at = place.at + k; rest = drop k place.rest }) else Err (Truncated place.at)

-- a number in k bytes, the highest byte first
abbrev pub number : ℕ → Reader ℕ
number k = bytes k >>= λ read. gives (fold (λ n b. n * 256 + b) 0 read)

-- a number from low to high
abbrev pub number_within : ℕ → ℕ → ℕ → Reader ℕ
number_within k low high = here >>= λ at. number k >>= λ n. if nat_lt n low then fails (BadField at) else (if nat_lt high n then fails (BadField at) else gives n)

-- a count or a length from low to high
abbrev pub count_within : ℕ → ℕ → ℕ → Reader ℕ
count_within k low high = here >>= λ at. number k >>= λ n. if nat_lt high n then fails (TooLong at) else (if nat_lt n low then fails (BadField at) else gives n)

-- a key: its length from 1 to 256, and its bytes
abbrev pub key : Reader (List ℕ)
key = count_within 2 1 256 >>= λ n. bytes n

-- a value: its length from 0 to 4,096, and its bytes
abbrev pub value : Reader (List ℕ)
value = count_within 2 0 4096 >>= λ n. bytes n

-- a reply of a listed kind
abbrev pub reply_of_kind : ℕ → Reader Reply
reply_of_kind kind =
    if kind == 1 then gives Done else (if kind == 2 then (value >>= λ v. gives (Value v)) else (if kind == 3 then gives NoKey else gives NoRoom))

-- a reply: its kind, and its value
abbrev pub reply : Reader Reply
reply = number_within 1 1 4 >>= λ kind. reply_of_kind kind

-- whether a key may follow the one before it
abbrev pub follows : {K : Type 0} → (K → K → Ordering) → Option K → K → Bool
follows cmp None k = true
follows cmp (Some before) k = is_lt (cmp before k)

-- as many keys with their values, each above the one before it
abbrev pub pairs : ℕ → Option (List ℕ) → Reader Store
pairs zero before = gives []
pairs (suc k) before =
    here >>= λ at. key >>= λ q. if follows bytes_cmp before q then (value >>= λ v. pairs k (Some q) >>= λ more. gives ((q, v) ∷ more)) else fails (Unordered at)

-- as many clients with their last numbers and replies, each above the one before it
abbrev pub clients : ℕ → Option ℕ → Reader (List (ℕ × (ℕ × Reply)))
clients zero before = gives []
clients (suc k) before =
    here >>= λ at. number_within 8 0 1023 >>= λ c.
    if follows nat_cmp before c
    then (number_within 8 1 (2 ^ 48) >>= λ n. reply >>= λ r. clients k (Some c) >>= λ more. gives ((c, (n, r)) ∷ more))
    else fails (Unordered at)

-- the parts of a state, in order
abbrev pub state : Reader State
state =
    number_within 8 0 (2 ^ 48) >>= λ executed.
    count_within 4 0 16384 >>= λ keys. pairs keys None >>= λ store.
    count_within 4 0 1024 >>= λ count. clients count None >>= λ last.
    gives (record { store = store; executed = executed; last = last })

-- nothing is left behind the state
abbrev pub at_end : State → List ℕ → ℕ → Result State Fault
at_end s [] at = Ok s
at_end s (b ∷ bs) at = Err (Trailing at)

-- the state that was read, with nothing left behind it
abbrev pub whole : Result (State × Place) Fault → Result State Fault
whole (Ok r) = at_end r.0 r.1.rest r.1.at
whole (Err fault) = Err fault

-- the state that the bytes hold
unfoldable pub read_state : List ℕ → Result State Fault
read_state b = whole (state (record { at = 0; rest = b }))

-- the state, if there was no fault
abbrev pub state_if : Result State Fault → Option State
state_if (Ok s) = Some s
state_if (Err fault) = None

-- the state that the bytes hold, if they hold one
abbrev pub state_in : List ℕ → Option State
state_in b = state_if (read_state b)

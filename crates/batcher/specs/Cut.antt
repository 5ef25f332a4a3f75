-- How requests are cut into batches: what closes one, and the batch that is being made.
use Rattle.std.specs.Prelude.{ℕ, suc, ◌+◌, ◌<◌, ◌≤◌, Bool, true, false, ◌||◌, List, [], ◌∷◌, ◌++◌, length, nat_lt, Option, Some, None, flat_map}
use Rattle.jp_types.specs.declared.command.Command.{Command}
use Rattle.jp_types.specs.declared.command.Request.{Request}
use Rattle.jp_types.specs.Sizes.{request_size, batch_size}
use Rattle.jp_types.specs.Instances.{Batch}
use Rattle.batcher.specs.declared.fed.Fed.{Fed}

-- a batch has at most so many bytes
abbrev pub byte_limit : ℕ
byte_limit = 65536

-- a batch has at most so many requests
abbrev pub request_limit : ℕ
request_limit = 1024

-- whether a batch is closed by what comes next: it is not empty, and next comes a tick, or a request with which it would pass a limit
abbrev pub is_closed_by : Batch → Fed → Bool
is_closed_by [] fed = false
is_closed_by (r ∷ rs) Fed.Tick = true
is_closed_by (r ∷ rs) (Fed.Request request) = nat_lt byte_limit (batch_size (r ∷ rs) + request_size request) || nat_lt request_limit (suc (length (r ∷ rs)))

-- the batch that is being made after what comes, where the first argument says whether that closes the one before
abbrev pub held_after : Bool → Batch → Fed → Batch
held_after true batch (Fed.Request request) = request ∷ []
held_after true batch Fed.Tick = []
held_after false batch (Fed.Request request) = batch ++ request ∷ []
held_after false batch Fed.Tick = batch

-- a batch, where it is closed
abbrev pub closed_if : Bool → Batch → Option Batch
closed_if true batch = Some batch
closed_if false batch = None

-- a batch in front of others, where it is closed
abbrev pub with_closed : Bool → Batch → List Batch → List Batch
with_closed true batch batches = batch ∷ batches
with_closed false batch batches = batches

-- the batches that a list closes where this one is being made before it, and the one that is being made after it
abbrev pub cut_from : Batch → List Fed → List Batch × Batch
cut_from held [] = ([], held)
cut_from held (fed ∷ more) =
    let closed = is_closed_by held fed in
    let rest = cut_from (held_after closed held fed) more in
    (with_closed closed held rest.0, rest.1)

-- the batches that a list closes from the start, and the one that is being made after it
abbrev pub cut : List Fed → List Batch × Batch
cut feds = cut_from [] feds

-- the requests of a list, in order
abbrev pub requests_of : List Fed → List Request
requests_of [] = []
requests_of (Fed.Request request ∷ more) = request ∷ requests_of more
requests_of (Fed.Tick ∷ more) = requests_of more

-- the requests of batches, in order
abbrev pub requests_in : List Batch → List Request
requests_in batches = flat_map (λ batch. batch) batches

-- a batch passes neither limit
abbrev pub IsWithinLimits : Batch → Type 0
IsWithinLimits batch = (batch_size batch ≤ byte_limit) × (length batch ≤ request_limit)

-- a batch has a request
abbrev pub IsNotEmpty : Batch → Type 0
IsNotEmpty batch = 0 < length batch

-- what comes next is a tick, or a request that alone is within the limits of a batch
abbrev pub Fits : Fed → Type 0
Fits (Fed.Request request) = IsWithinLimits (request ∷ [])
Fits Fed.Tick = Unit {0}

-- the key of a command has at most 256 bytes, and each of its values at most 4,096
abbrev pub IsShort : Command → Type 0
IsShort (Command.Put key value) = (length key ≤ 256) × (length value ≤ 4096)
IsShort (Command.Get key) = length key ≤ 256
IsShort (Command.Del key) = length key ≤ 256
IsShort (Command.Cas key None new) = (length key ≤ 256) × (length new ≤ 4096)
IsShort (Command.Cas key (Some old) new) = (length key ≤ 256) × (length old ≤ 4096) × (length new ≤ 4096)

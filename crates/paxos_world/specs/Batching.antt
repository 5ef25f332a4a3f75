-- How requests are cut into batches: what closes one, and the batch that is being made.
use Rattle.std.specs.Prelude.{ℕ, suc, ◌+◌, Bool, true, false, ◌||◌, List, [], ◌∷◌, ◌++◌, length, nat_lt}
use Rattle.jp_types.specs.declared.command.Request.{Request}
use Rattle.jp_types.specs.Sizes.{request_size, batch_size}
use Rattle.jp_types.specs.Instances.{Batch}

-- what the Batcher takes
pub data Fed : Type 0 where
  Asked : (request : Request) → Fed
  Tick : Fed

-- a batch has at most so many bytes
abbrev pub byte_limit : ℕ
byte_limit = 65536

-- a batch has at most so many requests
abbrev pub request_limit : ℕ
request_limit = 1024

-- whether a batch is closed by what comes next: it is not empty, and next comes a tick, or a request with which it would pass a limit
abbrev pub is_closed_by : Batch → Fed → Bool
is_closed_by [] fed = false
is_closed_by (r ∷ rs) Tick = true
is_closed_by (r ∷ rs) (Asked request) = nat_lt byte_limit (batch_size (r ∷ rs) + request_size request) || nat_lt request_limit (suc (length (r ∷ rs)))

-- the batch that is being made after what comes, where the first argument says whether that closes the one before
abbrev pub held_after : Bool → Batch → Fed → Batch
held_after true batch (Asked request) = request ∷ []
held_after true batch Tick = []
held_after false batch (Asked request) = batch ++ request ∷ []
held_after false batch Tick = batch

-- a batch in front of others, where it is closed
abbrev pub with_closed : Bool → Batch → List Batch → List Batch
with_closed true batch batches = batch ∷ batches
with_closed false batch batches = batches

-- the batches that a list closes where this one is being made before it, and the one that is being made after it
abbrev pub cut_from : Batch → List Fed → List Batch × Batch
cut_from held [] = ([], held)
cut_from held (fed ∷ more) =
    let closed = is_closed_by held fed in
    let rest = cut_from (held_after closed held fed) more in
    (with_closed closed held rest.0, rest.1)

-- the batches that a list closes from the start, and the one that is being made after it
abbrev pub cut : List Fed → List Batch × Batch
cut fed = cut_from [] fed

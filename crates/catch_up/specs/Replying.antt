-- What a query for known batches is answered with.
use Rattle.std.specs.Prelude.{ℕ, List, if◌then◌else◌, nat_lt}
use Rattle.std.specs.FinMap as map
use Rattle.jp_types.specs.Instances.{Batch, known_from, reply_limit}
use Rattle.replica_log.specs.Log.{Log, is_known}
use Rattle.catch_up.specs.declared.reply.Given.{Given}
use Rattle.catch_up.specs.declared.reply.Given.TheVariants.{Offer, Nothing, Batches}

-- the known batches that answer a query from an instance on: up to the next that is not known, and at most `reply_limit`
unfoldable pub replied_batches : Log → ℕ → List Batch
replied_batches log first = known_from reply_limit (map.get log.known) first

-- the answer to a query: below the base a snapshot is offered; nothing is given where the instance is not known; else the known batches
abbrev pub reply_to : Log → ℕ → Given
reply_to log first = if nat_lt first log.base then Offer else (if is_known log first then Batches (replied_batches log first) else Nothing)

-- The batches so far, and then those that are left, are all.
use Rattle.std.proofs.Common.{◌≡◌, ◌-◌, ◌++◌}
use Rattle.std.specs.FinMap as map
use Rattle.jp_types.specs.Instances.{known_from, reply_limit}
use Rattle.catch_up.specs.Replying.{replied_batches}
use Rattle.catch_up.proofs.reply.replied_batches.Given as goal

abbrev pub invariant-loop : goal.invariant-loop
invariant-loop l = l.batches ++ known_from (reply_limit - l.counter) (map.get l.log.known) l.instance ≡ replied_batches l.log l.first

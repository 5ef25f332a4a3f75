use Rattle.std.proofs.Common.{◌≡◌, take, reverse}
use Rattle.stable_store.specs.Failing.{filled_all}
use Rattle.stable_store.proofs.failing.tear_all.Given as goal

abbrev pub invariant-loop-at : goal.invariant-loop-at
invariant-loop-at l = l.bytes.items ≡ filled_all l.fill (reverse (take l.at-index l.ranges)) l.fn.bytes.items

use Rattle.std.proofs.Common.{rules, ◌≡◌, ◌++◌, ◌∷◌, []}
use Rattle.stable_store.proofs.FailingLemmas.{elapses_on}
use Rattle.stable_store.proofs.failing.FailingDiskDisk.sync.Goals as goal

pub returns-clause-time : goal.returns-clause-time
returns-clause-time c =
    let old = c.args.self.now in
    let is : c.settle.new.self.past ≡ old.past ++ old.present ∷ [] = search rules in
    elapses_on old c.settle.new.self is

use Rattle.std.proofs.Common.{rules, ◌≡◌, ◌++◌, ◌∷◌, []}
use Rattle.stable_store.proofs.FailingLemmas.{elapses_on, write_images, written}
use Rattle.stable_store.proofs.failing.FailingDiskDisk.write_at.Goals as goal

pub returns-in_err-called-clause-time : goal.returns-in_err-called-clause-time
returns-in_err-called-clause-time c =
    let old = c.args.self.now in
    let is : c.begin_write.new.self.past ≡ old.past ++ old.present ∷ [] = search rules in
    elapses_on old c.begin_write.new.self is

pub returns-clause-images : goal.returns-clause-images
returns-clause-images c =
    let old = c.args.self.now.present in
    let is : c.put.new.self.present ≡ written c.args.at c.args.piece.now old = search rules in
    write_images old c.put.new.self.present c.args.at c.args.piece.now c.requires is

pub returns-clause-time : goal.returns-clause-time
returns-clause-time c =
    let old = c.args.self.now in
    let is : c.put.new.self.past ≡ old.past ++ old.present ∷ [] = search rules in
    elapses_on old c.put.new.self is

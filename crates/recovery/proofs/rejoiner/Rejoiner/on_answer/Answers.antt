use Rattle.std.proofs.Common.{ap}
use Rattle.epoch_vectors.proofs.Counting.{covers-put, covers-merged}
use Rattle.recovery.specs.Rejoining.{Rejoining}
use Rattle.recovery.proofs.rejoiner.Rejoiner.on_answer.Goals as goal

pub returns-then-is_better-clause-covers : goal.returns-then-is_better-clause-covers
returns-then-is_better-clause-covers c covers =
    let same = ap (λ (k : Rejoining). k.answers) c.self.view_is in
    rw (c.put.ensures.after, c.merge.ensures, same) (covers-put c.args.own.now c.args.self.now.answers c.args.from c.args.m.vector c.args.m covers)

pub returns-else-is_better-clause-covers : goal.returns-else-is_better-clause-covers
returns-else-is_better-clause-covers c covers =
    rw c.merge.ensures (covers-merged c.args.own.now c.args.self.now.answers c.args.m.vector covers)

use Rattle.std.proofs.Common.{◌≤◌, subst, sym}
use Rattle.replica_log.specs.Log.{first_undecided}
use Rattle.replica_log.proofs.Keeping.{sound_cut}
use Rattle.replica_log.proofs.log.ReplicaLog.cut.Goals as goal

pub invariant_of-self : goal.invariant_of-self
invariant_of-self c =
    let low = subst (λ log. log.base ≤ c.args.below) (sym c.self.view_is) c.requires.base in
    let high = subst (λ log. c.args.below ≤ first_undecided log) (sym c.self.view_is) c.requires.undecided in
    rw (c.drop_below.ensures, c.drop_below-2.ensures, c.drop_below-3.ensures)
    (sound_cut _ c.self.inside.undecided c.args.below c.self.invariant low (rw c.self.invariant.undecided high))

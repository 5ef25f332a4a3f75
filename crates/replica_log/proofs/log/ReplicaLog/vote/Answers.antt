use Rattle.std.proofs.Common.{◌≡◌, true, subst, sym}
use Rattle.replica_log.specs.Log.{is_in_span}
use Rattle.replica_log.proofs.Keeping.{no_fault, sound_vote}
use Rattle.replica_log.proofs.log.ReplicaLog.vote.Goals as goal

pub invariant_of-self-in-None : goal.invariant_of-self-in-None
invariant_of-self-in-None c =
    let inside = subst (λ log. is_in_span log c.args.instance ≡ true) (sym c.self.view_is) (no_fault c.args.self.now c.args.instance (sym c.in-None.ensures.fault)) in
    rw c.in_ok-insert-in-None.ensures.ok (sound_vote _ c.self.inside.undecided c.args.instance c.args.view c.args.batch c.self.invariant inside)

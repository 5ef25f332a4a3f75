use Rattle.std.proofs.Common.{◌≡◌, true, false, subst, sym}
use Rattle.replica_log.specs.Log.{is_in_span, is_known}
use Rattle.replica_log.proofs.Keeping.{no_fault, sound_note}
use Rattle.replica_log.proofs.log.ReplicaLog.note.Goals as goal

pub invariant_of-self-in-None : goal.invariant_of-self-in-None
invariant_of-self-in-None c =
    let inside = subst (λ log. is_in_span log c.args.instance ≡ true) (sym c.self.view_is) (no_fault c.args.self.now c.args.instance (sym c.in-None.ensures.fault)) in
    let new = subst (λ log. is_known log c.args.instance ≡ false) (sym c.self.view_is) c.requires.unknown in
    rw c.in_ok-add-in-None.ensures.ok (sound_note _ c.self.inside.undecided c.args.instance c.args.view c.args.from c.args.batch c.self.invariant inside new)

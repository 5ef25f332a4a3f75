use Rattle.std.proofs.Common.{◌≡◌, true, subst, sym}
use Rattle.replica_log.specs.Log.{is_in_span}
use Rattle.replica_log.proofs.Keeping.{IsScanned, first_of, no_fault, sound_known}
use Rattle.replica_log.proofs.log.ReplicaLog.learn.Goals as goal

pub first_unknown-self-inside-requires : goal.first_unknown-self-inside-requires
first_unknown-self-inside-requires c = rw c.span_end.ensures (first_of _ c.self.inside.undecided c.self.invariant).high

pub invariant_of-self-in-None : goal.invariant_of-self-in-None
invariant_of-self-in-None c =
    let inside = subst (λ log. is_in_span log c.args.instance ≡ true) (sym c.self.view_is) (no_fault c.args.self.now c.args.instance (sym c.in-None.ensures.fault)) in
    let found = c.first_unknown-self-inside.ensures in
    let scanned : IsScanned c.insert.new.self c.self.inside.undecided c.span_end.result c.first_unknown-self-inside.result = record { low = found.low; high = found.high; all = found.known; unknown = found.unknown } in
    let known = c.in_ok-insert-in-None.ensures.ok in
    rw (known, c.forget.ensures)
    (sound_known _ c.self.inside.undecided c.first_unknown-self-inside.result c.args.instance c.args.batch c.self.invariant inside
    (rw (← known, ← c.span_end.ensures) scanned))

use Rattle.std.proofs.Common.{◌<◌, subst, sym}
use Rattle.replica_log.specs.Log.{first_undecided}
use Rattle.replica_log.proofs.Keeping.{IsScanned, base_in_span, sound_jump}
use Rattle.replica_log.proofs.log.ReplicaLog.jump.Goals as goal

pub first_unknown-self-inside-requires : goal.first_unknown-self-inside-requires
first_unknown-self-inside-requires c = rw c.span_end.ensures (base_in_span c.args.to c.requires.limit)

pub invariant_of-self : goal.invariant_of-self
invariant_of-self c =
    let beyond = subst (λ log. first_undecided log < c.args.to) (sym c.self.view_is) c.requires.beyond in
    let found = c.first_unknown-self-inside.ensures in
    let scanned : IsScanned c.drop_below-2.new.self c.args.to c.span_end.result c.first_unknown-self-inside.result = record { low = found.low; high = found.high; all = found.known; unknown = found.unknown } in
    rw (c.drop_below.ensures, c.drop_below-2.ensures, c.drop_below-3.ensures)
    (sound_jump _ c.self.inside.undecided c.first_unknown-self-inside.result c.args.to c.self.invariant (rw c.self.invariant.undecided beyond) c.requires.limit
    (rw (← c.drop_below-2.ensures, ← c.span_end.ensures) scanned))

use Rattle.std.proofs.Common.{subst}
use Rattle.replica_log.proofs.Keeping.{IsFirst, first_of, first_is_unknown, known_below_first}
use Rattle.replica_log.proofs.log.ReplicaLog.first_undecided.Goals as goal

pub returns-clause-base : goal.returns-clause-base
returns-clause-base c =
    let first = subst (λ log. IsFirst log c.self.inside.undecided) c.self.view_is (first_of _ c.self.inside.undecided c.self.invariant) in
    first.low

pub returns-clause-span : goal.returns-clause-span
returns-clause-span c =
    let first = subst (λ log. IsFirst log c.self.inside.undecided) c.self.view_is (first_of _ c.self.inside.undecided c.self.invariant) in
    first.high

pub returns-clause-unknown : goal.returns-clause-unknown
returns-clause-unknown c =
    let first = subst (λ log. IsFirst log c.self.inside.undecided) c.self.view_is (first_of _ c.self.inside.undecided c.self.invariant) in
    first_is_unknown c.args.self.now c.self.inside.undecided first

pub returns-clause-known : goal.returns-clause-known
returns-clause-known c i lt =
    let first = subst (λ log. IsFirst log c.self.inside.undecided) c.self.view_is (first_of _ c.self.inside.undecided c.self.invariant) in
    known_below_first c.args.self.now c.self.inside.undecided i first lt

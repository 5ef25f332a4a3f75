use Rattle.std.proofs.Common.{ap, is_some, sym, ◌∙◌}
use Rattle.std.specs.FinMap.{insert}
use Rattle.replica_log.specs.Log.{noted}
use Rattle.replica_log.proofs.Replacing.{replaced_twice}
use Rattle.replica_log.proofs.tally.add.Goals as goal

pub returns-in-Some-clause-ok : goal.returns-in-Some-clause-ok
returns-in-Some-clause-ok c =
    let old = c.args.tallies.now in
    let found = c.in-Some.ensures.value in
    let twice = replaced_twice old c.replace.new.self c.replace-placeholder.new.self c.args.instance c.none.result c.noted.result (sym (ap is_some found)) c.replace.ensures.after c.replace-placeholder.ensures.after in
    twice ∙ ap (insert old c.args.instance) (c.noted.ensures ∙ ap (λ t. noted t c.args.view c.args.from c.args.batch) found)

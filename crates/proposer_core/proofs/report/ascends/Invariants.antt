use Rattle.std.proofs.Common.{◌≡◌, None, drop}
use Rattle.proposer_core.specs.Ascending.{ascends_above}
use Rattle.proposer_core.proofs.report.ascends.Given as goal

-- the report ascends where the rest does, above the last instance so far
abbrev pub invariant-loop-entry : goal.invariant-loop-entry
invariant-loop-entry l = ascends_above l.last (drop l.entry-index l.report) ≡ ascends_above None l.report

use Rattle.std.proofs.Common.{◌≡◌, drop}
use Rattle.jp_types.specs.Reports.{decided_in}
use Rattle.proposer_core.proofs.report.decided_in.Given as goal

-- what the entries so far say is nothing
abbrev pub invariant-loop-entry : goal.invariant-loop-entry
invariant-loop-entry l = decided_in l.instance (drop l.entry-index l.report) ≡ decided_in l.instance l.report

use Rattle.std.proofs.Common.{◌≡◌, drop}
use Rattle.jp_types.specs.Reports.{vote_in}
use Rattle.proposer_core.proofs.report.vote_in.Given as goal

-- what the entries so far say is nothing
abbrev pub invariant-loop-entry : goal.invariant-loop-entry
invariant-loop-entry l = vote_in l.instance (drop l.entry-index l.report) ≡ vote_in l.instance l.report

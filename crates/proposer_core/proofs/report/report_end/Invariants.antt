use Rattle.std.proofs.Common.{◌≡◌, ◌^◌, ◌-◌, max, min, drop}
use Rattle.jp_types.specs.Reports.{report_end}
use Rattle.proposer_core.proofs.report.report_end.Given as goal

-- the end so far and that of the rest are the whole report's
abbrev pub invariant-loop-entry : goal.invariant-loop-entry
invariant-loop-entry l = max l.end (min (report_end (drop l.entry-index l.report)) (2 ^ 64 - 1)) ≡ min (report_end l.report) (2 ^ 64 - 1)

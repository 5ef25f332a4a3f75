use Rattle.std.proofs.Common.{◌≡◌, ◌-◌, ◌++◌}
use Rattle.proposer_core.specs.Counting.{report_in}
use Rattle.proposer_core.specs.Adoption.{launches_from}
use Rattle.proposer_core.proofs.adopting.launches.Given as goal

-- the launches so far and those of the other instances are all
abbrev pub invariant-loop-instance : goal.invariant-loop-instance
invariant-loop-instance l =
    l.launches ++ launches_from (l.end - l.instance) l.n (report_in l.counted l.held) l.log l.instance
    ≡ launches_from (l.end - l.from) l.n (report_in l.counted l.held) l.log l.from

use Rattle.std.proofs.Common.{◌∙◌, rules}
use Rattle.std.proofs.lemmas.Fn.{always_returns_same}
use Rattle.jp_types.specs.Reports.{decided_of, vote_of}
use Rattle.proposer_core.proofs.Searching.{is_before, found_by_search, decided_found, vote_found}
use Rattle.proposer_core.proofs.report.place_of.Goals as goal

-- the closure tells the entries of earlier instances
pub returns : goal.returns
returns c =
    let facts = c.partition_point.ensures in
    let report = c.args.report.now in
    let i = c.args.instance in
    let point = facts.partitioned (is_before i) (always_returns_same _ _ _ (λ a r f called. search rules)) in
    record {
      decided = decided_found i report ∙ found_by_search decided_of i report _ c.requires facts.bound point;
      vote = vote_found i report ∙ found_by_search vote_of i report _ c.requires facts.bound point;
    }

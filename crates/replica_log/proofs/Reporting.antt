-- A report, as instance by instance adds to it.
use Rattle.std.proofs.Common.{◌≡◌, ℕ, zero, suc, ◌+◌, ◌-◌, ◌<◌, Bool, true, false, cond, List, [], ◌∷◌, ◌++◌, filter, nat_le, refl, sym, ap, ◌∙◌, append_assoc, append-nil, arith}
use Rattle.std.specs.FinMap as map
use Rattle.jp_types.specs.declared.message.Entry.{Entry}
use Rattle.jp_types.specs.Instances.{span}
use Rattle.jp_types.specs.Reports.{entry_by}
use Rattle.replica_log.specs.Log.{Log, entries_from, report_from}

filter-append : (test : Entry → Bool) (a b : List Entry) → filter test (a ++ b) ≡ filter test a ++ filter test b
filter-append test [] b = refl
filter-append test (e ∷ a) b = by (test e) (filter-append test a b)
  where
    by : (t : Bool) → filter test (a ++ b) ≡ filter test a ++ filter test b → cond t (e ∷ filter test (a ++ b)) (filter test (a ++ b)) ≡ cond t (e ∷ filter test a) (filter test a) ++ filter test b
    by true h = ap (◌∷◌ e) h
    by false h = h

pub report_begins : (log : Log) (first : ℕ) → [] ++ filter (λ e. nat_le first e.instance) (entries_from (span - 0) log (log.base + 0)) ≡ report_from log first
unfolding report_from
report_begins log first = let none : log.base + 0 ≡ log.base = omega arith in ap (λ i. filter (λ e. nat_le first e.instance) (entries_from span log i)) none

split : (log : Log) (k at : ℕ) → entries_from (suc k) log at ≡ entry_by at (map.get log.known at) (map.get log.votes at) ++ entries_from k log (suc at)
unfolding entries_from
split log k at = refl

none : (log : Log) (at : ℕ) → entries_from zero log at ≡ []
unfolding entries_from
none log at = refl

pub report_goes_on : (log : Log) (first offset at next : ℕ) (done new whole : List Entry) → offset < span → next ≡ suc at
    → done ++ filter (λ e. nat_le first e.instance) (entries_from (span - offset) log at) ≡ whole
    → new ≡ done ++ filter (λ e. nat_le first e.instance) (entry_by at (map.get log.known at) (map.get log.votes at))
    → new ++ filter (λ e. nat_le first e.instance) (entries_from (span - (offset + 1)) log next) ≡ whole
report_goes_on log first offset at next done new whole lt is h e =
    let test : Entry → Bool = λ entry. nat_le first entry.instance in
    let k = span - (offset + 1) in
    let one : span - offset ≡ suc k = omega arith in
    let here = entry_by at (map.get log.known at) (map.get log.votes at) in
    let all : filter test (entries_from (span - offset) log at) ≡ filter test here ++ filter test (entries_from k log (suc at)) = ap (λ n. filter test (entries_from n log at)) one ∙ ap (filter test) (split log k at) ∙ filter-append test here (entries_from k log (suc at)) in
    rw (e, is) (append_assoc done (filter test here) (filter test (entries_from k log (suc at))) ∙ ap (◌++◌ done) (sym all) ∙ h)

pub report_ends : (log : Log) (first offset at : ℕ) (done whole : List Entry) → offset ≡ span
    → done ++ filter (λ e. nat_le first e.instance) (entries_from (span - offset) log at) ≡ whole → done ≡ whole
report_ends log first offset at done whole is h =
    let left : span - offset ≡ 0 = omega arith in
    let gone : entries_from (span - offset) log at ≡ [] = ap (λ n. entries_from n log at) left ∙ none log at in
    sym (append-nil done) ∙ ap (λ es. done ++ filter (λ e. nat_le first e.instance) es) (sym gone) ∙ h

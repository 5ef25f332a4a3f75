-- What becomes of a log by proposals and acceptances.
use Rattle.std.specs.Prelude.{◌≡◌, ℕ, Bool, true, false, ◌&&◌, ◌||◌, not, Option, Some, None, ◌==◌, if◌then◌else◌}
use Rattle.std.specs.FinMap as map
use Rattle.jp_types.specs.declared.message.Accept.{Accept}
use Rattle.jp_types.specs.declared.message.Propose.{Propose}
use Rattle.jp_types.specs.Instances.{Batch}
use Rattle.replica_log.specs.Log.{Log, after_learn, batch_of, is_full, is_in_span, is_known, with_note, with_vote}

-- whether acceptances of an instance are noted: it is in span and not known
abbrev pub is_open : Log → ℕ → Bool
is_open log i = is_in_span log i && not (is_known log i)

-- the log after a replica's acceptance in a view, which is noted where the instance is open
abbrev pub after_note : Log → ℕ → ℕ → ℕ → Option Batch → Log
after_note log i view from batch = if is_open log i then with_note log i view from batch else log

-- whether a replica votes on a proposal: it is Working, the proposal is of its view, and the instance is in span
abbrev pub votes_on : Log → Bool → ℕ → Propose → Bool
votes_on log working view m = working && (view == m.view) && is_in_span log m.instance

-- the log after a vote, which counts as the own acceptance
abbrev pub after_vote : Log → ℕ → Propose → Log
after_vote log me m = after_note (with_vote log m.instance m.view m.batch) m.instance m.view me None

-- the log after a vote, where the test passes
abbrev pub after_vote_if : Bool → Log → ℕ → Propose → Log
after_vote_if true log me m = after_vote log me m
after_vote_if false log me m = log

-- the batch with which an instance is learned by votes: it is not known, and its tally has that batch and a majority
abbrev pub learned_with : Log → ℕ → Option Batch
learned_with log i =
    let tally = map.get log.tallies i in
    if is_known log i || not (is_full log.n tally) then None else batch_of tally

-- the log after an instance is learned, where there is a batch to learn it with
abbrev pub learned_if : Log → ℕ → Option Batch → Log
learned_if log i None = log
learned_if log i (Some batch) = after_learn log i batch

-- the log after an instance is learned where its tally has its batch and a majority
abbrev pub after_check : Log → ℕ → Log
after_check log i = learned_if log i (learned_with log i)

-- the log with what a proposal makes it note: the leader's acceptance, and the own vote where there is one
abbrev pub noted_proposal : Log → ℕ → Bool → ℕ → ℕ → Propose → Log
noted_proposal log me working view from m =
    after_vote_if (votes_on log working view m) (after_note log m.instance m.view from (Some m.batch)) me m

-- the log after a proposal of replica `from`
abbrev pub after_proposal : Log → ℕ → Bool → ℕ → ℕ → Propose → Log
after_proposal log me working view from m = after_check (noted_proposal log me working view from m) m.instance

-- the log after an acceptance of replica `from`
abbrev pub after_accept : Log → ℕ → Accept → Log
after_accept log from m = after_check (after_note log m.instance m.view from None) m.instance

-- two logs are of as many replicas and have the same span
abbrev pub KeepsSpan : Log → Log → Type 0
KeepsSpan old new = (new.n ≡ old.n) × (new.base ≡ old.base)

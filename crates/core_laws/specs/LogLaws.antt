-- A log is read as the turn of the model reads its stage, and is changed as the turn changes it.
use Rattle.std.specs.Prelude.{◌≡◌, ℕ, ◌≤◌, true, false, Option, Some, None, if◌then◌else◌}
use Rattle.std.specs.FinMap as map
use Rattle.jp_types.specs.Instances.{Batch, reply_limit, known_from}
use Rattle.paxos_world.specs.Setup.{with_at}
use Rattle.paxos_world.specs.Stage.{Stage}
use Rattle.paxos_world.specs.Logs as logs
use Rattle.paxos_world.specs.CatchingUp.{replied_batches}
use Rattle.replica_log.specs.Log.{Log, is_in_span, is_known, span_end, first_undecided, report_from, is_full, batch_of, with_vote, with_note, with_known, above}
use Rattle.core_laws.specs.Keeping.{AreOf, KeepsLog}

-- what is read of a log that keeps what a stage has
pub record ReadsAlike (s : Stage) (log : Log) : Type 0 where
  pub span_end : span_end log ≡ logs.span_end s
  pub in_span : (i : ℕ) → is_in_span log i ≡ logs.is_in_span s i
  pub known : (i : ℕ) → is_known log i ≡ logs.is_known s i
  pub first_undecided : first_undecided log ≡ logs.first_undecided s
  pub report : (first : ℕ) → report_from log first ≡ logs.report_from s first
  pub batches : (first : ℕ) → s.base ≤ first → known_from reply_limit (map.get log.known) first ≡ replied_batches s first
  -- the batch of a full tally is the one with which an instance is learned by votes
  pub tallied : s.config.n ≤ 9 → AreOf s.config.n s.noted → (i : ℕ) → logs.is_known s i ≡ false
      → (if is_full log.n (map.get log.tallies i) then batch_of (map.get log.tallies i) else None) ≡ logs.tallied s i

-- a log that keeps what a stage has is read as the stage is
abbrev pub LogsAreRead : Type 0
LogsAreRead = (s : Stage) (log : Log) → KeepsLog s log → ReadsAlike s log

-- it still keeps what the stage has after both were changed alike
pub record LogsAreKept : Type 0 where
  pub noted : (s : Stage) (log : Log) (i view p : ℕ) (batch : Option Batch) → KeepsLog s log → logs.is_in_span s i ≡ true → logs.is_known s i ≡ false
      → KeepsLog (logs.with_note (record { instance = i; view = view; replica = p; batch = batch }) s) (with_note log i view p batch)
  pub voted : (s : Stage) (log : Log) (i view : ℕ) (batch : Batch) → KeepsLog s log
      → KeepsLog (record s { life = record s.life { votes = with_at s.life.votes i (Some (view, batch)) } }) (with_vote log i view batch)
  pub learned : (s : Stage) (log : Log) (i : ℕ) (batch : Batch) → KeepsLog s log
      → KeepsLog (record s { life = record s.life { known = with_at s.life.known i (Some batch) } }) (with_known log i batch)
  pub cut : (s : Stage) (log : Log) (base : ℕ) → KeepsLog s log → s.base ≤ base → KeepsLog (record s { base = base }) (above log base)

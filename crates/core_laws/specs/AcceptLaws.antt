-- A log that an acceptor changes still keeps what the stage has after the turn of the model did the same.
use Rattle.std.specs.Prelude.{◌≡◌, ℕ, ◌≤◌, ◌<◌, false, ◌&&◌, ◌==◌, nat_lt, List, Some, None, is_some, if◌then◌else◌}
use Rattle.jp_types.specs.declared.message.Accept.{Accept}
use Rattle.jp_types.specs.declared.message.Prepare.{Prepare}
use Rattle.jp_types.specs.declared.message.Propose.{Propose}
use Rattle.paxos_world.specs.Stage.{setup_of, Stage, Turned}
use Rattle.paxos_world.specs.Writing.{◌▹◌}
use Rattle.paxos_world.specs.Logs as logs
use Rattle.paxos_world.specs.Leading.{works}
use Rattle.paxos_world.specs.Learning.{notes, learn_check}
use Rattle.paxos_world.specs.CatchingUp.{replied_batches}
use Rattle.paxos_world.specs.Messages.{votes_if, vector_of}
use Rattle.replica_log.specs.Log.{Log}
use Rattle.acceptor_core.specs.Learning.{learned_with, votes_on, after_proposal, after_accept}
use Rattle.acceptor_core.specs.Promising.{promised}
use Rattle.catch_up.specs.declared.reply.Given.TheVariants.{Offer, Nothing, Batches}
use Rattle.catch_up.specs.Replying.{reply_to}
use Rattle.core_laws.specs.Holding.{KeepsVector}
use Rattle.core_laws.specs.Keeping.{AreOf, KeepsLog}

-- the stage's replicas are within the limit, and each of its notes is of one of them
pub record IsSane (s : Stage) : Type 0 where
  pub most : s.config.n ≤ 9
  pub me : s.config.me < s.config.n
  pub notes : AreOf s.config.n s.noted

-- what the model does with a Propose of p that it looks at, after it raised its view
abbrev pub on_proposal : ℕ → Propose → Turned → Turned
on_proposal p m t = t ▹ notes m.instance m.view p (Some m.batch) ▹ votes_if m ▹ learn_check m.instance

-- what the model does with an Accept of p
abbrev pub on_acceptance : ℕ → Accept → Turned → Turned
on_acceptance p m t = t ▹ notes m.instance m.view p None ▹ learn_check m.instance

pub record AcceptsAlike : Type 0 where
  -- an instance is learned by votes with the model's batch
  pub learned : (s : Stage) (log : Log) (i : ℕ) → KeepsLog s log → IsSane s → learned_with log i ≡ logs.tallied s i
  -- a vote is cast where the model casts it
  pub votes : (s : Stage) (log : Log) (m : Propose) → KeepsLog s log → votes_on log (works s) s.life.view m ≡ (works s && (s.life.view == m.view) && logs.is_in_span s m.instance)
  pub proposal : (t : Turned) (log : Log) (p : ℕ) (m : Propose) → KeepsLog t.stage log → IsSane t.stage → p < t.stage.config.n
      → KeepsLog (on_proposal p m t).stage (after_proposal log t.stage.config.me (works t.stage) t.stage.life.view p m) × IsSane (on_proposal p m t).stage
  pub acceptance : (t : Turned) (log : Log) (p : ℕ) (m : Accept) → KeepsLog t.stage log → IsSane t.stage → p < t.stage.config.n
      → KeepsLog (on_acceptance p m t).stage (after_accept log p m) × IsSane (on_acceptance p m t).stage

-- the promise that answers a Prepare, and what answers a query, are the model's
pub record AnswersAlike : Type 0 where
  pub promise : (s : Stage) (log : Log) (own : List ℕ) (m : Prepare) → KeepsLog s log → KeepsVector (setup_of s.config) s.config.me s.life own → s.life.view ≡ m.view
      → promised log s.life.view own m ≡ Some (record { view = m.view; mark = m.mark; vector = vector_of s; low = s.base; report = logs.report_from s m.first })
  pub no_promise : (s : Stage) (log : Log) (own : List ℕ) (m : Prepare) → (s.life.view == m.view) ≡ false → promised log s.life.view own m ≡ None
  pub reply : (s : Stage) (log : Log) (first : ℕ) → KeepsLog s log
      → reply_to log first ≡ (if nat_lt first s.base then Offer else (if is_some (s.life.known first) then Batches (replied_batches s first) else Nothing))

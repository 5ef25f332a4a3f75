-- What stays kept as the life does what changes a proposer or the own vector, and as it takes any other message.
use Rattle.std.specs.Prelude.{◌≡◌, ◌≢◌, ℕ, ◌<◌, List, Option, Some, None, if◌then◌else◌}
use Rattle.jp_types.specs.declared.message.Message.{Message}
use Rattle.jp_types.specs.declared.message.PrepareOk.{PrepareOk}
use Rattle.jp_types.specs.declared.message.RecoveryAnswer.{RecoveryAnswer}
use Rattle.jp_types.specs.declared.mode.Mode.TheVariants.{ViewSs, EpochSs}
use Rattle.jp_types.specs.Instances.{Batch}
use Rattle.jp_types.specs.Vectors.{raised}
use Rattle.paxos_world.specs.Setup.{Setup}
use Rattle.paxos_world.specs.Life.{LifeId, Life, Preparing, preparing_in, next_of}
use Rattle.paxos_world.specs.Counting.{own_ok, own_answer, counted_ok, counted_answer}
use Rattle.paxos_world.specs.World.{Deed, Take, Enter, Open, Prepared, Launch, Answer, life_after}
use Rattle.paxos_world.specs.Stage.{setup_of, Stage}
use Rattle.paxos_world.specs.Settling as settling
use Rattle.epoch_vectors.specs.Replies.{Replies, reply_of, is_counted}
use Rattle.replica_log.specs.Log.{Log, with_vote}
use Rattle.proposer_core.specs.declared.adoption.Adopted.{Adopted}
use Rattle.proposer_core.specs.declared.leading.Leading.TheVariants as leads
use Rattle.proposer_core.specs.Adoption.{after_adoption}
use Rattle.proposer_core.specs.Proposing.{Proposer, with_leading, after_promise}
use Rattle.proposer_core.specs.Window.{after_offer}
use Rattle.core_laws.specs.Holding.{as_ok, as_answer, KeepsVector, KeepsOks, KeepsAnswers}
use Rattle.core_laws.specs.Keeping.{KeepsLog}
use Rattle.core_laws.specs.PrepareLaws.{KeepsProposer}

-- the stage whose life did this
abbrev pub stage_after : Stage → Deed → Stage
stage_after s deed = record s { life = life_after (setup_of s.config) s.config.me s.life deed }

-- a proposer stays that of the stage
pub record ProposersAreKept : Type 0 where
  pub opened : (s : Stage) (q : Proposer) (first : ℕ) → KeepsProposer s q → KeepsProposer (stage_after s (Open s.life.view first)) (with_leading q (leads.Preparing s.life.view first s.life.mark))
  pub entered : (s : Stage) (q : Proposer) (view : ℕ) → KeepsProposer s q → KeepsProposer (stage_after s (Enter view)) (with_leading q leads.No)
  pub promised : (s : Stage) (q : Proposer) (p : ℕ) (m : PrepareOk) → KeepsProposer s q → KeepsProposer s (after_promise q p m)
  pub prepared : (s : Stage) (q : Proposer) (first : ℕ) (a : Adopted) → s.life.leading ≡ Preparing first → KeepsProposer s q
      → KeepsProposer (stage_after s (Prepared s.life.view a.next)) (after_adoption q (Some a))
  pub placed : (s : Stage) (log : Log) (q : Proposer) (i : ℕ) (batch : Batch) → KeepsLog s log → KeepsProposer s q → settling.open_place s ≡ Some i
      → KeepsProposer (stage_after s (Launch s.life.view i batch)) (after_offer q log)
  -- an adopted batch is launched below `next`
  pub adopted : (s : Stage) (q : Proposer) (view i : ℕ) (batch : Batch) → next_of s.life.leading ≢ Some i → KeepsProposer s q → KeepsProposer (stage_after s (Launch view i batch)) q

-- a launch changes a log by its vote, which is not kept below the base
pub record LaunchesAreKept : Type 0 where
  pub above : (s : Stage) (log : Log) (view i : ℕ) (batch : Batch) → KeepsLog s log → KeepsLog (stage_after s (Launch view i batch)) (with_vote log i view batch)
  pub below : (s : Stage) (log : Log) (view i : ℕ) (batch : Batch) → i < s.base → KeepsLog s log → KeepsLog (stage_after s (Launch view i batch)) log

-- answering a recovery raises the own vector in EpochSS, and leaves it in ViewSS; what is held stays
pub record AnsweringIsKept : Type 0 where
  pub raised : (c : Setup) (r : ℕ) (l : Life) (own : List ℕ) (to view : ℕ) (next : Option ℕ) (mark : ℕ) → c.mode ≡ EpochSs → to < 9 → KeepsVector c r l own
      → KeepsVector c r (life_after c r l (Answer to view next mark)) (raised own to mark)
  pub same : (c : Setup) (r : ℕ) (l : Life) (own : List ℕ) (to view : ℕ) (next : Option ℕ) (mark : ℕ) → c.mode ≡ ViewSs → KeepsVector c r l own
      → KeepsVector c r (life_after c r l (Answer to view next mark)) own
  pub held : (c : Setup) (r : ℕ) (l : Life) (own new : List ℕ) (replies : Replies PrepareOk) (to view : ℕ) (next : Option ℕ) (mark : ℕ) → KeepsOks c r l own replies
      → KeepsVector c r (life_after c r l (Answer to view next mark)) new → KeepsOks c r (life_after c r l (Answer to view next mark)) new replies

-- any message that is no own reply changes neither the vector nor what is held
pub record OthersAreKept : Type 0 where
  pub vector : (c : Setup) (r : ℕ) (l : Life) (own : List ℕ) (from : LifeId) (m : Message) → own_ok l.mark (preparing_in l.leading l.view) m ≡ None → own_answer l.mark l.phase m ≡ None
      → KeepsVector c r l own → KeepsVector c r (life_after c r l (Take from m)) own
  pub oks : (c : Setup) (r : ℕ) (l : Life) (own : List ℕ) (replies : Replies PrepareOk) (from : LifeId) (m : Message) → own_ok l.mark (preparing_in l.leading l.view) m ≡ None
      → own_answer l.mark l.phase m ≡ None → KeepsOks c r l own replies → KeepsOks c r (life_after c r l (Take from m)) own replies
  pub answers : (c : Setup) (r : ℕ) (l : Life) (own : List ℕ) (replies : Replies RecoveryAnswer) (from : LifeId) (m : Message) → own_ok l.mark (preparing_in l.leading l.view) m ≡ None
      → own_answer l.mark l.phase m ≡ None → KeepsAnswers c r l own replies → KeepsAnswers c r (life_after c r l (Take from m)) own replies

-- the reply of p, where it is counted
abbrev pub counted_reply : {A : Type 0} → List ℕ → Replies A → ℕ → Option (List ℕ × A)
counted_reply own replies p = if is_counted own replies p then reply_of replies p else None

-- what is counted of a replica is what the life counts of it
pub record CountsAlike : Type 0 where
  pub oks : (c : Setup) (r : ℕ) (l : Life) (own : List ℕ) (replies : Replies PrepareOk) (p : ℕ) → KeepsOks c r l own replies → p < 9
      → counted_reply own replies p ≡ as_ok (counted_ok c r l p)
  pub answers : (c : Setup) (r : ℕ) (l : Life) (own : List ℕ) (replies : Replies RecoveryAnswer) (p : ℕ) → KeepsAnswers c r l own replies → p < 9
      → counted_reply own replies p ≡ as_answer (counted_answer c r l p)

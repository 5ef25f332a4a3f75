-- When a life of the code is that of a stage of the model.
use Rattle.std.specs.Prelude.{◌≡◌, ◌≢◌, ℕ, ◌≤◌, ◌<◌, ◌^◌, true, false, List, length, Some, None}
use Rattle.std.specs.Option.{option_map}
use Rattle.jp_types.specs.declared.message.PrepareOk.{PrepareOk}
use Rattle.jp_types.specs.declared.message.RecoveryAnswer.{RecoveryAnswer}
use Rattle.kv_service.specs.Parts.{Joiner, part_size}
use Rattle.jp_types.specs.Lists.{In}
use Rattle.paxos_world.specs.Life.{Taken, No, Preparing}
use Rattle.paxos_world.specs.Counting.{is_recovering, held_ok, held_answer}
use Rattle.paxos_world.specs.CatchingUp.{place_of}
use Rattle.paxos_world.specs.Messages.{vector_of}
use Rattle.paxos_world.specs.Stage.{Stage}
use Rattle.paxos_world.specs.Stage as model
use Rattle.epoch_vectors.specs.Replies.{Replies, reply_of}
use Rattle.replica_log.specs.Log.{Log}
use Rattle.core_laws.specs.AcceptLaws.{IsSane}
use Rattle.core_laws.specs.Holding.{as_ok, as_answer}
use Rattle.core_laws.specs.Keeping.{KeepsLog}
use Rattle.core_laws.specs.PrepareLaws.{leading_as}
use Rattle.protocol_core.specs.declared.config.Config.{Config}
use Rattle.protocol_core.specs.declared.life.Life.{Life}
use Rattle.protocol_core.specs.declared.life.Snapshot.{Snapshot}

-- the constants of a replica are within their limits
abbrev pub IsWithin : model.Config → Type 0
IsWithin c = (3 ≤ c.n) × (c.n ≤ 9) × (c.me < c.n) × (1 ≤ c.window) × (c.window ≤ 64)

-- the constants of a replica, as the code has them
abbrev pub config_of : (c : model.Config) → IsWithin c → Config
config_of c within = record { n = c.n; me = c.me; mode = c.mode; window = c.window; valid = within }

-- a snapshot, as the code has it
abbrev pub snapshot_of : model.Snapshot → Snapshot
snapshot_of snapshot = record { place = snapshot.place; bytes = snapshot.bytes; installed = snapshot.installed }

-- the life of a stage, with this log and these held promises and answers
abbrev pub life_of : (s : Stage) → IsWithin s.config → Log → Replies PrepareOk → Replies RecoveryAnswer → Life
life_of s within log promises answers =
    record {
      config = config_of s.config within;
      phase = s.life.phase;
      mark = s.life.mark;
      view = s.life.view;
      stable = s.stable;
      vector = vector_of s;
      log = log;
      proposer = record { n = s.config.n; me = s.config.me; window = s.config.window; leading = leading_as s.life.leading s.life.view s.life.mark; held = promises };
      rejoiner = record { mark = s.life.mark; answers = answers };
      horizon = s.horizon;
      quiet = s.quiet;
      queries = s.queries;
      waiting = s.waiting;
      newest = option_map snapshot_of s.newest;
      joiner = s.joiner;
      handed = s.handed;
    }

-- held promises are those that the life of a stage holds for its view
abbrev pub HoldsOks : Stage → Replies PrepareOk → Type 0
HoldsOks s promises = (p : ℕ) → reply_of promises p ≡ as_ok (held_ok s.life.mark s.life.view p s.life.taken)

-- held answers are those of other replicas that the life of a stage holds
pub record HoldsAnswers (s : Stage) (answers : Replies RecoveryAnswer) : Type 0 where
  pub none : reply_of answers s.config.me ≡ None
  pub held : (p : ℕ) → p ≢ s.config.me → reply_of answers p ≡ as_answer (held_answer s.life.mark p s.life.taken)

-- a joiner is of a state within the limit, and each part that it holds is at most a part's size
pub record IsJoiner (j : Joiner) : Type 0 where
  pub total : j.total ≤ 2 ^ 28
  pub parts : (part : ℕ × List ℕ) → In part j.parts → length part.1 ≤ part_size

-- a snapshot is of a state within the limit, its place is not below the base, and one of the own service was taken of what was handed to it
pub record IsSnapshot (s : Stage) (snapshot : model.Snapshot) : Type 0 where
  pub size : length snapshot.bytes ≤ 2 ^ 28
  pub own : snapshot.installed ≡ false → snapshot.place ≤ s.handed

-- what holds of each stage, after each turn
pub record IsFit (s : Stage) : Type 0 where
  pub sane : IsSane s
  -- a life that recovers leads nothing, and took nothing in a phase 1
  pub led : is_recovering s.life.phase ≡ true → s.life.leading ≡ No
  pub untaken : is_recovering s.life.phase ≡ true → (t : Taken) → In t s.life.taken → t.preparing ≡ None
  -- what was taken in phase 1 of a view was taken in the own view or a lower one
  pub below : (t : Taken) (view : ℕ) → In t s.life.taken → t.preparing ≡ Some view → view ≤ s.life.view
  pub base : s.base ≤ place_of s.newest
  pub newest : (snapshot : model.Snapshot) → s.newest ≡ Some snapshot → IsSnapshot s snapshot
  pub joiner : (j : Joiner) → s.joiner ≡ Some j → IsJoiner j

-- what the cores of a life keep, where it is that of this stage
pub record Cores (s : Stage) : Type 0 where
  pub within : IsWithin s.config
  pub log : Log
  pub promises : Replies PrepareOk
  pub answers : Replies RecoveryAnswer
  pub kept : KeepsLog s log
  pub promise_places : length promises ≡ s.config.n
  pub answer_places : length answers ≡ s.config.n
  pub promised : (first : ℕ) → s.life.leading ≡ Preparing first → HoldsOks s promises
  pub answered : is_recovering s.life.phase ≡ true → HoldsAnswers s answers
  pub fit : IsFit s

-- the life of a stage with these cores
abbrev pub life_in : (s : Stage) → Cores s → Life
life_in s c = life_of s c.within c.log c.promises c.answers

-- a life is that of a stage
pub record KeepsLife (s : Stage) (life : Life) : Type 0 where
  pub cores : Cores s
  pub is : life ≡ life_in s cores

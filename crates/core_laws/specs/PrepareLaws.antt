-- A leader in phase 1 holds and counts promises as the model says, becomes Prepared where the model says, and then proposes what the model says.
use Rattle.std.specs.Prelude.{◌≡◌, ℕ, zero, suc, ◌-◌, ◌≤◌, ◌<◌, max, false, ◌&&◌, not, List, [], ◌∷◌, length, Option, Some, None, is_some, Result, Ok, Err}
use Rattle.jp_types.specs.declared.message.Message.{Message}
use Rattle.jp_types.specs.declared.message.PrepareOk.{PrepareOk}
use Rattle.jp_types.specs.Instances.{Batch}
use Rattle.jp_types.specs.Reports.{decided_below}
use Rattle.jp_types.specs.Lists.{In}
use Rattle.paxos_world.specs.Setup.{Setup}
use Rattle.paxos_world.specs.Life.{LifeId, Taken, Life, Leading, No, Preparing, Leads}
use Rattle.paxos_world.specs.Counting.{is_view}
use Rattle.paxos_world.specs.Adoption.{counted_report, adopted_by}
use Rattle.paxos_world.specs.World.{Take, Open, life_after}
use Rattle.paxos_world.specs.Stage.{setup_of, Stage}
use Rattle.paxos_world.specs.Logs as logs
use Rattle.paxos_world.specs.Settling as settling
use Rattle.epoch_vectors.specs.Replies.{counted_set, no_replies}
use Rattle.replica_log.specs.Log.{Log}
use Rattle.proposer_core.specs.declared.adoption.Launch.{Launch}
use Rattle.proposer_core.specs.declared.leading.Leading as proposer
use Rattle.proposer_core.specs.declared.leading.Leading.TheVariants as leads
use Rattle.proposer_core.specs.Proposing.{Proposer, after_promise, vector_after}
use Rattle.proposer_core.specs.Adoption.{is_prepared, adoption}
use Rattle.proposer_core.specs.Window.{offered}
use Rattle.core_laws.specs.Keeping.{KeepsLog}
use Rattle.core_laws.specs.Holding.{KeepsVector, KeepsOks}
use Rattle.core_laws.specs.RejoinLaws.{IsPlain}

-- how a proposer leads, where a life with this mark leads this view so
abbrev pub leading_as : Leading → ℕ → ℕ → proposer.Leading
leading_as No view mark = leads.No
leading_as (Preparing first) view mark = leads.Preparing view first mark
leading_as (Leads lead) view mark = leads.Prepared view lead.next

-- a proposer is that of a stage: of the same replica, and leading as its life leads
pub record KeepsProposer (s : Stage) (q : Proposer) : Type 0 where
  pub n : q.n ≡ s.config.n
  pub me : q.me ≡ s.config.me
  pub window : q.window ≡ s.config.window
  pub leading : q.leading ≡ leading_as s.life.leading s.life.view s.life.mark

-- the launches of k instances from i on, with the batches that the model adopts, and whether they are learned as the model learns them
abbrev pub launches_of : ℕ → Stage → ℕ → List Launch
launches_of zero s i = []
launches_of (suc k) s i =
    let reports = counted_report (setup_of s.config) s.config.me s.life in
    record { instance = i; batch = adopted_by s.config.n reports s.life i; decided = not (logs.is_known s i) && is_some (decided_below s.config.n reports i) } ∷ launches_of k s (suc i)

-- what a proposer in phase 1 makes of the promises that it counts
pub record PreparesAlike (s : Stage) (log : Log) (own : List ℕ) (q : Proposer) (first : ℕ) : Type 0 where
  -- it becomes Prepared where the model does
  pub prepared : is_prepared q.n q.me (counted_set own q.held) q.held log first ≡ settling.is_prepared s first
  -- with the model's `next`
  pub next : (adoption q.n (counted_set own q.held) q.held log first).next ≡ max (settling.adoption_end s first) (logs.first_undecided s)
  -- and launches what the model launches
  pub launches : (adoption q.n (counted_set own q.held) q.held log first).launches ≡ launches_of (settling.adoption_end s first - max first s.base) s (max first s.base)

abbrev pub PreparesAsTheModel : Type 0
PreparesAsTheModel =
    (s : Stage) (log : Log) (own : List ℕ) (q : Proposer) (first : ℕ) → s.config.n ≤ 9 → KeepsLog s log → KeepsProposer s q
    → KeepsOks (setup_of s.config) s.config.me s.life own q.held → PreparesAlike s log own q first

-- what was answered, where it is no fault
abbrev pub ok_of : {A E : Type 0} → Result A E → Option A
ok_of (Ok x) = Some x
ok_of (Err e) = None

-- a batch that is offered has the place that the model has for the next one
abbrev pub OffersAlike : Type 0
OffersAlike = (s : Stage) (log : Log) (q : Proposer) (batch : Batch) → KeepsLog s log → KeepsProposer s q → ok_of (offered q log batch) ≡ settling.open_place s

-- promises that are held are those that the life holds as phase 1 begins, and after the life took one more
pub record PromisesAreKept : Type 0 where
  pub started : (c : Setup) (r : ℕ) (l : Life) (own : List ℕ) (first : ℕ) → ((t : Taken) → In t l.taken → is_view t.preparing l.view ≡ false)
      → KeepsVector c r l own → KeepsOks c r (life_after c r l (Open l.view first)) own (no_replies c.n)
  pub taken : (c : Setup) (r : ℕ) (l : Life) (own : List ℕ) (q : Proposer) (first : ℕ) (from : LifeId) (m : PrepareOk) → from.replica < length q.held
      → l.leading ≡ Preparing first → q.leading ≡ leads.Preparing l.view first l.mark → IsPlain c.mode m.vector → KeepsOks c r l own q.held
      → KeepsOks c r (life_after c r l (Take from (Message.PrepareOk m))) (vector_after q own m) (after_promise q from.replica m).held

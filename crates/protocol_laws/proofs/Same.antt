-- Stages that differ in what the log and the replies do not keep, and those whose log is cut.
use Rattle.std.proofs.Common.{◌≡◌, ℕ, ◌≤◌, ◌^◌, false, List, length, Option, Some, subst, arith}
use Rattle.kv_service.specs.Parts.{Joiner}
use Rattle.kv_service.specs.Service.{State}
use Rattle.jp_types.specs.Instances.{Batch}
use Rattle.paxos_world.specs.Stage.{Slot, Armed, Stage}
use Rattle.paxos_world.specs.Stage as model
use Rattle.replica_log.specs.Log.{above}
use Rattle.core_laws.specs.Keeping.{KeepsLog}
use Rattle.core_laws.proofs.LogLemmas.{logs_are_kept}
use Rattle.protocol_laws.specs.Keeping.{IsFit, IsJoiner, IsSnapshot, Cores}

-- ---- What the log and the replies do not keep

-- a stage with other waiting batches, joiner, `handed`, slots, and armed query
abbrev pub other-stage : Stage → List Batch → Option Joiner → ℕ → List Slot → Option Armed → Stage
other-stage s waiting joiner handed slots query = record s { waiting = waiting; joiner = joiner; handed = handed; slots = slots; armed_query = query }

-- what holds of each stage holds of it, where its joiner is within the limits and no less was handed on
pub other-fit : (s : Stage) (waiting : List Batch) (joiner : Option Joiner) (handed : ℕ) (slots : List Slot) (query : Option Armed) → IsFit s → ((j : Joiner) → joiner ≡ Some j → IsJoiner j) → s.handed ≤ handed
    → IsFit (other-stage s waiting joiner handed slots query)
other-fit s waiting joiner handed slots query h fits le =
    record {
      sane = record { most = h.sane.most; me = h.sane.me; notes = h.sane.notes };
      led = h.led;
      untaken = h.untaken;
      below = h.below;
      base = h.base;
      newest = λ snapshot e. record { size = (h.newest snapshot e).size; own = λ f. (let own = (h.newest snapshot e).own f in omega arith) };
      joiner = fits;
    }

-- the cores keep of it what they kept
abbrev pub other-cores : (s : Stage) (c : Cores s) (waiting : List Batch) (joiner : Option Joiner) (handed : ℕ) (slots : List Slot) (query : Option Armed) → ((j : Joiner) → joiner ≡ Some j → IsJoiner j) → s.handed ≤ handed
    → Cores (other-stage s waiting joiner handed slots query)
other-cores s c waiting joiner handed slots query fits le =
    record {
      within = c.within;
      log = c.log;
      promises = c.promises;
      answers = c.answers;
      kept = record { n = c.kept.n; base = c.kept.base; votes = c.kept.votes; known = c.kept.known; tallies = c.kept.tallies };
      promise_places = c.promise_places;
      answer_places = c.answer_places;
      promised = c.promised;
      answered = λ e. record { none = (c.answered e).none; held = (c.answered e).held };
      fit = other-fit s waiting joiner handed slots query c.fit fits le;
    }

-- ---- Logs that are cut

-- a stage with this base and newest snapshot, whose life installed these states and has its floor there
abbrev pub cut-stage : Stage → ℕ → model.Snapshot → ℕ → List State → List Slot → Option Armed → Stage
cut-stage s base snapshot floor installed slots query =
    record s { life = record s.life { below = floor; installed = installed }; base = base; newest = Some snapshot; slots = slots; armed_query = query }

-- what holds of each stage holds of it, where the snapshot is fit and is not below the base
pub cut-fit : (s : Stage) (base : ℕ) (snapshot : model.Snapshot) (floor : ℕ) (installed : List State) (slots : List Slot) (query : Option Armed) → IsFit s → base ≤ snapshot.place → length snapshot.bytes ≤ 2 ^ 28
    → (snapshot.installed ≡ false → snapshot.place ≤ s.handed) → IsFit (cut-stage s base snapshot floor installed slots query)
cut-fit s base snapshot floor installed slots query h le small own =
    record {
      sane = record { most = h.sane.most; me = h.sane.me; notes = h.sane.notes };
      led = h.led;
      untaken = h.untaken;
      below = h.below;
      base = le;
      newest = λ x e. let same : snapshot ≡ x = cc in subst (IsSnapshot (cut-stage s base snapshot floor installed slots query)) same (record { size = small; own = own });
      joiner = h.joiner;
    }

-- the log that is cut at its base keeps what it has
pub cut-kept : (s : Stage) (c : Cores s) (base : ℕ) (snapshot : model.Snapshot) (floor : ℕ) (installed : List State) (slots : List Slot) (query : Option Armed) → s.base ≤ base
    → KeepsLog (cut-stage s base snapshot floor installed slots query) (above c.log base)
cut-kept s c base snapshot floor installed slots query le =
    let k = logs_are_kept.cut s c.log base c.kept le in record { n = k.n; base = k.base; votes = k.votes; known = k.known; tallies = k.tallies }

-- the cores keep of it what they kept, but for what is cut
abbrev pub cut-cores : (s : Stage) (c : Cores s) (base : ℕ) (snapshot : model.Snapshot) (floor : ℕ) (installed : List State) (slots : List Slot) (query : Option Armed) → s.base ≤ base → base ≤ snapshot.place
    → length snapshot.bytes ≤ 2 ^ 28 → (snapshot.installed ≡ false → snapshot.place ≤ s.handed) → Cores (cut-stage s base snapshot floor installed slots query)
cut-cores s c base snapshot floor installed slots query le up small own =
    record {
      within = c.within;
      log = above c.log base;
      promises = c.promises;
      answers = c.answers;
      kept = cut-kept s c base snapshot floor installed slots query le;
      promise_places = c.promise_places;
      answer_places = c.answer_places;
      promised = c.promised;
      answered = λ e. record { none = (c.answered e).none; held = (c.answered e).held };
      fit = cut-fit s base snapshot floor installed slots query c.fit up small own;
    }

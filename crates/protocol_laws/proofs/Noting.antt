-- Steps that change what a log keeps: an acceptance is noted, a vote is cast, and an instance is learned by votes.
use Rattle.std.proofs.Common.{◌≡◌, ℕ, ◌<◌, Bool, true, false, List, Option, Some, None, is_some, refl, sym, ap, subst, le_refl, ◌∙◌}
use Rattle.jp_types.specs.Instances.{Batch}
use Rattle.paxos_world.specs.Setup.{with_at}
use Rattle.paxos_world.specs.Stage.{Note, Slot, Armed, Stage}
use Rattle.paxos_world.specs.Stage as model
use Rattle.paxos_world.specs.Writing.{when_some}
use Rattle.paxos_world.specs.Logs as logs
use Rattle.paxos_world.specs.Learning.{notes, learn_check, learns}
use Rattle.paxos_world.specs.Retransmitting.{free_each, proposes_of, proposes_but}
use Rattle.replica_log.specs.Log.{Log, is_known, with_known}
use Rattle.acceptor_core.specs.Learning.{after_note, learned_with, learned_if, after_check}
use Rattle.core_laws.specs.Keeping.{AreOf, KeepsLog}
use Rattle.core_laws.proofs.AcceptLemmas.{accepts_alike, kept-note, kept-of}
use Rattle.core_laws.proofs.LogLemmas.{keeps-known}
use Rattle.protocol_core.specs.declared.life.Life.{Life}
use Rattle.protocol_core.specs.Turned.{Turned, stay}
use Rattle.protocol_core.specs.Voting as voting
use Rattle.protocol_laws.specs.Keeping.{Cores, life_in}
use Rattle.protocol_laws.specs.Following.{Follows}
use Rattle.protocol_laws.proofs.Goes.{Goes}
use Rattle.protocol_laws.proofs.Steps.{changes}

-- ---- The cores of a stage whose log is another

-- a stage with these votes, known batches and notes, and with this armed for its Proposes
abbrev pub relogged : Stage → (ℕ → Option (ℕ × Batch)) → (ℕ → Option Batch) → List Note → List Slot → List (ℕ × Armed) → Stage
relogged s votes known noted slots proposes =
    record s { life = record s.life { votes = votes; known = known }; noted = noted; slots = slots; armed_proposes = proposes }

-- the cores of such a stage, whose log is this
abbrev pub cores-relogged : (s : Stage) (c : Cores s) (votes : ℕ → Option (ℕ × Batch)) (known : ℕ → Option Batch) (noted : List Note) (slots : List Slot) (proposes : List (ℕ × Armed)) (log : Log)
    → KeepsLog (relogged s votes known noted slots proposes) log → AreOf s.config.n noted → Cores (relogged s votes known noted slots proposes)
cores-relogged s c votes known noted slots proposes log kept of =
    record {
      within = c.within;
      log = log;
      promises = c.promises;
      answers = c.answers;
      kept = kept;
      promise_places = c.promise_places;
      answer_places = c.answer_places;
      promised = c.promised;
      answered = λ e. record { none = (c.answered e).none; held = (c.answered e).held };
      fit =
          record {
            sane = record { most = c.fit.sane.most; me = c.fit.sane.me; notes = of };
            led = c.fit.led;
            untaken = c.fit.untaken;
            below = c.fit.below;
            base = c.fit.base;
            newest = λ snapshot e. record { size = (c.fit.newest snapshot e).size; own = (c.fit.newest snapshot e).own };
            joiner = c.fit.joiner;
          };
    }

-- ---- Notes

-- the life whose log took an acceptance
abbrev pub noting : ℕ → ℕ → ℕ → Option Batch → Life → Turned
noting i view p batch l = stay (record l { log = after_note l.log i view p batch })

-- an acceptance of a replica is noted as in the model
pub goes-note : (i view p : ℕ) (batch : Option Batch) (t : model.Turned) (c : Cores t.stage) → p < t.stage.config.n → Follows t (notes i view p batch t) (noting i view p batch (life_in t.stage c))
goes-note i view p batch t c lt =
    let note : Note = record { instance = i; view = view; replica = p; batch = batch } in
    let new : Cores (notes i view p batch t).stage =
    cores-relogged t.stage c t.stage.life.votes t.stage.life.known (logs.with_note note t.stage).noted t.stage.slots t.stage.armed_proposes (after_note c.log i view p batch)
    (kept-note t.stage c.log i view p batch c.kept) (kept-of t.stage.config.n t.stage note c.fit.sane.notes lt) in
    changes t (notes i view p batch t) (record (life_in t.stage c) { log = after_note c.log i view p batch }) refl (record { cores = new; is = refl }) refl refl refl refl

-- ---- Learning by votes

-- what is learned changes a log where it was not known
learned-is : (log : Log) (i : ℕ) (batch : Batch) → learned_with log i ≡ Some batch → after_check log i ≡ with_known log i batch
learned-is log i batch e = go (is_known log i) refl
  where
    go : (b : Bool) → is_known log i ≡ b → after_check log i ≡ with_known log i batch
    go true k = let none : learned_with log i ≡ None = rw k refl in absurd cc
    go false k = ap (learned_if log i) e ∙ rw k refl

-- the life whose log is checked for an instance that its tally makes learned
abbrev pub checking : ℕ → Life → Turned
checking i l = voting.learning_shown_if (record l { log = after_check l.log i }) (is_some (learned_with l.log i)) i

-- an instance is learned by votes as in the model
pub goes-check : (i : ℕ) → Goes (learn_check i) (checking i)
goes-check i t c = subst (λ (b : Bool). Follows t (learn_check i t) (voting.learning_shown_if checked b i)) (ap (λ (o : Option Batch). is_some o) (sym alike)) (go (logs.tallied t.stage i) refl)
  where
    s : Stage
    s = t.stage

    checked : Life
    checked = record (life_in t.stage c) { log = after_check c.log i }

    alike : learned_with c.log i ≡ logs.tallied t.stage i
    alike = accepts_alike.learned t.stage c.log i c.kept c.fit.sane

    go : (o : Option Batch) → logs.tallied t.stage i ≡ o → Follows t (when_some o (learns i) t) (voting.learning_shown_if checked (is_some o) i)
    go None e =
        let same : after_check c.log i ≡ c.log = ap (learned_if c.log i) (alike ∙ e) in
        changes t t checked refl (record { cores = c; is = ap (λ (l : Log). record (life_in t.stage c) { log = l }) same }) refl refl refl refl
    go (Some batch) e =
        let k = keeps-known t.stage c.log i batch c.kept in
        let is = learned-is c.log i batch (alike ∙ e) in
        let known = with_at t.stage.life.known i (Some batch) in
        let slots = free_each t.stage.slots (proposes_of i t.stage.armed_proposes) in
        let proposes = proposes_but i t.stage.armed_proposes in
        let kept : KeepsLog (relogged t.stage t.stage.life.votes known t.stage.noted slots proposes) (with_known c.log i batch) = record { n = k.n; base = k.base; votes = k.votes; known = k.known; tallies = k.tallies } in
        let new : Cores (learns i batch t).stage =
        cores-relogged t.stage c t.stage.life.votes known t.stage.noted slots proposes (with_known c.log i batch) kept c.fit.sane.notes in
        record { config = refl; keeps = record { cores = new; is = ap (λ (l : Log). record (life_in t.stage c) { log = l }) is }; acts = refl; arming = refl; sends = tt; handed = le_refl _; hands = tt; service = refl }

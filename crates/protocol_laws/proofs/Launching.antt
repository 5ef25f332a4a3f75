-- Learning without votes, and launching, are the model's.
use Rattle.std.proofs.Common.{◌≡◌, ◌^◌, ◌≤◌, ℕ, ◌<◌, Bool, true, false, ◌&&◌, not, List, [], ◌∷◌, ◌==◌, nat_le, nat_lt, Some, if◌then◌else◌, inl, inr, refl, sym, ap, subst, ◌∙◌, le_refl, arith}
use Rattle.std.proofs.lemmas.Bool.Decides.{nat_tests}
use Rattle.jp_types.specs.declared.message.Message.{Message}
use Rattle.jp_types.specs.Instances.{Batch}
use Rattle.paxos_world.specs.Setup.{with_at}
use Rattle.paxos_world.specs.World.{Deed, lead_after}
use Rattle.paxos_world.proofs.Basics.{lt_or_le}
use Rattle.paxos_world.specs.Stage.{Slot, Armed, Note, Stage}
use Rattle.paxos_world.specs.Stage as model
use Rattle.paxos_world.specs.Logs as logs
use Rattle.paxos_world.specs.Learning as learning
use Rattle.paxos_world.specs.Retransmitting.{arm_from, with_armed, arms_propose, free_each, proposes_of, proposes_but}
use Rattle.paxos_world.specs.Writing.{◌▹◌, when, shows, others, sends_to_all}
use Rattle.paxos_world.specs.declared.step.Step.{Step}
use Rattle.paxos_world.specs.Life.{Leading, No, Preparing, Leads}
use Rattle.replica_log.specs.Log.{Log, is_in_span, is_known, after_learn, with_known, with_vote}
use Rattle.acceptor_core.specs.Learning.{is_open, after_note}
use Rattle.core_laws.specs.Keeping.{KeepsLog}
use Rattle.core_laws.specs.KeptLaws.{stage_after}
use Rattle.core_laws.proofs.AcceptLemmas.{both-true, kept-note, kept-of}
use Rattle.core_laws.proofs.KeptLemmas.{launches_are_kept}
use Rattle.core_laws.proofs.LogLemmas.{logs_are_read, logs_are_kept}
use Rattle.protocol_core.specs.declared.life.Life.{Life}
use Rattle.protocol_core.specs.declared.act.Topic.{Topic}
use Rattle.protocol_core.specs.Launching as launching
use Rattle.protocol_core.specs.Sending.{sent_to_all, armed_for_all}
use Rattle.protocol_core.specs.Turned.{Turned, stay}
use Rattle.protocol_laws.specs.Keeping.{Cores, life_in}
use Rattle.protocol_laws.specs.Coming.{IsSendable}
use Rattle.protocol_laws.specs.Following.{Follows}
use Rattle.protocol_laws.proofs.Goes.{leading_after, GoesLearn, GoesLearnOpen, GoesLaunch}
use Rattle.protocol_laws.proofs.Others.{and-armed, rearmed}
use Rattle.protocol_laws.proofs.Steps.{append-assoc, stays, and-then, chooses-alike, sent-to-all}

-- ---- Learning

-- the stage that knows this batch, with these slots and these armed Proposes
abbrev knowing : Stage → ℕ → Batch → List Slot → List (ℕ × Armed) → Stage
knowing s i batch slots proposes =
    record s { life = record s.life { known = with_at s.life.known i (Some batch) }; slots = slots; armed_proposes = proposes }

-- the cores of a stage that learned a batch keep it
abbrev learned-cores : (s : Stage) (c : Cores s) (i : ℕ) (batch : Batch) (slots : List Slot) (proposes : List (ℕ × Armed)) → Cores (knowing s i batch slots proposes)
learned-cores s c i batch slots proposes =
    let k = logs_are_kept.learned s c.log i batch c.kept in
    let fit = c.fit in
    let sane = fit.sane in
    record {
      within = c.within;
      log = with_known c.log i batch;
      promises = c.promises;
      answers = c.answers;
      kept = record { n = k.n; base = k.base; votes = k.votes; known = k.known; tallies = k.tallies };
      promise_places = c.promise_places;
      answer_places = c.answer_places;
      promised = c.promised;
      answered = λ r. let a = c.answered r in record { none = a.none; held = a.held };
      fit =
          record {
            sane = record { most = sane.most; me = sane.me; notes = sane.notes };
            led = fit.led;
            untaken = fit.untaken;
            below = fit.below;
            base = fit.base;
            newest = λ snapshot e. let x = fit.newest snapshot e in record { size = x.size; own = x.own };
            joiner = fit.joiner;
          };
    }

-- an instance is open in the log where it is in span and not known at the stage
pub open-alike : (s : Stage) (c : Cores s) (i : ℕ) → is_open c.log i ≡ (logs.is_in_span s i && not (logs.is_known s i))
open-alike s c i = let read = logs_are_read s c.log c.kept in let a = read.in_span i in let b = read.known i in cc

-- a batch is learned as the model learns it
pub goes-learn : GoesLearn
goes-learn i batch t c may =
    record {
      config = refl;
      keeps = record { cores = cores; is = ap (λ (log : Log). record (life_in t.stage c) { log = log }) changed };
      acts = refl;
      arming = refl;
      sends = tt;
      handed = le_refl _;
      hands = tt;
      service = refl;
    }
  where
    cores : Cores (learning.learns i batch t).stage
    cores = let s = t.stage in learned-cores s c i batch (free_each s.slots (proposes_of i s.armed_proposes)) (proposes_but i s.armed_proposes)

    changed : after_learn c.log i batch ≡ with_known c.log i batch
    changed =
        let k = (logs_are_read t.stage c.log c.kept).known i in
        let new : is_known c.log i ≡ false = k ∙ (both-true (logs.is_in_span t.stage i) (logs.is_known t.stage i) may).1 in
        rw new refl

-- a batch is learned where its instance is open
pub goes-learn-open : GoesLearnOpen
goes-learn-open i batch t c =
    chooses-alike (logs.is_in_span t.stage i && not (logs.is_known t.stage i)) (is_open c.log i) (learning.learns i batch) t (launching.learned (life_in t.stage c) i batch) (stay (life_in t.stage c))
    (open-alike t.stage c i) (λ e. goes-learn i batch t c e) (λ e. stays t c)

-- ---- The log of a launch

-- the note of the own acceptance of a launched batch
abbrev own-note : Stage → ℕ → Batch → Note
own-note s i batch = record { instance = i; view = s.life.view; replica = s.config.me; batch = Some batch }

-- the stage that launched a batch and voted on it, without the note
abbrev voted : Stage → ℕ → Batch → Stage
voted s i batch =
    record s {
      life =
          record s.life {
            leading = lead_after s.life.leading i;
            launched = record { view = s.life.view; instance = i; batch = batch } ∷ s.life.launched;
            votes = with_at (with_at s.life.votes i (Some (s.life.view, batch))) i (Some (s.life.view, batch));
          };
    }

-- what is put in a place twice is what is put there once
put-twice : {X : Type 0} (f : ℕ → X) (i : ℕ) (x : X) (j : ℕ) → with_at f i x j ≡ with_at (with_at f i x) i x j
put-twice f i x j = by (j == i)
  where
    by : (b : Bool) → (if b then x else f j) ≡ (if b then x else (if b then x else f j))
    by true = refl
    by false = refl

-- a vote at an instance in span or below the base is kept as the stage has it
kept-own-vote : (s : Stage) (log : Log) (i : ℕ) (batch : Batch) → KeepsLog s log → nat_lt i (logs.span_end s) ≡ true
    → KeepsLog (voted s i batch) (launching.after_own_vote log i s.life.view batch)
kept-own-vote s log i batch h lt = go (logs.is_in_span s i) refl
  where
    once : (l : Log) → KeepsLog (stage_after s (Deed.Launch s.life.view i batch)) l → KeepsLog (voted s i batch) l
    once l k =
        record { n = k.n; base = k.base; votes = λ j le. k.votes j le ∙ put-twice s.life.votes i (Some (s.life.view, batch)) j; known = k.known; tallies = k.tallies }

    alike : is_in_span log i ≡ logs.is_in_span s i
    alike = (logs_are_read s log h).in_span i

    go : (b : Bool) → logs.is_in_span s i ≡ b → KeepsLog (voted s i batch) (launching.after_own_vote log i s.life.view batch)
    go true e =
        let t = alike ∙ e in
        subst (KeepsLog (voted s i batch)) (sym (ap (λ (b : Bool). if b then with_vote log i s.life.view batch else log) t))
        (once (with_vote log i s.life.view batch) (launches_are_kept.above s log s.life.view i batch h))
    go false e =
        let t = alike ∙ e in
        subst (KeepsLog (voted s i batch)) (sym (ap (λ (b : Bool). if b then with_vote log i s.life.view batch else log) t))
        (once log (launches_are_kept.below s log s.life.view i batch below h))
      where
        below : i < s.base
        below = elim (lt_or_le i s.base) [
          | inl less ↦ less
          | inr ge ↦ (
              let a : nat_le s.base i ≡ true = grind (arith, nat_tests) in
              let inside : logs.is_in_span s i ≡ true = cc in
              absurd cc)
        ]

-- the own acceptance of a launched batch is kept as the stage has it
kept-acceptance : (s : Stage) (log : Log) (i : ℕ) (batch : Batch) → KeepsLog s log → s.config.me < s.config.n → nat_lt i (logs.span_end s) ≡ true
    → KeepsLog (logs.with_note (own-note s i batch) (voted s i batch)) (launching.after_own_acceptance log i s.life.view s.config.me batch)
kept-acceptance s log i batch h me lt =
    let k = kept-own-vote s log i batch h lt in
    let voted-log = launching.after_own_vote log i s.life.view batch in
    let n = k.n in
    let counted : nat_lt s.config.me voted-log.n ≡ true = grind (arith, nat_tests) in
    subst (KeepsLog (logs.with_note (own-note s i batch) (voted s i batch))) (sym (ap (λ (b : Bool). if b then after_note voted-log i s.life.view s.config.me (Some batch) else voted-log) counted))
    (kept-note (voted s i batch) voted-log i s.life.view s.config.me (Some batch) k)

-- ---- Launching

-- the turn after the steps of a launch, before its sends
abbrev unsent : ℕ → Batch → model.Turned → model.Turned
unsent i batch t =
    let s = t.stage in
    t ▹ shows (Step.Launch s.config.me s.life.view i batch) (Deed.Launch s.life.view i batch)
    ▹ learning.votes_for s.life.view i batch
    ▹ learning.notes i s.life.view s.config.me (Some batch)

-- a life that is in phase 1 after a launch was in it before
prepares-before : (leading : Leading) (i first : ℕ) → lead_after leading i ≡ Preparing first → leading ≡ Preparing first
prepares-before No i first e = absurd cc
prepares-before (Preparing x) i first e = e
prepares-before (Leads lead) i first e = absurd cc

-- the cores of a stage that launched a batch keep it
abbrev launched-cores : (t : model.Turned) (c : Cores t.stage) (i : ℕ) (batch : Batch) → nat_lt i (logs.span_end t.stage) ≡ true → Cores (unsent i batch t).stage
launched-cores t c i batch lt =
    let s = t.stage in
    let me = c.within.2 in
    let k = kept-acceptance s c.log i batch c.kept me lt in
    let fit = c.fit in
    let sane = fit.sane in
    record {
      within = c.within;
      log = launching.after_own_acceptance c.log i s.life.view s.config.me batch;
      promises = c.promises;
      answers = c.answers;
      kept = record { n = k.n; base = k.base; votes = k.votes; known = k.known; tallies = k.tallies };
      promise_places = c.promise_places;
      answer_places = c.answer_places;
      promised = λ first e. c.promised first (prepares-before s.life.leading i first e);
      answered = λ r. let a = c.answered r in record { none = a.none; held = a.held };
      fit =
          record {
            sane = record { most = sane.most; me = sane.me; notes = kept-of s.config.n (voted s i batch) (own-note s i batch) sane.notes sane.me };
            led = λ r. ap (λ (x : Leading). lead_after x i) (fit.led r);
            untaken = fit.untaken;
            below = fit.below;
            base = fit.base;
            newest = λ snapshot e. let x = fit.newest snapshot e in record { size = x.size; own = x.own };
            joiner = fit.joiner;
          };
    }

-- the steps of a launch are the model's
launch-shown : (i : ℕ) (batch : Batch) (t : model.Turned) (c : Cores t.stage) → nat_lt i (logs.span_end t.stage) ≡ true
    → Follows t (unsent i batch t) (launching.launch_shown (leading_after t.stage c i) i batch)
launch-shown i batch t c lt =
    record {
      config = refl;
      keeps = record { cores = launched-cores t c i batch lt; is = refl };
      acts = append-assoc t.acts (model.Show (Step.Launch t.stage.config.me t.stage.life.view i batch) ∷ []) (model.Show (Step.Vote t.stage.config.me t.stage.life.view i) ∷ []);
      arming = refl;
      sends = tt;
      handed = le_refl _;
      hands = tt;
      service = refl;
    }

-- a Propose is armed for all others as the model arms it
arms-propose : (i : ℕ) (m : Message) (t : model.Turned) (c : Cores t.stage) → IsSendable t.stage.config.mode m
    → Follows t (arms_propose i m t) (record { life = life_in t.stage c; acts = armed_for_all t.stage.config.n t.stage.config.me (Topic.Propose i) m })
arms-propose i m t c may =
    let s = t.stage in
    let a = arm_from 0 s.slots (record { message = m; to = others s.config }) in
    let keeps = rearmed s a.0 s.armed_prepare s.armed_recovery s.armed_query (with_armed i a.1 s.armed_proposes) (life_in s c) (record { cores = c; is = refl }) in
    and-armed t t (arms_propose i m t) (stay (life_in s c)) (stays t c) (Topic.Propose i) m refl keeps refl refl refl refl may

-- the Propose of a launch goes to all others, and is armed where the test passes
proposes : (b : Bool) (i : ℕ) (m : Message) (t : model.Turned) (c : Cores t.stage) → IsSendable t.stage.config.mode m
    → Follows t (t ▹ sends_to_all m ▹ when b (arms_propose i m)) (launching.proposed b i m (life_in t.stage c))
proposes true i m t c may =
    let h = sent-to-all t c m may in
    let sent = sends_to_all m t in
    let f : Life → Turned = λ l. record { life = l; acts = armed_for_all l.config.n l.config.me (Topic.Propose i) m } in
    and-then t sent (arms_propose i m sent) (sent_to_all m (life_in t.stage c)) f h (arms-propose i m sent h.keeps.cores (subst (λ (k : model.Config). IsSendable k.mode m) (sym h.config) may))
proposes false i m t c may =
    let h = sent-to-all t c m may in
    let sent = sends_to_all m t in
    and-then t sent sent (sent_to_all m (life_in t.stage c)) stay h (stays sent h.keeps.cores)

-- a batch is launched as the model launches it
pub goes-launch : GoesLaunch
goes-launch i batch t c lt =
    let s = t.stage in
    let m = learning.propose_of s.life.view i batch in
    let u = unsent i batch t in
    let v = u ▹ sends_to_all m ▹ when (not (logs.is_known s i)) (arms_propose i m) in
    let h = launch-shown i batch t c lt in
    let known : is_known c.log i ≡ logs.is_known s i = (logs_are_read s c.log c.kept).known i in
    let inside : i < logs.span_end s = grind (arith, nat_tests) in
    let le : i ≤ 2 ^ 48 = omega arith in
    let sent : Follows u v (launching.proposed (not (is_known c.log i)) i m (life_in u.stage h.keeps.cores)) =
    subst (λ (b : Bool). Follows u v (launching.proposed (not b) i m (life_in u.stage h.keeps.cores))) (sym known) (proposes (not (logs.is_known s i)) i m u h.keeps.cores le) in
    and-then t u v (launching.launch_shown (leading_after s c i) i batch) (launching.proposed (not (is_known c.log i)) i m) h sent

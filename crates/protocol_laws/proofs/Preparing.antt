-- A life in phase 1 becomes Prepared, and launches what it adopted, as the stage of the model does.
use Rattle.std.proofs.Common.{◌≡◌, ℕ, zero, suc, ◌-◌, ◌≤◌, max, Bool, true, false, ◌&&◌, List, length, nat_le, Option, Some, None, if◌then◌else◌, refl, sym, ap, subst, ◌∙◌, le_refl, arith}
use Rattle.std.proofs.lemmas.Bool.Decides.{nat_tests}
use Rattle.jp_types.specs.declared.message.PrepareOk.{PrepareOk}
use Rattle.paxos_world.specs.declared.step.Step.{Step}
use Rattle.paxos_world.specs.Life.{Leading, No, Preparing, Leads}
use Rattle.paxos_world.specs.World.{Deed, lead_of}
use Rattle.paxos_world.specs.Stage.{setup_of, Stage}
use Rattle.paxos_world.specs.Stage as model
use Rattle.paxos_world.specs.Writing.{◌▹◌, when, shows}
use Rattle.paxos_world.specs.Logs as logs
use Rattle.paxos_world.specs.Retransmitting.{cancels_prepare}
use Rattle.paxos_world.specs.Settling as settling
use Rattle.epoch_vectors.specs.Replies.{no_replies, counted_set}
use Rattle.proposer_core.specs.declared.adoption.Adopted.{Adopted}
use Rattle.proposer_core.specs.Adoption as core
use Rattle.proposer_core.specs.Proposing.{Proposer}
use Rattle.core_laws.specs.PrepareLaws.{leading_as, launches_of, PreparesAlike}
use Rattle.core_laws.proofs.LaunchLemmas.{launches_as_the_model}
use Rattle.core_laws.proofs.PrepareLemmas.{prepares_as_the_model}
use Rattle.protocol_core.specs.declared.life.Life.{Life}
use Rattle.protocol_core.specs.Settling as settles
use Rattle.protocol_core.specs.Turned.{Turned, stay}
use Rattle.protocol_laws.specs.Following.{Follows}
use Rattle.protocol_laws.specs.Keeping.{Cores, life_in}
use Rattle.protocol_laws.proofs.Goes.{GoesLearnOpen, GoesPrepared, GoesLaunch}
use Rattle.protocol_laws.proofs.Steps.{stays, and-then}
use Rattle.protocol_laws.proofs.Adopting.{Launching, each-goes}

-- no promise has a place for each of n replicas
pub none-places : (n : ℕ) → length (no_replies {A = PrepareOk} n) ≡ n
none-places zero = refl
none-places (suc n) = ap suc (none-places n)

-- ---- The Prepared step

-- the instance for the next batch, as a stage in phase 1 becomes Prepared
abbrev pub next-at : Stage → ℕ → ℕ
next-at s first = max (settling.adoption_end s first) (logs.first_undecided s)

-- the turn after the Prepared step, before any launch
abbrev pub prepared : ℕ → model.Turned → model.Turned
prepared first t =
    let s = t.stage in
    t ▹ cancels_prepare ▹ shows (Step.Prepared s.config.me s.life.view (next-at s first)) (Deed.Prepared s.life.view (next-at s first))

-- the cores of a stage that became Prepared: the promises are dropped
pub prepared-cores : (first : ℕ) (t : model.Turned) (c : Cores t.stage) → t.stage.life.leading ≡ Preparing first → Cores (prepared first t).stage
prepared-cores first t c e =
    let k = c.kept in
    let f = c.fit in
    record {
      within = c.within;
      log = c.log;
      promises = no_replies t.stage.config.n;
      answers = c.answers;
      kept = record { n = k.n; base = k.base; votes = k.votes; known = k.known; tallies = k.tallies };
      promise_places = none-places t.stage.config.n;
      answer_places = c.answer_places;
      promised = λ other same. absurd cc;
      answered = λ r. let h = c.answered r in record { none = h.none; held = h.held };
      fit = record {
        sane = record { most = f.sane.most; me = f.sane.me; notes = f.sane.notes };
        led = λ r. let no = f.led r in absurd cc;
        untaken = f.untaken;
        below = f.below;
        base = f.base;
        newest = λ snapshot is. let h = f.newest snapshot is in record { size = h.size; own = h.own };
        joiner = f.joiner;
      };
    }

-- the life of a stage, if its leading were this
abbrev pub life-as : (t : model.Turned) → Cores t.stage → Leading → Life
life-as t c l = let life = life_in t.stage c in record life { proposer = record life.proposer { leading = leading_as l t.stage.life.view t.stage.life.mark } }

-- a life whose proposer adopted this, or nothing
abbrev pub adopting : Life → Option Adopted → Life
adopting life a = record life { proposer = core.after_adoption life.proposer a }

-- what a life does then
abbrev pub after : Life → Option Adopted → Turned
after life a = settles.prepared_with (adopting life a) a

-- ---- What is adopted

-- what the model adopts, as the code has it
abbrev pub adopted-at : Stage → ℕ → Adopted
adopted-at s first = record { next = next-at s first; launches = launches_of (settling.adoption_end s first - max first s.base) s (max first s.base) }

-- the Prepared step is shown, and the Prepare is repeated no more
pub prepared-step : (first : ℕ) (t : model.Turned) (c : Cores t.stage) → t.stage.life.leading ≡ Preparing first
    → Follows t (prepared first t) (settles.prepared_shown (adopting (life-as t c (Preparing first)) (Some (adopted-at t.stage first))) (next-at t.stage first))
unfolding prepared-cores
prepared-step first t c e = record { config = refl; keeps = record { cores = prepared-cores first t c e; is = refl }; acts = refl; arming = refl; sends = tt; handed = le_refl _; hands = tt; service = refl }

-- a proposer in phase 1 adopts what the model adopts, where the model becomes Prepared
pub due : (first : ℕ) (t : model.Turned) (c : Cores t.stage) → t.stage.life.leading ≡ Preparing first
    → settles.adoption_due (life-as t c (Preparing first)) ≡ (if settling.is_prepared t.stage first then Some (adopted-at t.stage first) else None)
due first t c e =
    ap (λ (b : Bool). if b then Some (core.adoption q.n counted q.held c.log first) else None) alike.prepared
    ∙ ap (λ (a : Adopted). if settling.is_prepared t.stage first then Some a else None) same
  where
    life : Life
    life = life-as t c (Preparing first)

    q : Proposer
    q = life.proposer

    counted : List Bool
    counted = counted_set life.vector q.held

    alike : PreparesAlike t.stage c.log life.vector q first
    alike =
        prepares_as_the_model t.stage c.log life.vector q first c.fit.sane.most c.kept
        (record { n = refl; me = refl; window = refl; leading = ap (λ (l : Leading). leading_as l t.stage.life.view t.stage.life.mark) (sym e) })
        (record { vector = refl; held = c.promised first e })

    same : core.adoption q.n counted q.held c.log first ≡ adopted-at t.stage first
    same = λ k. record { next = alike.next k; launches = alike.launches k }

-- ---- Settling

-- a stage that becomes Prepared adopts nothing that lies past its span
pub adopted-in-span : (s : Stage) (first : ℕ) → settling.is_prepared s first ≡ true → settling.adoption_end s first ≤ logs.span_end s
adopted-in-span s first e =
    let last = third (settling.is_promised_enough s) (nat_le (settling.greatest_low s.config.n s) (logs.first_undecided s)) (nat_le (settling.adoption_end s first) (logs.span_end s)) e in
    grind (arith, nat_tests)
  where
    third : (a b c : Bool) → (a && b && c) ≡ true → c ≡ true
    third true true c e = e
    third true false c e = absurd cc
    third false b c e = absurd cc

-- after the Prepared step, the adopted instances are about to be launched
pub about-to-launch : (first : ℕ) (t : model.Turned) → settling.is_prepared t.stage first ≡ true
    → Launching t.stage (lead_of (setup_of t.stage.config) t.stage.config.me t.stage.life (next-at t.stage first)) (settling.adoption_end t.stage first - max first t.stage.base) (max first t.stage.base) (prepared first t)
about-to-launch first t e =
    let span = adopted-in-span t.stage first e in
    record {
      goes = record { config = refl; base = refl; known = λ j le. refl };
      leads = refl;
      below_next = λ lt. omega arith;
      from_base = omega arith;
      in_span = λ lt. omega arith;
    }

module _ (learn-open : GoesLearnOpen) (launch : GoesLaunch) where
  -- the adopted instances are launched after the Prepared step
  pub launches-go : (first : ℕ) (t : model.Turned) (c : Cores (prepared first t).stage) → settling.is_prepared t.stage first ≡ true
      → Follows (prepared first t) (settling.becomes_prepared first t) (settles.launched_each (adopted-at t.stage first).launches (life_in (prepared first t).stage c))
  launches-go first t c e =
      let from = max first t.stage.base in
      let k = settling.adoption_end t.stage first - from in
      let lead = lead_of (setup_of t.stage.config) t.stage.config.me t.stage.life (next-at t.stage first) in
      let h = about-to-launch first t e in
      let same = launches_as_the_model t.stage (next-at t.stage first) k from (prepared first t) h.goes in
      subst (λ (u : model.Turned). Follows (prepared first t) u (settles.launched_each (launches_of k t.stage from) (life_in (prepared first t).stage c))) (sym same)
      (each-goes learn-open launch t.stage lead k from (prepared first t) c h)

  -- a stage in phase 1 becomes Prepared
  pub becomes-goes : (first : ℕ) (t : model.Turned) (c : Cores t.stage) → t.stage.life.leading ≡ Preparing first → settling.is_prepared t.stage first ≡ true
      → Follows t (settling.becomes_prepared first t) (after (life-as t c (Preparing first)) (Some (adopted-at t.stage first)))
  becomes-goes first t c e is =
      let a = adopted-at t.stage first in
      let t1 = prepared first t in
      let step = prepared-step first t c e in
      let shown = settles.prepared_shown (adopting (life-as t c (Preparing first)) (Some a)) a.next in
      and-then t t1 (settling.becomes_prepared first t) shown (settles.launched_each a.launches) step (launches-go first t step.keeps.cores is)

  -- a stage in phase 1 becomes Prepared where the condition holds
  pub phase-1-goes : (first : ℕ) (t : model.Turned) (c : Cores t.stage) → t.stage.life.leading ≡ Preparing first
      → Follows t (when (settling.is_prepared t.stage first) (settling.becomes_prepared first) t) (settles.settled_prepared (life-as t c (Preparing first)))
  phase-1-goes first t c e =
      let life = life-as t c (Preparing first) in
      subst (λ (a : Option Adopted). Follows t (when (settling.is_prepared t.stage first) (settling.becomes_prepared first) t) (after life a)) (sym (due first t c e))
      (go (settling.is_prepared t.stage first) refl)
    where
      go : (b : Bool) → settling.is_prepared t.stage first ≡ b
          → Follows t (when b (settling.becomes_prepared first) t) (after (life-as t c (Preparing first)) (if b then Some (adopted-at t.stage first) else None))
      go true is = becomes-goes first t c e is
      go false is = subst (λ (l : Leading). Follows t t (stay (life-as t c l))) e (stays t c)

  -- the life becomes Prepared where the stage does, and launches what it adopted
  pub goes-prepared : GoesPrepared
  goes-prepared t c = go t.stage.life.leading refl
    where
      go : (l : Leading) → t.stage.life.leading ≡ l → Follows t (settling.settles_leading l t) (settles.settled_prepared (life-as t c l))
      go No e = subst (λ (l : Leading). Follows t t (stay (life-as t c l))) e (stays t c)
      go (Preparing first) e = phase-1-goes first t c e
      go (Leads lead) e = subst (λ (l : Leading). Follows t t (stay (life-as t c l))) e (stays t c)

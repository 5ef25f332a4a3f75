-- A life begins where a stage does, and as it does.
use Rattle.std.proofs.Common.{◌≡◌, ℕ, zero, suc, List, [], ◌∷◌, ◌++◌, length, replicate, Option, Some, None, refl, sym, ap, subst, le_refl}
use Rattle.std.specs.Option.{option_map}
use Rattle.jp_types.specs.declared.message.Message.{Message}
use Rattle.jp_types.specs.declared.mode.Phase.{Phase}
use Rattle.jp_types.specs.declared.mode.Phase.TheVariants.{Recovering, Working}
use Rattle.jp_types.specs.Marks.{first_mark, view_at_return, return_mark}
use Rattle.paxos_world.specs.declared.step.Step.{Step}
use Rattle.paxos_world.specs.Life as lives
use Rattle.paxos_world.specs.Stage.{Config, Slot, Stage, new_stage, setup_of}
use Rattle.paxos_world.specs.Stage as model
use Rattle.paxos_world.specs.Writing.{◌▹◌, when, says_to_all}
use Rattle.paxos_world.specs.Leading.{leads_own, begin_phase_1}
use Rattle.paxos_world.specs.Retransmitting.{arms_recovery}
use Rattle.paxos_world.specs.Turn as model_turn
use Rattle.epoch_vectors.specs.Replies.{no_replies}
use Rattle.replica_log.specs.Log.{new_log}
use Rattle.recovery.specs.Beginning.{started}
use Rattle.core_laws.specs.StartLaws.{stage_at_start}
use Rattle.core_laws.proofs.StartLemmas.{starts_kept}
use Rattle.protocol_core.specs.declared.act.Act.{Act}
use Rattle.protocol_core.specs.declared.act.Topic.{Topic}
use Rattle.protocol_core.specs.declared.life.Life.{Life}
use Rattle.protocol_core.specs.Sending.{to_all, armed_for_all, sent_and_armed}
use Rattle.protocol_core.specs.Starting.{new_life, led, recovery_of, opened}
use Rattle.protocol_core.specs.Turned.{Turned, stay}
use Rattle.protocol_laws.specs.Coming.{IsSendable}
use Rattle.protocol_laws.specs.Following.{Follows}
use Rattle.protocol_laws.specs.Keeping.{IsWithin, config_of, IsFit, Cores, life_in, KeepsLife}
use Rattle.protocol_laws.specs.Laws.{BeginsAlike, AreAlike, OpeningsAlike}
use Rattle.protocol_laws.proofs.Goes.{GoesPhase1}
use Rattle.protocol_laws.proofs.Others.{and-armed, rearmed}
use Rattle.protocol_laws.proofs.Steps.{chooses, said-to-all, stays}

length-replicate : {A : Type 0} (n : ℕ) (x : A) → length (replicate n x) ≡ n
length-replicate zero x = refl
length-replicate (suc n) x = ap suc (length-replicate n x)

-- the cores of a life that begins so
abbrev cores-at-start : (c : Config) → IsWithin c → (slots : List Slot) (number mark : ℕ) (phase : Phase) (view : ℕ) → Cores (stage_at_start c slots number mark phase view)
cores-at-start c within slots number mark phase view =
    record {
      within = within;
      log = new_log c.n;
      promises = no_replies c.n;
      answers = no_replies c.n;
      kept = starts_kept.log c slots number mark phase view;
      promise_places = length-replicate c.n None;
      answer_places = length-replicate c.n None;
      promised = λ first e. absurd cc;
      answered = λ e. (let a = starts_kept.answers c number mark phase view in record { none = a.none; held = a.held });
      fit = fit;
    }
  where
    fit : IsFit (stage_at_start c slots number mark phase view)
    fit =
        record {
          sane = starts_kept.sane c slots number mark phase view within.1 within.2;
          led = λ e. refl;
          untaken = λ e t m. absurd m;
          below = λ t v m e. absurd m;
          base = le_refl _;
          newest = λ snapshot e. absurd cc;
          joiner = λ j e. absurd cc;
        }

module _ (c : Config) (within : IsWithin c) (slots : List Slot) (number : ℕ) where
  -- the stage and the life that begin with this mark
  abbrev stage-at : ℕ → Phase → ℕ → Stage
  stage-at mark phase view = stage_at_start c slots number mark phase view

  abbrev life-at : ℕ → Phase → ℕ → Life
  life-at mark phase view = new_life (config_of c within) (started c.mode c.me mark phase view)

  at-start : (mark : ℕ) (phase : Phase) (view : ℕ) → KeepsLife (stage-at mark phase view) (life-at mark phase view)
  at-start mark phase view =
      let v = starts_kept.vector c number mark phase view in
      record { cores = cores-at-start c within slots number mark phase view; is = λ k. record { config = config_of c within; phase = phase; mark = mark; view = view; stable = mark; vector = v k; log = new_log c.n; proposer = (life-at mark phase view).proposer; rejoiner = (life-at mark phase view).rejoiner; horizon = 0; quiet = 0; queries = 0; waiting = []; newest = None; joiner = None; handed = 0 } }

  -- a start so far: the mark is saved, and the step is shown
  abbrev begun-at : ℕ → Phase → ℕ → Step → model.Turned
  begun-at mark phase view step = model_turn.begun c slots (lives.new_life number mark phase view) step

  -- what follows on the first acts of a start
  begins-with : (mark : ℕ) (phase : Phase) (view : ℕ) (step : Step) (u : model.Turned) (move : _) (f : Life → Turned)
      → Follows (begun-at mark phase view step) u (f (life-at mark phase view))
      → BeginsAlike c slots (record { move = move; turned = u }) (record { life = (f (life-at mark phase view)).life; acts = Act.Save mark ∷ Act.Step step ∷ (f (life-at mark phase view)).acts })
  begins-with mark phase view step u move f h = record { config = h.config; keeps = h.keeps; acts = h.acts; arming = h.arming; sends = h.sends; service = h.service }

  -- what goes on from the stage that begins goes on from the life
  from-start : (mark : ℕ) (phase : Phase) (view : ℕ) (step : Step) (u : model.Turned) (f : Life → Turned)
      → Follows (begun-at mark phase view step) u (f (life_in (stage-at mark phase view) (at-start mark phase view).cores)) → Follows (begun-at mark phase view step) u (f (life-at mark phase view))
  from-start mark phase view step u f h = subst (λ (l : Life). Follows (begun-at mark phase view step) u (f l)) (sym (at-start mark phase view).is) h

  module _ (phase-1 : GoesPhase1) where
    -- the first start
    first : AreAlike c slots (Some (model_turn.first_start c slots number)) (Some (opened (config_of c within) (started c.mode c.me (first_mark c.mode) Working 0)))
    first =
        let mark = first_mark c.mode in
        let t = begun-at mark Working 0 (Step.First c.me) in
        let d = (at-start mark Working 0).cores in
        let h = chooses (leads_own t.stage) begin_phase_1 t _ (stay (life_in t.stage d)) (λ e. phase-1 t d (record { works = refl; untaken = λ x m. absurd m })) (λ e. stays t d) in
        begins-with mark Working 0 (Step.First c.me) (when (leads_own t.stage) begin_phase_1 t) _ led
        (from-start mark Working 0 (Step.First c.me) (when (leads_own t.stage) begin_phase_1 t) led h)

  -- the recovery of a life that begins again goes to all others, and is repeated
  asks : (t : model.Turned) (d : Cores t.stage) (m : Message) → IsSendable t.stage.config.mode m → Follows t (t ▹ says_to_all m ▹ arms_recovery m) (sent_and_armed Topic.Recovery m (life_in t.stage d))
  asks t d m may =
      let h = said-to-all t d m may in
      subst (λ (k : Config). Follows t (t ▹ says_to_all m ▹ arms_recovery m)
      (record { life = life_in t.stage d; acts = to_all t.stage.config.n t.stage.config.me m ++ armed_for_all k.n k.me Topic.Recovery m }))
      h.config
      (and-armed t (says_to_all m t) (t ▹ says_to_all m ▹ arms_recovery m) _ h Topic.Recovery m refl (rearmed (says_to_all m t).stage _ _ _ _ _ (life_in t.stage d) h.keeps) refl refl refl refl may)

  -- a later start
  later : (mark : ℕ) → AreAlike c slots (Some (model_turn.later_start c slots number mark)) (Some (opened (config_of c within) (started c.mode c.me mark Recovering (view_at_return c.mode mark))))
  later mark =
      let view = view_at_return c.mode mark in
      let t = begun-at mark Recovering view (Step.Return c.me mark) in
      let d = (at-start mark Recovering view).cores in
      let m = recovery_of mark in
      begins-with mark Recovering view (Step.Return c.me mark) (t ▹ says_to_all m ▹ arms_recovery m) _ (sent_and_armed Topic.Recovery m)
      (from-start mark Recovering view (Step.Return c.me mark) (t ▹ says_to_all m ▹ arms_recovery m) (sent_and_armed Topic.Recovery m) (asks t d m tt))

pub openings_alike : GoesPhase1 → OpeningsAlike
unfolding model_turn.opening
openings_alike phase-1 c within slots number None = first c within slots number phase-1
openings_alike phase-1 c within slots number (Some stored) = go (return_mark c.mode c.n c.me stored)
  where
    go : (o : Option ℕ) → AreAlike c slots (option_map (model_turn.later_start c slots number) o) (option_map (opened (config_of c within)) (option_map (λ (mark : ℕ). started c.mode c.me mark Recovering (view_at_return c.mode mark)) o))
    go None = tt
    go (Some mark) = later c within slots number mark

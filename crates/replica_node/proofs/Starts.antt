-- A replica that began is the model's.
use Rattle.std.proofs.Common.{◌≡◌, ℕ, ◌≤◌, List, [], map, Option, Some, None, refl, sym, ap, subst, ◌∙◌, arith}
use Rattle.std.specs.Option.{option_map}
use Rattle.jp_types.specs.declared.mode.Phase.{Phase}
use Rattle.jp_types.specs.declared.mode.Phase.TheVariants.{Recovering, Working}
use Rattle.kv_service.specs.Service.{State}
use Rattle.paxos_world.specs.declared.step.Step.{Step}
use Rattle.paxos_world.specs.Replica.{started}
use Rattle.paxos_world.specs.Stage as model
use Rattle.paxos_world.specs.Turn as model_turn
use Rattle.replica_log.specs.Log.{first_undecided}
use Rattle.retransmitter.specs.Slots.{free_slots}
use Rattle.protocol_core.specs.declared.act.Act.{Act}
use Rattle.protocol_core.specs.declared.act.Topic.{Topic}
use Rattle.protocol_core.specs.declared.config.Config.{Config}
use Rattle.protocol_core.specs.declared.life.Life.{Life}
use Rattle.protocol_core.specs.Leading.{phase_1_begun}
use Rattle.protocol_core.specs.Sending.{does, shown, sent_and_armed}
use Rattle.protocol_core.specs.Starting.{new_life, led, recovery_of, opened_in, opened, opening}
use Rattle.protocol_core.specs.Turned.{Turned, stay}
use Rattle.protocol_core.specs.Voting.{leads}
use Rattle.protocol_laws.specs.Acting.{model_acts, model_decision}
use Rattle.protocol_laws.specs.Arming.{Arming}
use Rattle.protocol_laws.specs.Laws.{BeginsAlike, AreAlike}
use Rattle.protocol_laws.proofs.Whole.{openings_alike}
use Rattle.protocol_stage.specs.Arming.{takes_least}
use Rattle.protocol_stage.specs.Following.{model_config, model_slots}
use Rattle.protocol_stage.specs.Following as stage
use Rattle.protocol_stage.proofs.Arming.{none-is-repeated}
use Rattle.protocol_stage.proofs.Goals.{OpensFollow}
use Rattle.replica_node.specs.Beginning.{Begins}
use Rattle.replica_node.specs.Following.{leaving, Began}
use Rattle.replica_node.specs.Resembling.{WaitsFitly, Resembles}
use Rattle.replica_node.specs.Taking.{handed_of}
use Rattle.replica_node.specs.Whole.{Whole}
use Rattle.replica_node.proofs.Acts.{outward-leaving}
use Rattle.replica_node.proofs.Goals.{StartsFollow}
use Rattle.replica_node.proofs.HandedLemmas.{quiet-then, quiet-if, quiet-sent_and_armed, quiet-begun_from}

-- ---- An opening hands nothing on

-- where the leader of the own view begins phase 1
quiet-led : (life : Life) → handed_of (led life).acts ≡ []
quiet-led life = quiet-if (leads life life.config.me life.view) (phase_1_begun life) (stay life) (quiet-begun_from life (first_undecided life.log)) refl

-- where a life of this phase begins
quiet-opened : (phase : Phase) (life : Life) → handed_of (opened_in phase life).acts ≡ []
quiet-opened Working life = quiet-then (shown (Step.First life.config.me) life) led refl quiet-led
quiet-opened Recovering life =
    quiet-then (shown (Step.Return life.config.me life.mark) life) (sent_and_armed Topic.Recovery (recovery_of life.mark)) refl (quiet-sent_and_armed Topic.Recovery (recovery_of life.mark))

-- where what there may be hands nothing on, neither does what there is
quiet-some : {X : Type 0} (f : X → Turned) (o : Option X) (did : Turned) → ((x : X) → handed_of (f x).acts ≡ []) → option_map f o ≡ Some did → handed_of did.acts ≡ []
quiet-some f None did quiet e = absurd cc
quiet-some f (Some x) did quiet e = let same : f x ≡ did = cc in subst (λ (t : Turned). handed_of t.acts ≡ []) same (quiet x)

-- whatever the disk holds
quiet-opening : (config : Config) (stored : Option ℕ) (did : Turned) → opening config stored ≡ Some did → handed_of did.acts ≡ []
quiet-opening config stored did e = quiet-some (opened config) _ did (λ s. quiet-then (does (Act.Save s.mark) (new_life config s)) (opened_in s.phase) refl (quiet-opened s.phase)) e

-- ---- A replica that began

-- no slot is taken at first, in the model and in the code
slots-are : model_slots free_slots ≡ model.free_slots
slots-are = sym (ap (λ (x : Arming). x.slots) none-is-repeated.arming)

module _ (opens : OpensFollow) (config : Config) (stored : Option ℕ) (made : Whole) (out : List Act) (h : Begins config stored made out) (number : ℕ) where
  -- the stage of the model that began
  begins : stage.Began takes_least free_slots config stored number made.stages.protocol out
  begins = opens takes_least free_slots config stored made.stages.protocol out h.opened number

  -- its opening, over slots of which none is taken
  opening-is : model_turn.opening (model_config config) model.free_slots number stored ≡ Some begins.opened
  opening-is = ap (λ (slots : List model.Slot). model_turn.opening (model_config config) slots number stored) (sym slots-are) ∙ begins.opening_is

  -- the opening of the life is that of the stage
  alike : BeginsAlike (model_config config) model.free_slots begins.opened h.opened.opened
  alike =
      subst (λ (o : Option Turned). AreAlike (model_config config) model.free_slots (Some begins.opened) o) h.opened.opening_is
      (subst (λ (o : Option model_turn.Opened). AreAlike (model_config config) model.free_slots o (opening config stored)) opening-is
      (openings_alike (model_config config) config.valid model.free_slots number stored))

  -- the acts that go out are those that leave the replica of the model
  acts-are : model_acts out ≡ leaving begins.opened.turned.acts
  acts-are =
      ap model_acts h.opened.gone_out ∙ outward-leaving h.opened.opened.acts (quiet-opening config stored h.opened.opened h.opened.opening_is)
      ∙ ap leaving (sym alike.acts)

  -- the lanes are empty, and nothing was executed
  waits : WaitsFitly (started begins.opened.turned.stage)
  waits = record { items = λ x i. absurd i; decisions = λ x i. absurd i; executed = executed }
    where
      executed : begins.opened.turned.stage.life.service.executed ≤ begins.opened.turned.stage.handed
      executed = let e = ap (λ (x : State). x.executed) alike.service in omega arith

  -- the replica that began is that of the model
  resembles : Resembles (started begins.opened.turned.stage) made
  resembles =
      let f = h.fresh in
      record {
        stage = begins.stands (λ slots k free. free) (none-is-repeated.fitly (model_config config));
        me = f.me_is ∙ sym (ap (λ (k : model.Config). k.me) alike.config);
        requests = f.requests;
        held = f.batcher;
        dispatcher = f.dispatcher;
        decisions = ap (λ xs. map model_decision xs) f.decisions;
        service = f.service ∙ sym alike.service;
        cursor = f.cursor;
        up = h.up;
        waits = waits;
      }

  -- a replica that began as this life is the model's
  began : Began config stored number made out
  began =
      record {
        opened = begins.opened;
        opening_is = opening-is;
        acts = acts-are;
        sends = begins.sends;
        config_is = alike.config;
        resembles = resembles;
      }

-- a replica that began is the model's
pub starts-follow : OpensFollow → StartsFollow
starts-follow opens config stored made out h number = began opens config stored made out h number

-- The Retransmitter's step goes as the model's.
use Rattle.std.proofs.Common.{◌≡◌, ◌∙◌, ℕ, false, List, map, Option, Some, None, refl, sym, ap, subst}
use Rattle.std.specs.Option.{option_map}
use Rattle.paxos_world.specs.Replica as replica
use Rattle.paxos_world.specs.Replica.{Running}
use Rattle.paxos_world.specs.Stage as model
use Rattle.paxos_world.specs.Retransmitting.{claim, cursor_after}
use Rattle.paxos_world.specs.Turn.{untouched, repeats, retransmit}
use Rattle.paxos_world.specs.Writing.{◌▹◌}
use Rattle.retransmitter.specs.Slots as slots
use Rattle.retransmitter.specs.Slots.{next_live}
use Rattle.retransmitter.specs.declared.outgoing.Outgoing.{Outgoing}
use Rattle.retransmitter.specs.declared.slots.Slot.{Slot}
use Rattle.protocol_core.specs.declared.act.Act.{Act}
use Rattle.protocol_laws.specs.Acting.{model_acts}
use Rattle.protocol_laws.specs.Arming.{Arming, model_outgoing, members_below}
use Rattle.protocol_laws.specs.Coming.{SendsFitly}
use Rattle.protocol_stage.specs.Arming.{model_slot}
use Rattle.replica_node.specs.Answers.{answer_of}
use Rattle.replica_node.specs.Following.{leaving, FollowsStep}
use Rattle.replica_node.specs.Repeating as code
use Rattle.replica_node.specs.Repeating.{retransmit_step}
use Rattle.replica_node.specs.Resembling.{Resembles}
use Rattle.replica_node.specs.Stepping.{Stepping, Is, done, refused}
use Rattle.replica_node.specs.Whole.{Whole}
use Rattle.replica_node.specs.declared.stages.Taken.{Taken}
use Rattle.replica_node.proofs.Claiming.{claims-alike}
use Rattle.replica_node.proofs.Going.{up-with, still, by-step}
use Rattle.replica_node.proofs.Repeated.{sends_each, sends-below-is, model-each, leaving-each, says-acts, members-in, fit-each}

-- ---- What the stage of the model does

-- where no slot is claimed, nothing is repeated
retransmits-none : (s : model.Stage) (cursor : ℕ) → claim s.slots cursor ≡ None → retransmit s cursor ≡ None
unfolding retransmit
retransmits-none s cursor e = ap (option_map (λ (found : ℕ × model.Outgoing). (cursor_after found.0, untouched s ▹ repeats found.1))) e

-- where a slot is claimed, its message is repeated
retransmits-some : (s : model.Stage) (cursor k : ℕ) (m : model.Outgoing) → claim s.slots cursor ≡ Some (k, m) → retransmit s cursor ≡ Some (cursor_after k, untouched s ▹ repeats m)
unfolding retransmit
retransmits-some s cursor k m e = ap (option_map (λ (found : ℕ × model.Outgoing). (cursor_after found.0, untouched s ▹ repeats found.1))) e

-- the acts of a repeated message
abbrev sends : Outgoing → List Act
sends o = sends_each o.message (members_below 9 o.to)

-- a repeated message is sent as in the model
repeats-acts : (s : model.Stage) (o : Outgoing) → (untouched s ▹ repeats (model_outgoing o)).acts ≡ model_acts (sends o)
repeats-acts s o = says-acts (members_below 9 o.to) o.message (untouched s) ∙ sym (model-each o.message (members_below 9 o.to))

-- ---- A replica with its cursor moved

-- a replica is that of the model with its cursor moved
moved : (a : Running) (w : Whole) (cursor : ℕ) → Resembles a w → Resembles (record a { cursor = cursor }) (up-with (record w.stages { cursor = cursor }))
moved a w cursor h =
    record {
      stage = h.stage;
      me = h.me;
      requests = h.requests;
      held = h.held;
      dispatcher = h.dispatcher;
      decisions = h.decisions;
      service = h.service;
      cursor = refl;
      up = refl;
      waits = record { items = h.waits.items; decisions = h.waits.decisions; executed = h.waits.executed };
    }

-- ---- The step

module _ (a : Running) (w new : Whole) (answer : Taken) (h : Resembles a w) (up : new.down ≡ false) (is : Is (retransmit_step w.stages) answer new.stages) where
  -- the slots of the code
  abbrev all : List Slot
  all = w.stages.protocol.repeating.slots

  -- the slots and the cursor are those of the model
  claims-are : claim a.stage.slots a.cursor ≡ claim (map model_slot all) w.stages.cursor
  claims-are = ap (λ (x : Arming). claim x.slots a.cursor) h.stage.arming ∙ ap (claim (map model_slot all)) (sym h.cursor)

  -- what the model does follows for what the step answered, where it does for a step that is known
  known : (step : replica.Stepped) (x : Stepping) → retransmit_step w.stages ≡ x → FollowsStep step a (answer_of x.answer) (up-with x.stages) → FollowsStep step a (answer_of answer) new
  known step x e f = by-step (λ (t : Taken) (v : Whole). FollowsStep step a (answer_of t) v) (retransmit_step w.stages) x answer new is up e f

  -- a step for a slot that is live is the model's
  found : (k : ℕ) (o : Outgoing) → next_live all w.stages.cursor ≡ Some k → slots.claim_of all k ≡ Some (slots.generation_at all k, o) → slots.live_at all k ≡ Some o
      → FollowsStep (replica.repeated (Some (cursor_after k, untouched a.stage ▹ repeats (model_outgoing o))) a) a (answer_of answer) new
  found k o e claimed live =
      known (replica.repeated (Some (cursor_after k, untouched a.stage ▹ repeats (model_outgoing o))) a) (done (sends o) (record w.stages { cursor = cursor_after k })) code-is
      (acts, fit, refl, moved a w (cursor_after k) h)
    where
      code-is : retransmit_step w.stages ≡ done (sends o) (record w.stages { cursor = cursor_after k })
      code-is =
          ap (code.repeated w.stages) e ∙ ap (λ (x : Option (ℕ × Outgoing)). done (code.claimed_sends x) (record w.stages { cursor = cursor_after k })) claimed
          ∙ ap (λ x. done x (record w.stages { cursor = cursor_after k })) (sends-below-is 9 o.to o.message)

      acts : model_acts (sends o) ≡ leaving (untouched a.stage ▹ repeats (model_outgoing o)).acts
      acts = leaving-each o.message (members_below 9 o.to) ∙ ap leaving (sym (repeats-acts a.stage o))

      fit : SendsFitly a.stage.config (sends o)
      fit = fit-each a.stage.config o.message (members_below 9 o.to) (λ q i. h.stage.fitly k o live q (members-in 9 o.to q i))

  -- a step of the Retransmitter is the model's
  pub retransmit-follows : FollowsStep (replica.retransmit_step a) a (answer_of answer) new
  retransmit-follows = go (next_live all w.stages.cursor) refl
    where
      go : (k : Option ℕ) → next_live all w.stages.cursor ≡ k → FollowsStep (replica.retransmit_step a) a (answer_of answer) new
      go None e =
          subst (λ (x : Option (ℕ × model.Turned)). FollowsStep (replica.repeated x a) a (answer_of answer) new) (sym (retransmits-none a.stage a.cursor (claims-are ∙ claims-alike.none all w.stages.cursor e)))
          (known replica.Idle (refused Taken.Empty w.stages) (ap (code.repeated w.stages) e) (refl, still a w h))
      go (Some k) e =
          let x = claims-alike.some all w.stages.cursor k e in
          subst (λ (y : Option (ℕ × model.Turned)). FollowsStep (replica.repeated y a) a (answer_of answer) new) (sym (retransmits-some a.stage a.cursor k (model_outgoing x.0) (claims-are ∙ x.3)))
          (found k x.0 e x.1 x.2)

-- What is repeated after a message is armed, or after cancels, may still be sent.
use Rattle.std.proofs.Common.{◌≡◌, ℕ, suc, Bool, true, false, List, [], ◌∷◌, ◌==◌, if◌then◌else◌, slice_set, Option, Some, None, sym, subst}
use Rattle.paxos_world.specs.Stage as model
use Rattle.retransmitter.specs.Armed.{Armed}
use Rattle.retransmitter.specs.Slots.{cancelled, generation_at, slots_in}
use Rattle.retransmitter.specs.declared.outgoing.Outgoing.{Outgoing}
use Rattle.retransmitter.specs.declared.slots.Slot.{Slot}
use Rattle.protocol_core.specs.declared.act.Act.{Act}
use Rattle.protocol_core.specs.declared.act.Topic.{Topic}
use Rattle.protocol_stage.specs.Performing.{RepeatsAfter}
use Rattle.protocol_stage.specs.Repeating.{Repeating, cancelled_for, ended, ended_each, proposes_of}
use Rattle.protocol_laws.specs.Coming.{SendsFitly, IsRepeatable}
use Rattle.protocol_stage.specs.Arming.{RepeatsFitly}
use Rattle.protocol_stage.proofs.SlotLemmas.{set-cases}

module _ (c : model.Config) where
  -- the message of a slot, if it is live, may be sent
  abbrev IsFitSlot : Slot → Type 0
  IsFitSlot s = (o : Outgoing) → s.live ≡ Some o → IsRepeatable c o

  -- with a slot whose message may be sent, all may be sent still
  fit-set : (slots : List Slot) (k : ℕ) (s : Slot) → RepeatsFitly c slots → IsFitSlot s → RepeatsFitly c (slice_set slots k s)
  fit-set slots k s h new j = set-cases IsFitSlot slots k s j new (h j)

  -- a slot that is not live has no message
  fit-ended-slot : (generation : ℕ) → IsFitSlot (record { generation = generation; live = None })
  fit-ended-slot generation o e = absurd cc

  -- after a cancel
  fit-cancelled : (slots : List Slot) (a : Armed) → RepeatsFitly c slots → RepeatsFitly c (cancelled slots a)
  fit-cancelled slots a h = go (generation_at slots a.slot == a.generation)
    where
      go : (test : Bool) → RepeatsFitly c (if test then slice_set slots a.slot (record { generation = a.generation; live = None }) else slots)
      go true = fit-set slots a.slot (record { generation = a.generation; live = None }) h (fit-ended-slot a.generation)
      go false = h

  -- after a cancel, if there is one
  fit-ended : (slots : List Slot) (o : Option Armed) → RepeatsFitly c slots → RepeatsFitly c (ended slots o)
  fit-ended slots None h = h
  fit-ended slots (Some a) h = fit-cancelled slots a h

  -- after each proposal is cancelled
  fit-ended-each : (slots : List Slot) (proposes : List (ℕ × Armed)) → RepeatsFitly c slots → RepeatsFitly c (ended_each slots proposes)
  fit-ended-each slots [] h = h
  fit-ended-each slots (a ∷ more) h = fit-ended-each (cancelled slots a.1) more (fit-cancelled slots a.1 h)

  -- after a message that may be sent is armed, if a slot is taken for it
  fit-armed : (slots : List Slot) (m : Outgoing) (o : Option ℕ) → IsRepeatable c m → RepeatsFitly c slots → RepeatsFitly c (slots_in slots m o)
  fit-armed slots m None may h = h
  fit-armed slots m (Some k) may h = fit-set slots k (record { generation = suc (generation_at slots k); live = Some m }) h (λ o e. let same : m ≡ o = cc in subst (IsRepeatable c) same may)

  -- after what is armed for a topic is cancelled
  fit-cancelled-for : (topic : Topic) (r : Repeating) → RepeatsFitly c r.slots → RepeatsFitly c (cancelled_for topic r).slots
  fit-cancelled-for Topic.Prepare r h = fit-ended r.slots r.tokens.prepare h
  fit-cancelled-for Topic.Recovery r h = fit-ended r.slots r.tokens.recovery h
  fit-cancelled-for Topic.Query r h = fit-ended r.slots r.tokens.query h
  fit-cancelled-for (Topic.Propose i) r h = fit-ended-each r.slots (proposes_of i r.tokens.proposes) h

  -- after an act whose messages may be sent; so may those of the acts behind it
  pub fit-act : (may_take : List Slot → Option ℕ → Type 0) (act : Act) (acts : List Act) (r middle : Repeating) → SendsFitly c (act ∷ acts) → RepeatsFitly c r.slots → RepeatsAfter may_take act r middle → RepeatsFitly c middle.slots × SendsFitly c acts
  fit-act may_take (Act.Step step) acts r middle sends h e = (subst (λ (x : Repeating). RepeatsFitly c x.slots) (sym e) h, sends)
  fit-act may_take (Act.Send to message) acts r middle sends h e = (subst (λ (x : Repeating). RepeatsFitly c x.slots) (sym e) h, sends.1)
  fit-act may_take (Act.Hand decision) acts r middle sends h e = (subst (λ (x : Repeating). RepeatsFitly c x.slots) (sym e) h, sends)
  fit-act may_take (Act.Save number) acts r middle sends h e = (subst (λ (x : Repeating). RepeatsFitly c x.slots) (sym e) h, sends)
  fit-act may_take (Act.Arm topic m) acts r middle sends h e = (subst (λ (x : Repeating). RepeatsFitly c x.slots) (sym e.2) (fit-armed r.slots m e.0 sends.0 h), sends.1)
  fit-act may_take (Act.Cancel topic) acts r middle sends h e = (subst (λ (x : Repeating). RepeatsFitly c x.slots) (sym e) (fit-cancelled-for topic r h), sends)
  fit-act may_take Act.CancelProposes acts r middle sends h e = (subst (λ (x : Repeating). RepeatsFitly c x.slots) (sym e) (fit-ended-each r.slots r.tokens.proposes h), sends)

-- What is repeated after acts is what the stage of the model has armed.
use Rattle.std.proofs.Common.{◌≡◌, ◌∙◌, ℕ, zero, suc, ◌<◌, Bool, true, false, List, [], ◌∷◌, ◌++◌, length, map, replicate, ◌==◌, if◌then◌else◌, Option, Some, None, IfSome, refl, sym, ap, subst}
use Rattle.std.specs.Option.{option_map}
use Rattle.paxos_world.specs.Stage as model
use Rattle.paxos_world.specs.Stage.{free_slots}
use Rattle.paxos_world.specs.Retransmitting as retransmitting
use Rattle.retransmitter.specs.Armed.{Armed}
use Rattle.retransmitter.specs.Slots as slots
use Rattle.retransmitter.specs.Slots.{cancelled, generation_at, is_free, least_free, new_slot, slot_at, slots_in}
use Rattle.retransmitter.specs.declared.outgoing.Outgoing.{Outgoing}
use Rattle.retransmitter.specs.declared.slots.Slot.{Slot}
use Rattle.protocol_core.specs.declared.act.Act.{Act}
use Rattle.protocol_core.specs.declared.act.Topic.{Topic}
use Rattle.protocol_stage.specs.Performing.{RepeatsAfter}
use Rattle.protocol_stage.specs.Repeating.{Repeating, Tokens, armed_for, armed_in, cancelled_for, ended, proposes_of, proposes_but, with_propose, without_proposes}
use Rattle.protocol_stage.specs.Arming.{takes_least}
use Rattle.protocol_laws.specs.Arming as arming
use Rattle.protocol_laws.specs.Arming.{Arming, armed_after, model_outgoing}
use Rattle.protocol_laws.specs.Laws as laws
use Rattle.protocol_stage.specs.Arming.{model_slot, model_armed, model_propose, arming_in, list_of, all_armed, IsTight, RepeatsFitly}
use Rattle.protocol_stage.proofs.Goals.{ArmsAlike, RepeatsAreFit, NoneIsRepeated}
use Rattle.protocol_stage.proofs.Apart.{Parts, parts-none, parts-out, parts-rest, parts-here, parts-front, Joins, joins-here, joins-front}
use Rattle.protocol_stage.proofs.SlotLemmas.{arm-alike}
use Rattle.protocol_stage.proofs.Fitting.{fit-act}
use Rattle.protocol_stage.proofs.Cancelling.{Holds, tokens_of, ends, ended-is, ended-each-is, rest-holds, out-holds, dropped-holds, ended-alike, ended-each-alike, armed-holds}

-- the armed proposals for an instance are the model's
of-alike : (i : ℕ) (proposes : List (ℕ × Armed)) → retransmitting.proposes_of i (map model_propose proposes) ≡ map model_propose (proposes_of i proposes)
of-alike i [] = refl
of-alike i (a ∷ more) = go (a.0 == i) (of-alike i more)
  where
    go : (b : Bool) → retransmitting.proposes_of i (map model_propose more) ≡ map model_propose (proposes_of i more)
        → (if b then model_propose a ∷ retransmitting.proposes_of i (map model_propose more) else retransmitting.proposes_of i (map model_propose more))
        ≡ map model_propose (if b then a ∷ proposes_of i more else proposes_of i more)
    go true rest = ap (λ x. model_propose a ∷ x) rest
    go false rest = rest

-- the armed proposals for all other instances are the model's
but-alike : (i : ℕ) (proposes : List (ℕ × Armed)) → retransmitting.proposes_but i (map model_propose proposes) ≡ map model_propose (proposes_but i proposes)
but-alike i [] = refl
but-alike i (a ∷ more) = go (a.0 == i) (but-alike i more)
  where
    go : (b : Bool) → retransmitting.proposes_but i (map model_propose more) ≡ map model_propose (proposes_but i more)
        → (if b then retransmitting.proposes_but i (map model_propose more) else model_propose a ∷ retransmitting.proposes_but i (map model_propose more))
        ≡ map model_propose (if b then proposes_but i more else a ∷ proposes_but i more)
    go true rest = rest
    go false rest = ap (λ x. model_propose a ∷ x) rest

-- of the armed proposals those for an instance are taken out, and the others are left
parts-proposes : (i : ℕ) (proposes : List (ℕ × Armed)) → Parts (tokens_of proposes) (tokens_of (proposes_of i proposes)) (tokens_of (proposes_but i proposes))
parts-proposes i [] = parts-none []
parts-proposes i (a ∷ more) = go (a.0 == i) (parts-proposes i more)
  where
    go : (b : Bool) → Parts (tokens_of more) (tokens_of (proposes_of i more)) (tokens_of (proposes_but i more))
        → Parts (a.1 ∷ tokens_of more) (tokens_of (if b then a ∷ proposes_of i more else proposes_of i more)) (tokens_of (if b then proposes_but i more else a ∷ proposes_but i more))
    go true rest = parts-out a.1 (tokens_of more) (tokens_of (proposes_of i more)) (tokens_of (proposes_but i more)) rest
    go false rest = parts-rest a.1 (tokens_of more) (tokens_of (proposes_of i more)) (tokens_of (proposes_but i more)) rest

-- what is tight is held
tight-holds : (r : Repeating) → IsTight r → Holds r.slots (all_armed r.tokens)
tight-holds r h = record { repeated = h.repeated; apart = h.apart }

-- what is held is tight
holds-tight : (r : Repeating) → Holds r.slots (all_armed r.tokens) → IsTight r
holds-tight r h = record { repeated = h.repeated; apart = h.apart }

-- ---- What is armed for one topic, and the rest

-- what is armed behind a recovery
abbrev behind-recovery : Tokens → List Armed
behind-recovery t = list_of t.query ++ tokens_of t.proposes

-- what is armed behind a Prepare
abbrev behind-prepare : Tokens → List Armed
behind-prepare t = list_of t.recovery ++ behind-recovery t

-- what is armed, with these proposals
abbrev rest-proposes : Tokens → List (ℕ × Armed) → List Armed
rest-proposes t proposes = list_of t.prepare ++ (list_of t.recovery ++ (list_of t.query ++ tokens_of proposes))

-- the armed Prepare, and the rest
parts-prepare : (t : Tokens) → Parts (all_armed t) (list_of t.prepare) (behind-prepare t)
parts-prepare t = parts-here (list_of t.prepare) (behind-prepare t)

-- the armed recovery, and the rest
parts-recovery : (t : Tokens) → Parts (all_armed t) (list_of t.recovery) (list_of t.prepare ++ behind-recovery t)
parts-recovery t = parts-front (list_of t.prepare) (behind-prepare t) (list_of t.recovery) (behind-recovery t) (parts-here (list_of t.recovery) (behind-recovery t))

-- the armed query, and the rest
parts-query : (t : Tokens) → Parts (all_armed t) (list_of t.query) (list_of t.prepare ++ (list_of t.recovery ++ tokens_of t.proposes))
parts-query t =
    parts-front (list_of t.prepare) (behind-prepare t) (list_of t.query) (list_of t.recovery ++ tokens_of t.proposes)
    (parts-front (list_of t.recovery) (behind-recovery t) (list_of t.query) (tokens_of t.proposes) (parts-here (list_of t.query) (tokens_of t.proposes)))

-- some of the armed proposals, and the rest
parts-some : (t : Tokens) (out rest : List (ℕ × Armed)) → Parts (tokens_of t.proposes) (tokens_of out) (tokens_of rest) → Parts (all_armed t) (tokens_of out) (rest-proposes t rest)
parts-some t out rest p =
    parts-front (list_of t.prepare) (behind-prepare t) (tokens_of out) (list_of t.recovery ++ (list_of t.query ++ tokens_of rest))
    (parts-front (list_of t.recovery) (behind-recovery t) (tokens_of out) (list_of t.query ++ tokens_of rest)
    (parts-front (list_of t.query) (tokens_of t.proposes) (tokens_of out) (tokens_of rest) p))

-- the armed proposals for an instance, and the rest
parts-of : (i : ℕ) (t : Tokens) → Parts (all_armed t) (tokens_of (proposes_of i t.proposes)) (rest-proposes t (proposes_but i t.proposes))
parts-of i t = parts-some t (proposes_of i t.proposes) (proposes_but i t.proposes) (parts-proposes i t.proposes)

-- all armed proposals, and the rest
parts-all : (t : Tokens) → Parts (all_armed t) (tokens_of t.proposes) (rest-proposes t [])
parts-all t = parts-some t t.proposes [] (go t.proposes)
  where
    go : (proposes : List (ℕ × Armed)) → Parts (tokens_of proposes) (tokens_of proposes) []
    go [] = parts-none []
    go (a ∷ more) = parts-out a.1 (tokens_of more) (tokens_of more) [] (go more)

-- ---- One more is armed

-- what is armed, with these slots and these proposals
abbrev the-arming : Repeating → List Slot → List (ℕ × model.Armed) → Arming
the-arming r after proposes = record (arming_in r) { slots = map model_slot after; proposes = proposes }

-- a message is armed in the model as in the code
arms-topic : (topic : Topic) (r : Repeating) (m : Outgoing) → arming.armed_for topic (model_outgoing m) (arming_in r) ≡ arming_in (armed_for topic m (least_free r.slots) r)
arms-topic Topic.Prepare r m = ap (λ (x : List model.Slot × Option model.Armed). record (arming_in r) { slots = x.0; prepare = x.1 }) (arm-alike r.slots m)
arms-topic Topic.Recovery r m = ap (λ (x : List model.Slot × Option model.Armed). record (arming_in r) { slots = x.0; recovery = x.1 }) (arm-alike r.slots m)
arms-topic Topic.Query r m = ap (λ (x : List model.Slot × Option model.Armed). record (arming_in r) { slots = x.0; query = x.1 }) (arm-alike r.slots m)
arms-topic (Topic.Propose i) r m =
    ap (λ (x : List model.Slot × Option model.Armed). record (arming_in r) { slots = x.0; proposes = retransmitting.with_armed i x.1 (map model_propose r.tokens.proposes) }) (arm-alike r.slots m)
    ∙ go (armed_in r.slots (least_free r.slots))
  where
    after : List Slot
    after = slots_in r.slots m (least_free r.slots)

    go : (o : Option Armed)
        → the-arming r after (retransmitting.with_armed i (option_map model_armed o) (map model_propose r.tokens.proposes)) ≡ the-arming r after (map model_propose (with_propose i o r.tokens.proposes))
    go None = refl
    go (Some a) = refl

-- after a message is armed each message is repeated in a slot of its own
armed-tight : (topic : Topic) (r : Repeating) (m : Outgoing) (k : Option ℕ) → IfSome k (λ slot. (slot < length r.slots) × (is_free (slot_at r.slots slot) ≡ true)) → IsTight r → IsTight (armed_for topic m k r)
armed-tight topic r m k free h = go topic
  where
    t : Tokens
    t = r.tokens

    all : Holds r.slots (all_armed t)
    all = tight-holds r h

    goes : (rest : List Armed) (new : Option Armed → List Armed) → Holds r.slots rest → new None ≡ rest → ((a : Armed) → Joins a rest (new (Some a))) → Holds (slots_in r.slots m k) (new (armed_in r.slots k))
    goes rest new left none joins = armed-holds r.slots m k rest new free none joins left

    proposes-join : (i : ℕ) (a : Armed) → Joins a (all_armed t) (all_armed (record t { proposes = (i, a) ∷ t.proposes }))
    proposes-join i a =
        joins-front a (list_of t.prepare) (behind-prepare t) (list_of t.recovery ++ (list_of t.query ++ (a ∷ tokens_of t.proposes)))
        (joins-front a (list_of t.recovery) (behind-recovery t) (list_of t.query ++ (a ∷ tokens_of t.proposes))
        (joins-front a (list_of t.query) (tokens_of t.proposes) (a ∷ tokens_of t.proposes) (joins-here a (tokens_of t.proposes))))

    go : (topic : Topic) → IsTight (armed_for topic m k r)
    go Topic.Prepare =
        holds-tight (armed_for Topic.Prepare m k r)
        (goes (behind-prepare t) (λ o. list_of o ++ behind-prepare t) (dropped-holds r.slots (all_armed t) (list_of t.prepare) (behind-prepare t) (parts-prepare t) all) refl (λ a. joins-here a (behind-prepare t)))
    go Topic.Recovery =
        holds-tight (armed_for Topic.Recovery m k r)
        (goes (list_of t.prepare ++ behind-recovery t) (λ o. list_of t.prepare ++ (list_of o ++ behind-recovery t))
        (dropped-holds r.slots (all_armed t) (list_of t.recovery) (list_of t.prepare ++ behind-recovery t) (parts-recovery t) all) refl
        (λ a. joins-front a (list_of t.prepare) (behind-recovery t) (a ∷ behind-recovery t) (joins-here a (behind-recovery t))))
    go Topic.Query =
        holds-tight (armed_for Topic.Query m k r)
        (goes (list_of t.prepare ++ (list_of t.recovery ++ tokens_of t.proposes)) (λ o. list_of t.prepare ++ (list_of t.recovery ++ (list_of o ++ tokens_of t.proposes)))
        (dropped-holds r.slots (all_armed t) (list_of t.query) (list_of t.prepare ++ (list_of t.recovery ++ tokens_of t.proposes)) (parts-query t) all) refl
        (λ a. joins-front a (list_of t.prepare) (list_of t.recovery ++ tokens_of t.proposes) (list_of t.recovery ++ (a ∷ tokens_of t.proposes))
        (joins-front a (list_of t.recovery) (tokens_of t.proposes) (a ∷ tokens_of t.proposes) (joins-here a (tokens_of t.proposes)))))
    go (Topic.Propose i) =
        holds-tight (armed_for (Topic.Propose i) m k r)
        (goes (all_armed t) (λ o. all_armed (record t { proposes = with_propose i o t.proposes })) all refl (proposes-join i))

-- ---- Something is cancelled

-- what is armed for a topic is cancelled in the model as in the code
cancels-topic : (topic : Topic) (r : Repeating) → IsTight r → arming.cancelled_for topic (arming_in r) ≡ arming_in (cancelled_for topic r)
cancels-topic topic r h = go topic
  where
    t : Tokens
    t = r.tokens

    held : (out rest : List Armed) → Parts (all_armed t) out rest → Holds r.slots out
    held out rest p = out-holds r.slots (all_armed t) out rest p (tight-holds r h)

    go : (topic : Topic) → arming.cancelled_for topic (arming_in r) ≡ arming_in (cancelled_for topic r)
    go Topic.Prepare = ap (λ (x : List model.Slot). record (arming_in r) { slots = x; prepare = None }) (ended-alike r.slots t.prepare (held (list_of t.prepare) (behind-prepare t) (parts-prepare t)))
    go Topic.Recovery =
        ap (λ (x : List model.Slot). record (arming_in r) { slots = x; recovery = None }) (ended-alike r.slots t.recovery (held (list_of t.recovery) (list_of t.prepare ++ behind-recovery t) (parts-recovery t)))
    go Topic.Query =
        ap (λ (x : List model.Slot). record (arming_in r) { slots = x; query = None }) (ended-alike r.slots t.query (held (list_of t.query) (list_of t.prepare ++ (list_of t.recovery ++ tokens_of t.proposes)) (parts-query t)))
    go (Topic.Propose i) =
        ap (λ (x : List (ℕ × model.Armed)). record (arming_in r) { slots = retransmitting.free_each (map model_slot r.slots) x; proposes = retransmitting.proposes_but i (map model_propose t.proposes) }) (of-alike i t.proposes)
        ∙ ap (λ (x : List (ℕ × model.Armed)). record (arming_in r) { slots = retransmitting.free_each (map model_slot r.slots) (map model_propose (proposes_of i t.proposes)); proposes = x }) (but-alike i t.proposes)
        ∙ ap (λ (x : List model.Slot). record (arming_in r) { slots = x; proposes = map model_propose (proposes_but i t.proposes) })
        (ended-each-alike r.slots (proposes_of i t.proposes) (held (tokens_of (proposes_of i t.proposes)) (rest-proposes t (proposes_but i t.proposes)) (parts-of i t)))

-- after a cancel each message is repeated in a slot of its own
cancelled-tight : (topic : Topic) (r : Repeating) → IsTight r → IsTight (cancelled_for topic r)
cancelled-tight topic r h = go topic
  where
    t : Tokens
    t = r.tokens

    left : (out rest : List Armed) → Parts (all_armed t) out rest → Holds (ends r.slots out) rest
    left out rest p = rest-holds r.slots (all_armed t) out rest p (tight-holds r h)

    one : (o : Option Armed) (rest : List Armed) → Parts (all_armed t) (list_of o) rest → Holds (ended r.slots o) rest
    one o rest p = subst (λ (x : List Slot). Holds x rest) (sym (ended-is r.slots o)) (left (list_of o) rest p)

    go : (topic : Topic) → IsTight (cancelled_for topic r)
    go Topic.Prepare = holds-tight (cancelled_for Topic.Prepare r) (one t.prepare (behind-prepare t) (parts-prepare t))
    go Topic.Recovery = holds-tight (cancelled_for Topic.Recovery r) (one t.recovery (list_of t.prepare ++ behind-recovery t) (parts-recovery t))
    go Topic.Query = holds-tight (cancelled_for Topic.Query r) (one t.query (list_of t.prepare ++ (list_of t.recovery ++ tokens_of t.proposes)) (parts-query t))
    go (Topic.Propose i) =
        holds-tight (cancelled_for (Topic.Propose i) r)
        (subst (λ (x : List Slot). Holds x (rest-proposes t (proposes_but i t.proposes))) (sym (ended-each-is r.slots (proposes_of i t.proposes)))
        (left (tokens_of (proposes_of i t.proposes)) (rest-proposes t (proposes_but i t.proposes)) (parts-of i t)))

-- each armed proposal is cancelled in the model as in the code, and the others are repeated still
without-alike : (r : Repeating) → IsTight r → (arming.armed_by (arming_in r) Act.CancelProposes ≡ arming_in (without_proposes r)) × IsTight (without_proposes r)
without-alike r h = (
  ap (λ (x : List model.Slot). record (arming_in r) { slots = x; proposes = [] }) (ended-each-alike r.slots t.proposes (out-holds r.slots (all_armed t) (tokens_of t.proposes) (rest-proposes t []) (parts-all t) (tight-holds r h))),
  holds-tight (without_proposes r)
      (subst (λ (x : List Slot). Holds x (rest-proposes t [])) (sym (ended-each-is r.slots t.proposes)) (rest-holds r.slots (all_armed t) (tokens_of t.proposes) (rest-proposes t []) (parts-all t) (tight-holds r h))),
)
  where
    t : Tokens
    t = r.tokens

-- ---- Acts

-- where nothing changes, what is repeated is what the stage has armed
same-alike : (r middle : Repeating) → IsTight r → middle ≡ r → (arming_in r ≡ arming_in middle) × IsTight middle
same-alike r middle h e = (ap arming_in (sym e), subst IsTight (sym e) h)

-- after an act what is repeated is what the stage has armed
act-alike : (act : Act) (r middle : Repeating) → IsTight r → RepeatsAfter takes_least act r middle → (arming.armed_by (arming_in r) act ≡ arming_in middle) × IsTight middle
act-alike (Act.Step step) r middle h e = same-alike r middle h e
act-alike (Act.Send to message) r middle h e = same-alike r middle h e
act-alike (Act.Hand decision) r middle h e = same-alike r middle h e
act-alike (Act.Save number) r middle h e = same-alike r middle h e
act-alike (Act.Arm topic m) r middle h e =
    (arms-topic topic r m ∙ ap (λ (k : Option ℕ). arming_in (armed_for topic m k r)) (sym e.1.0) ∙ ap arming_in (sym e.2), subst IsTight (sym e.2) (armed-tight topic r m e.0 e.1.1 h))
act-alike (Act.Cancel topic) r middle h e = (cancels-topic topic r h ∙ ap arming_in (sym e), subst IsTight (sym e) (cancelled-tight topic r h))
act-alike Act.CancelProposes r middle h e = let x = without-alike r h in (x.0 ∙ ap arming_in (sym e), subst IsTight (sym e) x.1)

-- after acts what is repeated is what the stage has armed
pub arms-alike : ArmsAlike
arms-alike r after [] h e = same-alike r after h e
arms-alike r after (act ∷ acts) h e =
    let one = act-alike act r e.0 h e.1 in
    let rest = arms-alike e.0 after acts one.1 e.2 in
    (ap (λ (x : Arming). armed_after x acts) one.0 ∙ rest.0, rest.1)

-- what is repeated after acts whose messages may be sent may still be sent
pub repeats-are-fit : RepeatsAreFit
repeats-are-fit may_take c r after [] sends h e = subst (λ (x : Repeating). RepeatsFitly c x.slots) (sym e) h
repeats-are-fit may_take c r after (act ∷ acts) sends h e = let one = fit-act c may_take act acts r e.0 sends h e.1 in repeats-are-fit may_take c e.0 after acts one.1 one.0 e.2

-- ---- At first

-- slots that were never armed, as the model has them
new-alike : (n : ℕ) → replicate n (model_slot new_slot) ≡ map model_slot (replicate n new_slot)
new-alike zero = refl
new-alike (suc n) = ap (λ x. model_slot new_slot ∷ x) (new-alike n)

-- the free slots are the model's
free-slots-alike : free_slots ≡ map model_slot slots.free_slots
unfolding free_slots slots.free_slots
free-slots-alike = new-alike slots.slot_count

-- no slot of these is live
new-idle : (n k : ℕ) → slots.live_at (replicate n new_slot) k ≡ None
new-idle zero k = refl
new-idle (suc n) zero = refl
new-idle (suc n) (suc k) = new-idle n k

-- no free slot is live
free-idle-slots : (k : ℕ) → slots.live_at slots.free_slots k ≡ None
unfolding slots.free_slots
free-idle-slots k = new-idle slots.slot_count k

-- nothing is repeated at first
pub none-is-repeated : NoneIsRepeated
none-is-repeated =
    record {
      arming = ap laws.unarmed free-slots-alike;
      tight = record { repeated = λ a x. absurd x; apart = tt };
      fitly = λ c k o e. let none = free-idle-slots k in absurd cc;
    }

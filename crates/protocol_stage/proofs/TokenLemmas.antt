-- Cancelling the messages of a topic one after another.
use Rattle.std.proofs.Common.{◌≡◌, ℕ, suc, ◌<◌, ◌==◌, Bool, true, false, List, [], ◌∷◌, length, drop, Option, Some, None, is_some, if◌then◌else◌, refl, sym, ap, ◌∙◌, arith}
use Rattle.std.specs.List.{slice_get}
use Rattle.std.specs.Option.{option_map}
use Rattle.retransmitter.specs.Armed.{Armed}
use Rattle.retransmitter.specs.declared.slots.Slot.{Slot}
use Rattle.protocol_core.specs.declared.act.Topic.{Topic}
use Rattle.protocol_stage.specs.Repeating.{Repeating, Tokens, ended, ended_each, proposes_of, proposes_but, newest_propose, without_newest_propose, newest, newest_cancelled, newest_propose_cancelled, cancelled_for, without_proposes}

-- at least as many as are armed for a topic
abbrev pub count_for : Topic → Tokens → ℕ
count_for Topic.Prepare t = if is_some t.prepare then 1 else 0
count_for Topic.Recovery t = if is_some t.recovery then 1 else 0
count_for Topic.Query t = if is_some t.query then 1 else 0
count_for (Topic.Propose i) t = length t.proposes

-- ---- Of the armed proposals

-- the newest for an instance, and then the others
ended_next : (i : ℕ) (a : ℕ × Armed) (more : List (ℕ × Armed)) (slots : List Slot) (b : Bool) → (a.0 == i) ≡ b
    → ended_each (ended slots (newest_propose i more)) (proposes_of i (without_newest_propose i more)) ≡ ended_each slots (proposes_of i more)
    → ended_each (ended slots (if b then Some a.1 else newest_propose i more)) (proposes_of i (if b then more else a ∷ without_newest_propose i more))
    ≡ ended_each slots (if b then a ∷ proposes_of i more else proposes_of i more)
ended_next i a more slots true e h = refl
ended_next i a more slots false e h =
    let rest = without_newest_propose i more in
    let all = proposes_of i rest in
    ap (λ (c : Bool). ended_each (ended slots (newest_propose i more)) (if c then a ∷ all else all)) e ∙ h

ended_first : (i : ℕ) (proposes : List (ℕ × Armed)) (slots : List Slot)
    → ended_each (ended slots (newest_propose i proposes)) (proposes_of i (without_newest_propose i proposes)) ≡ ended_each slots (proposes_of i proposes)
ended_first i [] slots = refl
ended_first i (a ∷ more) slots = ended_next i a more slots (a.0 == i) refl (ended_first i more slots)

others_next : (i : ℕ) (a : ℕ × Armed) (more : List (ℕ × Armed)) (b : Bool) → (a.0 == i) ≡ b → proposes_but i (without_newest_propose i more) ≡ proposes_but i more
    → proposes_but i (if b then more else a ∷ without_newest_propose i more) ≡ (if b then proposes_but i more else a ∷ proposes_but i more)
others_next i a more true e h = refl
others_next i a more false e h =
    let rest = proposes_but i (without_newest_propose i more) in
    ap (λ (c : Bool). if c then rest else a ∷ rest) e ∙ ap (λ (l : List (ℕ × Armed)). a ∷ l) h

others_first : (i : ℕ) (proposes : List (ℕ × Armed)) → proposes_but i (without_newest_propose i proposes) ≡ proposes_but i proposes
others_first i [] = refl
others_first i (a ∷ more) = others_next i a more (a.0 == i) refl (others_first i more)

-- where no proposal for the instance is armed
none_ends : (i : ℕ) (proposes : List (ℕ × Armed)) → is_some (newest_propose i proposes) ≡ false → (proposes_of i proposes ≡ []) × (without_newest_propose i proposes ≡ proposes_but i proposes)
none_ends i [] h = (refl, refl)
none_ends i (a ∷ more) h = by (a.0 == i) h (none_ends i more)
  where
    by : (b : Bool) → is_some (if b then Some a.1 else newest_propose i more) ≡ false
        → (is_some (newest_propose i more) ≡ false → (proposes_of i more ≡ []) × (without_newest_propose i more ≡ proposes_but i more))
        → ((if b then a ∷ proposes_of i more else proposes_of i more) ≡ []) × ((if b then more else a ∷ without_newest_propose i more) ≡ (if b then proposes_but i more else a ∷ proposes_but i more))
    by true e k = absurd cc
    by false e k = let rest = k e in (rest.0, ap (λ (l : List (ℕ × Armed)). a ∷ l) rest.1)

fewer_proposes : (i : ℕ) (proposes : List (ℕ × Armed)) → is_some (newest_propose i proposes) ≡ true → length (without_newest_propose i proposes) < length proposes
fewer_proposes i [] h = absurd cc
fewer_proposes i (a ∷ more) h = by (a.0 == i) h (fewer_proposes i more)
  where
    by : (b : Bool) → is_some (if b then Some a.1 else newest_propose i more) ≡ true → (is_some (newest_propose i more) ≡ true → length (without_newest_propose i more) < length more)
        → length (if b then more else a ∷ without_newest_propose i more) < suc (length more)
    by true e k = omega arith
    by false e k = let rest = k e in omega (arith, rest)

-- ---- Of a topic

-- the newest message is cancelled, and then the others
pub cancelled_next : (topic : Topic) (r : Repeating) → cancelled_for topic (newest_cancelled topic r) ≡ cancelled_for topic r
cancelled_next Topic.Prepare r = refl
cancelled_next Topic.Recovery r = refl
cancelled_next Topic.Query r = refl
cancelled_next (Topic.Propose i) r =
    let slots = ended_first i r.tokens.proposes r.slots in
    let others = others_first i r.tokens.proposes in
    λ k. record { slots = slots k; tokens = record r.tokens { proposes = others k } }

ended_none : (o : Option Armed) (slots : List Slot) → is_some o ≡ false → ended slots o ≡ slots
ended_none None slots h = refl
ended_none (Some a) slots h = absurd cc

-- where no message is armed, none is to be cancelled
pub cancelled_last : (topic : Topic) (r : Repeating) → is_some (newest topic r.tokens) ≡ false → newest_cancelled topic r ≡ cancelled_for topic r
cancelled_last Topic.Prepare r h = refl
cancelled_last Topic.Recovery r h = refl
cancelled_last Topic.Query r h = refl
cancelled_last (Topic.Propose i) r h =
    let none = none_ends i r.tokens.proposes h in
    let slots : ended r.slots (newest_propose i r.tokens.proposes) ≡ ended_each r.slots (proposes_of i r.tokens.proposes) =
    ended_none (newest_propose i r.tokens.proposes) r.slots h ∙ ap (ended_each r.slots) (sym none.0) in
    let others = none.1 in
    λ k. record { slots = slots k; tokens = record r.tokens { proposes = others k } }

one_fewer : (o : Option Armed) → is_some o ≡ true → 0 < (if is_some o then 1 else 0)
one_fewer None h = absurd cc
one_fewer (Some a) h = omega arith

pub fewer_for : (topic : Topic) (r : Repeating) → is_some (newest topic r.tokens) ≡ true → count_for topic (newest_cancelled topic r).tokens < count_for topic r.tokens
fewer_for Topic.Prepare r h = one_fewer r.tokens.prepare h
fewer_for Topic.Recovery r h = one_fewer r.tokens.recovery h
fewer_for Topic.Query r h = one_fewer r.tokens.query h
fewer_for (Topic.Propose i) r h = fewer_proposes i r.tokens.proposes h

-- ---- Of all proposals

ended_front : (proposes : List (ℕ × Armed)) (slots : List Slot) → ended_each (ended slots (option_map (λ a. a.1) (slice_get proposes 0))) (drop 1 proposes) ≡ ended_each slots proposes
ended_front [] slots = refl
ended_front (a ∷ more) slots = refl

pub proposes_next : (r : Repeating) → without_proposes (newest_propose_cancelled r) ≡ without_proposes r
proposes_next r = ap (λ (slots : List Slot). record { slots = slots; tokens = record r.tokens { proposes = [] } }) (ended_front r.tokens.proposes r.slots)

pub proposes_last : (r : Repeating) → is_some (slice_get r.tokens.proposes 0) ≡ false → newest_propose_cancelled r ≡ without_proposes r
proposes_last r h = by r.tokens.proposes h
  where
    by : (proposes : List (ℕ × Armed)) → is_some (slice_get proposes 0) ≡ false
        → newest_propose_cancelled (record { slots = r.slots; tokens = record r.tokens { proposes = proposes } }) ≡ without_proposes (record { slots = r.slots; tokens = record r.tokens { proposes = proposes } })
    by [] e = refl
    by (a ∷ more) e = absurd cc

pub fewer_front : (proposes : List (ℕ × Armed)) → is_some (slice_get proposes 0) ≡ true → length (drop 1 proposes) < length proposes
fewer_front [] h = absurd cc
fewer_front (a ∷ more) h = omega arith

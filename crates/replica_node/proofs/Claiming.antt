-- The message that is repeated next is the model's.
use Rattle.std.proofs.Common.{◌≡◌, ◌∙◌, ℕ, zero, suc, ◌+◌, ◌%◌, List, [], ◌∷◌, map, Option, Some, None, is_some, refl, sym, ap, subst}
use Rattle.std.specs.Option.{option_map}
use Rattle.paxos_world.specs.Stage as model
use Rattle.paxos_world.specs.Retransmitting as retransmitting
use Rattle.paxos_world.specs.Retransmitting.{claim, claim_at, claim_from, cursor_after}
use Rattle.retransmitter.specs.Slots as slots
use Rattle.retransmitter.specs.Slots.{live_from, next_live, slot_count}
use Rattle.retransmitter.specs.declared.outgoing.Outgoing.{Outgoing}
use Rattle.retransmitter.specs.declared.slots.Slot.{Slot}
use Rattle.retransmitter.proofs.SlotLemmas.{live_first, live_passed, live_found, live_none}
use Rattle.protocol_laws.specs.Arming.{model_outgoing}
use Rattle.protocol_stage.specs.Arming.{model_slot}
use Rattle.replica_node.proofs.Goals.{ClaimsAlike}

-- the message of a slot is the model's
live-alike : (all : List Slot) (k : ℕ) → retransmitting.live_at (map model_slot all) k ≡ option_map model_outgoing (slots.live_at all k)
live-alike [] k = refl
live-alike (s ∷ all) zero = refl
live-alike (s ∷ all) (suc k) = live-alike all k

-- the model's claim looks at each slot once
claim-first : (all : List model.Slot) (cursor n : ℕ) → n ≡ 256 → claim_from n all cursor ≡ claim all cursor
unfolding claim
claim-first all cursor n e = ap (λ k. claim_from k all cursor) e

-- a slot that is not live is passed over in the model
claim-passed : (n : ℕ) (all : List Slot) (cursor : ℕ) → slots.live_at all cursor ≡ None → claim_from (suc n) (map model_slot all) cursor ≡ claim_from n (map model_slot all) ((cursor + 1) % 256)
claim-passed n all cursor e = ap (λ x. claim_at cursor x (claim_from n (map model_slot all) (cursor_after cursor))) (live-alike all cursor ∙ ap (option_map model_outgoing) e)

-- a live slot is claimed in the model
claim-found : (n : ℕ) (all : List Slot) (cursor : ℕ) (o : Outgoing) → slots.live_at all cursor ≡ Some o → claim_from (suc n) (map model_slot all) cursor ≡ Some (cursor, model_outgoing o)
claim-found n all cursor o e = ap (λ x. claim_at cursor x (claim_from n (map model_slot all) (cursor_after cursor))) (live-alike all cursor ∙ ap (option_map model_outgoing) e)

-- where the code finds no live slot, the model claims none
none-from : (n : ℕ) (all : List Slot) (cursor : ℕ) → live_from n all cursor ≡ None → claim_from n (map model_slot all) cursor ≡ None
none-from zero all cursor e = refl
none-from (suc n) all cursor e = go (slots.live_at all cursor) refl (none-from n all ((cursor + 1) % 256))
  where
    go : (o : Option Outgoing) → slots.live_at all cursor ≡ o → (live_from n all ((cursor + 1) % 256) ≡ None → claim_from n (map model_slot all) ((cursor + 1) % 256) ≡ None) → claim_from (suc n) (map model_slot all) cursor ≡ None
    go None l rest = claim-passed n all cursor l ∙ rest (sym (live_passed n all cursor (ap is_some l)) ∙ e)
    go (Some o) l rest = let found = live_found n all cursor (ap is_some l) in absurd cc

-- what the model claims where the code finds this slot live
abbrev Found : ℕ → List Slot → ℕ → ℕ → Type 0
Found n all cursor k = (o : Outgoing) × (slots.live_at all k ≡ Some o) × (claim_from n (map model_slot all) cursor ≡ Some (k, model_outgoing o))

-- the model claims the slot that the code finds live
some-from : (n : ℕ) (all : List Slot) (cursor k : ℕ) → live_from n all cursor ≡ Some k → Found n all cursor k
some-from zero all cursor k e = let none = live_none all cursor in absurd cc
some-from (suc n) all cursor k e = go (slots.live_at all cursor) refl (some-from n all ((cursor + 1) % 256) k)
  where
    go : (o : Option Outgoing) → slots.live_at all cursor ≡ o → (live_from n all ((cursor + 1) % 256) ≡ Some k → Found n all ((cursor + 1) % 256) k) → Found (suc n) all cursor k
    go None l rest = let h = rest (sym (live_passed n all cursor (ap is_some l)) ∙ e) in (h.0, h.1, claim-passed n all cursor l ∙ h.2)
    go (Some o) l rest =
        let found = live_found n all cursor (ap is_some l) in
        let same : cursor ≡ k = cc in
        subst (Found (suc n) all cursor) same (o, l, claim-found n all cursor o l)

-- the message that is repeated next is the model's
pub claims-alike : ClaimsAlike
claims-alike = record { none = none; some = some }
  where
    none : (all : List Slot) (cursor : ℕ) → next_live all cursor ≡ None → claim (map model_slot all) cursor ≡ None
    none all cursor e = sym (claim-first (map model_slot all) cursor 256 refl) ∙ none-from 256 all cursor (live_first all cursor 256 refl ∙ e)

    some : (all : List Slot) (cursor k : ℕ) → next_live all cursor ≡ Some k
        → (o : Outgoing) × (slots.claim_of all k ≡ Some (slots.generation_at all k, o)) × (slots.live_at all k ≡ Some o) × (claim (map model_slot all) cursor ≡ Some (k, model_outgoing o))
    some all cursor k e =
        let h = some-from 256 all cursor k (live_first all cursor 256 refl ∙ e) in
        (h.0, ap (slots.under (slots.generation_at all k)) h.1, h.1, sym (claim-first (map model_slot all) cursor 256 refl) ∙ h.2)

-- What is repeated after some of what is armed is cancelled, or after one more is armed.
use Rattle.std.proofs.Common.{◌≡◌, ◌≢◌, ◌∙◌, ℕ, suc, ◌<◌, true, false, List, [], ◌∷◌, length, map, Option, Some, None, IfSome, is_some, inl, inr, refl, sym, ap, subst, arith}
use Rattle.std.specs.Option.{option_map}
use Rattle.std.proofs.lemmas.List.{get_or-set_same, length-set}
use Rattle.jp_types.specs.Lists.{In}
use Rattle.paxos_world.specs.Retransmitting.{free_armed, free_each}
use Rattle.retransmitter.specs.Armed.{Armed}
use Rattle.retransmitter.specs.Slots.{armed_at, cancelled, generation_at, is_free, new_slot, slot_at, slots_in}
use Rattle.retransmitter.specs.declared.outgoing.Outgoing.{Outgoing}
use Rattle.retransmitter.specs.declared.slots.Slot.{Slot}
use Rattle.protocol_stage.specs.Repeating.{armed_in, ended, ended_each}
use Rattle.protocol_stage.specs.Arming.{model_slot, model_armed, model_propose, list_of, AreApart, IsRepeated}
use Rattle.protocol_stage.proofs.Apart.{Parts, Joins}
use Rattle.protocol_stage.proofs.SlotLemmas.{cancelled-alike, left-repeated, repeated-still}

-- each of these is repeated, and no two are in one slot
pub record Holds (slots : List Slot) (all : List Armed) : Type 0 where
  pub repeated : (a : Armed) → In a all → IsRepeated slots a
  pub apart : AreApart all

-- by what the proposals of a list are cancelled
abbrev pub tokens_of : List (ℕ × Armed) → List Armed
tokens_of proposes = map (λ a. a.1) proposes

-- slots after each of these is cancelled
abbrev pub ends : List Slot → List Armed → List Slot
ends slots [] = slots
ends slots (a ∷ more) = ends (cancelled slots a) more

-- the slots of the code after one is cancelled, if there is one
pub ended-is : (slots : List Slot) (o : Option Armed) → ended slots o ≡ ends slots (list_of o)
ended-is slots None = refl
ended-is slots (Some a) = refl

-- the slots of the code after each proposal is cancelled
pub ended-each-is : (slots : List Slot) (proposes : List (ℕ × Armed)) → ended_each slots proposes ≡ ends slots (tokens_of proposes)
ended-each-is slots [] = refl
ended-each-is slots (a ∷ more) = ended-each-is (cancelled slots a.1) more

-- what is in none of the cancelled slots is repeated still
still-repeated : (slots : List Slot) (out : List Armed) (b : Armed) → ((a : Armed) → In a out → b.slot ≢ a.slot) → IsRepeated slots b → IsRepeated (ends slots out) b
still-repeated slots [] b other h = h
still-repeated slots (a ∷ out) b other h = still-repeated (cancelled slots a) out b (λ c x. other c (inr x)) (left-repeated slots a b (other a (inl refl)) h)

-- what is left after some are cancelled is repeated, each in a slot of its own
pub rest-holds : (slots : List Slot) (all out rest : List Armed) → Parts all out rest → Holds slots all → Holds (ends slots out) rest
rest-holds slots all out rest p h =
    record {
      repeated = λ b x. still-repeated slots out b (λ a y same. p.across h.apart a b y x (sym same)) (h.repeated b (p.rests b x));
      apart = p.rest_apart h.apart;
    }

-- what is taken out is repeated, each in a slot of its own
pub out-holds : (slots : List Slot) (all out rest : List Armed) → Parts all out rest → Holds slots all → Holds slots out
out-holds slots all out rest p h = record { repeated = λ a x. h.repeated a (p.outs a x); apart = p.out_apart h.apart }

-- what is left without a cancel is repeated, each in a slot of its own
pub dropped-holds : (slots : List Slot) (all out rest : List Armed) → Parts all out rest → Holds slots all → Holds slots rest
dropped-holds slots all out rest p h = record { repeated = λ a x. h.repeated a (p.rests a x); apart = p.rest_apart h.apart }

-- one is cancelled in the model as in the code, if there is one
pub ended-alike : (slots : List Slot) (o : Option Armed) → Holds slots (list_of o) → free_armed (map model_slot slots) (option_map model_armed o) ≡ map model_slot (ended slots o)
ended-alike slots None h = refl
ended-alike slots (Some a) h = cancelled-alike slots a (h.repeated a (inl refl))

-- each proposal is cancelled in the model as in the code
pub ended-each-alike : (slots : List Slot) (proposes : List (ℕ × Armed)) → Holds slots (tokens_of proposes) → free_each (map model_slot slots) (map model_propose proposes) ≡ map model_slot (ended_each slots proposes)
ended-each-alike slots [] h = refl
ended-each-alike slots (a ∷ more) h =
    let token : Armed = a.1 in
    let left : Holds (cancelled slots token) (tokens_of more) =
    record {
      repeated = λ b x. left-repeated slots token b (λ same. h.apart.0 b x (sym same)) (h.repeated b (inr x));
      apart = h.apart.1;
    } in
    ap (λ x. free_each x (map model_propose more)) (cancelled-alike slots token (h.repeated token (inl refl))) ∙ ended-each-alike (cancelled slots token) more left

-- ---- One more is armed

-- a slot that may be armed is not live
free-idle : (s : Slot) → is_free s ≡ true → is_some s.live ≡ true → ⊥
free-idle s free live = let no : is_free s ≡ false = rw live refl in absurd cc

-- a slot that may be armed is not in use
free-unused : (slots : List Slot) (k : ℕ) (b : Armed) → is_free (slot_at slots k) ≡ true → IsRepeated slots b → k ≢ b.slot
free-unused slots k b free h same = free-idle (slot_at slots b.slot) (subst (λ (n : ℕ). is_free (slot_at slots n) ≡ true) same free) h.live

-- what is armed in a free slot is repeated there
armed-repeated : (slots : List Slot) (m : Outgoing) (k : ℕ) → k < length slots → IsRepeated (armed_at slots k m) (record { slot = k; generation = suc (generation_at slots k) })
armed-repeated slots m k inside =
    let new : Slot = record { generation = suc (generation_at slots k); live = Some m } in
    let same : slot_at (armed_at slots k m) k ≡ new = get_or-set_same slots k new new_slot inside in
    let long : length (armed_at slots k m) ≡ length slots = length-set slots k new in
    record { inside = omega arith; generation = ap (λ (x : Slot). x.generation) same; live = ap (λ (x : Slot). is_some x.live) same }

-- with one more armed, if a slot is taken for it, each is repeated in a slot of its own
pub armed-holds : (slots : List Slot) (m : Outgoing) (o : Option ℕ) (old : List Armed) (new : Option Armed → List Armed)
    → IfSome o (λ k. (k < length slots) × (is_free (slot_at slots k) ≡ true)) → new None ≡ old → ((a : Armed) → Joins a old (new (Some a))) → Holds slots old
    → Holds (slots_in slots m o) (new (armed_in slots o))
armed-holds slots m None old new free none joins h = subst (Holds slots) (sym none) h
armed-holds slots m (Some k) old new free none joins h = record { repeated = repeated; apart = j.new_apart h.apart other }
  where
    a : Armed
    a = record { slot = k; generation = suc (generation_at slots k) }

    j : Joins a old (new (Some a))
    j = joins a

    other : (b : Armed) → In b old → k ≢ b.slot
    other b x = free-unused slots k b free.1 (h.repeated b x)

    repeated : (b : Armed) → In b (new (Some a)) → IsRepeated (armed_at slots k m) b
    repeated b x = elim (j.one_of b x) [
      | inl e ↦ subst (IsRepeated (armed_at slots k m)) (sym e) (armed-repeated slots m k free.0)
      | inr y ↦ repeated-still slots k (record { generation = suc (generation_at slots k); live = Some m }) b (λ same. other b y (sym same)) (h.repeated b y)
    ]

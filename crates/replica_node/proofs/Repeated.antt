-- What a message that is repeated is sent as, in the model and in the code.
use Rattle.std.proofs.Common.{◌≡◌, ◌∙◌, ℕ, zero, suc, Bool, true, false, List, [], ◌∷◌, ◌++◌, map, if◌then◌else◌, inl, inr, refl, sym, ap, subst}
use Rattle.std.proofs.lemmas.List.{map-append, append-nil, append_assoc}
use Rattle.jp_types.specs.declared.message.Message.{Message}
use Rattle.jp_types.specs.ReplicaSets.{is_member}
use Rattle.jp_types.specs.Lists.{In}
use Rattle.paxos_world.specs.Stage as model
use Rattle.paxos_world.specs.Writing.{for_each, says}
use Rattle.paxos_world.proofs.Basics.{In-append}
use Rattle.protocol_core.specs.declared.act.Act.{Act}
use Rattle.replica_node.specs.Following.{leaving}
use Rattle.replica_node.specs.Repeating.{sends_below}
use Rattle.protocol_laws.specs.Acting.{model_acts}
use Rattle.protocol_laws.specs.Arming.{members_below}
use Rattle.protocol_laws.specs.Coming.{SendsFitly, IsAddressed}

-- a message to each of these, as acts of the code
abbrev pub sends_each : Message → List ℕ → List Act
sends_each m qs = map (λ q. Act.Send q m) qs

-- a message to each of these, as acts of the model
abbrev pub says_each : Message → List ℕ → List model.Act
says_each m qs = map (λ q. model.Send q m) qs

-- a message goes to the members of a set
pub sends-below-is : (k : ℕ) (to : List Bool) (m : Message) → sends_below k to m ≡ sends_each m (members_below k to)
sends-below-is zero to m = refl
sends-below-is (suc k) to m =
    ap (λ x. x ++ (if is_member to k then Act.Send k m ∷ [] else [])) (sends-below-is k to m)
    ∙ ap (λ x. sends_each m (members_below k to) ++ x) (go (is_member to k))
    ∙ sym (map-append (λ q. Act.Send q m) (members_below k to) (if is_member to k then k ∷ [] else []))
  where
    go : (b : Bool) → (if b then Act.Send k m ∷ [] else []) ≡ sends_each m (if b then k ∷ [] else [])
    go true = refl
    go false = refl

-- sends are those of the model
pub model-each : (m : Message) (qs : List ℕ) → model_acts (sends_each m qs) ≡ says_each m qs
model-each m [] = refl
model-each m (q ∷ qs) = ap (λ x. model.Send q m ∷ x) (model-each m qs)

-- and all of them leave the replica in the model
pub leaving-each : (m : Message) (qs : List ℕ) → model_acts (sends_each m qs) ≡ leaving (model_acts (sends_each m qs))
leaving-each m [] = refl
leaving-each m (q ∷ qs) = ap (λ x. model.Send q m ∷ x) (leaving-each m qs)

-- what the model says to each of these is sent, in order
pub says-acts : (qs : List ℕ) (m : Message) (t : model.Turned) → (for_each qs (λ q. says q m) t).acts ≡ t.acts ++ says_each m qs
says-acts [] m t = sym (append-nil t.acts)
says-acts (q ∷ qs) m t = says-acts qs m (says q m t) ∙ append_assoc t.acts (model.Send q m ∷ []) (says_each m qs)

-- each of these is a member of the set
pub members-in : (k : ℕ) (to : List Bool) (q : ℕ) → In q (members_below k to) → is_member to q ≡ true
members-in zero to q x = absurd x
members-in (suc k) to q x = elim (In-append q (members_below k to) (if is_member to k then k ∷ [] else []) x) [
  | inl below ↦ members-in k to q below
  | inr last ↦ go (is_member to k) refl last
]
  where
    go : (b : Bool) → is_member to k ≡ b → In q (if b then k ∷ [] else []) → is_member to q ≡ true
    go true e (inl same) = subst (λ (n : ℕ). is_member to n ≡ true) (sym same) e
    go true e (inr none) = absurd none
    go false e none = absurd none

-- what may be sent to each of these is sent fitly
pub fit-each : (c : model.Config) (m : Message) (qs : List ℕ) → ((q : ℕ) → In q qs → IsAddressed c q m) → SendsFitly c (sends_each m qs)
fit-each c m [] may = tt
fit-each c m (q ∷ qs) may = (may q (inl refl), fit-each c m qs (λ p x. may p (inr x)))

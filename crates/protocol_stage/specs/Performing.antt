-- What a stage does with the acts of a life: what goes out, what is repeated after them, and the number that they save.
use Rattle.std.specs.Prelude.{◌≡◌, ℕ, ◌<◌, ◌⊎◌, List, [], ◌∷◌, ◌++◌, length, max, nat_lt, Bool, true, Option, Some, None, IfSome}
use Rattle.retransmitter.specs.Slots.{is_free, slot_at}
use Rattle.retransmitter.specs.declared.slots.Slot.{Slot}
use Rattle.stable_store.specs.Slots.{Loads}
use Rattle.protocol_core.specs.declared.act.Act.{Act}
use Rattle.protocol_stage.specs.Repeating.{Repeating, armed_for, cancelled_for, without_proposes}

-- ---- What goes out

-- an act that goes out: a step, a message or a decision
abbrev pub outward_of : Act → List Act
outward_of (Act.Step step) = Act.Step step ∷ []
outward_of (Act.Send to message) = Act.Send to message ∷ []
outward_of (Act.Hand decision) = Act.Hand decision ∷ []
outward_of (Act.Save number) = []
outward_of (Act.Arm topic outgoing) = []
outward_of (Act.Cancel topic) = []
outward_of Act.CancelProposes = []

-- those of these acts that go out, in order
abbrev pub outward : List Act → List Act
outward [] = []
outward (act ∷ acts) = outward_of act ++ outward acts

-- ---- What is repeated

-- what repeats messages may take this slot for one, which is free then, or none
abbrev pub Takes : (List Slot → Option ℕ → Type 0) → List Slot → Option ℕ → Type 0
Takes may_take slots k = may_take slots k × IfSome k (λ slot. (slot < length slots) × (is_free (slot_at slots slot) ≡ true))

-- what an act leaves repeated
abbrev pub RepeatsAfter : (List Slot → Option ℕ → Type 0) → Act → Repeating → Repeating → Type 0
RepeatsAfter may_take (Act.Step step) before after = after ≡ before
RepeatsAfter may_take (Act.Send to message) before after = after ≡ before
RepeatsAfter may_take (Act.Hand decision) before after = after ≡ before
RepeatsAfter may_take (Act.Save number) before after = after ≡ before
RepeatsAfter may_take (Act.Arm topic outgoing) before after = (k : Option ℕ) × Takes may_take before.slots k × (after ≡ armed_for topic outgoing k before)
RepeatsAfter may_take (Act.Cancel topic) before after = after ≡ cancelled_for topic before
RepeatsAfter may_take Act.CancelProposes before after = after ≡ without_proposes before

-- what these acts leave repeated, one after another
abbrev pub Repeats : (List Slot → Option ℕ → Type 0) → List Act → Repeating → Repeating → Type 0
Repeats may_take [] before after = after ≡ before
Repeats may_take (act ∷ acts) before after = (middle : Repeating) × RepeatsAfter may_take act before middle × Repeats may_take acts middle after

-- ---- The number on the disk

-- the number on the disk, where it held this one, if any, and one is to be saved
abbrev pub raised_number : Option ℕ → ℕ → ℕ
raised_number None saved = saved
raised_number (Some number) saved = max number saved

-- whether a number is above the one that the disk holds, if any
abbrev pub is_above : Option ℕ → ℕ → Bool
is_above None number = true
is_above (Some stored) number = nat_lt stored number

-- the number on the disk after an act
abbrev pub stored_by : Option ℕ → Act → Option ℕ
stored_by stored (Act.Step step) = stored
stored_by stored (Act.Send to message) = stored
stored_by stored (Act.Hand decision) = stored
stored_by stored (Act.Save number) = Some (raised_number stored number)
stored_by stored (Act.Arm topic outgoing) = stored
stored_by stored (Act.Cancel topic) = stored
stored_by stored Act.CancelProposes = stored

-- the number on the disk after these acts
abbrev pub stored_after : Option ℕ → List Act → Option ℕ
stored_after stored [] = stored
stored_after stored (act ∷ acts) = stored_after (stored_by stored act) acts

-- an image that loads one number or the other
abbrev pub LoadsOneOf : Option ℕ → Option ℕ → List ℕ → Type 0
LoadsOneOf before after image = Loads image before ⊎ Loads image after

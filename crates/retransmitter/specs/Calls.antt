-- What comes of arms, cancels and claims, one after another.
use Rattle.std.specs.Prelude.{◌≡◌, ℕ, suc, ◌≤◌, ◌⊎◌, List, [], ◌∷◌, ◌++◌, Some, None, Ok}
use Rattle.retransmitter.specs.declared.outgoing.Outgoing.{Outgoing}
use Rattle.retransmitter.specs.declared.slots.Slot.{Slot}
use Rattle.retransmitter.specs.Armed.{Armed}
use Rattle.retransmitter.specs.Slots.{arm_answer, cancelled, claim_of, free_slots, generation_at, live_at, slot_at, slots_armed}

-- a call on the slots
pub data Call : Type 0 where
  Arm : (m : Outgoing) → Call
  Cancel : (a : Armed) → Call
  Claim : (slot : ℕ) → Call

-- slots after a call; a claim changes none
abbrev pub after : List Slot → Call → List Slot
after slots (Arm m) = slots_armed slots m
after slots (Cancel a) = cancelled slots a
after slots (Claim k) = slots

-- slots after these calls, one after another
abbrev pub after_all : List Slot → List Call → List Slot
after_all slots [] = slots
after_all slots (call ∷ calls) = after_all (after slots call) calls

-- the slots of a new retransmitter after these calls
abbrev pub slots_after : List Call → List Slot
slots_after calls = after_all free_slots calls

-- a slot's generation never falls
abbrev pub GenerationsNeverFall : Type 0
GenerationsNeverFall = (calls more : List Call) (k : ℕ) → generation_at (slots_after calls) k ≤ generation_at (slots_after (calls ++ more)) k

-- an arm makes slot k live, which was not, under the next generation, and answers with both
pub record Begins (slots : List Slot) (call : Call) (k : ℕ) (slot : Slot) : Type 0 where
  pub message : Outgoing
  pub call_is : call ≡ Arm message
  pub free : live_at slots k ≡ None
  pub slot_is : slot ≡ record { generation = suc (generation_at slots k); live = Some message }
  pub answer : arm_answer slots message ≡ Ok (record { slot = k; generation = suc (generation_at slots k) })

-- a cancel of slot k under its generation makes it not live
pub record Ends (slots : List Slot) (call : Call) (k : ℕ) (slot : Slot) : Type 0 where
  pub call_is : call ≡ Cancel (record { slot = k; generation = generation_at slots k })
  pub slot_is : slot ≡ record { generation = generation_at slots k; live = None }

-- a slot stays as it is but where an arm makes it live and raises its generation by one, or a cancel ends it
abbrev pub OnlyArmsBegin : Type 0
OnlyArmsBegin = (slots : List Slot) (call : Call) (k : ℕ) → let slot = slot_at (after slots call) k in (slot ≡ slot_at slots k) ⊎ (Begins slots call k slot ⊎ Ends slots call k slot)

-- a claim of slot k shows this generation
abbrev pub IsLive : List Slot → ℕ → ℕ → Type 0
IsLive slots k generation = (m : Outgoing) × (claim_of slots k ≡ Some (generation, m))

-- a generation that was live and is not is never live again
abbrev pub LiveOnce : Type 0
LiveOnce = (calls more yet : List Call) (k generation : ℕ) → IsLive (slots_after calls) k generation → ¬ IsLive (slots_after (calls ++ more)) k generation → ¬ IsLive (slots_after (calls ++ more ++ yet)) k generation

-- one of these calls armed this message, and answered with this slot and generation
pub record WasArmed (slots : List Slot) (calls : List Call) (a : Armed) (m : Outgoing) : Type 0 where
  pub earlier : List Call
  pub later : List Call
  pub calls_are : calls ≡ earlier ++ Arm m ∷ later
  pub answer : arm_answer (after_all slots earlier) m ≡ Ok a

-- what was armed and is then cancelled is not live after that, whatever follows
abbrev pub CancelsEnd : Type 0
CancelsEnd = (calls more : List Call) (a : Armed) (m : Outgoing) → WasArmed free_slots calls a m → ¬ IsLive (slots_after (calls ++ Cancel a ∷ more)) a.slot a.generation

-- what a claim shows was armed under that slot and generation
abbrev pub ClaimsAreArmed : Type 0
ClaimsAreArmed = (calls : List Call) (a : Armed) (m : Outgoing) → claim_of (slots_after calls) a.slot ≡ Some (a.generation, m) → WasArmed free_slots calls a m

-- under a slot and a generation one arm answered at most
abbrev pub ArmedOnce : Type 0
ArmedOnce = (calls : List Call) (a : Armed) (m n : Outgoing) (x : WasArmed free_slots calls a m) (y : WasArmed free_slots calls a n) → (x.earlier ≡ y.earlier) × (m ≡ n)

-- The retransmitter's slots: arming, cancelling, and the next message to repeat.
use Rattle.std.specs.Prelude.{ℕ, zero, suc, ◌+◌, ◌-◌, ◌%◌, ◌^◌, Bool, ◌||◌, List, [], ◌∷◌, nat_le, ◌==◌, if◌then◌else◌, Option, Some, None, is_some}
use Rattle.jp_types.specs.declared.message.Message.{Message}
use Rattle.paxos_world.specs.Stage.{slot_count, Outgoing, Slot, Armed, Turned}
use Rattle.paxos_world.specs.Writing.{with_stage, others}

-- a slot in front of others, with what was armed among those
abbrev pub behind : Slot → List Slot × Option Armed → List Slot × Option Armed
behind slot r = (slot ∷ r.0, r.1)

-- a slot whose generation has come to this is not armed again
abbrev pub generation_limit : ℕ
generation_limit = 2 ^ 62 - 1

-- whether arming passes a slot over
abbrev pub is_taken : Slot → Bool
is_taken slot = is_some slot.live || nat_le generation_limit slot.generation

-- slots after a message is armed in the first that is not taken, and what was armed, None where each is taken. `at` is the number of the first slot
abbrev pub arm_from : ℕ → List Slot → Outgoing → List Slot × Option Armed
arm_from at [] m = ([], None)
arm_from at (slot ∷ slots) m =
    let later = behind slot (arm_from (suc at) slots m) in
    if is_taken slot then later else (record { generation = suc slot.generation; live = Some m } ∷ slots, Some (record { slot = at; generation = suc slot.generation }))

-- slots after slot k of them is free again
abbrev pub free_at : List Slot → ℕ → List Slot
free_at [] k = []
free_at (slot ∷ slots) zero = record slot { live = None } ∷ slots
free_at (slot ∷ slots) (suc k) = slot ∷ free_at slots k

-- slots after what is armed, if anything, is cancelled
abbrev pub free_armed : List Slot → Option Armed → List Slot
free_armed slots None = slots
free_armed slots (Some a) = free_at slots a.slot

-- slots after each of these is cancelled
abbrev pub free_each : List Slot → List (ℕ × Armed) → List Slot
free_each slots [] = slots
free_each slots (a ∷ more) = free_each (free_at slots a.1.slot) more

-- a Prepare is armed: it is repeated to all others until it is cancelled. Where each slot is taken, it is not armed
abbrev pub arms_prepare : Message → Turned → Turned
arms_prepare m = with_stage (λ s. let a = arm_from 0 s.slots (record { message = m; to = others s.config }) in record s { slots = a.0; armed_prepare = a.1 })

-- a Recovery is armed, for all others
abbrev pub arms_recovery : Message → Turned → Turned
arms_recovery m = with_stage (λ s. let a = arm_from 0 s.slots (record { message = m; to = others s.config }) in record s { slots = a.0; armed_recovery = a.1 })

-- a query is armed, for the replica that it went to
abbrev pub arms_query : Message → ℕ → Turned → Turned
arms_query m to = with_stage (λ s. let a = arm_from 0 s.slots (record { message = m; to = to ∷ [] }) in record s { slots = a.0; armed_query = a.1 })

-- the armed Proposes with one more, where it was armed
abbrev pub with_armed : ℕ → Option Armed → List (ℕ × Armed) → List (ℕ × Armed)
with_armed i None proposes = proposes
with_armed i (Some a) proposes = (i, a) ∷ proposes

-- the Propose of an instance is armed, for all others
abbrev pub arms_propose : ℕ → Message → Turned → Turned
arms_propose i m =
    with_stage (λ s.
    let a = arm_from 0 s.slots (record { message = m; to = others s.config }) in
    record s { slots = a.0; armed_proposes = with_armed i a.1 s.armed_proposes })

-- the armed Prepare is cancelled: it is repeated no more
abbrev pub cancels_prepare : Turned → Turned
cancels_prepare = with_stage (λ s. record s { slots = free_armed s.slots s.armed_prepare; armed_prepare = None })

-- the armed Recovery is cancelled
abbrev pub cancels_recovery : Turned → Turned
cancels_recovery = with_stage (λ s. record s { slots = free_armed s.slots s.armed_recovery; armed_recovery = None })

-- the armed query is cancelled
abbrev pub cancels_query : Turned → Turned
cancels_query = with_stage (λ s. record s { slots = free_armed s.slots s.armed_query; armed_query = None })

-- the armed Proposes of this instance
abbrev pub proposes_of : ℕ → List (ℕ × Armed) → List (ℕ × Armed)
proposes_of i [] = []
proposes_of i (a ∷ more) = let rest = proposes_of i more in if a.0 == i then a ∷ rest else rest

-- the armed Proposes of all other instances
abbrev pub proposes_but : ℕ → List (ℕ × Armed) → List (ℕ × Armed)
proposes_but i [] = []
proposes_but i (a ∷ more) = let rest = proposes_but i more in if a.0 == i then rest else a ∷ rest

-- the armed Propose of an instance is cancelled
abbrev pub cancels_propose : ℕ → Turned → Turned
cancels_propose i =
    with_stage (λ s. record s { slots = free_each s.slots (proposes_of i s.armed_proposes); armed_proposes = proposes_but i s.armed_proposes })

-- each armed Propose is cancelled
abbrev pub cancels_proposes : Turned → Turned
cancels_proposes = with_stage (λ s. record s { slots = free_each s.slots s.armed_proposes; armed_proposes = [] })

-- the message of slot k, if it is live
abbrev pub live_at : List Slot → ℕ → Option Outgoing
live_at [] k = None
live_at (slot ∷ slots) zero = slot.live
live_at (slot ∷ slots) (suc k) = live_at slots k

-- a live slot with its message, or else what is found behind it
abbrev pub claim_at : ℕ → Option Outgoing → Option (ℕ × Outgoing) → Option (ℕ × Outgoing)
claim_at at (Some m) later = Some (at, m)
claim_at at None later = later

-- the cursor one past a slot, cyclically
abbrev pub cursor_after : ℕ → ℕ
cursor_after slot = (slot + 1) % slot_count

-- the first live slot among k from the cursor on, cyclically, with its message
abbrev pub claim_from : ℕ → List Slot → ℕ → Option (ℕ × Outgoing)
claim_from zero slots cursor = None
claim_from (suc k) slots cursor = let later = claim_from k slots (cursor_after cursor) in claim_at cursor (live_at slots cursor) later

-- the first live slot from the cursor on, if there is one
unfoldable pub claim : List Slot → ℕ → Option (ℕ × Outgoing)
claim slots cursor = claim_from slot_count slots cursor

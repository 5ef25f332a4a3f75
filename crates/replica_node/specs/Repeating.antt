-- A step of the Retransmitter.
use Rattle.std.specs.Prelude.{ℕ, zero, suc, ◌+◌, ◌%◌, Bool, List, [], ◌∷◌, ◌++◌, if◌then◌else◌, Option, Some, None}
use Rattle.jp_types.specs.ReplicaSets.{is_member}
use Rattle.jp_types.specs.declared.message.Message.{Message}
use Rattle.protocol_core.specs.declared.act.Act.{Act}
use Rattle.retransmitter.specs.Slots.{claim_of, next_live, slot_count}
use Rattle.retransmitter.specs.declared.outgoing.Outgoing.{Outgoing}
use Rattle.replica_node.specs.Stepping.{Stepping, done, refused}
use Rattle.replica_node.specs.declared.stages.Stages.{Stages}
use Rattle.replica_node.specs.declared.stages.Taken.{Taken}

-- a message goes to each member of a set below k, in ascending order
abbrev pub sends_below : ℕ → List Bool → Message → List Act
sends_below zero to m = []
sends_below (suc k) to m = sends_below k to m ++ (if is_member to k then Act.Send k m ∷ [] else [])

-- a message goes to each of its addressees, in ascending order
abbrev pub sends_of : Outgoing → List Act
sends_of outgoing = sends_below 9 outgoing.to outgoing.message

-- what is sent for a claimed slot
abbrev pub claimed_sends : Option (ℕ × Outgoing) → List Act
claimed_sends None = []
claimed_sends (Some claimed) = sends_of claimed.1

-- the Retransmitter repeats the message of a slot, if there is one, and its cursor goes one past it
abbrev pub repeated : Stages → Option ℕ → Stepping
repeated s None = refused Taken.Empty s
repeated s (Some slot) = done (claimed_sends (claim_of s.protocol.repeating.slots slot)) (record s { cursor = (slot + 1) % slot_count })

-- a step of the Retransmitter: it repeats the first live message from its cursor on
abbrev pub retransmit_step : Stages → Stepping
retransmit_step s = repeated s (next_live s.protocol.repeating.slots s.cursor)

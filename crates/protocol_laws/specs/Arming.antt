-- What is armed at a stage of the model, and what the acts of a life make of it.
use Rattle.std.specs.Prelude.{ℕ, zero, suc, Bool, List, [], ◌∷◌, ◌++◌, if◌then◌else◌, Option, None}
use Rattle.jp_types.specs.ReplicaSets.{is_member}
use Rattle.paxos_world.specs.Stage.{Slot, Armed, Stage}
use Rattle.paxos_world.specs.Stage as model
use Rattle.paxos_world.specs.Retransmitting.{arm_from, free_armed, free_each, with_armed, proposes_of, proposes_but}
use Rattle.retransmitter.specs.declared.outgoing.Outgoing.{Outgoing}
use Rattle.protocol_core.specs.declared.act.Act.{Act}
use Rattle.protocol_core.specs.declared.act.Topic.{Topic}

-- the slots of a stage, and what is armed in them
pub record Arming : Type 0 where
  pub slots : List Slot
  pub prepare : Option Armed
  pub recovery : Option Armed
  pub query : Option Armed
  pub proposes : List (ℕ × Armed)

-- what is armed at a stage
abbrev pub arming_of : Stage → Arming
arming_of s = record { slots = s.slots; prepare = s.armed_prepare; recovery = s.armed_recovery; query = s.armed_query; proposes = s.armed_proposes }

-- the members of a set that are below k, in ascending order
abbrev pub members_below : ℕ → List Bool → List ℕ
members_below zero set = []
members_below (suc k) set = members_below k set ++ (if is_member set k then k ∷ [] else [])

-- a message and the replicas that it goes to, as the model has them
abbrev pub model_outgoing : Outgoing → model.Outgoing
model_outgoing o = record { message = o.message; to = members_below 9 o.to }

-- a message is armed for a topic
abbrev pub armed_for : Topic → model.Outgoing → Arming → Arming
armed_for Topic.Prepare m a = let x = arm_from 0 a.slots m in record a { slots = x.0; prepare = x.1 }
armed_for Topic.Recovery m a = let x = arm_from 0 a.slots m in record a { slots = x.0; recovery = x.1 }
armed_for Topic.Query m a = let x = arm_from 0 a.slots m in record a { slots = x.0; query = x.1 }
armed_for (Topic.Propose i) m a = let x = arm_from 0 a.slots m in record a { slots = x.0; proposes = with_armed i x.1 a.proposes }

-- what is armed for a topic is cancelled
abbrev pub cancelled_for : Topic → Arming → Arming
cancelled_for Topic.Prepare a = record a { slots = free_armed a.slots a.prepare; prepare = None }
cancelled_for Topic.Recovery a = record a { slots = free_armed a.slots a.recovery; recovery = None }
cancelled_for Topic.Query a = record a { slots = free_armed a.slots a.query; query = None }
cancelled_for (Topic.Propose i) a = record a { slots = free_each a.slots (proposes_of i a.proposes); proposes = proposes_but i a.proposes }

-- what an act leaves armed
abbrev pub armed_by : Arming → Act → Arming
armed_by a (Act.Step step) = a
armed_by a (Act.Send to message) = a
armed_by a (Act.Hand decision) = a
armed_by a (Act.Save number) = a
armed_by a (Act.Arm topic outgoing) = armed_for topic (model_outgoing outgoing) a
armed_by a (Act.Cancel topic) = cancelled_for topic a
armed_by a Act.CancelProposes = record a { slots = free_each a.slots a.proposes; proposes = [] }

-- what these acts leave armed, one after another
abbrev pub armed_after : Arming → List Act → Arming
armed_after a [] = a
armed_after a (act ∷ acts) = armed_after (armed_by a act) acts

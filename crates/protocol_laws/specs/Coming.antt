-- What may come to a life, and what it sends.
use Rattle.std.specs.Prelude.{◌≡◌, ◌≢◌, ℕ, suc, ◌≤◌, ◌<◌, ◌^◌, true, List, [], ◌∷◌, length}
use Rattle.jp_types.specs.declared.message.Message.{Message}
use Rattle.jp_types.specs.declared.mode.Mode.{Mode}
use Rattle.jp_types.specs.ReplicaSets.{is_member}
use Rattle.kv_service.specs.Parts.{part_size}
use Rattle.paxos_world.specs.Stage.{Config, Stage, Item, Came, Closed, Tick, Suspect, Snapped}
use Rattle.core_laws.specs.RejoinLaws.{IsPlain}
use Rattle.retransmitter.specs.declared.outgoing.Outgoing.{Outgoing}
use Rattle.service_manager.specs.declared.decision.Decision.{Decision}
use Rattle.protocol_core.specs.declared.act.Act.{Act}

-- what a life sends in a mode: instances of proposals and acceptances within the limit of numbers, vectors of all 0 in ViewSS, and parts of a state within the limit
abbrev pub IsSendable : Mode → Message → Type 0
IsSendable mode (Message.Prepare m) = Unit {0}
IsSendable mode (Message.PrepareOk m) = IsPlain mode m.vector
IsSendable mode (Message.Propose m) = m.instance ≤ 2 ^ 48
IsSendable mode (Message.Accept m) = m.instance ≤ 2 ^ 48
IsSendable mode (Message.Recovery m) = Unit {0}
IsSendable mode (Message.RecoveryAnswer m) = IsPlain mode m.vector
IsSendable mode (Message.CatchUpQuery m) = Unit {0}
IsSendable mode (Message.CatchUpReply m) = Unit {0}
IsSendable mode (Message.SnapshotPart m) = (m.total ≤ 2 ^ 28) × (length m.bytes ≤ part_size)
IsSendable mode (Message.Alive m) = Unit {0}

-- an item may come to a stage: a message of another replica that may be sent, or a snapshot of what was handed to the own service
abbrev pub Comes : Stage → Item → Type 0
Comes s (Came from message) = (from.replica < s.config.n) × (from.replica ≢ s.config.me) × IsSendable s.config.mode message
Comes s (Closed batch) = Unit {0}
Comes s Tick = Unit {0}
Comes s Suspect = Unit {0}
Comes s (Snapped upto bytes) = (upto ≤ s.handed) × (length bytes ≤ 2 ^ 28)

-- ---- What acts do

-- a message that may be sent goes to another replica
pub record IsAddressed (c : Config) (to : ℕ) (m : Message) : Type 0 where
  pub below : to < c.n
  pub other : to ≢ c.me
  pub may : IsSendable c.mode m

-- a message that may be sent is repeated to other replicas
abbrev pub IsRepeatable : Config → Outgoing → Type 0
IsRepeatable c o = (q : ℕ) → is_member o.to q ≡ true → IsAddressed c q o.message

-- acts send, and have repeated, only messages that may be sent, and to other replicas
abbrev pub SendsFitly : Config → List Act → Type 0
SendsFitly c [] = Unit {0}
SendsFitly c (Act.Step step ∷ acts) = SendsFitly c acts
SendsFitly c (Act.Send to message ∷ acts) = IsAddressed c to message × SendsFitly c acts
SendsFitly c (Act.Hand decision ∷ acts) = SendsFitly c acts
SendsFitly c (Act.Save number ∷ acts) = SendsFitly c acts
SendsFitly c (Act.Arm topic outgoing ∷ acts) = IsRepeatable c outgoing × SendsFitly c acts
SendsFitly c (Act.Cancel topic ∷ acts) = SendsFitly c acts
SendsFitly c (Act.CancelProposes ∷ acts) = SendsFitly c acts

-- the place behind a decision
abbrev pub place_behind : Decision → ℕ
place_behind (Decision.Decided i batch) = suc i
place_behind (Decision.Install upto state) = upto

-- the decisions that acts hand on lie below this place
abbrev pub HandsBelow : ℕ → List Act → Type 0
HandsBelow place [] = Unit {0}
HandsBelow place (Act.Step step ∷ acts) = HandsBelow place acts
HandsBelow place (Act.Send to message ∷ acts) = HandsBelow place acts
HandsBelow place (Act.Hand decision ∷ acts) = (place_behind decision ≤ place) × HandsBelow place acts
HandsBelow place (Act.Save number ∷ acts) = HandsBelow place acts
HandsBelow place (Act.Arm topic outgoing ∷ acts) = HandsBelow place acts
HandsBelow place (Act.Cancel topic ∷ acts) = HandsBelow place acts
HandsBelow place (Act.CancelProposes ∷ acts) = HandsBelow place acts

-- The messages that are sent, and the bytes of their frames.
use Rattle.std.specs.Prelude.{ℕ, suc, List, [], ◌∷◌, ◌++◌, ◌==◌, if◌then◌else◌, sum_by, Option, Some, None}
use Rattle.jp_types.specs.Sizes.{frame_size}
use Rattle.paxos_world.specs.declared.step.Step.{Step}
use Rattle.protocol_core.specs.declared.act.Act.{Act}
use Rattle.cluster.specs.declared.sent.Sent.{Sent}
use Rattle.schedules.specs.Cluster.{kind_of}

-- the bytes of all these frames
abbrev pub frame_bytes : List Sent → ℕ
frame_bytes sent = sum_by (λ m. frame_size m.message) sent

-- how many bytes the frames of a run may have
abbrev pub frame_limit : ℕ
frame_limit = 268435456

-- a message, if it was sent to this replica
abbrev pub addressed : ℕ → Option Sent → Option Sent
addressed r None = None
addressed r (Some m) = if m.to == r then Some m else None

-- what an act shows, where the next message has this number
abbrev pub shown_of : ℕ → Act → List Step
shown_of number (Act.Step step) = step ∷ []
shown_of number (Act.Send to m) = Step.Send number to (kind_of m) ∷ []
shown_of number (Act.Hand d) = []
shown_of number (Act.Save k) = []
shown_of number (Act.Arm topic outgoing) = []
shown_of number (Act.Cancel topic) = []
shown_of number Act.CancelProposes = []

-- the number of the next message after an act
abbrev pub number_after : ℕ → Act → ℕ
number_after number (Act.Step step) = number
number_after number (Act.Send to m) = suc number
number_after number (Act.Hand d) = number
number_after number (Act.Save k) = number
number_after number (Act.Arm topic outgoing) = number
number_after number (Act.Cancel topic) = number
number_after number Act.CancelProposes = number

-- the steps that acts show, where the next message has this number
abbrev pub shown_by : ℕ → List Act → List Step
shown_by number [] = []
shown_by number (act ∷ acts) = shown_of number act ++ shown_by (number_after number act) acts

-- the message that an act of a replica sends, if it sends one
abbrev pub sent_of : ℕ → Act → List Sent
sent_of from (Act.Step step) = []
sent_of from (Act.Send to m) = record { from = from; to = to; message = m } ∷ []
sent_of from (Act.Hand d) = []
sent_of from (Act.Save k) = []
sent_of from (Act.Arm topic outgoing) = []
sent_of from (Act.Cancel topic) = []
sent_of from Act.CancelProposes = []

-- the messages that acts of a replica send, in order
abbrev pub sent_by : ℕ → List Act → List Sent
sent_by from [] = []
sent_by from (act ∷ acts) = sent_of from act ++ sent_by from acts

-- Single acts of a life, and sends to all other replicas.
use Rattle.std.specs.Prelude.{ℕ, zero, suc, List, [], ◌∷◌, ◌++◌, if◌then◌else◌, ◌==◌}
use Rattle.jp_types.specs.declared.message.Message.{Message}
use Rattle.paxos_world.specs.declared.step.Step.{Step}
use Rattle.protocol_core.specs.declared.act.Act.{Act}
use Rattle.protocol_core.specs.declared.act.Topic.{Topic}
use Rattle.protocol_core.specs.declared.life.Life.{Life}
use Rattle.protocol_core.specs.Others.{others_below}
use Rattle.protocol_core.specs.Turned.{Turned}

-- to each replica below k but me, in ascending order
abbrev pub to_all : ℕ → ℕ → Message → List Act
to_all zero me m = []
to_all (suc k) me m = to_all k me m ++ (if k == me then [] else Act.Send k m ∷ [])

-- a message is repeated to all others
abbrev pub armed_for_all : ℕ → ℕ → Topic → Message → List Act
armed_for_all n me topic m = Act.Arm topic (record { to = others_below n me; message = m }) ∷ []

-- one act, which leaves the life so
abbrev pub does : Act → Life → Turned
does act life = record { life = life; acts = act ∷ [] }

-- a step is shown, which leaves the life so
abbrev pub shown : Step → Life → Turned
shown step life = does (Act.Step step) life

-- a message goes to all others, and is repeated to them until it is cancelled
abbrev pub sent_and_armed : Topic → Message → Life → Turned
sent_and_armed topic m life =
    record { life = life; acts = to_all life.config.n life.config.me m ++ armed_for_all life.config.n life.config.me topic m }

-- a message goes to all others
abbrev pub sent_to_all : Message → Life → Turned
sent_to_all m life = record { life = life; acts = to_all life.config.n life.config.me m }

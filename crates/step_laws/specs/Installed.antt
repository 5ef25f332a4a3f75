-- Which state a turn installs, and which decisions it hands on.
use Rattle.std.specs.Prelude.{ℕ, zero, suc, ◌&&◌, not, List, [], ◌∷◌, nat_lt, ◌==◌, if◌then◌else◌, Option, Some, None}
use Rattle.std.specs.Option.{option_map_or}
use Rattle.jp_types.specs.declared.message.Message.{Message}
use Rattle.jp_types.specs.declared.message.SnapshotPart.{SnapshotPart}
use Rattle.kv_service.specs.Parts.{Joiner, is_joined, joined_bytes, takes_part, with_part}
use Rattle.kv_service.specs.Service.{State}
use Rattle.kv_service.specs.StateReading.{state_in}
use Rattle.paxos_world.specs.declared.step.Step.{Step}
use Rattle.paxos_world.specs.CatchingUp.{is_joining_above, joiner_for}
use Rattle.paxos_world.specs.Logs.{first_undecided}
use Rattle.paxos_world.specs.Settling.{next_handing}
use Rattle.paxos_world.specs.Stage.{Stage, Item, Came, Decision}

-- the step of installing a state at a place, where there is one that executed as many instances
abbrev pub installed_at : ℕ → ℕ → Option State → List Step
installed_at me upto None = []
installed_at me upto (Some state) = if state.executed == upto then Step.Install me upto ∷ [] else []

-- the same of the bytes of a joiner, where it holds all parts
abbrev pub installed_of : ℕ → Joiner → List Step
installed_of me j = if is_joined j then installed_at me j.upto (state_in (joined_bytes j)) else []

-- the same of a joiner that takes this part
abbrev pub installed_with : ℕ → Joiner → SnapshotPart → List Step
installed_with me j m = if takes_part j m then installed_of me (with_part j m) else []

-- what an item makes a stage install: the part with which all parts are held of a state above all that is known, where no part of a higher place is held
abbrev pub installed_by : Stage → Item → List Step
installed_by s (Came from (Message.SnapshotPart m)) =
    if nat_lt (first_undecided s) m.upto && not (is_joining_above s.joiner m.upto) then installed_with s.config.me (joiner_for s.joiner m.upto m.total) m else []
installed_by s _ = []

-- the decisions that a stage hands on which handed on all below this instance, at most `room` of them: each time an installed state above it, or else the batch that is known there
abbrev pub handings : ℕ → Stage → ℕ → List Decision
handings zero s handed = []
handings (suc room) s handed = option_map_or (λ handing. handing.0 ∷ handings room s handing.1) (next_handing (record s { handed = handed })) []

-- Which view a turn enters, which ones it promises, which recovery it answers, and which proposal it votes on, in the words of the item that it takes.
use Rattle.std.specs.Prelude.{ℕ, suc, Bool, ◌&&◌, not, List, [], ◌∷◌, nat_le, nat_lt, ◌==◌, if◌then◌else◌, Option, Some, None, is_some}
use Rattle.std.specs.Option.{unwrap_or}
use Rattle.jp_types.specs.declared.message.Message.{Message}
use Rattle.jp_types.specs.declared.message.Propose.{Propose}
use Rattle.jp_types.specs.Views.{leader, next_led, number_if}
use Rattle.paxos_world.specs.declared.step.Step.{Step}
use Rattle.paxos_world.specs.Life.{next_of}
use Rattle.paxos_world.specs.Stage.{Stage, Item, Came, Closed, Tick, Suspect, Snapped}
use Rattle.paxos_world.specs.Leading.{works, leads, leads_own, is_view_ss}
use Rattle.paxos_world.specs.Logs.{is_in_span}
use Rattle.paxos_world.specs.Turn.{quiet_limit}

-- the view that a message of p makes a Working stage enter: that of a Prepare, a Propose or an Alive of the view's leader, or in ViewSS the mark of a Recovery, where it is above the own one
abbrev pub view_from : Stage → ℕ → Message → Option ℕ
view_from s p (Message.Prepare m) = number_if (leads s p m.view && nat_lt s.life.view m.view) m.view
view_from s p (Message.Propose m) = number_if (leads s p m.view && nat_lt s.life.view m.view) m.view
view_from s p (Message.Alive m) = number_if (leads s p m.view && nat_lt s.life.view m.view) m.view
view_from s p (Message.Recovery m) = number_if (is_view_ss s.config.mode && nat_lt s.life.view m.mark) m.mark
view_from s p _ = None

-- the view that an item makes a Working stage enter: by a message; or by a suspicion, or the tick that is the last that it waits for its leader, the next view that it leads itself
abbrev pub view_asked : Stage → Item → Option ℕ
view_asked s (Came from m) = view_from s from.replica m
view_asked s (Closed batch) = None
view_asked s Tick = if not (leads_own s) && (suc s.quiet == quiet_limit) then next_led s.config.n s.config.me s.life.view else None
view_asked s Suspect = next_led s.config.n s.config.me s.life.view
view_asked s (Snapped upto bytes) = None

-- the view that a turn enters, if it enters one
abbrev pub entered_view : Stage → Item → Option ℕ
entered_view s item = if works s then view_asked s item else None

-- the steps of entering a view, if there is one
abbrev pub enters : ℕ → Option ℕ → List Step
enters me None = []
enters me (Some view) = Step.Enter me view ∷ []

-- the promise of a view to itself, if there is one and the replica leads it: phase 1 begins
abbrev pub own_promise : ℕ → ℕ → Option ℕ → List Step
own_promise n me None = []
own_promise n me (Some view) = if leader n view == me then Step.Promise me view ∷ [] else []

-- the promise to who asks: a Prepare of the leader of its view, to a Working stage whose view is not above it
abbrev pub asked_promise : Stage → Item → List Step
asked_promise s (Came from (Message.Prepare m)) = if works s && leads s from.replica m.view && nat_le s.life.view m.view then Step.Promise s.config.me m.view ∷ [] else []
asked_promise s _ = []

-- the answer to a recovery, by a Working stage: with the view that it is then in, and with `next` where it is Prepared there
abbrev pub recovery_answer : Stage → Item → List Step
recovery_answer s (Came from (Message.Recovery m)) =
    let entered = entered_view s (Came from (Message.Recovery m)) in
    if works s then Step.Answer s.config.me from.replica (unwrap_or entered s.life.view) (if is_some entered then None else next_of s.life.leading) ∷ [] else []
recovery_answer s _ = []

-- whether a stage may vote on a proposal of p: it is Working, p leads the proposal's view, its own view is not above that, and the instance is in span
abbrev pub may_vote : Stage → ℕ → Propose → Bool
may_vote s p m = works s && leads s p m.view && nat_le s.life.view m.view && is_in_span s m.instance

-- the vote on a proposal, where the stage may vote on it
abbrev pub proposal_vote : Stage → Item → List Step
proposal_vote s (Came from (Message.Propose m)) = if may_vote s from.replica m then Step.Vote s.config.me m.view m.instance ∷ [] else []
proposal_vote s _ = []

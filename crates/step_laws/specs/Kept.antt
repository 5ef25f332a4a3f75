-- What a turn saves, and what a stage has after it of what it counts and holds beside its life.
use Rattle.std.specs.Prelude.{ℕ, suc, ◌&&◌, not, List, [], ◌∷◌, ◌++◌, length, nat_lt, if◌then◌else◌, Option, Some, None, is_some}
use Rattle.jp_types.specs.Instances.{Batch}
use Rattle.paxos_world.specs.Leading.{is_leading, is_view_ss, leads, leads_own, works}
use Rattle.paxos_world.specs.Stage.{Stage, Item, Came, Closed, Tick, Suspect, Snapped, Decision, Decided, Installed}
use Rattle.paxos_world.specs.Turn.{quiet_limit, waiting_limit}
use Rattle.step_laws.specs.Views.{entered_view}

-- ---- What is saved

-- the view that is saved as a stage enters one, if it does: in ViewSS, where the disk holds a lower number
abbrev pub saved_on_entering : Stage → Option ℕ → List ℕ
saved_on_entering s None = []
saved_on_entering s (Some view) = if is_view_ss s.config.mode && nat_lt s.stable view then view ∷ [] else []

-- the view that is saved as a stage rejoins in one, if it does: in ViewSS, where it is above the mark
abbrev pub saved_on_rejoining : Stage → Option ℕ → List ℕ
saved_on_rejoining s None = []
saved_on_rejoining s (Some view) = if is_view_ss s.config.mode && nat_lt s.life.mark view then view ∷ [] else []

-- ---- What waits

-- the waiting batches where a view is entered, if one is: a stage that leads it keeps them, and another drops them
abbrev pub waiting_in : Stage → Option ℕ → List Batch
waiting_in s None = s.waiting
waiting_in s (Some view) = if leads s s.config.me view then s.waiting else []

-- the waiting batches after an item: a closed batch waits behind them, where the stage works, is in phase 1 or Prepared, and fewer than the limit wait
abbrev pub waiting_after : Stage → Item → List Batch
waiting_after s (Closed batch) = if works s && is_leading s.life.leading && nat_lt (length s.waiting) waiting_limit then s.waiting ++ batch ∷ [] else s.waiting
waiting_after s item = waiting_in s (entered_view s item)

-- ---- What was handed on

-- the place behind the last of these decisions, or this one where there are none
abbrev pub handed_behind : ℕ → List Decision → ℕ
handed_behind place [] = place
handed_behind place (Decided i batch ∷ decisions) = handed_behind (suc i) decisions
handed_behind place (Installed upto state ∷ decisions) = handed_behind upto decisions

-- ---- Ticks without the leader

-- the ticks without the leader where no view is entered: a message of the leader of the own view ends the count, and a tick at a Working stage that does not lead its view is counted, up to the limit
abbrev pub quiet_counted : Stage → Item → ℕ
quiet_counted s (Came from m) = if leads s from.replica s.life.view then 0 else s.quiet
quiet_counted s (Closed batch) = s.quiet
quiet_counted s Tick = if works s && not (leads_own s) && nat_lt s.quiet quiet_limit then suc s.quiet else s.quiet
quiet_counted s Suspect = s.quiet
quiet_counted s (Snapped upto bytes) = s.quiet

-- the same after an item: the count begins anew in a view that is entered
abbrev pub quiet_after : Stage → Item → ℕ
quiet_after s item = if is_some (entered_view s item) then 0 else quiet_counted s item

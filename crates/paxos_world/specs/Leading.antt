-- Raising the view, and phase 1 in a view that the replica leads.
use Rattle.std.specs.Prelude.{ℕ, Bool, true, false, ◌&&◌, not, [], nat_lt, ◌==◌}
use Rattle.jp_types.specs.declared.message.Message.{Message}
use Rattle.jp_types.specs.declared.mode.Phase.{Phase}
use Rattle.jp_types.specs.declared.mode.Phase.TheVariants.{Recovering, Working}
use Rattle.jp_types.specs.declared.mode.Mode.{Mode}
use Rattle.jp_types.specs.declared.mode.Mode.TheVariants.{ViewSs, EpochSs}
use Rattle.paxos_world.specs.declared.step.Step.{Step}
use Rattle.jp_types.specs.Views.{leader, next_led}
use Rattle.paxos_world.specs.Life.{Leading, No, Preparing, Leads}
use Rattle.paxos_world.specs.World.{Deed}
use Rattle.paxos_world.specs.Stage.{Stage, Turned}
use Rattle.paxos_world.specs.Writing.{◌▹◌, when, when_some, with_stage, shows, saves, says_to_all}
use Rattle.paxos_world.specs.Logs.{first_undecided}
use Rattle.paxos_world.specs.Retransmitting.{arms_prepare, cancels_prepare, cancels_proposes}

-- whether the phase is Working
abbrev pub is_working : Phase → Bool
is_working Recovering = false
is_working Working = true

-- whether the life is Working
abbrev pub works : Stage → Bool
works s = is_working s.life.phase

-- whether the mode is ViewSS
abbrev pub is_view_ss : Mode → Bool
is_view_ss ViewSs = true
is_view_ss EpochSs = false

-- whether p leads a view
abbrev pub leads : Stage → ℕ → ℕ → Bool
leads s p view = leader s.config.n view == p

-- whether the stage leads its view
abbrev pub leads_own : Stage → Bool
leads_own s = leads s s.config.me s.life.view

-- whether a life is in phase 1 or Prepared
abbrev pub is_leading : Leading → Bool
is_leading No = false
is_leading (Preparing first) = true
is_leading (Leads lead) = true

-- the Prepare of a stage in phase 1
abbrev pub prepare_of : Stage → ℕ → Message
prepare_of s first = Message.Prepare (record { view = s.life.view; first = first; mark = s.life.mark })

-- phase 1 in the own view, from an instance on
abbrev pub begin_from : ℕ → Turned → Turned
begin_from first t =
    let s = t.stage in
    t ▹ shows (Step.Promise s.config.me s.life.view) (Deed.Open s.life.view first)
    ▹ says_to_all (prepare_of s first)
    ▹ arms_prepare (prepare_of s first)

-- phase 1 in the own view, from the first undecided instance on
abbrev pub begin_phase_1 : Turned → Turned
begin_phase_1 t = begin_from (first_undecided t.stage) t

-- the waiting batches are dropped
abbrev pub drop_waiting : Turned → Turned
drop_waiting = with_stage (λ s. record s { waiting = [] })

-- the view is raised to this one, which is above it. In ViewSS it is saved first, where the disk holds a lower number. A leader of the new view begins phase 1, and others drop what waits
abbrev pub raise_to : ℕ → Turned → Turned
raise_to view t =
    let s = t.stage in
    t ▹ when (is_view_ss s.config.mode && nat_lt s.stable view) (saves view)
    ▹ shows (Step.Enter s.config.me view) (Deed.Enter view)
    ▹ cancels_prepare
    ▹ cancels_proposes
    ▹ with_stage (λ s. record s { quiet = 0 })
    ▹ when (leads s s.config.me view) begin_phase_1
    ▹ when (not (leads s s.config.me view)) drop_waiting

-- a Working stage whose view is below this one raises its view to it
abbrev pub raise_up_to : ℕ → Turned → Turned
raise_up_to view t = when (works t.stage && nat_lt t.stage.life.view view) (raise_to view) t

-- suspecting the leader: a Working stage raises its view to the next one that it leads
abbrev pub suspect : Turned → Turned
suspect t =
    let s = t.stage in
    when (works s) (when_some (next_led s.config.n s.config.me s.life.view) raise_to) t

-- Raising the view, and phase 1 in a view that the life leads.
use Rattle.std.specs.Prelude.{ℕ, ◌&&◌, [], ◌∷◌, nat_lt, ◌==◌, if◌then◌else◌, Option, Some, None}
use Rattle.jp_types.specs.declared.message.Message.{Message}
use Rattle.jp_types.specs.Views.{leader, next_led}
use Rattle.paxos_world.specs.declared.step.Step.{Step}
use Rattle.paxos_world.specs.Leading.{is_working, is_view_ss}
use Rattle.replica_log.specs.Log.{first_undecided}
use Rattle.proposer_core.specs.declared.leading.Leading.TheVariants as leads
use Rattle.proposer_core.specs.Proposing.{with_leading}
use Rattle.protocol_core.specs.declared.act.Act.{Act}
use Rattle.protocol_core.specs.declared.act.Topic.{Topic}
use Rattle.protocol_core.specs.declared.life.Life.{Life}
use Rattle.protocol_core.specs.Sending.{does, shown, sent_and_armed}
use Rattle.protocol_core.specs.Turned.{Turned, stay, followed_by}

-- the Prepare of phase 1 in the own view
abbrev pub prepare_of : Life → ℕ → Message
prepare_of life first = Message.Prepare (record { view = life.view; first = first; mark = life.mark })

-- the proposer is in phase 1 of the own view
abbrev pub preparing : Life → ℕ → Life
preparing life first = record life { proposer = with_leading life.proposer (leads.Preparing life.view first life.mark) }

-- phase 1 in the own view, from an instance on
abbrev pub begun_from : Life → ℕ → Turned
begun_from life first =
    followed_by (shown (Step.Promise life.config.me life.view) (preparing life first)) (sent_and_armed Topic.Prepare (prepare_of life first))

-- phase 1 in the own view, from the first undecided instance on
abbrev pub phase_1_begun : Life → Turned
phase_1_begun life = begun_from life (first_undecided life.log)

-- in ViewSS a view is saved first, where the disk holds a lower number
abbrev pub saved_view : Life → ℕ → Turned
saved_view life view =
    if is_view_ss life.config.mode && nat_lt life.stable view then does (Act.Save view) (record life { stable = view }) else stay life

-- a view is entered, in which nothing is led yet; what was armed in the one before is cancelled
abbrev pub entered : Life → ℕ → Turned
entered life view =
    record {
      life = record life { view = view; proposer = with_leading life.proposer leads.No; quiet = 0 };
      acts = Act.Step (Step.Enter life.config.me view) ∷ Act.Cancel Topic.Prepare ∷ Act.CancelProposes ∷ [];
    }

-- the leader of the own view begins phase 1, and any other drops what waits
abbrev pub led_or_dropped : Life → Turned
led_or_dropped life = if leader life.config.n life.view == life.config.me then phase_1_begun life else stay (record life { waiting = [] })

-- the view is raised to this one, which is above it
abbrev pub raised_to : Life → ℕ → Turned
raised_to life view = followed_by (saved_view life view) (λ saved. followed_by (entered saved view) led_or_dropped)

-- a Working life whose view is below this one raises its view to it
abbrev pub raised_up_to : Life → ℕ → Turned
raised_up_to life view = if is_working life.phase && nat_lt life.view view then raised_to life view else stay life

-- the view is raised to this one, if there is one
abbrev pub raised_if : Life → Option ℕ → Turned
raised_if life None = stay life
raised_if life (Some view) = raised_to life view

-- suspecting the leader: a Working life raises its view to the next one that it leads
abbrev pub suspected : Life → Turned
suspected life = if is_working life.phase then raised_if life (next_led life.config.n life.config.me life.view) else stay life

-- Settling, at the end of each turn: rejoining, becoming Prepared, proposing what waits, and handing on.
use Rattle.std.specs.Prelude.{ℕ, zero, suc, ◌&&◌, List, [], ◌∷◌, nat_lt, if◌then◌else◌, Option, Some, None}
use Rattle.std.specs.Option.{option_map}
use Rattle.std.specs.FinMap as map
use Rattle.jp_types.specs.declared.mode.Phase.TheVariants.{Working}
use Rattle.jp_types.specs.Instances.{Batch}
use Rattle.kv_service.specs.StateReading.{state_in}
use Rattle.paxos_world.specs.declared.step.Step.{Step}
use Rattle.paxos_world.specs.Counting.{is_recovering}
use Rattle.paxos_world.specs.Leading.{is_view_ss}
use Rattle.replica_log.specs.Log.{Log, first_undecided}
use Rattle.proposer_core.specs.declared.adoption.Adopted.{Adopted}
use Rattle.proposer_core.specs.declared.adoption.Launch.{Launch}
use Rattle.proposer_core.specs.Adoption.{adopted, after_adoption}
use Rattle.proposer_core.specs.Window.{limit, place_below, after_offer}
use Rattle.recovery.specs.Rejoining.{rejoin_view}
use Rattle.service_manager.specs.declared.decision.Decision.{Decision}
use Rattle.protocol_core.specs.declared.act.Act.{Act}
use Rattle.protocol_core.specs.declared.act.Topic.{Topic}
use Rattle.protocol_core.specs.declared.life.Life.{Life}
use Rattle.protocol_core.specs.declared.life.Snapshot.{Snapshot}
use Rattle.protocol_core.specs.Launching.{learned_if_open, launched}
use Rattle.protocol_core.specs.Sending.{does}
use Rattle.protocol_core.specs.Turned.{Turned, stay, followed_by}

-- ---- 1. Rejoining

-- the view in which the life rejoins, where it is Recovering and the condition holds
abbrev pub rejoin_due : Life → Option ℕ
rejoin_due life = if is_recovering life.phase then rejoin_view life.vector life.rejoiner (first_undecided life.log) else None

-- in ViewSS a view above the mark is saved first
abbrev pub rejoin_saved : Life → ℕ → Turned
rejoin_saved life view =
    if is_view_ss life.config.mode && nat_lt life.mark view then does (Act.Save view) (record life { stable = view }) else stay life

-- the life is Working in this view; its recovery is asked for no more
abbrev pub rejoin_shown : ℕ → Life → Turned
rejoin_shown view life =
    record {
      life = record life { view = view; phase = Working; quiet = 0 };
      acts = Act.Cancel Topic.Recovery ∷ Act.Step (Step.Rejoin life.config.me view) ∷ [];
    }

-- the life rejoins in this view, if there is one
abbrev pub rejoined_in : Life → Option ℕ → Turned
rejoined_in life None = stay life
rejoined_in life (Some view) = followed_by (rejoin_saved life view) (rejoin_shown view)

-- the life rejoins, where the condition holds
abbrev pub settled_rejoin : Life → Turned
settled_rejoin life = rejoined_in life (rejoin_due life)

-- ---- 2. Prepared

-- a batch is learned where a promise told it as decided
abbrev pub learned_as_told : Life → Launch → Turned
learned_as_told life l = if l.decided then learned_if_open life l.instance l.batch else stay life

-- an instance is launched with its adopted batch, after that is learned where a promise told it as decided
abbrev pub launched_as_adopted : Life → Launch → Turned
launched_as_adopted life l = followed_by (learned_as_told life l) (λ learned. launched learned l.instance l.batch)

-- the adopted batches are launched, in order
abbrev pub launched_each : List Launch → Life → Turned
launched_each [] life = stay life
launched_each (l ∷ ls) life = followed_by (launched_as_adopted life l) (launched_each ls)

-- the life shows that it is Prepared; its Prepare is repeated no more
abbrev pub prepared_shown : Life → ℕ → Turned
prepared_shown life next =
    record { life = life; acts = Act.Cancel Topic.Prepare ∷ Act.Step (Step.Prepared life.config.me life.view next) ∷ [] }

-- the life, whose proposer adopted this, launches it
abbrev pub prepared_with : Life → Option Adopted → Turned
prepared_with life None = stay life
prepared_with life (Some a) = followed_by (prepared_shown life a.next) (launched_each a.launches)

-- what the proposer adopts
abbrev pub adoption_due : Life → Option Adopted
adoption_due life = adopted life.proposer life.log life.vector

-- the life whose proposer adopted
abbrev pub with_adoption : Life → Life
with_adoption life = record life { proposer = after_adoption life.proposer (adoption_due life) }

-- the life becomes Prepared, where it is in phase 1 and the condition holds
abbrev pub settled_prepared : Life → Turned
settled_prepared life = prepared_with (with_adoption life) (adoption_due life)

-- ---- 3. Waiting

-- the instance for the next waiting batch
abbrev pub open_place : Life → Option ℕ
open_place life = place_below life.proposer.leading (limit life.proposer life.log)

-- the life whose next place is given up, and for which these batches wait
abbrev pub with_waiting : Life → List Batch → Life
with_waiting life batches = record life { waiting = batches; proposer = after_offer life.proposer life.log }

-- a batch is launched at a place, if there is one, and then f is done; these are the batches behind it
abbrev pub launched_then : Option ℕ → Batch → List Batch → Life → (Life → Turned) → Turned
launched_then None batch batches life f = stay life
launched_then (Some i) batch batches life f = followed_by (launched (with_waiting life batches) i batch) f

-- these waiting batches are launched in order, while there is a place for the next one
abbrev pub launched_waiting : List Batch → Life → Turned
launched_waiting [] life = stay life
launched_waiting (batch ∷ batches) life = launched_then (open_place life) batch batches life (launched_waiting batches)

-- the waiting batches are launched in order, while there is a place for the next one
abbrev pub settled_waiting : Life → Turned
settled_waiting life = launched_waiting life.waiting life

-- ---- 4. Handing on

-- a decision to hand on, and the value of `handed` after it
abbrev pub Handing : Type 0
Handing = Decision × ℕ

-- the newest snapshot, if it came by an Install and its place is above `handed`
abbrev pub install_above : Option Snapshot → ℕ → Option Snapshot
install_above None handed = None
install_above (Some snapshot) handed = if snapshot.installed && nat_lt handed snapshot.place then Some snapshot else None

-- the Install of this snapshot
abbrev pub install_handing : Snapshot → Option Handing
install_handing snapshot = option_map (λ state. (Decision.Install snapshot.place state, snapshot.place)) (state_in snapshot.bytes)

-- the Decided of the batch that is known at `handed`
abbrev pub decided_handing : Log → ℕ → Option Handing
decided_handing log handed = option_map (λ batch. (Decision.Decided handed batch, suc handed)) (map.get log.known handed)

-- the Install of this snapshot, or where there is none the Decided of the batch that is known at `handed`
abbrev pub handing_of : Option Snapshot → Life → Option Handing
handing_of (Some snapshot) life = install_handing snapshot
handing_of None life = decided_handing life.log life.handed

-- the next decision to hand on: an installed state above `handed`, or else the batch that is known at `handed`
abbrev pub next_handing : Life → Option Handing
next_handing life = handing_of (install_above life.newest life.handed) life

-- a decision is handed on
abbrev pub handed_on : Life → Handing → Turned
handed_on life h = does (Act.Hand h.0) (record life { handed = h.1 })

-- a decision is handed on, if there is one, and then f is done
abbrev pub handed_then : Option Handing → Life → (Life → Turned) → Turned
handed_then None life f = stay life
handed_then (Some h) life f = followed_by (handed_on life h) f

-- decisions are handed on, at most `room` of them
abbrev pub settled_handing : ℕ → Life → Turned
settled_handing zero life = stay life
settled_handing (suc room) life = handed_then (next_handing life) life (settled_handing room)

-- settling: rejoining, becoming Prepared, launching what waits, and handing on, in this order
abbrev pub settled : Life → ℕ → Turned
settled life room =
    followed_by (settled_rejoin life) (λ rejoined.
    followed_by (settled_prepared rejoined) (λ prepared.
    followed_by (settled_waiting prepared) (settled_handing room)))

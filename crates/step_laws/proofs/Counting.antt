-- What a stage has after a turn of what it handed on, of the ticks without the leader, and of what waits.
use Rattle.std.proofs.Common.{◌≡◌, ℕ, zero, suc, ◌+◌, ◌-◌, max, min, Bool, true, false, ◌&&◌, not, List, [], ◌∷◌, ◌++◌, drop, length, nat_lt, ◌==◌, Option, Some, None, is_some, if◌then◌else◌, refl, sym, ap, subst, ◌∙◌}
use Rattle.std.specs.Option.{option_map, option_map_or}
use Rattle.jp_types.specs.Instances.{Batch}
use Rattle.jp_types.specs.Reports.{decided_below}
use Rattle.jp_types.specs.Views.{number_if}
use Rattle.kv_service.specs.Service.{State}
use Rattle.kv_service.specs.StateReading.{state_in}
use Rattle.paxos_world.specs.declared.step.Step.{Step}
use Rattle.paxos_world.specs.Life.{Lead, Leading, No, Preparing, Leads}
use Rattle.paxos_world.specs.World.{Deed, lead_after, lead_of}
use Rattle.paxos_world.specs.Stage.{setup_of, Snapshot, Stage, Item, Decision, Decided, Installed, Turned}
use Rattle.paxos_world.specs.Writing.{◌▹◌, when, when_some, for_range, with_stage, shows, saves, hands, sends_to_all}
use Rattle.paxos_world.specs.Logs.{first_undecided, span_end, is_known}
use Rattle.paxos_world.specs.Retransmitting.{arms_propose, cancels_prepare, cancels_recovery}
use Rattle.paxos_world.specs.Leading.{is_view_ss}
use Rattle.paxos_world.specs.Learning.{notes, learns, votes_for, propose_of, launches}
use Rattle.paxos_world.specs.Settling.{rejoin_view, rejoins, settles_rejoin, is_prepared, adoption_end, adopts, becomes_prepared, settles_leading, settles_prepared, place_in, open_place, launches_waiting, settles_waiting, install_above, handing_of, Handing, next_handing, hands_on}
use Rattle.paxos_world.specs.Turn.{on_item, untouched, turn}
use Rattle.step_laws.specs.Installed.{handings}
use Rattle.step_laws.specs.Kept.{handed_behind, quiet_after, waiting_after}
use Rattle.step_laws.specs.Laws.{CountsQuietExactly, HandedExactly, WaitsExactly}
use Rattle.step_laws.specs.Settled.{placed_from, launches_of_waiting}
use Rattle.step_laws.proofs.Handing.{Unhanded, unhanded-plain, unhanded-item, Held, waiting-held, next-same, hands-adds}
use Rattle.step_laws.proofs.Installing.{k-settles}
use Rattle.step_laws.proofs.Keeping.{Kept, kept, Leaves, leaves-when, leaves-some, leaves-sends_to_all, item-kept}
use Rattle.step_laws.proofs.Launching.{launches-adds, next-up, place-same, waiting-none}

-- ---- What was handed on

-- where this decision, if there is one, is handed on and then more, `handed` is the place behind the last one
abbrev pub HandsTo : ℕ → Stage → Turned → Option Handing → Type 0
HandsTo room s t o =
    (when_some o (λ handing t. hands_on room (t ▹ with_stage (λ s. record s { handed = handing.1 }) ▹ hands handing.0)) t).stage.handed
    ≡ handed_behind t.stage.handed (option_map_or (λ handing. handing.0 ∷ handings room s handing.1) o [])

-- handing on puts `handed` behind the last decision
pub hands-behind : (s : Stage) (room : ℕ) (t : Turned) → Held s t.stage → (hands_on room t).stage.handed ≡ handed_behind t.stage.handed (handings room s t.stage.handed)
hands-behind s zero t h = refl
hands-behind s (suc room) t h =
    ap (λ (o : Option Handing). (when_some o (λ handing t. hands_on room (t ▹ with_stage (λ s. record s { handed = handing.1 }) ▹ hands handing.0)) t).stage.handed) (next-same s t.stage h)
    ∙ by-snapshot (hands-behind s room) (install_above s.newest t.stage.handed)
  where
    by-state : ((u : Turned) → Held s u.stage → (hands_on room u).stage.handed ≡ handed_behind u.stage.handed (handings room s u.stage.handed))
        → (snapshot : Snapshot) (o : Option State) → HandsTo room s t (option_map (λ state. (Installed snapshot.place state, snapshot.place)) o)
    by-state on snapshot None = refl
    by-state on snapshot (Some state) =
        on (t ▹ with_stage (λ s. record s { handed = snapshot.place }) ▹ hands (Installed snapshot.place state)) (record { newest = h.newest; known = h.known })

    by-batch : ((u : Turned) → Held s u.stage → (hands_on room u).stage.handed ≡ handed_behind u.stage.handed (handings room s u.stage.handed))
        → (o : Option Batch) → HandsTo room s t (option_map (λ batch. (Decided t.stage.handed batch, suc t.stage.handed)) o)
    by-batch on None = refl
    by-batch on (Some batch) =
        on (t ▹ with_stage (λ s. record s { handed = suc t.stage.handed }) ▹ hands (Decided t.stage.handed batch)) (record { newest = h.newest; known = h.known })

    by-snapshot : ((u : Turned) → Held s u.stage → (hands_on room u).stage.handed ≡ handed_behind u.stage.handed (handings room s u.stage.handed))
        → (o : Option Snapshot) → HandsTo room s t (handing_of o (record s { handed = t.stage.handed }))
    by-snapshot on None = by-batch on (s.life.known t.stage.handed)
    by-snapshot on (Some snapshot) = by-state on snapshot (state_in snapshot.bytes)

-- what was handed on lies below the place behind the last decision
pub handed_exactly : HandedExactly
unfolding turn
handed_exactly s item room =
    let t1 = untouched s ▹ on_item item in
    let t3 = t1 ▹ settles_rejoin ▹ settles_prepared in
    let t4 = t3 ▹ settles_waiting in
    let a = unhanded-item s.handed item (untouched s) (record { none = refl; same = refl }) in
    let b = k-settles (Unhanded s.handed) (unhanded-plain s.handed) t1 a in
    let held = waiting-held t3.stage.waiting t3 in
    hands-behind t3.stage room t4 held
    ∙ ap (λ (handed : ℕ). handed_behind handed (handings room t3.stage t4.stage.handed)) b.same
    ∙ ap (λ (xs : List Decision). handed_behind s.handed xs) (sym (hands-adds t3.stage room t4 held ∙ ap (λ (xs : List Decision). xs ++ handings room t3.stage t4.stage.handed) b.none))

-- ---- What settling leaves

-- rejoining ends the count, and what waits stays
pub rejoin-kept : (o : Option ℕ) (t : Turned) → kept (when_some o rejoins t).stage ≡ record { quiet = if is_some o then 0 else t.stage.quiet; waiting = t.stage.waiting }
rejoin-kept None t = refl
rejoin-kept (Some view) t = go (is_view_ss t.stage.config.mode && nat_lt t.stage.life.mark view)
  where
    go : (b : Bool) → kept (t ▹ when b (saves view) ▹ with_stage (λ s. record s { quiet = 0 }) ▹ cancels_recovery ▹ shows (Step.Rejoin t.stage.config.me view) (Deed.Rejoin view)).stage
        ≡ record { quiet = 0; waiting = t.stage.waiting }
    go true = refl
    go false = refl

-- a launch leaves both
pub leaves-launches : (i : ℕ) (batch : Batch) → Leaves (launches i batch)
leaves-launches i batch t =
    let s = t.stage in
    let view = s.life.view in
    let m = propose_of view i batch in
    let u = t ▹ shows (Step.Launch s.config.me view i batch) (Deed.Launch view i batch) ▹ votes_for view i batch ▹ notes i view s.config.me (Some batch) in
    leaves-when (not (is_known s i)) (arms_propose i m) (λ v. refl) (sends_to_all m u) ∙ leaves-sends_to_all m u

-- launching a range of adopted batches leaves both
pub leaves-adopts : (lead : Lead) (k i : ℕ) → Leaves (for_range k i (adopts lead))
leaves-adopts lead zero i t = refl
leaves-adopts lead (suc k) i t =
    let known = is_known t.stage i in
    let f : Turned → Turned = when_some (decided_below t.stage.config.n lead.reports i) (learns i) in
    let u : Turned = when (not known) f t in
    leaves-adopts lead k (suc i) (launches i (lead.adopted i) u) ∙ leaves-launches i (lead.adopted i) u
    ∙ leaves-when (not known) f (leaves-some (decided_below t.stage.config.n lead.reports i) (learns i) (λ batch v. refl)) t

-- becoming Prepared leaves both
pub leaves-prepared : (l : Leading) → Leaves (settles_leading l)
leaves-prepared No t = refl
leaves-prepared (Leads lead) t = refl
leaves-prepared (Preparing first) t = leaves-when (is_prepared t.stage first) (becomes_prepared first) one t
  where
    one : Leaves (becomes_prepared first)
    one u =
        let s = u.stage in
        let end = adoption_end s first in
        let next = max end (first_undecided s) in
        leaves-adopts (lead_of (setup_of s.config) s.config.me s.life next) (end - max first s.base) (max first s.base)
        (u ▹ cancels_prepare ▹ shows (Step.Prepared s.config.me s.life.view next) (Deed.Prepared s.life.view next))

-- handing on leaves both
pub leaves-hands_on : (room : ℕ) → Leaves (hands_on room)
leaves-hands_on zero t = refl
leaves-hands_on (suc room) t =
    leaves-some (next_handing t.stage) (λ handing u. hands_on room (u ▹ with_stage (λ s. record s { handed = handing.1 }) ▹ hands handing.0))
    (λ handing u. leaves-hands_on room (u ▹ with_stage (λ s. record s { handed = handing.1 }) ▹ hands handing.0)) t

-- launching what waits leaves the ticks
pub waiting-quiet : (batches : List Batch) (t : Turned) → (launches_waiting batches t).stage.quiet ≡ t.stage.quiet
waiting-quiet [] t = refl
waiting-quiet (batch ∷ batches) t = go (open_place t.stage) (waiting-quiet batches)
  where
    go : (o : Option ℕ) → ((u : Turned) → (launches_waiting batches u).stage.quiet ≡ u.stage.quiet)
        → (when_some o (λ i t. launches_waiting batches (t ▹ with_stage (λ s. record s { waiting = batches }) ▹ launches i batch)) t).stage.quiet ≡ t.stage.quiet
    go None on = refl
    go (Some i) on =
        let u = t ▹ with_stage (λ s. record s { waiting = batches }) in
        on (launches i batch u) ∙ ap (λ (k : Kept). k.quiet) (leaves-launches i batch u)

-- what a turn leaves of both before the waiting batches are launched
pub prepared-kept : (s : Stage) (item : Item) → kept (untouched s ▹ on_item item ▹ settles_rejoin ▹ settles_prepared).stage
    ≡ record { quiet = if is_some (rejoin_view (untouched s ▹ on_item item).stage) then 0 else quiet_after s item; waiting = waiting_after s item }
prepared-kept s item =
    let t1 = untouched s ▹ on_item item in
    let t2 = t1 ▹ settles_rejoin in
    leaves-prepared t2.stage.life.leading t2 ∙ rejoin-kept (rejoin_view t1.stage) t1
    ∙ ap (λ (k : Kept). record { quiet = if is_some (rejoin_view t1.stage) then 0 else k.quiet; waiting = k.waiting }) (item-kept s item)

-- the ticks without the leader are counted as the item says, and anew where it rejoins
pub counts_quiet_exactly : CountsQuietExactly
unfolding turn
counts_quiet_exactly s item room =
    let t3 = untouched s ▹ on_item item ▹ settles_rejoin ▹ settles_prepared in
    ap (λ (k : Kept). k.quiet) (leaves-hands_on room (t3 ▹ settles_waiting)) ∙ waiting-quiet t3.stage.waiting t3 ∙ ap (λ (k : Kept). k.quiet) (prepared-kept s item)

-- ---- What waits

-- of the waiting batches of a Prepared leader, those that are launched from `next` on are dropped
pub waiting-drops : (s : Stage) (lead : Lead) (next : ℕ) (batches : List Batch) (t : Turned) → t.stage.config ≡ s.config → t.stage.life.view ≡ s.life.view → t.stage.life.known ≡ s.life.known
    → t.stage.base ≡ s.base → t.stage.life.leading ≡ Leads lead → lead.next ≡ next → t.stage.waiting ≡ batches
    → (launches_waiting batches t).stage.waiting
    ≡ drop (length (placed_from s.config.me s.life.view next (min (first_undecided s + s.config.window) (span_end s)) batches)) batches
waiting-drops s lead next [] t config view known base leading same waits = waits
waiting-drops s lead next (batch ∷ batches) t config view known base leading same waits =
    let a = t ▹ with_stage (λ s. record s { waiting = batches }) in
    let h = launches-adds next batch a in
    let u = launches next batch a in
    let up : Lead = record lead { next = if next == lead.next then suc next else lead.next } in
    let led : u.stage.life.leading ≡ Leads up = h.leading ∙ ap (λ (l : Leading). lead_after l next) leading in
    let rest =
    waiting-drops s up (suc next) batches u (h.config ∙ config) (h.view ∙ view) (h.known ∙ known) (h.base ∙ base) led (next-up next lead.next same)
    (ap (λ (k : Kept). k.waiting) (leaves-launches next batch a)) in
    let limit = min (first_undecided s + s.config.window) (span_end s) in
    subst (λ (o : Option ℕ). (when_some o (λ i t. launches_waiting batches (t ▹ with_stage (λ s. record s { waiting = batches }) ▹ launches i batch)) t).stage.waiting
    ≡ drop (length (if nat_lt next limit then Step.Launch s.config.me s.life.view next batch ∷ placed_from s.config.me s.life.view (suc next) limit batches else [])) (batch ∷ batches))
    (sym (place-same s t.stage lead next config known base leading same)) (go rest (nat_lt next limit))
  where
    go : (launches_waiting batches (t ▹ with_stage (λ s. record s { waiting = batches }) ▹ launches next batch)).stage.waiting
        ≡ drop (length (placed_from s.config.me s.life.view (suc next) (min (first_undecided s + s.config.window) (span_end s)) batches)) batches
        → (b : Bool) → (when_some (number_if b next) (λ i t. launches_waiting batches (t ▹ with_stage (λ s. record s { waiting = batches }) ▹ launches i batch)) t).stage.waiting
        ≡ drop (length (if b then Step.Launch s.config.me s.life.view next batch ∷ placed_from s.config.me s.life.view (suc next) (min (first_undecided s + s.config.window) (span_end s)) batches else [])) (batch ∷ batches)
    go one true = one
    go one false = waits

-- of what waits those are dropped that are launched, by how the stage leads
pub waiting-left : (l : Leading) (t : Turned) → t.stage.life.leading ≡ l → (launches_waiting t.stage.waiting t).stage.waiting ≡ drop (length (launches_of_waiting l t.stage)) t.stage.waiting
waiting-left No t e = ap (λ (u : Turned). u.stage.waiting) (waiting-none t.stage.waiting t (ap (λ (l : Leading). place_in l t.stage) e))
waiting-left (Preparing first) t e = ap (λ (u : Turned). u.stage.waiting) (waiting-none t.stage.waiting t (ap (λ (l : Leading). place_in l t.stage) e))
waiting-left (Leads lead) t e = waiting-drops t.stage lead lead.next t.stage.waiting t refl refl refl refl e refl refl

-- of the batches that wait after the item those stay that are not launched
pub waits_exactly : WaitsExactly
unfolding turn
waits_exactly s item room =
    let t3 = untouched s ▹ on_item item ▹ settles_rejoin ▹ settles_prepared in
    ap (λ (k : Kept). k.waiting) (leaves-hands_on room (t3 ▹ settles_waiting)) ∙ waiting-left t3.stage.life.leading t3 refl
    ∙ ap (λ (k : Kept). drop (length (launches_of_waiting t3.stage.life.leading t3.stage)) k.waiting) (prepared-kept s item)

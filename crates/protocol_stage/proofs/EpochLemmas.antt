-- In EpochSS the stable number of a life stays what it was at the start of the life: no turn changes it.
use Rattle.std.proofs.Common.{◌≡◌, ◌∙◌, ℕ, suc, ◌&&◌, Bool, true, nat_lt, ◌==◌, Option, Some, None, if◌then◌else◌, refl, ap}
use Rattle.jp_types.specs.declared.message.Alive.{Alive}
use Rattle.jp_types.specs.declared.message.Message.{Message}
use Rattle.jp_types.specs.declared.message.Prepare.{Prepare}
use Rattle.jp_types.specs.declared.message.Propose.{Propose}
use Rattle.jp_types.specs.declared.mode.Mode.{Mode}
use Rattle.jp_types.specs.declared.mode.Mode.TheVariants.{ViewSs, EpochSs}
use Rattle.jp_types.specs.Views.{next_led}
use Rattle.paxos_world.specs.Leading.{is_working, is_view_ss}
use Rattle.protocol_core.specs.declared.act.Act.{Act}
use Rattle.protocol_core.specs.declared.config.Config.{Config}
use Rattle.protocol_core.specs.declared.item.Item.{Item}
use Rattle.protocol_core.specs.declared.life.Life.{Life}
use Rattle.protocol_core.specs.Answering.{on_alive, on_recovery, raised_to_mark, answer_sent, with_entry}
use Rattle.protocol_core.specs.CatchingUp.{queried_if_due}
use Rattle.protocol_core.specs.Leading.{saved_view, entered, led_or_dropped, raised_to, raised_up_to, raised_if, suspected}
use Rattle.protocol_core.specs.Messages.{on_kind, on_message}
use Rattle.protocol_core.specs.Sending.{does, sent_to_all}
use Rattle.protocol_core.specs.Settling.{rejoin_due, rejoin_saved, rejoin_shown, rejoined_in, settled_rejoin, settled_prepared, settled_waiting, settled_handing, settled}
use Rattle.protocol_core.specs.Turned.{Turned, stay, followed_by}
use Rattle.protocol_core.specs.Turning.{alive_of, quiet_limit, suspected_if_quiet, tick_counted, on_tick_working, on_tick_if_working, on_tick, on_item, turn}
use Rattle.protocol_core.specs.Voting.{horizon_to, leads, on_prepare, promised_if, proposal_followed, proposal_taken_if, on_propose, up}
use Rattle.protocol_stage.proofs.SavingLemmas.{if_holds, Quiet, quiet-then}
use Rattle.protocol_stage.proofs.QuietLemmas
use Rattle.protocol_stage.proofs.StableLemmas.{and_first}

-- ---- Turns that leave the stable number, in EpochSS

-- from this mode and this stable number: in EpochSS a turn leaves the two
abbrev StaysFrom : Mode → ℕ → Turned → Type 0
StaysFrom mode stable t = mode ≡ EpochSs → (t.life.config.mode ≡ EpochSs) × (t.life.stable ≡ stable)

-- from this life
abbrev Stays : Life → Turned → Type 0
Stays life t = StaysFrom life.config.mode life.stable t

-- a turn that leaves the constants and the stable number in any mode does
stays_quiet : (life : Life) (t : Turned) → Quiet life t → Stays life t
stays_quiet life t q = λ e. (ap (λ (c : Config). c.mode) q.config_is ∙ e, q.stable_is)

-- and so do two, one after the other
stays-then : (life : Life) (t : Turned) (f : Life → Turned) → Stays life t → Stays t.life (f t.life) → Stays life (followed_by t f)
stays-then life t f h k = λ e. let a = h e in let b = k a.0 in (b.0, b.1 ∙ a.1)

-- and either of two
stays_if : (life : Life) (b : Bool) (t u : Turned) → Stays life t → Stays life u → Stays life (if b then t else u)
stays_if life b t u h k = if_holds (Stays life) b t u (λ e. h) (λ e. k)

-- and nothing
stays_still : (life : Life) → Stays life (stay life)
stays_still life = stays_quiet life (stay life) (QuietLemmas.still life)

-- EpochSS is not ViewSS
not_view_ss : (m : Mode) → m ≡ EpochSs → is_view_ss m ≡ true → ⊥
not_view_ss ViewSs e v = absurd cc
not_view_ss EpochSs e v = absurd cc

-- what is saved in ViewSS only is not saved
stays_saved_if : (life : Life) (b : Bool) (view : ℕ) → Stays life (if is_view_ss life.config.mode && b then does (Act.Save view) (record life { stable = view }) else stay life)
stays_saved_if life b view =
    if_holds (Stays life) (is_view_ss life.config.mode && b) (does (Act.Save view) (record life { stable = view })) (stay life)
    (λ v e. absurd (not_view_ss life.config.mode e (and_first (is_view_ss life.config.mode) b v)))
    (λ v. stays_still life)

-- ---- Raising the view

-- raising the view leaves the stable number
stays_raised_to : (life : Life) (view : ℕ) → Stays life (raised_to life view)
stays_raised_to life view =
    let saved = saved_view life view in
    let f = λ (next : Life). followed_by (entered next view) led_or_dropped in
    stays-then life saved f (stays_saved_if life (nat_lt life.stable view) view)
    (stays_quiet saved.life (f saved.life) (quiet-then saved.life (entered saved.life view) led_or_dropped (QuietLemmas.quiet_entered saved.life view) QuietLemmas.quiet_led))

-- where it is below another
stays_up_to : (life : Life) (view : ℕ) → Stays life (raised_up_to life view)
stays_up_to life view = stays_if life (is_working life.phase && nat_lt life.view view) (raised_to life view) (stay life) (stays_raised_to life view) (stays_still life)

-- where there is one to raise it to
stays_raised_if : (life : Life) (o : Option ℕ) → Stays life (raised_if life o)
stays_raised_if life None = stays_still life
stays_raised_if life (Some view) = stays_raised_to life view

-- and so does suspecting the leader
stays_suspected : (life : Life) → Stays life (suspected life)
stays_suspected life =
    let next = next_led life.config.n life.config.me life.view in
    stays_if life (is_working life.phase) (raised_if life next) (stay life) (stays_raised_if life next) (stays_still life)

-- ---- Messages

-- a Prepare
stays_prepare : (life : Life) (p : ℕ) (m : Prepare) → Stays life (on_prepare life p m)
stays_prepare life p m =
    let raised = raised_up_to life m.view in
    let f = λ (next : Life). promised_if next p m in
    stays_if life (is_working life.phase && leads life p m.view) (followed_by raised f) (stay life)
    (stays-then life raised f (stays_up_to life m.view) (stays_quiet raised.life (f raised.life) (QuietLemmas.quiet_promised raised.life p m))) (stays_still life)

-- a Propose
stays_propose : (life : Life) (p : ℕ) (m : Propose) → Stays life (on_propose life p m)
stays_propose life p m =
    let from = horizon_to life (up m.instance) in
    let raised = raised_up_to from m.view in
    let f = λ (next : Life). proposal_taken_if next p m in
    stays_if life (leads life p m.view) (proposal_followed from p m) (stay life)
    (stays-then from raised f (stays_up_to from m.view) (stays_quiet raised.life (f raised.life) (QuietLemmas.quiet_proposal raised.life p m))) (stays_still life)

-- a Recovery
stays_recovery : (life : Life) (p mark : ℕ) → Stays life (on_recovery life p mark)
stays_recovery life p mark =
    let raised = raised_to_mark life mark in
    let f = λ (next : Life). answer_sent (with_entry next p mark) p mark in
    stays_if life (is_working life.phase) (followed_by raised f) (stay life)
    (stays-then life raised f (stays_if life (is_view_ss life.config.mode) (raised_up_to life mark) (stay life) (stays_up_to life mark) (stays_still life))
    (stays_quiet raised.life (f raised.life) (QuietLemmas.quiet_answered raised.life p mark)))
    (stays_still life)

-- an Alive
stays_alive : (life : Life) (p : ℕ) (m : Alive) → Stays life (on_alive life p m)
stays_alive life p m =
    let from = horizon_to life m.first_undecided in
    stays_if life (leads life p m.view) (raised_up_to from m.view) (stay life) (stays_up_to from m.view) (stays_still life)

-- a message of any kind
stays_kind : (life : Life) (p : ℕ) (m : Message) → Stays life (on_kind life p m)
stays_kind life p (Message.Prepare m) = stays_prepare life p m
stays_kind life p (Message.PrepareOk m) = stays_quiet life (on_kind life p (Message.PrepareOk m)) (QuietLemmas.quiet_prepare_ok life p m)
stays_kind life p (Message.Propose m) = stays_propose life p m
stays_kind life p (Message.Accept m) = stays_quiet life (on_kind life p (Message.Accept m)) (QuietLemmas.quiet_accept life p m)
stays_kind life p (Message.Recovery m) = stays_recovery life p m.mark
stays_kind life p (Message.RecoveryAnswer m) = stays_quiet life (on_kind life p (Message.RecoveryAnswer m)) (QuietLemmas.quiet_answer life p m)
stays_kind life p (Message.CatchUpQuery m) = stays_quiet life (on_kind life p (Message.CatchUpQuery m)) (QuietLemmas.quiet_query life p m.first)
stays_kind life p (Message.CatchUpReply m) = stays_quiet life (on_kind life p (Message.CatchUpReply m)) (QuietLemmas.quiet_batches life m.first m.batches)
stays_kind life p (Message.SnapshotPart m) = stays_quiet life (on_kind life p (Message.SnapshotPart m)) (QuietLemmas.quiet_part life m)
stays_kind life p (Message.Alive m) = stays_alive life p m

-- and where the leader was heard
stays_message : (life : Life) (p : ℕ) (m : Message) → Stays life (on_message life p m)
stays_message life p m =
    if_holds (λ (next : Life). Stays life (on_kind next p m)) (leads life p life.view) (record life { quiet = 0 }) life
    (λ e. stays_kind (record life { quiet = 0 }) p m) (λ e. stays_kind life p m)

-- ---- Items

-- a tick that is counted
stays_counted : (life : Life) → Stays life (tick_counted life)
stays_counted life =
    let next = record life { quiet = suc life.quiet } in
    stays_if life (nat_lt life.quiet quiet_limit) (suspected_if_quiet next) (stay life)
    (stays_if next (next.quiet == quiet_limit) (suspected next) (stay next) (stays_suspected next) (stays_still next)) (stays_still life)

-- a tick
stays_tick : (life : Life) → Stays life (on_tick life)
stays_tick life =
    let ticked = on_tick_if_working life in
    stays-then life ticked queried_if_due
    (stays_if life (is_working life.phase) (on_tick_working life) (stay life)
    (stays_if life (leads life life.config.me life.view) (sent_to_all (alive_of life) life) (tick_counted life)
    (stays_quiet life (sent_to_all (alive_of life) life) (QuietLemmas.quiet_sent life (alive_of life))) (stays_counted life))
    (stays_still life))
    (stays_quiet ticked.life (queried_if_due ticked.life) (QuietLemmas.quiet_queried ticked.life))

-- any item
stays_item : (life : Life) (item : Item) → Stays life (on_item life item)
stays_item life (Item.Message from message) = stays_message life from message
stays_item life (Item.Batch batch) = stays_quiet life (on_item life (Item.Batch batch)) (QuietLemmas.quiet_batch life batch)
stays_item life Item.Tick = stays_tick life
stays_item life Item.Suspect = stays_suspected life
stays_item life (Item.Snapshot upto bytes) = stays_quiet life (on_item life (Item.Snapshot upto bytes)) (QuietLemmas.quiet_snapshot life upto bytes)

-- ---- Settling

-- showing that a life rejoins leaves the constants and the stable number
stays_shown : (life : Life) (view : ℕ) → Stays life (rejoin_shown view life)
stays_shown life view = λ e. (e, refl)

-- and so does rejoining, where the life may
stays_rejoined : (life : Life) (o : Option ℕ) → Stays life (rejoined_in life o)
stays_rejoined life None = stays_still life
stays_rejoined life (Some view) =
    let saved = rejoin_saved life view in
    stays-then life saved (rejoin_shown view) (stays_saved_if life (nat_lt life.mark view) view) (stays_shown saved.life view)

-- and all that settles a turn
stays_settled : (life : Life) (room : ℕ) → Stays life (settled life room)
stays_settled life room =
    let rejoined = settled_rejoin life in
    let rest = λ (next : Life). followed_by (settled_prepared next) (λ prepared. followed_by (settled_waiting prepared) (settled_handing room)) in
    stays-then life rejoined rest (stays_rejoined life (rejoin_due life))
    (stays_quiet rejoined.life (rest rejoined.life)
    (quiet-then rejoined.life (settled_prepared rejoined.life) (λ prepared. followed_by (settled_waiting prepared) (settled_handing room)) (QuietLemmas.quiet_prepared rejoined.life)
    (λ prepared. quiet-then prepared (settled_waiting prepared) (settled_handing room) (QuietLemmas.quiet_waiting prepared) (QuietLemmas.quiet_handing room))))

-- in EpochSS a turn does not change the stable number of a life
pub epoch-stable : (life : Life) (item : Item) (room : ℕ) → life.config.mode ≡ EpochSs → (turn life item room).life.stable ≡ life.stable
epoch-stable life item room e =
    let taken = on_item life item in
    (stays-then life taken (λ next. settled next room) (stays_item life item) (stays_settled taken.life room) e).1

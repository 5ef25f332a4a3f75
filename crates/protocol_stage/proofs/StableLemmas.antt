-- What a turn saves is the stable number that it leaves.
use Rattle.std.proofs.Common.{◌≡◌, ℕ, suc, ◌<◌, ◌&&◌, Bool, true, false, nat_lt, ◌==◌, Option, Some, None, if◌then◌else◌, refl, ap, arith}
use Rattle.std.proofs.lemmas.Bool.{ltb-true}
use Rattle.jp_types.specs.declared.message.Alive.{Alive}
use Rattle.jp_types.specs.declared.message.Message.{Message}
use Rattle.jp_types.specs.declared.message.Prepare.{Prepare}
use Rattle.jp_types.specs.declared.message.Propose.{Propose}
use Rattle.jp_types.specs.declared.mode.Phase.{Phase}
use Rattle.jp_types.specs.declared.mode.Phase.TheVariants.{Recovering, Working}
use Rattle.jp_types.specs.Views.{next_led}
use Rattle.paxos_world.specs.Counting.{is_recovering}
use Rattle.paxos_world.specs.Leading.{is_working, is_view_ss}
use Rattle.recovery.specs.Rejoining.{rejoin_view}
use Rattle.replica_log.specs.Log.{first_undecided}
use Rattle.protocol_core.specs.declared.act.Act.{Act}
use Rattle.protocol_core.specs.declared.item.Item.{Item}
use Rattle.protocol_core.specs.declared.life.Life.{Life}
use Rattle.protocol_core.specs.Answering.{on_alive, on_recovery, raised_to_mark, answer_sent, with_entry}
use Rattle.protocol_core.specs.CatchingUp.{queried_if_due}
use Rattle.protocol_core.specs.Leading.{saved_view, entered, led_or_dropped, raised_to, raised_up_to, raised_if, suspected}
use Rattle.protocol_core.specs.Messages.{on_kind, on_message}
use Rattle.protocol_stage.specs.Performing.{stored_after}
use Rattle.protocol_stage.specs.Running.{IsSteady}
use Rattle.protocol_core.specs.Sending.{does, sent_to_all}
use Rattle.protocol_core.specs.Settling.{rejoin_shown, rejoined_in, settled_rejoin, settled_prepared, settled_waiting, settled_handing, settled}
use Rattle.protocol_core.specs.Turned.{Turned, stay, followed_by}
use Rattle.protocol_core.specs.Turning.{alive_of, quiet_limit, suspected_if_quiet, tick_counted, on_tick_working, on_tick_if_working, on_tick, on_item, turn}
use Rattle.protocol_core.specs.Voting.{horizon_to, leads, on_prepare, promised_if, proposal_followed, proposal_taken_if, on_propose, up}
use Rattle.protocol_stage.proofs.SavingLemmas.{if_holds, Keeps, keeps_quiet, keeps-then, quiet-then}
use Rattle.protocol_stage.proofs.QuietLemmas

and_second : (a b : Bool) → (a && b) ≡ true → b ≡ true
and_second true b e = e
and_second false b e = absurd cc

-- where both hold the first does
pub and_first : (a b : Bool) → (a && b) ≡ true → a ≡ true
and_first true b e = refl
and_first false b e = absurd cc

-- a phase is not both
not_both : (p : Phase) → is_working p ≡ true → is_recovering p ≡ true → ⊥
not_both Recovering w r = absurd cc
not_both Working w r = absurd cc

keeps_if : (life : Life) (b : Bool) (t u : Turned) → (b ≡ true → Keeps life t) → Keeps life u → Keeps life (if b then t else u)
keeps_if life b t u h k = if_holds (Keeps life) b t u h (λ e. k)

keeps_still : (life : Life) → Keeps life (stay life)
keeps_still life = keeps_quiet life (stay life) (QuietLemmas.still life)

-- ---- Raising the view

keeps_saved : (life : Life) (view : ℕ) → is_working life.phase ≡ true → Keeps life (saved_view life view)
keeps_saved life view w =
    keeps_if life (is_view_ss life.config.mode && nat_lt life.stable view) (does (Act.Save view) (record life { stable = view })) (stay life)
    (λ e.
    let below : life.stable < view = ltb-true life.stable view (and_second (is_view_ss life.config.mode) (nat_lt life.stable view) e) in
    record {
      stored = λ s. ap (λ (n : ℕ). Some n) (omega (arith, below));
      steady = λ s r. absurd (not_both life.phase w r);
    })
    (keeps_still life)

keeps_raised_to : (life : Life) (view : ℕ) → is_working life.phase ≡ true → Keeps life (raised_to life view)
keeps_raised_to life view w =
    let saved = saved_view life view in
    let f = λ (next : Life). followed_by (entered next view) led_or_dropped in
    keeps-then life saved f (keeps_saved life view w)
    (keeps_quiet saved.life (f saved.life) (quiet-then saved.life (entered saved.life view) led_or_dropped (QuietLemmas.quiet_entered saved.life view) QuietLemmas.quiet_led))

keeps_up_to : (life : Life) (view : ℕ) → Keeps life (raised_up_to life view)
keeps_up_to life view =
    keeps_if life (is_working life.phase && nat_lt life.view view) (raised_to life view) (stay life)
    (λ e. keeps_raised_to life view (and_first (is_working life.phase) (nat_lt life.view view) e)) (keeps_still life)

keeps_suspected : (life : Life) → Keeps life (suspected life)
keeps_suspected life =
    keeps_if life (is_working life.phase) (raised_if life (next_led life.config.n life.config.me life.view)) (stay life)
    (λ w. by w (next_led life.config.n life.config.me life.view)) (keeps_still life)
  where
    by : is_working life.phase ≡ true → (o : Option ℕ) → Keeps life (raised_if life o)
    by w None = keeps_still life
    by w (Some view) = keeps_raised_to life view w

-- ---- Messages

keeps_prepare : (life : Life) (p : ℕ) (m : Prepare) → Keeps life (on_prepare life p m)
keeps_prepare life p m =
    let raised = raised_up_to life m.view in
    let f = λ (next : Life). promised_if next p m in
    keeps_if life (is_working life.phase && leads life p m.view) (followed_by raised f) (stay life)
    (λ e. keeps-then life raised f (keeps_up_to life m.view) (keeps_quiet raised.life (f raised.life) (QuietLemmas.quiet_promised raised.life p m))) (keeps_still life)

keeps_propose : (life : Life) (p : ℕ) (m : Propose) → Keeps life (on_propose life p m)
keeps_propose life p m =
    let from = horizon_to life (up m.instance) in
    let raised = raised_up_to from m.view in
    let f = λ (next : Life). proposal_taken_if next p m in
    keeps_if life (leads life p m.view) (proposal_followed from p m) (stay life)
    (λ e. keeps-then from raised f (keeps_up_to from m.view) (keeps_quiet raised.life (f raised.life) (QuietLemmas.quiet_proposal raised.life p m))) (keeps_still life)

keeps_recovery : (life : Life) (p mark : ℕ) → Keeps life (on_recovery life p mark)
keeps_recovery life p mark =
    let raised = raised_to_mark life mark in
    let f = λ (next : Life). answer_sent (with_entry next p mark) p mark in
    keeps_if life (is_working life.phase) (followed_by raised f) (stay life)
    (λ e. keeps-then life raised f
    (keeps_if life (is_view_ss life.config.mode) (raised_up_to life mark) (stay life) (λ v. keeps_up_to life mark) (keeps_still life))
    (keeps_quiet raised.life (f raised.life) (QuietLemmas.quiet_answered raised.life p mark)))
    (keeps_still life)

keeps_alive : (life : Life) (p : ℕ) (m : Alive) → Keeps life (on_alive life p m)
keeps_alive life p m =
    let from = horizon_to life m.first_undecided in
    keeps_if life (leads life p m.view) (raised_up_to from m.view) (stay life) (λ e. keeps_up_to from m.view) (keeps_still life)

keeps_kind : (life : Life) (p : ℕ) (m : Message) → Keeps life (on_kind life p m)
keeps_kind life p (Message.Prepare m) = keeps_prepare life p m
keeps_kind life p (Message.PrepareOk m) = keeps_quiet life (on_kind life p (Message.PrepareOk m)) (QuietLemmas.quiet_prepare_ok life p m)
keeps_kind life p (Message.Propose m) = keeps_propose life p m
keeps_kind life p (Message.Accept m) = keeps_quiet life (on_kind life p (Message.Accept m)) (QuietLemmas.quiet_accept life p m)
keeps_kind life p (Message.Recovery m) = keeps_recovery life p m.mark
keeps_kind life p (Message.RecoveryAnswer m) = keeps_quiet life (on_kind life p (Message.RecoveryAnswer m)) (QuietLemmas.quiet_answer life p m)
keeps_kind life p (Message.CatchUpQuery m) = keeps_quiet life (on_kind life p (Message.CatchUpQuery m)) (QuietLemmas.quiet_query life p m.first)
keeps_kind life p (Message.CatchUpReply m) = keeps_quiet life (on_kind life p (Message.CatchUpReply m)) (QuietLemmas.quiet_batches life m.first m.batches)
keeps_kind life p (Message.SnapshotPart m) = keeps_quiet life (on_kind life p (Message.SnapshotPart m)) (QuietLemmas.quiet_part life m)
keeps_kind life p (Message.Alive m) = keeps_alive life p m

keeps_message : (life : Life) (p : ℕ) (m : Message) → Keeps life (on_message life p m)
keeps_message life p m =
    if_holds (λ (next : Life). Keeps life (on_kind next p m)) (leads life p life.view) (record life { quiet = 0 }) life
    (λ e. keeps_kind (record life { quiet = 0 }) p m) (λ e. keeps_kind life p m)

-- ---- Items

keeps_counted : (life : Life) → Keeps life (tick_counted life)
keeps_counted life =
    let next = record life { quiet = suc life.quiet } in
    keeps_if life (nat_lt life.quiet quiet_limit) (suspected_if_quiet next) (stay life)
    (λ e. keeps_if next (next.quiet == quiet_limit) (suspected next) (stay next) (λ f. keeps_suspected next) (keeps_still next)) (keeps_still life)

keeps_tick : (life : Life) → Keeps life (on_tick life)
keeps_tick life =
    let ticked = on_tick_if_working life in
    keeps-then life ticked queried_if_due
    (keeps_if life (is_working life.phase) (on_tick_working life) (stay life)
    (λ w. keeps_if life (leads life life.config.me life.view) (sent_to_all (alive_of life) life) (tick_counted life)
    (λ e. keeps_quiet life (sent_to_all (alive_of life) life) (QuietLemmas.quiet_sent life (alive_of life))) (keeps_counted life))
    (keeps_still life))
    (keeps_quiet ticked.life (queried_if_due ticked.life) (QuietLemmas.quiet_queried ticked.life))

keeps_item : (life : Life) (item : Item) → Keeps life (on_item life item)
keeps_item life (Item.Message from message) = keeps_message life from message
keeps_item life (Item.Batch batch) = keeps_quiet life (on_item life (Item.Batch batch)) (QuietLemmas.quiet_batch life batch)
keeps_item life Item.Tick = keeps_tick life
keeps_item life Item.Suspect = keeps_suspected life
keeps_item life (Item.Snapshot upto bytes) = keeps_quiet life (on_item life (Item.Snapshot upto bytes)) (QuietLemmas.quiet_snapshot life upto bytes)

-- ---- Settling

-- a life that rejoins was Recovering, so that its stable number is not above its mark
keeps_rejoined : (life : Life) (view : ℕ) → is_recovering life.phase ≡ true → Keeps life (rejoined_in life (Some view))
keeps_rejoined life view recovering =
    if_holds (λ (t : Turned). Keeps life (followed_by t (rejoin_shown view))) (is_view_ss life.config.mode && nat_lt life.mark view) (does (Act.Save view) (record life { stable = view })) (stay life)
    (λ e.
    let above : life.mark < view = ltb-true life.mark view (and_second (is_view_ss life.config.mode) (nat_lt life.mark view) e) in
    record {
      stored = λ s. let low = s recovering in ap (λ (n : ℕ). Some n) (omega (arith, above, low));
      steady = λ s r. absurd cc;
    })
    (λ e. record { stored = λ s. refl; steady = λ s r. absurd cc })

keeps_rejoin : (life : Life) → Keeps life (settled_rejoin life)
keeps_rejoin life =
    if_holds (λ (o : Option ℕ). Keeps life (rejoined_in life o)) (is_recovering life.phase) (rejoin_view life.vector life.rejoiner (first_undecided life.log)) None
    (λ r. by r (rejoin_view life.vector life.rejoiner (first_undecided life.log))) (λ e. keeps_still life)
  where
    by : is_recovering life.phase ≡ true → (o : Option ℕ) → Keeps life (rejoined_in life o)
    by r None = keeps_still life
    by r (Some view) = keeps_rejoined life view r

keeps_settled : (life : Life) (room : ℕ) → Keeps life (settled life room)
keeps_settled life room =
    let rejoined = settled_rejoin life in
    let rest = λ (next : Life). followed_by (settled_prepared next) (λ prepared. followed_by (settled_waiting prepared) (settled_handing room)) in
    keeps-then life rejoined rest (keeps_rejoin life)
    (keeps_quiet rejoined.life (rest rejoined.life)
    (quiet-then rejoined.life (settled_prepared rejoined.life) (λ prepared. followed_by (settled_waiting prepared) (settled_handing room)) (QuietLemmas.quiet_prepared rejoined.life)
    (λ prepared. quiet-then prepared (settled_waiting prepared) (settled_handing room) (QuietLemmas.quiet_waiting prepared) (QuietLemmas.quiet_handing room))))

keeps_turn : (life : Life) (item : Item) (room : ℕ) → Keeps life (turn life item room)
keeps_turn life item room =
    let taken = on_item life item in
    keeps-then life taken (λ next. settled next room) (keeps_item life item) (keeps_settled taken.life room)

-- what a turn saves is the stable number that it leaves
pub turn_stores : (life : Life) (item : Item) (room : ℕ) → IsSteady life → stored_after (Some life.stable) (turn life item room).acts ≡ Some (turn life item room).life.stable
turn_stores life item room s = (keeps_turn life item room).stored s

pub turn_steady : (life : Life) (item : Item) (room : ℕ) → IsSteady life → IsSteady (turn life item room).life
turn_steady life item room s = (keeps_turn life item room).steady s

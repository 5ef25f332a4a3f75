-- What is done without a raise of the view and without rejoining leaves the constants, the phase, the mark and the stable number, and saves nothing.
use Rattle.std.proofs.Common.{◌≡◌, ℕ, zero, suc, ◌^◌, ◌++◌, ◌&&◌, Bool, not, List, [], ◌∷◌, length, nat_lt, nat_le, ◌==◌, Option, Some, None, if◌then◌else◌, refl}
use Rattle.jp_types.specs.declared.message.Accept.{Accept}
use Rattle.jp_types.specs.declared.message.Message.{Message}
use Rattle.jp_types.specs.declared.message.Prepare.{Prepare}
use Rattle.jp_types.specs.declared.message.PrepareOk.{PrepareOk}
use Rattle.jp_types.specs.declared.message.Propose.{Propose}
use Rattle.jp_types.specs.declared.message.RecoveryAnswer.{RecoveryAnswer}
use Rattle.jp_types.specs.declared.message.SnapshotPart.{SnapshotPart}
use Rattle.jp_types.specs.declared.mode.Phase.{Phase}
use Rattle.jp_types.specs.declared.mode.Phase.TheVariants.{Recovering, Working}
use Rattle.jp_types.specs.Instances.{Batch}
use Rattle.jp_types.specs.Views.{leader}
use Rattle.jp_types.specs.Vectors.{raised}
use Rattle.kv_service.specs.Parts.{Joiner}
use Rattle.kv_service.specs.StateReading.{state_in}
use Rattle.paxos_world.specs.Counting.{is_recovering}
use Rattle.paxos_world.specs.Leading.{is_view_ss}
use Rattle.paxos_world.specs.declared.step.Step.{Step}
use Rattle.proposer_core.specs.declared.adoption.Adopted.{Adopted}
use Rattle.proposer_core.specs.declared.adoption.Launch.{Launch}
use Rattle.proposer_core.specs.Proposing.{is_awaited}
use Rattle.replica_log.specs.Log.{first_undecided, is_known}
use Rattle.acceptor_core.specs.Learning.{is_open}
use Rattle.catch_up.specs.declared.reply.Given.{Given}
use Rattle.catch_up.specs.declared.reply.Given.TheVariants as given
use Rattle.catch_up.specs.Replying.{reply_to}
use Rattle.snapshots.specs.Cutting.{parts_of}
use Rattle.snapshots.specs.Joining.{part_fault}
use Rattle.protocol_core.specs.declared.act.Act.{Act}
use Rattle.protocol_core.specs.declared.act.Topic.{Topic}
use Rattle.protocol_core.specs.declared.life.Life.{Life}
use Rattle.protocol_core.specs.declared.life.Snapshot.{Snapshot}
use Rattle.acceptor_core.specs.Promising.{promised}
use Rattle.protocol_core.specs.Answering.{on_prepare_ok, with_promise, with_entry, answer_sent, horizon_to_next, with_answer, answer_taken, on_recovery_answer}
use Rattle.protocol_core.specs.CatchingUp
use Rattle.protocol_core.specs.Launching.{learned, learned_if_open, launch_shown, proposed, propose_of, launched}
use Rattle.protocol_core.specs.Leading.{phase_1_begun, entered, led_or_dropped, preparing, prepare_of}
use Rattle.protocol_core.specs.Sending.{shown, sent_and_armed, sent_to_all, to_all, armed_for_all}
use Rattle.protocol_core.specs.Settling.{learned_as_told, launched_as_adopted, launched_each, prepared_shown, prepared_with, settled_prepared, with_adoption, adoption_due, with_waiting, open_place, launched_then, launched_waiting, settled_waiting, Handing, next_handing, handed_on, handed_then, settled_handing}
use Rattle.protocol_core.specs.Starting.{led, opened_in, recovery_of}
use Rattle.protocol_core.specs.Turned.{Turned, stay}
use Rattle.protocol_core.specs.Turning.{may_wait, on_batch}
use Rattle.protocol_core.specs.Voting.{horizon_to, leads, promise_sent, promised_if, vote_shown, vote_shown_if, accept_of, learning_shown, learning_shown_if, with_proposal, votes, learns, proposal_taken, proposal_taken_if, counts, with_accept, learns_by, on_accept, up}
use Rattle.protocol_stage.proofs.SavingLemmas.{if_holds, SavesNothing, nothing-append, nothing-to_all, Quiet, quiet-then}

-- a life that differs in other fields, and acts that save nothing
quietly : (life next : Life) (acts : List Act) → next.config ≡ life.config → next.phase ≡ life.phase → next.mark ≡ life.mark → next.stable ≡ life.stable → SavesNothing acts → Quiet life (record { life = next; acts = acts })
quietly life next acts c p m s n = record { config_is = c; phase_is = p; mark_is = m; stable_is = s; nothing = n }

pub quiet_stay : (life next : Life) → next.config ≡ life.config → next.phase ≡ life.phase → next.mark ≡ life.mark → next.stable ≡ life.stable → Quiet life (stay next)
quiet_stay life next c p m s = quietly life next [] c p m s (λ n. refl)

pub quiet_if : (life : Life) (b : Bool) (t u : Turned) → Quiet life t → Quiet life u → Quiet life (if b then t else u)
quiet_if life b t u h k = if_holds (Quiet life) b t u (λ e. h) (λ e. k)

pub still : (life : Life) → Quiet life (stay life)
still life = quiet_stay life life refl refl refl refl

-- ---- Sends

pub quiet_sent : (life : Life) (m : Message) → Quiet life (sent_to_all m life)
quiet_sent life m = quietly life life (to_all life.config.n life.config.me m) refl refl refl refl (nothing-to_all life.config.n life.config.me m)

quiet_armed : (topic : Topic) (m : Message) (life : Life) → Quiet life (sent_and_armed topic m life)
quiet_armed topic m life =
    let n = life.config.n in
    let me = life.config.me in
    quietly life life (to_all n me m ++ armed_for_all n me topic m) refl refl refl refl (nothing-append (to_all n me m) (armed_for_all n me topic m) (nothing-to_all n me m) (λ s. refl))

-- ---- Leading

quiet_phase_1 : (life : Life) → Quiet life (phase_1_begun life)
quiet_phase_1 life =
    let first = first_undecided life.log in
    let m = prepare_of life first in
    quiet-then life _ (sent_and_armed Topic.Prepare m) (quietly life (preparing life first) (shown (Step.Promise life.config.me life.view) life).acts refl refl refl refl (λ s. refl)) (quiet_armed Topic.Prepare m)

pub quiet_entered : (life : Life) (view : ℕ) → Quiet life (entered life view)
quiet_entered life view = quietly life (entered life view).life (entered life view).acts refl refl refl refl (λ s. refl)

pub quiet_led : (life : Life) → Quiet life (led_or_dropped life)
quiet_led life =
    quiet_if life (leader life.config.n life.view == life.config.me) (phase_1_begun life) (stay (record life { waiting = [] })) (quiet_phase_1 life) (quiet_stay life (record life { waiting = [] }) refl refl refl refl)

quiet_first : (life : Life) → Quiet life (led life)
quiet_first life = quiet_if life (leads life life.config.me life.view) (phase_1_begun life) (stay life) (quiet_phase_1 life) (still life)

pub quiet_opened : (phase : Phase) (life : Life) → Quiet life (opened_in phase life)
quiet_opened Working life = quiet-then life _ led (quietly life life (Act.Step (Step.First life.config.me) ∷ []) refl refl refl refl (λ s. refl)) quiet_first
quiet_opened Recovering life =
    quiet-then life _ (sent_and_armed Topic.Recovery (recovery_of life.mark)) (quietly life life (Act.Step (Step.Return life.config.me life.mark) ∷ []) refl refl refl refl (λ s. refl)) (quiet_armed Topic.Recovery (recovery_of life.mark))

-- ---- Promises and votes

pub quiet_promised : (life : Life) (p : ℕ) (m : Prepare) → Quiet life (promised_if life p m)
quiet_promised life p m = by (promised life.log life.view life.vector m)
  where
    by : (o : Option PrepareOk) → Quiet life (promise_sent life p o)
    by None = still life
    by (Some promise) = quietly life life (promise_sent life p (Some promise)).acts refl refl refl refl (λ s. refl)

quiet_voted : (life : Life) (view i : ℕ) → Quiet life (vote_shown life view i)
quiet_voted life view i = quiet-then life _ (sent_to_all (accept_of view i)) (quietly life life (shown (Step.Vote life.config.me view i) life).acts refl refl refl refl (λ s. refl)) (λ next. quiet_sent next (accept_of view i))

quiet_learning : (life : Life) (i : ℕ) → Quiet life (learning_shown life i)
quiet_learning life i = quietly life life (learning_shown life i).acts refl refl refl refl (λ s. refl)

quiet_learning_if : (life : Life) (b : Bool) (i : ℕ) → Quiet life (learning_shown_if life b i)
quiet_learning_if life b i = quiet_if life b (learning_shown life i) (stay life) (quiet_learning life i) (still life)

pub quiet_proposal : (life : Life) (p : ℕ) (m : Propose) → Quiet life (proposal_taken_if life p m)
quiet_proposal life p m =
    let after = with_proposal life p m in
    quiet_if life (counts life.log p && counts life.log life.config.me) (proposal_taken life p m) (stay life)
    (quiet-then life (vote_shown_if after (votes life m) m.view m.instance) (λ voted. learning_shown_if voted (learns life p m) m.instance)
    (quiet_if after (votes life m) (vote_shown after m.view m.instance) (stay after) (quiet_voted after m.view m.instance) (still after))
    (λ next. quiet_learning_if next (learns life p m) m.instance))
    (still life)

pub quiet_accept : (life : Life) (p : ℕ) (m : Accept) → Quiet life (on_accept life p m)
quiet_accept life p m =
    let heard = horizon_to life (up m.instance) in
    quiet_if life (counts heard.log p) (learning_shown_if (with_accept heard p m) (learns_by heard p m) m.instance) (stay heard)
    (quiet_learning_if (with_accept heard p m) (learns_by heard p m) m.instance) (quiet_stay life heard refl refl refl refl)

-- ---- Answers

pub quiet_prepare_ok : (life : Life) (p : ℕ) (m : PrepareOk) → Quiet life (stay (on_prepare_ok life p m))
quiet_prepare_ok life p m =
    if_holds (λ (next : Life). Quiet life (stay next)) (nat_lt p life.proposer.n && is_awaited life.proposer.leading m) (with_promise (horizon_to life m.low) p m) life
    (λ e. quiet_stay life (with_promise (horizon_to life m.low) p m) refl refl refl refl) (λ e. still life)

pub quiet_answered : (life : Life) (p mark : ℕ) → Quiet life (answer_sent (with_entry life p mark) p mark)
quiet_answered life p mark =
    if_holds (λ (next : Life). Quiet life (answer_sent next p mark)) (is_view_ss life.config.mode) life (if nat_lt p 9 then record life { vector = raised life.vector p mark } else life)
    (λ e. sent life refl refl refl refl)
    (λ e. if_holds (λ (next : Life). Quiet life (answer_sent next p mark)) (nat_lt p 9) (record life { vector = raised life.vector p mark }) life (λ e. sent (record life { vector = raised life.vector p mark }) refl refl refl refl) (λ e. sent life refl refl refl refl))
  where
    sent : (next : Life) → next.config ≡ life.config → next.phase ≡ life.phase → next.mark ≡ life.mark → next.stable ≡ life.stable → Quiet life (answer_sent next p mark)
    sent next c e f g = quietly life next (answer_sent next p mark).acts c e f g (λ s. refl)

pub quiet_answer : (life : Life) (p : ℕ) (m : RecoveryAnswer) → Quiet life (stay (on_recovery_answer life p m))
quiet_answer life p m =
    if_holds (λ (next : Life). Quiet life (stay next)) (is_recovering life.phase && nat_lt p (length life.rejoiner.answers)) (answer_taken life p m) life
    (λ e. if_holds (λ (next : Life). Quiet life (stay next)) (m.mark == life.rejoiner.mark) (horizon_to_next (with_answer life p m) m.next) life (λ e. by m.next) (λ e. still life))
    (λ e. still life)
  where
    by : (o : Option ℕ) → Quiet life (stay (horizon_to_next (with_answer life p m) o))
    by None = quiet_stay life (with_answer life p m) refl refl refl refl
    by (Some next) = quiet_stay life (horizon_to (with_answer life p m) next) refl refl refl refl

-- ---- Launching

quiet_learned : (life : Life) (i : ℕ) (batch : Batch) → Quiet life (learned_if_open life i batch)
quiet_learned life i batch = quiet_if life (is_open life.log i) (learned life i batch) (stay life) (quietly life (learned life i batch).life (learned life i batch).acts refl refl refl refl (λ s. refl)) (still life)

quiet_proposed : (b : Bool) (i : ℕ) (m : Message) (life : Life) → Quiet life (proposed b i m life)
quiet_proposed b i m life =
    let n = life.config.n in
    let me = life.config.me in
    let armed = armed_for_all n me (Topic.Propose i) m in
    quietly life life (to_all n me m ++ (if b then armed else [])) refl refl refl refl
    (nothing-append (to_all n me m) (if b then armed else []) (nothing-to_all n me m) (if_holds SavesNothing b armed [] (λ e s. refl) (λ e s. refl)))

quiet_launched : (life : Life) (i : ℕ) (batch : Batch) → Quiet life (launched life i batch)
quiet_launched life i batch =
    let m = propose_of life.view i batch in
    quiet-then life (launch_shown life i batch) (proposed (not (is_known life.log i)) i m) (quietly life (launch_shown life i batch).life (launch_shown life i batch).acts refl refl refl refl (λ s. refl))
    (λ next. quiet_proposed (not (is_known life.log i)) i m next)

-- ---- Catching up

pub quiet_queried : (life : Life) → Quiet life (CatchingUp.queried_if_due life)
quiet_queried life =
    quiet_if life (nat_lt (first_undecided life.log) life.horizon) (CatchingUp.queried life) (stay life)
    (quietly life (CatchingUp.queried life).life (CatchingUp.queried life).acts refl refl refl refl (λ s. refl)) (still life)

nothing_each : (p : ℕ) (parts : List SnapshotPart) → SavesNothing (CatchingUp.each_sent p parts)
nothing_each p [] = λ s. refl
nothing_each p (part ∷ parts) = nothing_each p parts

pub quiet_query : (life : Life) (p first : ℕ) → Quiet life (CatchingUp.on_query life p first)
quiet_query life p first = quietly life life (CatchingUp.query_answered life p first) refl refl refl refl (by (reply_to life.log first))
  where
    by_newest : (o : Option Snapshot) → SavesNothing (CatchingUp.newest_sent p o)
    by_newest None = λ s. refl
    by_newest (Some snapshot) =
        let parts = CatchingUp.each_sent p (parts_of snapshot.place snapshot.bytes) in
        if_holds SavesNothing (nat_le (length snapshot.bytes) (2 ^ 28)) parts [] (λ e. nothing_each p (parts_of snapshot.place snapshot.bytes)) (λ e s. refl)

    by : (g : Given) → SavesNothing (CatchingUp.given_sent life p first g)
    by given.Offer = by_newest life.newest
    by given.Nothing = λ s. refl
    by (given.Batches batches) = λ s. refl

quiet_each : (batches : List Batch) (i : ℕ) (life : Life) → Quiet life (CatchingUp.learned_each life i batches)
quiet_each [] i life = still life
quiet_each (batch ∷ batches) i life = quiet-then life (learned_if_open life i batch) (λ next. CatchingUp.learned_each next (up i) batches) (quiet_learned life i batch) (quiet_each batches (up i))

pub quiet_batches : (life : Life) (first : ℕ) (batches : List Batch) → Quiet life (CatchingUp.on_batches life first batches)
quiet_batches life first batches = quiet-then life _ (λ next. CatchingUp.learned_each next first batches) (quietly life life (Act.Cancel Topic.Query ∷ []) refl refl refl refl (λ s. refl)) (quiet_each batches first)

pub quiet_part : (life : Life) (m : SnapshotPart) → Quiet life (CatchingUp.on_part life m)
quiet_part life m =
    quiet_if life (CatchingUp.is_wanted life m.upto) (CatchingUp.part_put life joiner m) (stay life)
    (by (CatchingUp.after_part (part_fault joiner m) joiner m) (CatchingUp.joined_by (part_fault joiner m) joiner m)) (still life)
  where
    joiner : Joiner
    joiner = CatchingUp.joiner_for life.joiner m

    by : (j : Joiner) (o : Option (List ℕ)) → Quiet life (CatchingUp.joined life m.upto j o)
    by j None = quiet_stay life (record life { joiner = Some j }) refl refl refl refl
    by j (Some bytes) =
        let next = record life { joiner = None } in
        let t = CatchingUp.installed next m.upto bytes in
        quiet_if life (CatchingUp.is_state_at m.upto (state_in bytes)) t (stay next) (quietly life t.life t.acts refl refl refl refl (λ s. refl)) (quiet_stay life next refl refl refl refl)

pub quiet_snapshot : (life : Life) (upto : ℕ) (bytes : List ℕ) → Quiet life (stay (CatchingUp.on_snapshot life upto bytes))
quiet_snapshot life upto bytes =
    if_holds (λ (next : Life). Quiet life (stay next)) (CatchingUp.is_taken life upto) (CatchingUp.with_snapshot life upto bytes) life
    (λ e. quiet_stay life (CatchingUp.with_snapshot life upto bytes) refl refl refl refl) (λ e. still life)

pub quiet_batch : (life : Life) (batch : Batch) → Quiet life (stay (on_batch life batch))
quiet_batch life batch =
    if_holds (λ (next : Life). Quiet life (stay next)) (may_wait life) (record life { waiting = life.waiting ++ batch ∷ [] }) life
    (λ e. quiet_stay life (record life { waiting = life.waiting ++ batch ∷ [] }) refl refl refl refl) (λ e. still life)

-- ---- Settling

quiet_as_adopted : (life : Life) (l : Launch) → Quiet life (launched_as_adopted life l)
quiet_as_adopted life l =
    quiet-then life (learned_as_told life l) (λ next. launched next l.instance l.batch)
    (quiet_if life l.decided (learned_if_open life l.instance l.batch) (stay life) (quiet_learned life l.instance l.batch) (still life))
    (λ next. quiet_launched next l.instance l.batch)

quiet_launches : (ls : List Launch) (life : Life) → Quiet life (launched_each ls life)
quiet_launches [] life = still life
quiet_launches (l ∷ ls) life = quiet-then life (launched_as_adopted life l) (launched_each ls) (quiet_as_adopted life l) (quiet_launches ls)

pub quiet_prepared : (life : Life) → Quiet life (settled_prepared life)
quiet_prepared life = by (adoption_due life)
  where
    by : (o : Option Adopted) → Quiet (with_adoption life) (prepared_with (with_adoption life) o)
    by None = still (with_adoption life)
    by (Some a) =
        let next = with_adoption life in
        quiet-then next (prepared_shown next a.next) (launched_each a.launches) (quietly next next (prepared_shown next a.next).acts refl refl refl refl (λ s. refl)) (quiet_launches a.launches)

quiet_launch_then : (o : Option ℕ) (batch : Batch) (batches : List Batch) (life : Life) (f : Life → Turned) → ((next : Life) → Quiet next (f next)) → Quiet life (launched_then o batch batches life f)
quiet_launch_then None batch batches life f h = still life
quiet_launch_then (Some i) batch batches life f h =
    let next = with_waiting life batches in
    quiet-then life (launched next i batch) f (quiet_launched next i batch) h

quiet_waiting_of : (batches : List Batch) (life : Life) → Quiet life (launched_waiting batches life)
quiet_waiting_of [] life = still life
quiet_waiting_of (batch ∷ batches) life = quiet_launch_then (open_place life) batch batches life (launched_waiting batches) (quiet_waiting_of batches)

pub quiet_waiting : (life : Life) → Quiet life (settled_waiting life)
quiet_waiting life = quiet_waiting_of life.waiting life

quiet_handed_then : (o : Option Handing) (life : Life) (f : Life → Turned) → ((next : Life) → Quiet next (f next)) → Quiet life (handed_then o life f)
quiet_handed_then None life f h = still life
quiet_handed_then (Some d) life f h = quiet-then life (handed_on life d) f (quietly life (handed_on life d).life (handed_on life d).acts refl refl refl refl (λ s. refl)) h

pub quiet_handing : (room : ℕ) (life : Life) → Quiet life (settled_handing room life)
quiet_handing zero life = still life
quiet_handing (suc room) life = quiet_handed_then (next_handing life) life (settled_handing room) (quiet_handing room)

-- A turn hands on no more decisions than there is room for, and only as it ends.
use Rattle.std.proofs.Common.{◌≡◌, ℕ, zero, suc, ◌+◌, ◌-◌, ◌≤◌, Bool, true, false, List, [], ◌∷◌, ◌++◌, length, if◌then◌else◌, ◌==◌, ◌&&◌, ◌^◌, not, nat_le, nat_lt, Option, Some, None, refl, sym, ap, subst, ◌∙◌, append_assoc, arith}
use Rattle.std.proofs.lemmas.List.{length-append}
use Rattle.jp_types.specs.declared.message.Alive.{Alive}
use Rattle.jp_types.specs.declared.message.Accept.{Accept}
use Rattle.jp_types.specs.declared.message.Message.{Message}
use Rattle.jp_types.specs.declared.message.Prepare.{Prepare}
use Rattle.jp_types.specs.declared.message.PrepareOk.{PrepareOk}
use Rattle.jp_types.specs.declared.message.Propose.{Propose}
use Rattle.jp_types.specs.declared.message.SnapshotPart.{SnapshotPart}
use Rattle.jp_types.specs.Instances.{Batch}
use Rattle.jp_types.specs.Views.{leader, next_led}
use Rattle.acceptor_core.specs.Learning.{is_open}
use Rattle.catch_up.specs.declared.reply.Given.{Given}
use Rattle.catch_up.specs.declared.reply.Given.TheVariants as given
use Rattle.catch_up.specs.Replying.{reply_to}
use Rattle.kv_service.specs.Parts.{Joiner}
use Rattle.kv_service.specs.StateReading.{state_in}
use Rattle.paxos_world.specs.Leading.{is_working, is_view_ss}
use Rattle.proposer_core.specs.declared.adoption.Adopted.{Adopted}
use Rattle.proposer_core.specs.declared.adoption.Launch.{Launch}
use Rattle.replica_log.specs.Log.{is_known, first_undecided}
use Rattle.service_manager.specs.declared.decision.Decision.{Decision}
use Rattle.snapshots.specs.Cutting.{parts_of}
use Rattle.snapshots.specs.Joining.{part_fault}
use Rattle.protocol_core.specs.declared.act.Act.{Act}
use Rattle.protocol_core.specs.declared.act.Topic.{Topic}
use Rattle.protocol_core.specs.declared.item.Item.{Item}
use Rattle.protocol_core.specs.declared.life.Life.{Life}
use Rattle.protocol_core.specs.declared.life.Snapshot.{Snapshot}
use Rattle.protocol_core.specs.Answering.{with_entry, answer_sent, raised_to_mark, on_recovery, on_alive}
use Rattle.protocol_core.specs.CatchingUp.{queried, queried_if_due, each_sent, newest_sent, given_sent, learned_each, is_wanted, joiner_for, after_part, joined_by, is_state_at, installed, joined, part_put, on_part}
use Rattle.protocol_core.specs.Launching.{learned, learned_if_open, propose_of, launch_shown, proposed, launched}
use Rattle.protocol_core.specs.Leading.{saved_view, entered, led_or_dropped, phase_1_begun, begun_from, preparing, prepare_of, raised_to, raised_up_to, raised_if, suspected}
use Rattle.protocol_core.specs.Messages.{on_kind, heard}
use Rattle.protocol_stage.specs.Performing.{outward}
use Rattle.protocol_core.specs.Sending.{to_all, armed_for_all, does, sent_and_armed, sent_to_all}
use Rattle.protocol_core.specs.Settling.{rejoin_due, rejoin_saved, rejoin_shown, rejoined_in, settled_rejoin, learned_as_told, launched_as_adopted, launched_each, prepared_shown, prepared_with, adoption_due, with_adoption, settled_prepared, open_place, with_waiting, launched_then, launched_waiting, settled_waiting, Handing, next_handing, handed_on, handed_then, settled_handing, settled}
use Rattle.protocol_core.specs.Turned.{Turned, stay, followed_by}
use Rattle.protocol_core.specs.Turning.{alive_of, suspected_if_quiet, tick_counted, on_tick_working, on_tick_if_working, on_tick, on_item, turn, quiet_limit}
use Rattle.protocol_core.specs.Voting.{horizon_to, leads, counts, promise_sent, promised_if, on_prepare, vote_shown, vote_shown_if, learning_shown, learning_shown_if, accept_of, with_proposal, votes, learns, proposal_taken, proposal_taken_if, proposal_followed, proposal_heard, on_propose, with_accept, learns_by, acceptance_taken, up}
use Rattle.acceptor_core.specs.Promising.{promised}
use Rattle.replica_node.specs.Lane.{places}
use Rattle.replica_node.specs.Taking.{handed_by, handed_of}

-- the decisions of acts one behind the other
pub handed-append : (before after : List Act) → handed_of (before ++ after) ≡ handed_of before ++ handed_of after
handed-append [] after = refl
handed-append (act ∷ acts) after =
    ap (λ (rest : List Decision). handed_by act ++ rest) (handed-append acts after) ∙ sym (append_assoc (handed_by act) (handed_of acts) (handed_of after))

-- ---- What hands nothing on

abbrev Quiet : Turned → Type 0
Quiet t = handed_of t.acts ≡ []

-- the decisions of what comes behind acts that hand nothing on
behind-quiet : (before after : List Act) → handed_of before ≡ [] → handed_of (before ++ after) ≡ handed_of after
behind-quiet before after quiet = handed-append before after ∙ ap (λ (ds : List Decision). ds ++ handed_of after) quiet

quiet-append : (before after : List Act) → handed_of before ≡ [] → handed_of after ≡ [] → handed_of (before ++ after) ≡ []
quiet-append before after quiet more = behind-quiet before after quiet ∙ more

pub quiet-then : (t : Turned) (f : Life → Turned) → Quiet t → ((life : Life) → Quiet (f life)) → Quiet (followed_by t f)
quiet-then t f quiet more = quiet-append t.acts (f t.life).acts quiet (more t.life)

pub quiet-if : (b : Bool) (t u : Turned) → Quiet t → Quiet u → Quiet (if b then t else u)
quiet-if true t u this that = this
quiet-if false t u this that = that

quiet-acts-if : (b : Bool) (these those : List Act) → handed_of these ≡ [] → handed_of those ≡ [] → handed_of (if b then these else those) ≡ []
quiet-acts-if true these those this that = this
quiet-acts-if false these those this that = that

-- ---- Sending

quiet-to_all : (k me : ℕ) (m : Message) → handed_of (to_all k me m) ≡ []
quiet-to_all zero me m = refl
quiet-to_all (suc k) me m =
    quiet-append (to_all k me m) (if k == me then [] else Act.Send k m ∷ []) (quiet-to_all k me m) (quiet-acts-if (k == me) [] (Act.Send k m ∷ []) refl refl)

pub quiet-sent_and_armed : (topic : Topic) (m : Message) (life : Life) → Quiet (sent_and_armed topic m life)
quiet-sent_and_armed topic m life =
    quiet-append (to_all life.config.n life.config.me m) (armed_for_all life.config.n life.config.me topic m) (quiet-to_all life.config.n life.config.me m) refl

quiet-sent_to_all : (m : Message) (life : Life) → Quiet (sent_to_all m life)
quiet-sent_to_all m life = quiet-to_all life.config.n life.config.me m

-- ---- Leading

pub quiet-begun_from : (life : Life) (first : ℕ) → Quiet (begun_from life first)
quiet-begun_from life first = quiet-sent_and_armed Topic.Prepare (prepare_of life first) (preparing life first)

quiet-saved_view : (life : Life) (view : ℕ) → Quiet (saved_view life view)
quiet-saved_view life view =
    quiet-if (is_view_ss life.config.mode && nat_lt life.stable view) (does (Act.Save view) (record life { stable = view })) (stay life) refl refl

quiet-led_or_dropped : (life : Life) → Quiet (led_or_dropped life)
quiet-led_or_dropped life =
    quiet-if (leader life.config.n life.view == life.config.me) (phase_1_begun life) (stay (record life { waiting = [] })) (quiet-begun_from life (first_undecided life.log)) refl

quiet-raised_to : (life : Life) (view : ℕ) → Quiet (raised_to life view)
quiet-raised_to life view =
    quiet-then (saved_view life view) (λ saved. followed_by (entered saved view) led_or_dropped) (quiet-saved_view life view) (λ saved. quiet-then (entered saved view) led_or_dropped refl quiet-led_or_dropped)

quiet-raised_up_to : (life : Life) (view : ℕ) → Quiet (raised_up_to life view)
quiet-raised_up_to life view = quiet-if (is_working life.phase && nat_lt life.view view) (raised_to life view) (stay life) (quiet-raised_to life view) refl

quiet-raised_if : (life : Life) (view : Option ℕ) → Quiet (raised_if life view)
quiet-raised_if life None = refl
quiet-raised_if life (Some view) = quiet-raised_to life view

quiet-suspected : (life : Life) → Quiet (suspected life)
quiet-suspected life =
    quiet-if (is_working life.phase) (raised_if life (next_led life.config.n life.config.me life.view)) (stay life) (quiet-raised_if life (next_led life.config.n life.config.me life.view)) refl

-- ---- Voting

quiet-promise_sent : (life : Life) (p : ℕ) (promise : Option PrepareOk) → Quiet (promise_sent life p promise)
quiet-promise_sent life p None = refl
quiet-promise_sent life p (Some promise) = refl

quiet-on_prepare : (life : Life) (p : ℕ) (m : Prepare) → Quiet (on_prepare life p m)
quiet-on_prepare life p m =
    quiet-if (is_working life.phase && leads life p m.view) (followed_by (raised_up_to life m.view) (λ raised. promised_if raised p m)) (stay life)
    (quiet-then (raised_up_to life m.view) (λ raised. promised_if raised p m) (quiet-raised_up_to life m.view) (λ raised. quiet-promise_sent raised p (promised raised.log raised.view raised.vector m)))
    refl

quiet-vote_shown_if : (life : Life) (voted : Bool) (view i : ℕ) → Quiet (vote_shown_if life voted view i)
quiet-vote_shown_if life voted view i = quiet-if voted (vote_shown life view i) (stay life) (quiet-sent_to_all (accept_of view i) life) refl

quiet-learning_shown_if : (life : Life) (learned : Bool) (i : ℕ) → Quiet (learning_shown_if life learned i)
quiet-learning_shown_if life learned i = quiet-if learned (learning_shown life i) (stay life) refl refl

quiet-proposal_taken : (life : Life) (p : ℕ) (m : Propose) → Quiet (proposal_taken life p m)
quiet-proposal_taken life p m =
    quiet-then (vote_shown_if (with_proposal life p m) (votes life m) m.view m.instance) (λ voted. learning_shown_if voted (learns life p m) m.instance)
    (quiet-vote_shown_if (with_proposal life p m) (votes life m) m.view m.instance) (λ voted. quiet-learning_shown_if voted (learns life p m) m.instance)

quiet-proposal_taken_if : (life : Life) (p : ℕ) (m : Propose) → Quiet (proposal_taken_if life p m)
quiet-proposal_taken_if life p m = quiet-if (counts life.log p && counts life.log life.config.me) (proposal_taken life p m) (stay life) (quiet-proposal_taken life p m) refl

quiet-proposal_followed : (life : Life) (p : ℕ) (m : Propose) → Quiet (proposal_followed life p m)
quiet-proposal_followed life p m = quiet-then (raised_up_to life m.view) (λ raised. proposal_taken_if raised p m) (quiet-raised_up_to life m.view) (λ raised. quiet-proposal_taken_if raised p m)

quiet-on_propose : (life : Life) (p : ℕ) (m : Propose) → Quiet (on_propose life p m)
quiet-on_propose life p m = quiet-if (leads life p m.view) (proposal_heard life p m) (stay life) (quiet-proposal_followed (horizon_to life (up m.instance)) p m) refl

quiet-acceptance_taken : (life : Life) (p : ℕ) (m : Accept) → Quiet (acceptance_taken life p m)
quiet-acceptance_taken life p m =
    quiet-if (counts life.log p) (learning_shown_if (with_accept life p m) (learns_by life p m) m.instance) (stay life) (quiet-learning_shown_if (with_accept life p m) (learns_by life p m) m.instance) refl

-- ---- Launching

quiet-learned_if_open : (life : Life) (i : ℕ) (batch : Batch) → Quiet (learned_if_open life i batch)
quiet-learned_if_open life i batch = quiet-if (is_open life.log i) (learned life i batch) (stay life) refl refl

quiet-proposed : (repeats : Bool) (i : ℕ) (m : Message) (life : Life) → Quiet (proposed repeats i m life)
quiet-proposed repeats i m life =
    quiet-append (to_all life.config.n life.config.me m) (if repeats then armed_for_all life.config.n life.config.me (Topic.Propose i) m else [])
    (quiet-to_all life.config.n life.config.me m) (quiet-acts-if repeats (armed_for_all life.config.n life.config.me (Topic.Propose i) m) [] refl refl)

quiet-launched : (life : Life) (i : ℕ) (batch : Batch) → Quiet (launched life i batch)
quiet-launched life i batch =
    quiet-then (launch_shown life i batch) (proposed (not (is_known life.log i)) i (propose_of life.view i batch)) refl (quiet-proposed (not (is_known life.log i)) i (propose_of life.view i batch))

-- ---- Answers

quiet-raised_to_mark : (life : Life) (mark : ℕ) → Quiet (raised_to_mark life mark)
quiet-raised_to_mark life mark = quiet-if (is_view_ss life.config.mode) (raised_up_to life mark) (stay life) (quiet-raised_up_to life mark) refl

quiet-on_recovery : (life : Life) (p mark : ℕ) → Quiet (on_recovery life p mark)
quiet-on_recovery life p mark =
    quiet-if (is_working life.phase) (followed_by (raised_to_mark life mark) (λ raised. answer_sent (with_entry raised p mark) p mark)) (stay life)
    (quiet-then (raised_to_mark life mark) (λ raised. answer_sent (with_entry raised p mark) p mark) (quiet-raised_to_mark life mark) (λ raised. refl))
    refl

quiet-on_alive : (life : Life) (p : ℕ) (m : Alive) → Quiet (on_alive life p m)
quiet-on_alive life p m =
    quiet-if (leads life p m.view) (raised_up_to (horizon_to life m.first_undecided) m.view) (stay life) (quiet-raised_up_to (horizon_to life m.first_undecided) m.view) refl

-- ---- Catching up

quiet-queried_if_due : (life : Life) → Quiet (queried_if_due life)
quiet-queried_if_due life = quiet-if (nat_lt (first_undecided life.log) life.horizon) (queried life) (stay life) refl refl

quiet-each_sent : (p : ℕ) (parts : List SnapshotPart) → handed_of (each_sent p parts) ≡ []
quiet-each_sent p [] = refl
quiet-each_sent p (part ∷ parts) = quiet-each_sent p parts

quiet-newest_sent : (p : ℕ) (newest : Option Snapshot) → handed_of (newest_sent p newest) ≡ []
quiet-newest_sent p None = refl
quiet-newest_sent p (Some snapshot) =
    quiet-acts-if (nat_le (length snapshot.bytes) (2 ^ 28)) (each_sent p (parts_of snapshot.place snapshot.bytes)) [] (quiet-each_sent p (parts_of snapshot.place snapshot.bytes)) refl

quiet-given_sent : (life : Life) (p first : ℕ) (g : Given) → handed_of (given_sent life p first g) ≡ []
quiet-given_sent life p first given.Offer = quiet-newest_sent p life.newest
quiet-given_sent life p first given.Nothing = refl
quiet-given_sent life p first (given.Batches batches) = refl

quiet-learned_each : (life : Life) (i : ℕ) (batches : List Batch) → Quiet (learned_each life i batches)
quiet-learned_each life i [] = refl
quiet-learned_each life i (batch ∷ batches) =
    quiet-then (learned_if_open life i batch) (λ next. learned_each next (up i) batches) (quiet-learned_if_open life i batch) (λ next. quiet-learned_each next (up i) batches)

quiet-joined : (life : Life) (upto : ℕ) (j : Joiner) (bytes : Option (List ℕ)) → Quiet (joined life upto j bytes)
quiet-joined life upto j None = refl
quiet-joined life upto j (Some bytes) = quiet-if (is_state_at upto (state_in bytes)) (installed (record life { joiner = None }) upto bytes) (stay (record life { joiner = None })) refl refl

quiet-part_put : (life : Life) (j : Joiner) (m : SnapshotPart) → Quiet (part_put life j m)
quiet-part_put life j m = quiet-joined life m.upto (after_part (part_fault j m) j m) (joined_by (part_fault j m) j m)

quiet-on_part : (life : Life) (m : SnapshotPart) → Quiet (on_part life m)
quiet-on_part life m = quiet-if (is_wanted life m.upto) (part_put life (joiner_for life.joiner m) m) (stay life) (quiet-part_put life (joiner_for life.joiner m) m) refl

-- ---- Items

quiet-on_kind : (life : Life) (p : ℕ) (m : Message) → Quiet (on_kind life p m)
quiet-on_kind life p (Message.Prepare m) = quiet-on_prepare life p m
quiet-on_kind life p (Message.PrepareOk m) = refl
quiet-on_kind life p (Message.Propose m) = quiet-on_propose life p m
quiet-on_kind life p (Message.Accept m) = quiet-acceptance_taken (horizon_to life (up m.instance)) p m
quiet-on_kind life p (Message.Recovery m) = quiet-on_recovery life p m.mark
quiet-on_kind life p (Message.RecoveryAnswer m) = refl
quiet-on_kind life p (Message.CatchUpQuery m) = quiet-given_sent life p m.first (reply_to life.log m.first)
quiet-on_kind life p (Message.CatchUpReply m) = quiet-learned_each life m.first m.batches
quiet-on_kind life p (Message.SnapshotPart m) = quiet-on_part life m
quiet-on_kind life p (Message.Alive m) = quiet-on_alive life p m

quiet-suspected_if_quiet : (life : Life) → Quiet (suspected_if_quiet life)
quiet-suspected_if_quiet life = quiet-if (life.quiet == quiet_limit) (suspected life) (stay life) (quiet-suspected life) refl

quiet-tick_counted : (life : Life) → Quiet (tick_counted life)
quiet-tick_counted life =
    quiet-if (nat_lt life.quiet quiet_limit) (suspected_if_quiet (record life { quiet = suc life.quiet })) (stay life) (quiet-suspected_if_quiet (record life { quiet = suc life.quiet })) refl

quiet-on_tick_working : (life : Life) → Quiet (on_tick_working life)
quiet-on_tick_working life =
    quiet-if (leads life life.config.me life.view) (sent_to_all (alive_of life) life) (tick_counted life) (quiet-sent_to_all (alive_of life) life) (quiet-tick_counted life)

quiet-on_tick : (life : Life) → Quiet (on_tick life)
quiet-on_tick life =
    quiet-then (on_tick_if_working life) queried_if_due (quiet-if (is_working life.phase) (on_tick_working life) (stay life) (quiet-on_tick_working life) refl) quiet-queried_if_due

quiet-on_item : (life : Life) (item : Item) → Quiet (on_item life item)
quiet-on_item life (Item.Message from message) = quiet-on_kind (heard life from) from message
quiet-on_item life (Item.Batch batch) = refl
quiet-on_item life Item.Tick = quiet-on_tick life
quiet-on_item life Item.Suspect = quiet-suspected life
quiet-on_item life (Item.Snapshot upto bytes) = refl

-- ---- Settling

quiet-rejoin_saved : (life : Life) (view : ℕ) → Quiet (rejoin_saved life view)
quiet-rejoin_saved life view =
    quiet-if (is_view_ss life.config.mode && nat_lt life.mark view) (does (Act.Save view) (record life { stable = view })) (stay life) refl refl

quiet-rejoined_in : (life : Life) (view : Option ℕ) → Quiet (rejoined_in life view)
quiet-rejoined_in life None = refl
quiet-rejoined_in life (Some view) = quiet-then (rejoin_saved life view) (rejoin_shown view) (quiet-rejoin_saved life view) (λ saved. refl)

quiet-launched_as_adopted : (life : Life) (l : Launch) → Quiet (launched_as_adopted life l)
quiet-launched_as_adopted life l =
    quiet-then (learned_as_told life l) (λ learned. launched learned l.instance l.batch)
    (quiet-if l.decided (learned_if_open life l.instance l.batch) (stay life) (quiet-learned_if_open life l.instance l.batch) refl) (λ learned. quiet-launched learned l.instance l.batch)

quiet-launched_each : (ls : List Launch) (life : Life) → Quiet (launched_each ls life)
quiet-launched_each [] life = refl
quiet-launched_each (l ∷ ls) life = quiet-then (launched_as_adopted life l) (launched_each ls) (quiet-launched_as_adopted life l) (quiet-launched_each ls)

quiet-prepared_with : (life : Life) (a : Option Adopted) → Quiet (prepared_with life a)
quiet-prepared_with life None = refl
quiet-prepared_with life (Some a) = quiet-then (prepared_shown life a.next) (launched_each a.launches) refl (quiet-launched_each a.launches)

quiet-launched_then : (place : Option ℕ) (batch : Batch) (batches : List Batch) (life : Life) (f : Life → Turned) → ((next : Life) → Quiet (f next)) → Quiet (launched_then place batch batches life f)
quiet-launched_then None batch batches life f more = refl
quiet-launched_then (Some i) batch batches life f more = quiet-then (launched (with_waiting life batches) i batch) f (quiet-launched (with_waiting life batches) i batch) more

quiet-launched_waiting : (batches : List Batch) (life : Life) → Quiet (launched_waiting batches life)
quiet-launched_waiting [] life = refl
quiet-launched_waiting (batch ∷ batches) life = quiet-launched_then (open_place life) batch batches life (launched_waiting batches) (quiet-launched_waiting batches)

-- ---- What is handed on

handed-then : (room : ℕ) (next : Option Handing) (life : Life) (f : Life → Turned) → ((more : Life) → length (handed_of (f more).acts) ≤ room) → length (handed_of (handed_then next life f).acts) ≤ suc room
handed-then room None life f fewer = omega arith
handed-then room (Some h) life f fewer = let rest = fewer (handed_on life h).life in omega arith

handed-settled_handing : (room : ℕ) (life : Life) → length (handed_of (settled_handing room life).acts) ≤ room
handed-settled_handing zero life = omega arith
handed-settled_handing (suc room) life = handed-then room (next_handing life) life (settled_handing room) (handed-settled_handing room)

-- at most so many decisions are handed on behind what hands nothing on
within-then : (room : ℕ) (t : Turned) (f : Life → Turned) → Quiet t → ((life : Life) → length (handed_of (f life).acts) ≤ room) → length (handed_of (followed_by t f).acts) ≤ room
within-then room t f quiet fewer =
    subst (λ (ds : List Decision). length ds ≤ room) (sym (behind-quiet t.acts (f t.life).acts quiet)) (fewer t.life)

handed-settled : (room : ℕ) (life : Life) → length (handed_of (settled life room).acts) ≤ room
handed-settled room life =
    within-then room (settled_rejoin life) (λ rejoined. followed_by (settled_prepared rejoined) (λ prepared. followed_by (settled_waiting prepared) (settled_handing room))) (quiet-rejoined_in life (rejoin_due life)) (λ rejoined.
    within-then room (settled_prepared rejoined) (λ prepared. followed_by (settled_waiting prepared) (settled_handing room)) (quiet-prepared_with (with_adoption rejoined) (adoption_due rejoined)) (λ prepared.
    within-then room (settled_waiting prepared) (settled_handing room) (quiet-launched_waiting prepared.waiting prepared) (handed-settled_handing room)))

-- a turn hands on at most `room` decisions
pub handed_turn : (life : Life) (item : Item) (room : ℕ) → length (handed_of (turn life item room).acts) ≤ room
handed_turn life item room = within-then room (on_item life item) (λ taken. settled taken room) (quiet-on_item life item) (handed-settled room)

-- what goes out of acts hands on the same decisions
pub handed_outward : (acts : List Act) → handed_of (outward acts) ≡ handed_of acts
handed_outward [] = refl
handed_outward (Act.Step step ∷ acts) = handed_outward acts
handed_outward (Act.Send to message ∷ acts) = handed_outward acts
handed_outward (Act.Hand decision ∷ acts) = ap (λ (ds : List Decision). decision ∷ ds) (handed_outward acts)
handed_outward (Act.Save number ∷ acts) = handed_outward acts
handed_outward (Act.Arm topic outgoing ∷ acts) = handed_outward acts
handed_outward (Act.Cancel topic ∷ acts) = handed_outward acts
handed_outward (Act.CancelProposes ∷ acts) = handed_outward acts

-- ---- The decision lane

-- a lane with what is left to hand on has no more than all, so that it has a place for what comes next
pub room_left : (lane all : List Decision) (act : Act) (rest : List Act) → lane ++ handed_of (act ∷ rest) ≡ all → length all ≤ places → length lane + length (handed_by act) ≤ places
room_left lane all act rest e within =
    let whole : length (lane ++ (handed_by act ++ handed_of rest)) ≡ length all = ap length e in
    let split : length (lane ++ (handed_by act ++ handed_of rest)) ≡ length lane + (length (handed_by act) + length (handed_of rest)) =
    length-append lane (handed_by act ++ handed_of rest) ∙ ap (λ (k : ℕ). length lane + k) (length-append (handed_by act) (handed_of rest)) in
    omega (arith, whole, split, within)

-- a turn's decisions have places in the lane
pub room_for_turn : (life : Life) (item : Item) (count : ℕ) (acts : List Act) → acts ≡ outward (turn life item (places - count)).acts → count ≤ places → count + length (handed_of acts) ≤ places
room_for_turn life item count acts e within =
    let fewer = handed_turn life item (places - count) in
    let same : length (handed_of acts) ≡ length (handed_of (turn life item (places - count)).acts) =
    ap (λ (told : List Act). length (handed_of told)) e ∙ ap length (handed_outward (turn life item (places - count)).acts) in
    omega (arith, fewer, same, within)

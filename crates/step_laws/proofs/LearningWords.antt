-- Words of a turn that show no step of learning.
use Rattle.std.proofs.Common.{◌≡◌, ℕ, zero, suc, Bool, true, false, ◌&&◌, not, List, [], ◌∷◌, ◌++◌, nat_le, nat_lt, ◌==◌, Option, Some, None, is_some, if◌then◌else◌, refl, ap, ◌∙◌, append-nil}
use Rattle.std.specs.Option.{unwrap_or}
use Rattle.jp_types.specs.declared.message.Message.{Message}
use Rattle.jp_types.specs.declared.message.Prepare.{Prepare}
use Rattle.jp_types.specs.declared.message.PrepareOk.{PrepareOk}
use Rattle.jp_types.specs.declared.message.RecoveryAnswer.{RecoveryAnswer}
use Rattle.jp_types.specs.declared.message.SnapshotPart.{SnapshotPart}
use Rattle.jp_types.specs.declared.message.Alive.{Alive}
use Rattle.jp_types.specs.Instances.{Batch, peer}
use Rattle.jp_types.specs.Views.{leader, next_led, number_if}
use Rattle.kv_service.specs.Parts.{Joiner, is_joined, joined_bytes, takes_part, with_part}
use Rattle.kv_service.specs.Service.{State}
use Rattle.kv_service.specs.StateReading.{state_in}
use Rattle.paxos_world.specs.declared.step.Step.{Step}
use Rattle.paxos_world.specs.Life.{next_of}
use Rattle.paxos_world.specs.Counting.{is_recovering}
use Rattle.paxos_world.specs.World.{Deed}
use Rattle.paxos_world.specs.Stage.{Send, Hand, Save, Turned}
use Rattle.paxos_world.specs.Writing.{◌▹◌, when, when_some, for_each, with_stage, shows, says, saves, hands, sends_to_all, says_to_all}
use Rattle.paxos_world.specs.Logs.{is_known, first_undecided}
use Rattle.paxos_world.specs.Retransmitting.{arms_propose}
use Rattle.paxos_world.specs.Leading.{works, leads, leads_own, is_view_ss, raise_up_to, suspect}
use Rattle.paxos_world.specs.Learning.{horizon_to, notes, votes_for, propose_of, launches}
use Rattle.paxos_world.specs.CatchingUp.{query_of, queries_peer, query_where_due, replied_batches, parts_of, on_query, is_joining_above, joiner_for, keeps_joiner, installs, installs_if, has_part, puts_part, on_part}
use Rattle.paxos_world.specs.Messages.{on_prepare, prepares, on_prepare_ok, on_recovery, on_recovery_answer, on_alive}
use Rattle.paxos_world.specs.Settling.{rejoin_view, rejoins, settles_rejoin, open_place, launches_waiting, next_handing, hands_on}
use Rattle.paxos_world.specs.Turn.{alive_of, counts_quiet, on_tick, on_tick_working, quiet_limit}
use Rattle.step_laws.specs.Kinds.{shown_where, is_learn}
use Rattle.step_laws.proofs.Viewing.{picks, Quiet, quiet-act, quiet-show, quiet-when, quiet-some, quiet-each, quiet-sends_to_all, quiet-says_to_all}
use Rattle.step_laws.proofs.Raising.{entering_of, picks-append, raised-up, suspected}
use Rattle.step_laws.proofs.Asked.{prepare-shows, recovery-shows, alive-shows}

-- a word shows no step of learning
abbrev pub Learnless : (Turned → Turned) → Type 0
Learnless f = Quiet is_learn f

-- ---- Raising the view

-- entering a view is no learning
pub entering-none : (n me : ℕ) (o : Option ℕ) → picks is_learn (entering_of n me o) ≡ []
entering-none n me None = refl
entering-none n me (Some view) = go (leader n view == me)
  where
    go : (b : Bool) → picks is_learn (Step.Enter me view ∷ (if b then Step.Promise me view ∷ [] else [])) ≡ []
    go true = refl
    go false = refl

-- so what is shown of it behind other steps is nothing
pub none-entered : (n me : ℕ) (o : Option ℕ) (xs ys : List Step) → xs ≡ ys ++ picks is_learn (entering_of n me o) → xs ≡ ys
none-entered n me o xs ys e = e ∙ ap (λ (zs : List Step). ys ++ zs) (entering-none n me o) ∙ append-nil ys

-- the same with one more step behind it that is no learning
pub none-entered-more : (n me : ℕ) (o : Option ℕ) (b : Bool) (step : Step) (xs ys : List Step) → is_learn step ≡ false
    → xs ≡ ys ++ picks is_learn (entering_of n me o ++ (if b then step ∷ [] else [])) → xs ≡ ys
none-entered-more n me o b step xs ys e f = f ∙ ap (λ (zs : List Step). ys ++ zs) none ∙ append-nil ys
  where
    more : (b : Bool) → picks is_learn (if b then step ∷ [] else []) ≡ []
    more true = ap (λ (x : Bool). if x then step ∷ [] else []) e
    more false = refl

    none : picks is_learn (entering_of n me o ++ (if b then step ∷ [] else [])) ≡ []
    none =
        picks-append is_learn (entering_of n me o) (if b then step ∷ [] else [])
        ∙ ap (λ (zs : List Step). zs ++ picks is_learn (if b then step ∷ [] else [])) (entering-none n me o)
        ∙ more b

-- raising the view up to this one
pub learnless-raise_up : (view : ℕ) → Learnless (raise_up_to view)
learnless-raise_up view t =
    let s = t.stage in
    none-entered s.config.n s.config.me (if works s then number_if (nat_lt s.life.view view) view else None) (shown_where is_learn (raise_up_to view t).acts) (shown_where is_learn t.acts)
    (raised-up is_learn view t)

-- a suspicion
pub learnless-suspect : Learnless suspect
learnless-suspect t =
    let s = t.stage in
    none-entered s.config.n s.config.me (if works s then next_led s.config.n s.config.me s.life.view else None) (shown_where is_learn (suspect t).acts) (shown_where is_learn t.acts)
    (suspected is_learn t)

-- an Alive
pub learnless-alive : (p : ℕ) (m : Alive) → Learnless (on_alive p m)
learnless-alive p m t =
    let s = t.stage in
    none-entered s.config.n s.config.me (if works s then number_if (leads s p m.view && nat_lt s.life.view m.view) m.view else None)
    (shown_where is_learn (on_alive p m t).acts) (shown_where is_learn t.acts) (alive-shows is_learn p m t)

-- a Prepare
pub learnless-prepare : (p : ℕ) (m : Prepare) → Learnless (on_prepare p m)
learnless-prepare p m t =
    let s = t.stage in
    none-entered-more s.config.n s.config.me (if works s then number_if (leads s p m.view && nat_lt s.life.view m.view) m.view else None)
    (works s && leads s p m.view && nat_le s.life.view m.view) (Step.Promise s.config.me m.view) (shown_where is_learn (on_prepare p m t).acts) (shown_where is_learn t.acts) refl
    (prepare-shows is_learn p m t)

-- a Recovery
pub learnless-recovery : (p mark : ℕ) → Learnless (on_recovery p mark)
learnless-recovery p mark t =
    let s = t.stage in
    let entered = if works s then number_if (is_view_ss s.config.mode && nat_lt s.life.view mark) mark else None in
    let next = if is_some entered then None else next_of s.life.leading in
    none-entered-more s.config.n s.config.me entered (works s) (Step.Answer s.config.me p (unwrap_or entered s.life.view) next)
    (shown_where is_learn (on_recovery p mark t).acts) (shown_where is_learn t.acts) refl (recovery-shows is_learn p mark t)

-- a PrepareOk
pub learnless-prepare_ok : (m : PrepareOk) → Learnless (on_prepare_ok m)
learnless-prepare_ok m t = quiet-when is_learn (prepares t.stage m.view m.mark) (horizon_to m.low) (λ u. refl) t

-- a RecoveryAnswer
pub learnless-recovery_answer : (m : RecoveryAnswer) → Learnless (on_recovery_answer m)
learnless-recovery_answer m t =
    quiet-when is_learn (is_recovering t.stage.life.phase && (t.stage.life.mark == m.mark)) (when_some m.next horizon_to) (quiet-some is_learn m.next horizon_to (λ i u. refl)) t

-- ---- A tick

-- a tick is counted
pub learnless-counts : Learnless counts_quiet
learnless-counts t = quiet-when is_learn (suc t.stage.quiet == quiet_limit) suspect learnless-suspect (with_stage (λ s. record s { quiet = suc t.stage.quiet }) t)

-- a tick at a Working stage
pub learnless-tick_working : Learnless on_tick_working
learnless-tick_working t =
    let s = t.stage in
    let own = leads_own s in
    quiet-when is_learn (not own && nat_lt s.quiet quiet_limit) counts_quiet learnless-counts (when own (says_to_all (alive_of s)) t)
    ∙ quiet-when is_learn own (says_to_all (alive_of s)) (quiet-says_to_all is_learn (alive_of s)) t

-- a query goes out
pub learnless-query_where_due : Learnless query_where_due
learnless-query_where_due t =
    quiet-when is_learn (nat_lt (first_undecided t.stage) t.stage.horizon) queries_peer
    (λ u. quiet-act is_learn (Send (peer u.stage.config.me u.stage.config.n u.stage.queries) (query_of (first_undecided u.stage))) u.acts refl) t

-- a tick
pub learnless-tick : Learnless on_tick
learnless-tick t = learnless-query_where_due (when (works t.stage) on_tick_working t) ∙ quiet-when is_learn (works t.stage) on_tick_working learnless-tick_working t

-- ---- Queries and snapshots

-- the answer to a query
pub learnless-query : (p first : ℕ) → Learnless (on_query p first)
learnless-query p first t =
    let s = t.stage in
    let reply : Message = Message.CatchUpReply (record { first = first; batches = replied_batches s first }) in
    let parts : Turned → Turned = when_some s.newest (λ snapshot. for_each (parts_of snapshot) (says p)) in
    quiet-when is_learn (not (nat_lt first s.base) && is_some (s.life.known first)) (says p reply) (λ u. quiet-act is_learn (Send p reply) u.acts refl) (when (nat_lt first s.base) parts t)
    ∙ quiet-when is_learn (nat_lt first s.base) parts
    (quiet-some is_learn s.newest (λ snapshot. for_each (parts_of snapshot) (says p)) (λ snapshot. quiet-each is_learn (parts_of snapshot) (says p) (λ m u. quiet-act is_learn (Send p m) u.acts refl))) t

-- an Install
pub learnless-installs_if : (upto : ℕ) (bytes : List ℕ) (state : State) → Learnless (installs_if upto bytes state)
learnless-installs_if upto bytes state t =
    quiet-when is_learn (state.executed == upto) (installs upto bytes state) (λ u. quiet-show is_learn (Step.Install u.stage.config.me upto) u.acts refl) t

-- one more part
pub learnless-has_part : (j : Joiner) → Learnless (has_part j)
learnless-has_part j t =
    let install : State → Turned → Turned = installs_if j.upto (joined_bytes j) in
    let joined : Turned → Turned = λ u. u ▹ keeps_joiner None ▹ when_some (state_in (joined_bytes j)) install in
    quiet-when is_learn (is_joined j) joined (λ u. quiet-some is_learn (state_in (joined_bytes j)) install (learnless-installs_if j.upto (joined_bytes j)) (keeps_joiner None u))
    (when (not (is_joined j)) (keeps_joiner (Some j)) t)
    ∙ quiet-when is_learn (not (is_joined j)) (keeps_joiner (Some j)) (λ u. refl) t

-- a part is put into the joiner
pub learnless-puts_part : (j : Joiner) (m : SnapshotPart) → Learnless (puts_part j m)
learnless-puts_part j m t =
    quiet-when is_learn (not (takes_part j m)) (keeps_joiner (Some j)) (λ u. refl) (when (takes_part j m) (has_part (with_part j m)) t)
    ∙ quiet-when is_learn (takes_part j m) (has_part (with_part j m)) (learnless-has_part (with_part j m)) t

-- a part of a snapshot
pub learnless-part : (m : SnapshotPart) → Learnless (on_part m)
learnless-part m t =
    let s = t.stage in
    let j = joiner_for s.joiner m.upto m.total in
    quiet-when is_learn (nat_lt (first_undecided s) m.upto && not (is_joining_above s.joiner m.upto)) (puts_part j m) (learnless-puts_part j m) t

-- ---- Settling

-- rejoining
pub learnless-rejoin : Learnless settles_rejoin
learnless-rejoin t = quiet-some is_learn (rejoin_view t.stage) rejoins one t
  where
    one : (view : ℕ) → Learnless (rejoins view)
    one view u =
        let s = u.stage in
        let saving = is_view_ss s.config.mode && nat_lt s.life.mark view in
        let saved : Turned = when saving (saves view) u in
        quiet-show is_learn (Step.Rejoin s.config.me view) saved.acts refl ∙ quiet-when is_learn saving (saves view) (λ v. quiet-act is_learn (Save view) v.acts refl) u

-- a launch
pub learnless-launches : (i : ℕ) (batch : Batch) → Learnless (launches i batch)
learnless-launches i batch t =
    let s = t.stage in
    let view = s.life.view in
    let m = propose_of view i batch in
    let a = t ▹ shows (Step.Launch s.config.me view i batch) (Deed.Launch view i batch) in
    let c = a ▹ votes_for view i batch ▹ notes i view s.config.me (Some batch) in
    quiet-when is_learn (not (is_known s i)) (arms_propose i m) (λ u. refl) (sends_to_all m c)
    ∙ quiet-sends_to_all is_learn m c
    ∙ quiet-show is_learn (Step.Vote s.config.me view i) a.acts refl
    ∙ quiet-show is_learn (Step.Launch s.config.me view i batch) t.acts refl

-- launching what waits
pub learnless-waiting : (batches : List Batch) → Learnless (launches_waiting batches)
learnless-waiting [] t = refl
learnless-waiting (batch ∷ batches) t =
    quiet-some is_learn (open_place t.stage) (λ i u. launches_waiting batches (u ▹ with_stage (λ s. record s { waiting = batches }) ▹ launches i batch))
    (λ i u. let v : Turned = with_stage (λ s. record s { waiting = batches }) u in learnless-waiting batches (launches i batch v) ∙ learnless-launches i batch v) t

-- handing on
pub learnless-hands_on : (room : ℕ) → Learnless (hands_on room)
learnless-hands_on zero t = refl
learnless-hands_on (suc room) t =
    quiet-some is_learn (next_handing t.stage) (λ handing u. hands_on room (u ▹ with_stage (λ s. record s { handed = handing.1 }) ▹ hands handing.0))
    (λ handing u. learnless-hands_on room (u ▹ with_stage (λ s. record s { handed = handing.1 }) ▹ hands handing.0) ∙ quiet-act is_learn (Hand handing.0) u.acts refl) t

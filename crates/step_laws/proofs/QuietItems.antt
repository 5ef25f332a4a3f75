-- What is done with an item shows no step that fails the test of `Calm`, and so do the words of settling with the steps that they show.
use Rattle.std.proofs.Common.{◌≡◌, ℕ, zero, suc, ◌-◌, max, Bool, false, ◌&&◌, not, List, [], ◌∷◌, ◌++◌, length, Some, None, nat_lt, nat_le, ◌==◌, refl}
use Rattle.jp_types.specs.declared.message.Message.{Message}
use Rattle.jp_types.specs.declared.message.Prepare.{Prepare}
use Rattle.jp_types.specs.declared.message.PrepareOk.{PrepareOk}
use Rattle.jp_types.specs.declared.message.Propose.{Propose}
use Rattle.jp_types.specs.declared.message.RecoveryAnswer.{RecoveryAnswer}
use Rattle.jp_types.specs.declared.message.Alive.{Alive}
use Rattle.jp_types.specs.Instances.{Batch}
use Rattle.jp_types.specs.Reports.{decided_below}
use Rattle.paxos_world.specs.declared.step.Step.{Step}
use Rattle.paxos_world.specs.Life.{LifeId, Lead, Leading, No, Preparing, Leads, next_of}
use Rattle.paxos_world.specs.Counting.{is_recovering}
use Rattle.paxos_world.specs.World.{Deed}
use Rattle.paxos_world.specs.Stage.{Item, Came, Closed, Tick, Suspect, Snapped, Decision, Turned}
use Rattle.paxos_world.specs.Writing.{◌▹◌, when, when_some, with_stage, does, shows, saves, hands, sends_to_all, says_to_all}
use Rattle.paxos_world.specs.Logs.{first_undecided, is_known, is_in_span, report_from}
use Rattle.paxos_world.specs.Retransmitting.{arms_propose, cancels_prepare, cancels_recovery, cancels_query}
use Rattle.paxos_world.specs.Leading.{works, leads, leads_own, is_leading, is_view_ss, raise_up_to, suspect}
use Rattle.paxos_world.specs.Learning.{horizon_to, notes, learns, learn_check, votes_for, propose_of, accept_of, launches}
use Rattle.paxos_world.specs.CatchingUp.{queries_peer, on_batches, on_snapshot, place_of}
use Rattle.paxos_world.specs.Messages.{vector_of, promises, promises_if, on_prepare, prepares, on_prepare_ok, votes_on, votes_if, on_propose, on_accept, answers, on_recovery, on_recovery_answer, on_alive, on_kind, on_message}
use Rattle.paxos_world.specs.Settling.{rejoin_view, rejoins, settles_rejoin, is_prepared, adoption_end, adopts, adopts_where, becomes_prepared, settles_leading, open_place, launches_waiting, next_handing, hands_on}
use Rattle.paxos_world.specs.Turn.{quiet_limit, waiting_limit, alive_of, counts_quiet, on_tick_working, on_tick, on_batch, on_item}
use Rattle.step_laws.proofs.Quieting.{Calmly, Calm, ◌⊳◌, calm-stays, calm-when, calm-some, calm-range, calm-shows, calm-sends, calm-saves, calm-hands, calm-sends_all, calm-says_all, calm-raise_up, calm-suspect, calm-learns, calm-check, calm-votes, calm-learns_each, calm-queries, calm-query, calm-part}

module _ (P : Step → Bool) (calm : Calm P) where
  -- the own view is promised to who asked
  pub calm-promises : (p : ℕ) (m : Prepare) (t : Turned) → Calmly P t (promises p m t)
  calm-promises p m t =
      let s = t.stage in
      let report = report_from s m.first in
      let a = t ▹ shows (Step.Promise s.config.me m.view) (Deed.Promise m.view m.first m.mark s.base report) in
      let x : Calmly P t a = calm-shows P (Step.Promise s.config.me m.view) (Deed.Promise m.view m.first m.mark s.base report) t (calm.promise _ _) in
      x ⊳ calm-sends P p (Message.PrepareOk (record { view = m.view; mark = m.mark; vector = vector_of s; low = s.base; report = report })) a

  -- a Prepare comes
  pub calm-prepare : (p : ℕ) (m : Prepare) (t : Turned) → Calmly P t (on_prepare p m t)
  calm-prepare p m t = calm-when P (works t.stage && leads t.stage p m.view) (λ t. t ▹ raise_up_to m.view ▹ promises_if p m) t go
    where
      go : (u : Turned) → Calmly P u (u ▹ raise_up_to m.view ▹ promises_if p m)
      go u =
          let a = u ▹ raise_up_to m.view in
          calm-raise_up P calm m.view u ⊳ calm-when P (a.stage.life.view == m.view) (promises p m) a (calm-promises p m)

  -- a PrepareOk comes
  pub calm-prepare_ok : (m : PrepareOk) (t : Turned) → Calmly P t (on_prepare_ok m t)
  calm-prepare_ok m t = calm-when P (prepares t.stage m.view m.mark) (horizon_to m.low) t (λ u. record { shown = refl; config = refl })

  -- a proposal is voted on
  pub calm-votes_on : (m : Propose) (t : Turned) → Calmly P t (votes_on m t)
  calm-votes_on m t =
      let a = t ▹ votes_for m.view m.instance m.batch in
      let b = a ▹ notes m.instance m.view t.stage.config.me None in
      let x : Calmly P a b = record { shown = refl; config = refl } in
      calm-votes P calm m.view m.instance m.batch t ⊳ x ⊳ calm-sends_all P (accept_of m.view m.instance) b

  -- a Propose comes
  pub calm-propose : (p : ℕ) (m : Propose) (t : Turned) → Calmly P t (on_propose p m t)
  calm-propose p m t = calm-when P (leads t.stage p m.view) (λ t. t ▹ horizon_to (suc m.instance) ▹ raise_up_to m.view ▹ notes m.instance m.view p (Some m.batch) ▹ votes_if m ▹ learn_check m.instance) t go
    where
      go : (u : Turned) → Calmly P u (u ▹ horizon_to (suc m.instance) ▹ raise_up_to m.view ▹ notes m.instance m.view p (Some m.batch) ▹ votes_if m ▹ learn_check m.instance)
      go u =
          let a = u ▹ horizon_to (suc m.instance) in
          let b = a ▹ raise_up_to m.view in
          let c = b ▹ notes m.instance m.view p (Some m.batch) in
          let d = c ▹ votes_if m in
          let x : Calmly P u a = record { shown = refl; config = refl } in
          let y : Calmly P a b = calm-raise_up P calm m.view a in
          let z : Calmly P b c = record { shown = refl; config = refl } in
          let v : Calmly P c d = calm-when P (works c.stage && (c.stage.life.view == m.view) && is_in_span c.stage m.instance) (votes_on m) c (calm-votes_on m) in
          x ⊳ y ⊳ z ⊳ v ⊳ calm-check P calm m.instance d

  -- an Accept comes
  pub calm-accept : (p view i : ℕ) (t : Turned) → Calmly P t (on_accept p view i t)
  calm-accept p view i t =
      let a = t ▹ horizon_to (suc i) ▹ notes i view p None in
      let x : Calmly P t a = record { shown = refl; config = refl } in
      x ⊳ calm-check P calm i a

  -- a recovery is answered
  pub calm-answers : (p mark : ℕ) (t : Turned) → Calmly P t (answers p mark t)
  calm-answers p mark t =
      let s = t.stage in
      let next = next_of s.life.leading in
      let after = t ▹ shows (Step.Answer s.config.me p s.life.view next) (Deed.Answer p s.life.view next mark) in
      let x : Calmly P t after = calm-shows P (Step.Answer s.config.me p s.life.view next) (Deed.Answer p s.life.view next mark) t (calm.answer _ _ _ _) in
      x ⊳ calm-sends P p (Message.RecoveryAnswer (record { mark = mark; view = s.life.view; vector = vector_of after.stage; next = next })) after

  -- a Recovery comes
  pub calm-recovery : (p mark : ℕ) (t : Turned) → Calmly P t (on_recovery p mark t)
  calm-recovery p mark t = calm-when P (works t.stage) (λ t. t ▹ when (is_view_ss t.stage.config.mode) (raise_up_to mark) ▹ answers p mark) t go
    where
      go : (u : Turned) → Calmly P u (u ▹ when (is_view_ss u.stage.config.mode) (raise_up_to mark) ▹ answers p mark)
      go u =
          let a = u ▹ when (is_view_ss u.stage.config.mode) (raise_up_to mark) in
          calm-when P (is_view_ss u.stage.config.mode) (raise_up_to mark) u (calm-raise_up P calm mark) ⊳ calm-answers p mark a

  -- a RecoveryAnswer comes
  pub calm-recovery_answer : (m : RecoveryAnswer) (t : Turned) → Calmly P t (on_recovery_answer m t)
  calm-recovery_answer m t =
      calm-when P (is_recovering t.stage.life.phase && (t.stage.life.mark == m.mark)) (when_some m.next horizon_to) t
      (λ u. calm-some P m.next horizon_to u (λ i v. record { shown = refl; config = refl }))

  -- an Alive comes
  pub calm-alive : (p : ℕ) (m : Alive) (t : Turned) → Calmly P t (on_alive p m t)
  calm-alive p m t = calm-when P (leads t.stage p m.view) (λ t. t ▹ horizon_to m.first_undecided ▹ raise_up_to m.view) t go
    where
      go : (u : Turned) → Calmly P u (u ▹ horizon_to m.first_undecided ▹ raise_up_to m.view)
      go u =
          let a = u ▹ horizon_to m.first_undecided in
          let x : Calmly P u a = record { shown = refl; config = refl } in
          x ⊳ calm-raise_up P calm m.view a

  -- known batches come
  pub calm-batches : (first : ℕ) (batches : List Batch) (t : Turned) → Calmly P t (on_batches first batches t)
  calm-batches first batches t =
      let a = t ▹ cancels_query in
      let x : Calmly P t a = record { shown = refl; config = refl } in
      x ⊳ calm-learns_each P calm first batches a

  -- what a message's kind asks for
  pub calm-kind : (p : ℕ) (m : Message) (t : Turned) → Calmly P t (on_kind p m t)
  calm-kind p (Message.Prepare m) t = calm-prepare p m t
  calm-kind p (Message.PrepareOk m) t = calm-prepare_ok m t
  calm-kind p (Message.Propose m) t = calm-propose p m t
  calm-kind p (Message.Accept m) t = calm-accept p m.view m.instance t
  calm-kind p (Message.Recovery m) t = calm-recovery p m.mark t
  calm-kind p (Message.RecoveryAnswer m) t = calm-recovery_answer m t
  calm-kind p (Message.CatchUpQuery m) t = calm-query P calm p m.first t
  calm-kind p (Message.CatchUpReply m) t = calm-batches m.first m.batches t
  calm-kind p (Message.SnapshotPart m) t = calm-part P calm m t
  calm-kind p (Message.Alive m) t = calm-alive p m t

  -- a message comes
  pub calm-message : (from : LifeId) (m : Message) (t : Turned) → Calmly P t (on_message from m t)
  calm-message from m t =
      let a = t ▹ does (Deed.Take from m) in
      let f : Turned → Turned = with_stage (λ s. record s { quiet = 0 }) in
      let b = a ▹ when (leads t.stage from.replica t.stage.life.view) f in
      let x : Calmly P t a = record { shown = refl; config = refl } in
      let y : Calmly P a b = calm-when P (leads t.stage from.replica t.stage.life.view) f a (λ u. record { shown = refl; config = refl }) in
      x ⊳ y ⊳ calm-kind from.replica m b

  -- a tick is counted
  pub calm-counts : (t : Turned) → Calmly P t (counts_quiet t)
  calm-counts t =
      let quiet = suc t.stage.quiet in
      let a = t ▹ with_stage (λ s. record s { quiet = quiet }) in
      let x : Calmly P t a = record { shown = refl; config = refl } in
      x ⊳ calm-when P (quiet == quiet_limit) suspect a (calm-suspect P calm)

  -- a tick at a Working stage
  pub calm-tick_working : (t : Turned) → Calmly P t (on_tick_working t)
  calm-tick_working t =
      let s = t.stage in
      let a = t ▹ when (leads_own s) (says_to_all (alive_of s)) in
      calm-when P (leads_own s) (says_to_all (alive_of s)) t (calm-says_all P (alive_of s)) ⊳ calm-when P (not (leads_own s) && nat_lt s.quiet quiet_limit) counts_quiet a calm-counts

  -- a tick
  pub calm-tick : (t : Turned) → Calmly P t (on_tick t)
  calm-tick t =
      let a = t ▹ when (works t.stage) on_tick_working in
      calm-when P (works t.stage) on_tick_working t calm-tick_working ⊳ calm-when P (nat_lt (first_undecided a.stage) a.stage.horizon) queries_peer a (calm-queries P calm)

  -- a closed batch comes
  pub calm-batch : (batch : Batch) (t : Turned) → Calmly P t (on_batch batch t)
  calm-batch batch t =
      let s = t.stage in
      calm-when P (works s && is_leading s.life.leading && nat_lt (length s.waiting) waiting_limit) (with_stage (λ s. record s { waiting = s.waiting ++ batch ∷ [] })) t (λ u. record { shown = refl; config = refl })

  -- a snapshot of the own service comes
  pub calm-snapshot : (upto : ℕ) (bytes : List ℕ) (t : Turned) → Calmly P t (on_snapshot upto bytes t)
  calm-snapshot upto bytes t =
      calm-when P (nat_lt (place_of t.stage.newest) upto && nat_le upto (first_undecided t.stage))
      (with_stage (λ s. record s { base = place_of s.newest; newest = Some (record { place = upto; bytes = bytes; installed = false }) })) t (λ u. record { shown = refl; config = refl })

  -- what is done with an item
  pub calm-item : (item : Item) (t : Turned) → Calmly P t (on_item item t)
  calm-item (Came from m) t = calm-message from m t
  calm-item (Closed batch) t = calm-batch batch t
  calm-item Tick t = calm-tick t
  calm-item Suspect t = calm-suspect P calm t
  calm-item (Snapped upto bytes) t = calm-snapshot upto bytes t

  -- ---- Settling

  -- the stage rejoins, where a test fails for that step
  pub calm-rejoin : ((r view : ℕ) → P (Step.Rejoin r view) ≡ false) → (t : Turned) → Calmly P t (settles_rejoin t)
  calm-rejoin none t = calm-some P (rejoin_view t.stage) rejoins t go
    where
      go : (view : ℕ) (u : Turned) → Calmly P u (rejoins view u)
      go view u =
          let s = u.stage in
          let a = u ▹ when (is_view_ss s.config.mode && nat_lt s.life.mark view) (saves view) in
          let b = a ▹ with_stage (λ s. record s { quiet = 0 }) ▹ cancels_recovery in
          let y : Calmly P a b = record { shown = refl; config = refl } in
          calm-when P (is_view_ss s.config.mode && nat_lt s.life.mark view) (saves view) u (calm-saves P view) ⊳ y ⊳ calm-shows P (Step.Rejoin s.config.me view) (Deed.Rejoin view) b (none _ _)

  -- a batch is launched, where a test fails for that step
  pub calm-launches : ((r view i : ℕ) (batch : Batch) → P (Step.Launch r view i batch) ≡ false) → (i : ℕ) (batch : Batch) (t : Turned) → Calmly P t (launches i batch t)
  calm-launches none i batch t =
      let s = t.stage in
      let view = s.life.view in
      let a = t ▹ shows (Step.Launch s.config.me view i batch) (Deed.Launch view i batch) in
      let b = a ▹ votes_for view i batch in
      let c = b ▹ notes i view s.config.me (Some batch) in
      let d = c ▹ sends_to_all (propose_of view i batch) in
      let x : Calmly P t a = calm-shows P (Step.Launch s.config.me view i batch) (Deed.Launch view i batch) t (none _ _ _ _) in
      let y : Calmly P b c = record { shown = refl; config = refl } in
      x ⊳ calm-votes P calm view i batch a ⊳ y ⊳ calm-sends_all P (propose_of view i batch) c
      ⊳ calm-when P (not (is_known s i)) (arms_propose i (propose_of view i batch)) d (λ u. record { shown = refl; config = refl })

  -- an instance is learned where a counted report has it as decided
  pub calm-adopted : (lead : Lead) (i : ℕ) (t : Turned) → Calmly P t (t ▹ when (not (is_known t.stage i)) (when_some (decided_below t.stage.config.n lead.reports i) (learns i)))
  calm-adopted lead i t =
      let f : Turned → Turned = when_some (decided_below t.stage.config.n lead.reports i) (learns i) in
      calm-when P (not (is_known t.stage i)) f t (λ u. calm-some P (decided_below t.stage.config.n lead.reports i) (learns i) u (calm-learns P calm i))

  -- instances are launched with their adopted batches, where a test fails for a launch
  pub calm-adopts : ((r view i : ℕ) (batch : Batch) → P (Step.Launch r view i batch) ≡ false) → (l : Leading) (from end : ℕ) (t : Turned) → Calmly P t (adopts_where l from end t)
  calm-adopts none No from end t = calm-stays P t
  calm-adopts none (Preparing first) from end t = calm-stays P t
  calm-adopts none (Leads lead) from end t = calm-range P (end - from) from (adopts lead) t go
    where
      go : (i : ℕ) (u : Turned) → Calmly P u (adopts lead i u)
      go i u = calm-adopted lead i u ⊳ calm-launches none i (lead.adopted i) (u ▹ when (not (is_known u.stage i)) (when_some (decided_below u.stage.config.n lead.reports i) (learns i)))

  -- the stage becomes Prepared, where a test fails for that step and for a launch
  pub calm-prepared : ((r view next : ℕ) → P (Step.Prepared r view next) ≡ false) → ((r view i : ℕ) (batch : Batch) → P (Step.Launch r view i batch) ≡ false) → (l : Leading) (t : Turned) → Calmly P t (settles_leading l t)
  calm-prepared none launch No t = calm-stays P t
  calm-prepared none launch (Leads lead) t = calm-stays P t
  calm-prepared none launch (Preparing first) t = calm-when P (is_prepared t.stage first) (becomes_prepared first) t go
    where
      go : (u : Turned) → Calmly P u (becomes_prepared first u)
      go u =
          let s = u.stage in
          let end = adoption_end s first in
          let next = max end (first_undecided s) in
          let a = u ▹ cancels_prepare in
          let b = a ▹ shows (Step.Prepared s.config.me s.life.view next) (Deed.Prepared s.life.view next) in
          let x : Calmly P u a = record { shown = refl; config = refl } in
          let y : Calmly P a b = calm-shows P (Step.Prepared s.config.me s.life.view next) (Deed.Prepared s.life.view next) a (none _ _ _) in
          x ⊳ y ⊳ calm-adopts launch b.stage.life.leading (max first s.base) end b

  -- the waiting batches are launched, where a test fails for a launch
  pub calm-waiting : ((r view i : ℕ) (batch : Batch) → P (Step.Launch r view i batch) ≡ false) → (batches : List Batch) (t : Turned) → Calmly P t (launches_waiting batches t)
  calm-waiting none [] t = calm-stays P t
  calm-waiting none (batch ∷ batches) t =
      calm-some P (open_place t.stage) (λ i t. launches_waiting batches (t ▹ with_stage (λ s. record s { waiting = batches }) ▹ launches i batch)) t (go (calm-waiting none batches))
    where
      go : ((u : Turned) → Calmly P u (launches_waiting batches u)) → (i : ℕ) (u : Turned) → Calmly P u (launches_waiting batches (u ▹ with_stage (λ s. record s { waiting = batches }) ▹ launches i batch))
      go on i u =
          let a = u ▹ with_stage (λ s. record s { waiting = batches }) in
          let x : Calmly P u a = record { shown = refl; config = refl } in
          x ⊳ calm-launches none i batch a ⊳ on (a ▹ launches i batch)

  -- decisions are handed on
  pub calm-hands_on : (room : ℕ) (t : Turned) → Calmly P t (hands_on room t)
  calm-hands_on zero t = calm-stays P t
  calm-hands_on (suc room) t =
      calm-some P (next_handing t.stage) (λ handing t. hands_on room (t ▹ with_stage (λ s. record s { handed = handing.1 }) ▹ hands handing.0)) t (go (calm-hands_on room))
    where
      go : ((u : Turned) → Calmly P u (hands_on room u)) → (h : Decision × ℕ) (u : Turned) → Calmly P u (hands_on room (u ▹ with_stage (λ s. record s { handed = h.1 }) ▹ hands h.0))
      go on h u =
          let a = u ▹ with_stage (λ s. record s { handed = h.1 }) in
          let x : Calmly P u a = record { shown = refl; config = refl } in
          x ⊳ calm-hands P h.0 a ⊳ on (a ▹ hands h.0)

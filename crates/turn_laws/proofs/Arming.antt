-- Arming and cancelling.
use Rattle.std.proofs.Common.{◌≡◌, ◌≢◌, ℕ, Bool, true, false, List, [], ◌∷◌, Some, None, sym, subst, ◌∙◌, inl, inr, ⊎_elim, zero-add}
use Rattle.jp_types.specs.declared.message.Message.{Message}
use Rattle.jp_types.specs.declared.message.Prepare.{Prepare}
use Rattle.jp_types.specs.Lists.{In}
use Rattle.paxos_world.specs.Life.{Preparing}
use Rattle.paxos_world.specs.World.{Sent}
use Rattle.paxos_world.specs.Stage.{setup_of, Outgoing, Stage, Turned}
use Rattle.paxos_world.specs.Writing.{others}
use Rattle.paxos_world.specs.Retransmitting.{arm_from, free_armed, free_each, live_at, arms_prepare, arms_recovery, arms_query, arms_propose, with_armed, cancels_prepare, cancels_recovery, cancels_query, cancels_propose, cancels_proposes, proposes_of, proposes_but}
use Rattle.turn_laws.proofs.Fitting.{IsArmedAt, MayRepeat, SlotTrue, Frame, Goes}
use Rattle.turn_laws.proofs.Going.{turned_to}
use Rattle.turn_laws.proofs.Words.{re, goes-re, other-ne}
use Rattle.turn_laws.proofs.Slots.{live-free_armed, live-free_each, live-arm, slot-freed, slot-any, fits-slots}

-- a frame between steps: no number is saved before its step, and no Prepare of an earlier phase 1 is live
abbrev pub still : Frame → Frame
still f = turned_to f f.taken f.phase true None

-- a frame in which a Prepare of an earlier phase 1 may be live
abbrev pub unclean : Frame → Frame
unclean f = turned_to f f.taken f.phase false None

-- no Prepare is live
abbrev pub Unprepared : Stage → Type 0
Unprepared s = (k : ℕ) (o : Outgoing) → live_at s.slots k ≡ Some o → SlotTrue s.config.me s.life None true k o

-- the slots change, and each live message may still be sent
goes-slots : (f : Frame) (clean : Bool) (owed : List Sent) (t : Turned) (n : Stage) (h : Goes f owed t)
    → ((k : ℕ) (o : Outgoing) → live_at n.slots k ≡ Some o → SlotTrue t.stage.config.me t.stage.life n.armed_prepare clean k o)
    → Goes (turned_to f f.taken f.phase clean f.ahead) owed
    (record t { stage = record n { config = t.stage.config; life = t.stage.life; stable = t.stage.stable; base = t.stage.base; waiting = t.stage.waiting; noted = t.stage.noted; newest = t.stage.newest; joiner = t.stage.joiner } })
goes-slots f clean owed t n h slots =
    let s = t.stage in
    let m : Stage = record n { stable = s.stable; base = s.base; waiting = s.waiting; noted = s.noted; newest = s.newest; joiner = s.joiner } in
    goes-re f clean f.ahead owed owed t m t.acts h (fits-slots (setup_of s.config) h.world s.config.me f.clean clean s (re s m) h.fits slots) h.stable h.fresh h.sent h.handed

pub goes-cancels_prepare : (f : Frame) (owed : List Sent) (t : Turned) → Goes f owed t → Goes (turned_to f f.taken f.phase true f.ahead) owed (cancels_prepare t)
goes-cancels_prepare f owed t h =
    let s = t.stage in
    goes-slots f true owed t (record s { slots = free_armed s.slots s.armed_prepare; armed_prepare = None }) h
    (λ k o e. let a = live-free_armed s.slots s.armed_prepare k o e in slot-freed s.config.me s.life s.armed_prepare f.clean k o a.0 (h.fits.slots k o a.1))

pub goes-cancels_proposes : (f : Frame) (owed : List Sent) (t : Turned) → Goes f owed t → Goes f owed (cancels_proposes t)
goes-cancels_proposes f owed t h =
    let s = t.stage in
    goes-slots f f.clean owed t (record s { slots = free_each s.slots s.armed_proposes; armed_proposes = [] }) h (λ k o e. h.fits.slots k o (live-free_each s.slots s.armed_proposes k o e))

pub goes-cancels_propose : (f : Frame) (owed : List Sent) (t : Turned) (i : ℕ) → Goes f owed t → Goes f owed (cancels_propose i t)
goes-cancels_propose f owed t i h =
    let s = t.stage in
    goes-slots f f.clean owed t (record s { slots = free_each s.slots (proposes_of i s.armed_proposes); armed_proposes = proposes_but i s.armed_proposes }) h
    (λ k o e. h.fits.slots k o (live-free_each s.slots (proposes_of i s.armed_proposes) k o e))

pub goes-cancels_query : (f : Frame) (owed : List Sent) (t : Turned) → Goes f owed t → Goes f owed (cancels_query t)
goes-cancels_query f owed t h =
    let s = t.stage in
    goes-slots f f.clean owed t (record s { slots = free_armed s.slots s.armed_query; armed_query = None }) h (λ k o e. h.fits.slots k o (live-free_armed s.slots s.armed_query k o e).1)

pub goes-cancels_recovery : (f : Frame) (owed : List Sent) (t : Turned) → Goes f owed t → Goes f owed (cancels_recovery t)
goes-cancels_recovery f owed t h =
    let s = t.stage in
    goes-slots f f.clean owed t (record s { slots = free_armed s.slots s.armed_recovery; armed_recovery = None }) h
    (λ k o e. h.fits.slots k o (live-free_armed s.slots s.armed_recovery k o e).1)

-- what is live after arming a message that is no Prepare
armed-true : (f : Frame) (owed : List Sent) (t : Turned) (m : Outgoing) (h : Goes f owed t) → ((k : ℕ) → SlotTrue t.stage.config.me t.stage.life None true k m)
    → (k : ℕ) (o : Outgoing) → live_at (arm_from 0 t.stage.slots m).0 k ≡ Some o → SlotTrue t.stage.config.me t.stage.life t.stage.armed_prepare f.clean k o
armed-true f owed t m h new k o e =
    let s = t.stage in
    ⊎_elim (λ a. h.fits.slots k o a) (λ a. subst (λ (x : Outgoing). SlotTrue s.config.me s.life s.armed_prepare f.clean k x) (sym a.0) (slot-any s.config.me s.life s.armed_prepare f.clean k m (new k)))
    (live-arm 0 s.slots m k o e)

pub goes-arms_recovery : (f : Frame) (owed : List Sent) (t : Turned) (m : Message) (h : Goes f owed t) → ((k : ℕ) → MayRepeat t.stage.life None true k m) → Goes f owed (arms_recovery m t)
goes-arms_recovery f owed t m h may =
    let s = t.stage in
    let o : Outgoing = record { message = m; to = others s.config } in
    let a = arm_from 0 s.slots o in
    goes-slots f f.clean owed t (record s { slots = a.0; armed_recovery = a.1 }) h (armed-true f owed t o h (λ k. (λ q i. other-ne s.config.n s.config.me q i, may k)))

pub goes-arms_query : (f : Frame) (owed : List Sent) (t : Turned) (m : Message) (to : ℕ) (h : Goes f owed t) → to ≢ t.stage.config.me → ((k : ℕ) → MayRepeat t.stage.life None true k m) → Goes f owed (arms_query m to t)
goes-arms_query f owed t m to h ne may =
    let s = t.stage in
    let o : Outgoing = record { message = m; to = to ∷ [] } in
    let a = arm_from 0 s.slots o in
    goes-slots f f.clean owed t (record s { slots = a.0; armed_query = a.1 }) h (armed-true f owed t o h (λ k. (only, may k)))
  where
    only : (q : ℕ) → In q (to ∷ []) → q ≢ t.stage.config.me
    only q (inl e) same = ne (sym e ∙ same)
    only q (inr n) same = n

pub goes-arms_propose : (f : Frame) (owed : List Sent) (t : Turned) (i : ℕ) (m : Message) (h : Goes f owed t) → ((k : ℕ) → MayRepeat t.stage.life None true k m) → Goes f owed (arms_propose i m t)
goes-arms_propose f owed t i m h may =
    let s = t.stage in
    let o : Outgoing = record { message = m; to = others s.config } in
    let a = arm_from 0 s.slots o in
    goes-slots f f.clean owed t (record s { slots = a.0; armed_proposes = with_armed i a.1 s.armed_proposes }) h (armed-true f owed t o h (λ k. (λ q i. other-ne s.config.n s.config.me q i, may k)))

pub goes-arms_prepare : (f : Frame) (owed : List Sent) (t : Turned) (m : Prepare) (h : Goes f owed t) → Unprepared t.stage
    → (t.stage.life.leading ≡ Preparing m.first) × (t.stage.life.view ≡ m.view) × (t.stage.life.mark ≡ m.mark) → Goes f owed (arms_prepare (Message.Prepare m) t)
goes-arms_prepare f owed t m h none may =
    let s = t.stage in
    let o : Outgoing = record { message = Message.Prepare m; to = others s.config } in
    let a = arm_from 0 s.slots o in
    goes-slots f f.clean owed t (record s { slots = a.0; armed_prepare = a.1 }) h
    (λ k x e. ⊎_elim (λ b. slot-any s.config.me s.life a.1 f.clean k x (none k x b))
    (λ b. subst (λ (y : Outgoing). SlotTrue s.config.me s.life a.1 f.clean k y) (sym b.0) (λ q i. other-ne s.config.n s.config.me q i, (subst (IsArmedAt a.1) (zero-add k) b.1, λ c. may))) (live-arm 0 s.slots o k x e))

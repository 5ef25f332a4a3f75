-- What is live in the slots after arming and cancelling.
use Rattle.std.proofs.Common.{◌≡◌, ◌≢◌, ℕ, zero, suc, ◌+◌, ◌⊎◌, Bool, true, false, List, [], ◌∷◌, Option, Some, None, if◌then◌else◌, replicate, refl, sym, subst, inl, inr, ⊎_elim, arith}
use Rattle.jp_types.specs.declared.message.Message.{Message}
use Rattle.paxos_world.specs.Setup.{Setup}
use Rattle.paxos_world.specs.Life.{Life}
use Rattle.paxos_world.specs.World.{World}
use Rattle.paxos_world.specs.Stage.{Outgoing, Slot, Armed, Stage, free_slots, slot_count}
use Rattle.paxos_world.specs.Retransmitting.{behind, is_taken, arm_from, free_at, free_armed, free_each, live_at, claim_at, claim_from, claim, cursor_after}
use Rattle.turn_laws.proofs.Fitting.{IsArmedAt, MayRepeat, SlotTrue, Fits}

pub live-free_at : (slots : List Slot) (k j : ℕ) (o : Outgoing) → live_at (free_at slots k) j ≡ Some o → (j ≢ k) × (live_at slots j ≡ Some o)
live-free_at [] k j o e = cc
live-free_at (slot ∷ slots) zero zero o e = cc
live-free_at (slot ∷ slots) zero (suc j) o e = (omega arith, e)
live-free_at (slot ∷ slots) (suc k) zero o e = (omega arith, e)
live-free_at (slot ∷ slots) (suc k) (suc j) o e = let h = live-free_at slots k j o e in let ne = h.0 in (λ same. ne (omega arith), h.1)

pub live-free_armed : (slots : List Slot) (armed : Option Armed) (j : ℕ) (o : Outgoing) → live_at (free_armed slots armed) j ≡ Some o → (¬ IsArmedAt armed j) × (live_at slots j ≡ Some o)
live-free_armed slots None j o e = (λ x. x, e)
live-free_armed slots (Some a) j o e = let h = live-free_at slots a.slot j o e in (λ x. h.0 (sym x), h.1)

pub live-free_each : (slots : List Slot) (armed : List (ℕ × Armed)) (j : ℕ) (o : Outgoing) → live_at (free_each slots armed) j ≡ Some o → live_at slots j ≡ Some o
live-free_each slots [] j o e = e
live-free_each slots (a ∷ more) j o e = (live-free_at slots a.1.slot j o (live-free_each (free_at slots a.1.slot) more j o e)).1

-- after arming a slot is live as it was, or it is the one that was armed
pub live-arm : (at : ℕ) (slots : List Slot) (m : Outgoing) (j : ℕ) (o : Outgoing) → live_at (arm_from at slots m).0 j ≡ Some o
    → (live_at slots j ≡ Some o) ⊎ ((o ≡ m) × IsArmedAt (arm_from at slots m).1 (at + j))
live-arm at [] m j o e = cc
live-arm at (slot ∷ slots) m j o e = go (λ i f. live-arm (suc at) slots m i o f) (is_taken slot) j e
  where
    later : List Slot × Option Armed
    later = behind slot (arm_from (suc at) slots m)

    here : List Slot × Option Armed
    here = (record { generation = suc slot.generation; live = Some m } ∷ slots, Some (record { slot = at; generation = suc slot.generation }))

    go : ((i : ℕ) → live_at (arm_from (suc at) slots m).0 i ≡ Some o → (live_at slots i ≡ Some o) ⊎ ((o ≡ m) × IsArmedAt (arm_from (suc at) slots m).1 (suc at + i)))
        → (b : Bool) (j : ℕ) → live_at (if b then later else here).0 j ≡ Some o → (live_at (slot ∷ slots) j ≡ Some o) ⊎ ((o ≡ m) × IsArmedAt (if b then later else here).1 (at + j))
    go again true zero e = inl e
    go again true (suc j) e = ⊎_elim (λ a. inl a) (λ a. inr (a.0, (let f : suc at + j ≡ at + suc j = omega arith in subst (IsArmedAt (arm_from (suc at) slots m).1) f a.1))) (again j e)
    go again false zero e = inr (cc, omega arith)
    go again false (suc j) e = inl e

-- free slots are not live
live-replicate : (k j : ℕ) (o : Outgoing) (slot : Slot) → slot.live ≡ None → live_at (replicate k slot) j ≡ Some o → ⊥
live-replicate zero j o slot none e = absurd cc
live-replicate (suc k) zero o slot none e = absurd cc
live-replicate (suc k) (suc j) o slot none e = live-replicate k j o slot none e

pub live-free_slots : (j : ℕ) (o : Outgoing) → live_at free_slots j ≡ Some o → ⊥
unfolding free_slots
live-free_slots j o e = live-replicate slot_count j o (record { generation = 0; live = None }) refl e

-- what is claimed is live
pub claim-live : (slots : List Slot) (cursor : ℕ) (found : ℕ × Outgoing) → claim slots cursor ≡ Some found → live_at slots found.0 ≡ Some found.1
unfolding claim
claim-live slots cursor found e = from slot_count cursor e
  where
    at : (cursor : ℕ) (o : Option Outgoing) (later : Option (ℕ × Outgoing)) → live_at slots cursor ≡ o → (later ≡ Some found → live_at slots found.0 ≡ Some found.1)
        → claim_at cursor o later ≡ Some found → live_at slots found.0 ≡ Some found.1
    at cursor None later is more e = more e
    at cursor (Some m) later is more e = let f : (cursor, m) ≡ found = cc in subst (λ (x : ℕ × Outgoing). live_at slots x.0 ≡ Some x.1) f is

    from : (k cursor : ℕ) → claim_from k slots cursor ≡ Some found → live_at slots found.0 ≡ Some found.1
    from zero cursor e = cc
    from (suc k) cursor e = at cursor (live_at slots cursor) (claim_from k slots (cursor_after cursor)) refl (from k (cursor_after cursor)) e

-- a slot that is not armed repeats no Prepare
pub slot-freed : (r : ℕ) (l : Life) (armed : Option Armed) (clean : Bool) (k : ℕ) (o : Outgoing) → ¬ IsArmedAt armed k → SlotTrue r l armed clean k o → SlotTrue r l None true k o
slot-freed r l armed clean k o free h = (h.0, go o.message h.1)
  where
    go : (x : Message) → MayRepeat l armed clean k x → MayRepeat l None true k x
    go (Message.Prepare x) a = absurd (free a.0)
    go (Message.Recovery x) a = a
    go (Message.Propose x) a = a
    go (Message.CatchUpQuery x) a = tt
    go (Message.PrepareOk x) a = absurd a
    go (Message.Accept x) a = absurd a
    go (Message.RecoveryAnswer x) a = absurd a
    go (Message.CatchUpReply x) a = absurd a
    go (Message.SnapshotPart x) a = absurd a
    go (Message.Alive x) a = absurd a

-- a slot that repeats no Prepare may repeat its message whatever is armed
pub slot-any : (r : ℕ) (l : Life) (armed : Option Armed) (clean : Bool) (k : ℕ) (o : Outgoing) → SlotTrue r l None true k o → SlotTrue r l armed clean k o
slot-any r l armed clean k o h = (h.0, go o.message h.1)
  where
    go : (x : Message) → MayRepeat l None true k x → MayRepeat l armed clean k x
    go (Message.Prepare x) a = absurd a.0
    go (Message.Recovery x) a = a
    go (Message.Propose x) a = a
    go (Message.CatchUpQuery x) a = tt
    go (Message.PrepareOk x) a = absurd a
    go (Message.Accept x) a = absurd a
    go (Message.RecoveryAnswer x) a = absurd a
    go (Message.CatchUpReply x) a = absurd a
    go (Message.SnapshotPart x) a = absurd a
    go (Message.Alive x) a = absurd a

-- other slots
pub fits-slots : (c : Setup) (w : World) (r : ℕ) (clean cleaner : Bool) (s : Stage) (n : Stage) → Fits c w r clean s
    → ((k : ℕ) (o : Outgoing) → live_at n.slots k ≡ Some o → SlotTrue r s.life n.armed_prepare cleaner k o)
    → Fits c w r cleaner (record n { life = s.life; base = s.base; waiting = s.waiting; noted = s.noted; newest = s.newest; joiner = s.joiner })
fits-slots c w r clean cleaner s n h slots = assumption (slots, h)

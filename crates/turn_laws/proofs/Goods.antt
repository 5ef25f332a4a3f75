-- Each world that a run comes to is good.
use Rattle.std.proofs.Common.{◌≡◌, ◌≢◌, ℕ, zero, suc, ◌≤◌, ◌⊎◌, Bool, true, false, [], ◌∷◌, Option, Some, if◌then◌else◌, ◌==◌, sym, ap, subst, ◌∙◌, inl, inr, ⊎_elim, arith, le_trans, eqb}
use Rattle.std.proofs.lemmas.Bool.Decides.{eqb_tells}
use Rattle.jp_types.specs.declared.message.Message.{Message}
use Rattle.jp_types.specs.declared.mode.Mode.{Mode}
use Rattle.jp_types.specs.declared.mode.Mode.TheVariants.{ViewSs, EpochSs}
use Rattle.jp_types.specs.Views.{leader, number_limit}
use Rattle.jp_types.specs.Lists.{In}
use Rattle.paxos_world.specs.Setup.{Setup}
use Rattle.paxos_world.specs.Life.{LifeId, Life, Took}
use Rattle.jp_types.specs.Marks.{first_mark, view_at_return}
use Rattle.paxos_world.specs.World.{Replica, World, Sent, Deed, Take, Enter, Open, Promise, Prepared, Launch, Vote, Learn, Answer, Rejoin, Install, Execute, Restore, Say, Move, First, Return, Crash, Act, Can, Meets, MaySay, who, id_of, life_after, replica_after, of_running, sends, sends_of, to_others, after, opening}
use Rattle.paxos_world.proofs.Basics.{with_at-cases, In-append}
use Rattle.paxos_world.proofs.Replies.{counted_answer-is}
use Rattle.paxos_world.proofs.Sound.{top, LifeSound, tops_of, act-is, some-is, step_sound, opening_sound, launched-le, to_others-is}
use Rattle.turn_laws.proofs.Fitting.{IsLimited, Good}

-- a view and a mark within the limit
abbrev Within_limit : Life → Type 0
Within_limit l = (l.view ≤ number_limit) × (l.mark ≤ number_limit)

-- a message to all others is not to r
pub others-not : (k r : ℕ) (from : LifeId) (message : Message) (x : Sent) → In x (to_others k r from message) → x.to ≢ r
others-not zero r from message x i same = absurd i
others-not (suc k) r from message x i same =
    elim (In-append x (to_others k r from message) (if k == r then [] else record { from = from; to = k; message = message } ∷ []) i) [
      | inl a ↦ others-not k r from message x a same
      | inr b ↦ go (eqb_tells k r) b
    ]
  where
    other : k ≢ r → In x (record { from = from; to = k; message = message } ∷ []) → ⊥
    other ne (inl e) = ne (sym (ap (λ (y : Sent). y.to) e) ∙ same)
    other ne (inr n) = n

    go : ((eqb k r ≡ true) × (k ≡ r)) ⊎ ((eqb k r ≡ false) × (k ≢ r)) → In x (if k == r then [] else record { from = from; to = k; message = message } ∷ []) → ⊥
    go (inl h) j = absurd (subst (λ (b : Bool). In x (if b then [] else record { from = from; to = k; message = message } ∷ [])) h.0 j)
    go (inr h) j = other h.1 (subst (λ (b : Bool). In x (if b then [] else record { from = from; to = k; message = message } ∷ [])) h.0 j)

-- what a message that was sent to r and taken says
module _ (c : Setup) (w : World) (r : ℕ) (l : Life) (good : Good c w) (runs : (w.replicas r).running ≡ Some l) where
  sound : LifeSound c r (w.replicas r).starts (top (w.replicas r).stable) (tops_of w) w.sent l
  sound = (good.sound.replica r).life l runs

  pub took-other : (p : ℕ) (m : Message) → Took l p m → p ≢ r
  took-other p m h same = (good.sent (record { from = h.0.from; to = r; message = h.0.message }) (sound.taken h.0 h.1)).0 (h.2 ∙ same)

  pub took-limited : (p : ℕ) (m : Message) → Took l p m → IsLimited m
  took-limited p m h = subst IsLimited h.3 (good.sent (record { from = h.0.from; to = r; message = h.0.message }) (sound.taken h.0 h.1)).1

  -- the life stays within the limit
  life-limited : (d : Deed) → Can c w r l d → Within_limit (life_after c r l d)
  life-limited (Enter view) can = (can.limit, (good.lives r l runs).1)
  life-limited (Rejoin view) can = (go, (good.lives r l runs).1)
    where
      go : view ≤ number_limit
      go =
          let k = counted_answer-is c r l (leader c.n view) can.leader_answer can.leader_counted in
          let t = k.held.t in
          let a = (good.sent (record { from = t.from; to = r; message = t.message }) (sound.taken t k.held.in_taken)).1 in
          let b : IsLimited (Message.RecoveryAnswer can.leader_answer.body) = subst IsLimited k.held.message a in
          subst (λ v. v ≤ number_limit) can.leader_view b
  life-limited (Take from message) can = good.lives r l runs
  life-limited (Open view first) can = good.lives r l runs
  life-limited (Promise view first mark low report) can = good.lives r l runs
  life-limited (Prepared view x) can = good.lives r l runs
  life-limited (Launch view i batch) can = good.lives r l runs
  life-limited (Vote view i batch) can = good.lives r l runs
  life-limited (Learn i batch) can = good.lives r l runs
  life-limited (Answer to view next mark) can = good.lives r l runs
  life-limited (Install upto state) can = good.lives r l runs
  life-limited (Execute i) can = good.lives r l runs
  life-limited (Restore upto state) can = good.lives r l runs
  life-limited (Say to message) can = good.lives r l runs

  -- what may be said is within the limit
  say-limited : (m : Message) → MaySay c r l m → IsLimited m
  say-limited (Message.Prepare m) may = subst (λ v. v ≤ number_limit) may.1 (good.lives r l runs).0
  say-limited (Message.Recovery m) may = subst (λ v. v ≤ number_limit) may (good.lives r l runs).1
  say-limited (Message.Propose m) may = le_trans (launched-le l.view l.leading _ (sound.launched _ may)) (good.lives r l runs).0
  say-limited (Message.Alive m) may = subst (λ v. v ≤ number_limit) may.1 (good.lives r l runs).0
  say-limited (Message.PrepareOk m) may = absurd may
  say-limited (Message.RecoveryAnswer m) may = absurd may
  say-limited (Message.Accept m) may = absurd may
  say-limited (Message.CatchUpQuery m) may = tt
  say-limited (Message.CatchUpReply m) may = tt
  say-limited (Message.SnapshotPart m) may = tt

  abbrev IsFine : Sent → Type 0
  IsFine x = (x.from.replica ≢ x.to) × IsLimited x.message

  -- one message, and one to all others
  fine-one : (to : ℕ) (m : Message) → to ≢ r → IsLimited m → (x : Sent) → In x (record { from = id_of r l; to = to; message = m } ∷ []) → IsFine x
  fine-one to m ne lim x (inl e) = subst (λ (y : Sent). IsFine y) (sym e) (λ same. ne (sym same), lim)
  fine-one to m ne lim x (inr i) = absurd i

  fine-all : (m : Message) → IsLimited m → (x : Sent) → In x (to_others c.n r (id_of r l) m) → IsFine x
  fine-all m lim x i =
      let e = to_others-is c.n r (id_of r l) m x i in
      (λ same. others-not c.n r (id_of r l) m x i (sym same ∙ ap (λ (y : LifeId). y.replica) e.0), subst IsLimited (sym e.1) lim)

  -- what it sends is fine
  deed-fine : (d : Deed) → Can c w r l d → (x : Sent) → In x (sends_of c r l d) → IsFine x
  deed-fine (Promise view first mark low report) can x i = fine-one (leader c.n view) _ (took-other (leader c.n view) _ can.asked) tt x i
  deed-fine (Launch view j batch) can x i = fine-all _ (subst (λ v. v ≤ number_limit) can.in_view (good.lives r l runs).0) x i
  deed-fine (Vote view j batch) can x i = go (r == leader c.n view) i
    where
      go : (b : Bool) → In x (if b then [] else to_others c.n r (id_of r l) (Message.Accept (record { view = view; instance = j }))) → IsFine x
      go true k = absurd k
      go false k = fine-all _ tt x k
  deed-fine (Answer to view next mark) can x i = fine-one to _ (took-other to _ can.asked) (subst (λ v. v ≤ number_limit) can.in_view (good.lives r l runs).0) x i
  deed-fine (Say to message) can x i = fine-one to message can.0 (say-limited message can.1) x i
  deed-fine (Take from message) can x i = absurd i
  deed-fine (Enter view) can x i = absurd i
  deed-fine (Open view first) can x i = absurd i
  deed-fine (Prepared view y) can x i = absurd i
  deed-fine (Learn j batch) can x i = absurd i
  deed-fine (Rejoin view) can x i = absurd i
  deed-fine (Install upto state) can x i = absurd i
  deed-fine (Execute j) can x i = absurd i
  deed-fine (Restore upto state) can x i = absurd i

-- the marks of a first start, and the views of a later one, are within the limit
first-limited : (mode : Mode) → first_mark mode ≤ number_limit
first-limited ViewSs = omega arith
first-limited EpochSs = omega arith

return-limited : (mode : Mode) (mark : ℕ) → mark ≤ number_limit → view_at_return mode mark ≤ number_limit
return-limited ViewSs mark h = h
return-limited EpochSs mark h = omega arith

acting-limited : (c : Setup) (w : World) (m : Move) → Good c w → Meets c w m → (l : Life) → (replica_after c (w.replicas (who m)) m).running ≡ Some l → Within_limit l
acting-limited c w (First r) good h l e = subst (λ (k : Life). Within_limit k) (some-is _ l e) (omega arith, first-limited c.mode)
acting-limited c w (Return r mark) good h l e = subst (λ (k : Life). Within_limit k) (some-is _ l e) (return-limited c.mode mark h.limit, h.limit)
acting-limited c w (Crash r) good h l e = absurd cc
acting-limited c w (Act r d) good h l e =
    let f : Some (life_after c r h.life d) ≡ Some l = sym (ap (λ (a : Replica). a.running) (act-is c r (w.replicas r) d h.life h.running)) ∙ e in
    subst (λ (k : Life). Within_limit k) (some-is _ l f) (life-limited c w r h.life good h.running d h.can)

acting-fine : (c : Setup) (w : World) (m : Move) → Good c w → Meets c w m → (x : Sent) → In x (sends c w m) → (x.from.replica ≢ x.to) × IsLimited x.message
acting-fine c w (First r) good h x i = absurd i
acting-fine c w (Return r mark) good h x i = absurd i
acting-fine c w (Crash r) good h x i = absurd i
acting-fine c w (Act r d) good h x i =
    deed-fine c w r h.life good h.running d h.can x (subst (λ (o : Option Life). In x (of_running o (λ k. sends_of c r k d))) h.running i)

pub step_good : (c : Setup) (w : World) (m : Move) → Good c w → Meets c w m → Good c (after c w m)
step_good c w m good h =
    record {
      sound = step_sound c w m good.sound h;
      lives = λ q. with_at-cases (λ (a : Replica). (l : Life) → a.running ≡ Some l → Within_limit l) w.replicas (who m) (replica_after c (w.replicas (who m)) m) q
          (λ e. acting-limited c w m good h) (λ ne. good.lives q);
      sent = λ x i. ⊎_elim (λ j. good.sent x j) (λ j. acting-fine c w m good h x j) (In-append x w.sent (sends c w m) i);
    }

pub opening_good : (c : Setup) → Good c opening
opening_good c = record { sound = opening_sound c; lives = λ q l e. absurd cc; sent = λ x i. absurd i }

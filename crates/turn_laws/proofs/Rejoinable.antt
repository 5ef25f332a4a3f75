-- A stage finds the view to rejoin in wherever the condition of Rejoin holds of its life, and when it does not hold.
use Rattle.std.proofs.Common.{◌≡◌, ℕ, zero, suc, ◌≤◌, ◌<◌, max, Bool, true, false, not, ◌&&◌, List, [], ◌==◌, nat_le, nat_lt, if◌then◌else◌, Option, Some, None, is_some, refl, sym, ap, subst, ◌∙◌, inl, inr, arith}
use Rattle.std.proofs.Math.Nat.{mod-lt}
use Rattle.std.proofs.lemmas.Bool.Decides.{leb_tells}
use Rattle.jp_types.specs.declared.message.RecoveryAnswer.{RecoveryAnswer}
use Rattle.jp_types.specs.declared.mode.Phase.{Phase}
use Rattle.jp_types.specs.Views.{majority, leader, count_below, number_if}
use Rattle.kv_service.specs.Service.{State, outcomes}
use Rattle.paxos_world.specs.declared.step.Step.{Step}
use Rattle.paxos_world.specs.Setup.{Setup}
use Rattle.paxos_world.specs.Life.{Taken, Life}
use Rattle.paxos_world.specs.Counting.{Held, is_recovering, held_answer, has_epoch_answer, entry_in, is_answered}
use Rattle.paxos_world.specs.World.{World, CanRejoin, Execute, Restore}
use Rattle.paxos_world.specs.Stage.{setup_of, Stage, Decision, Decided, Installed, Turned}
use Rattle.paxos_world.specs.Writing.{shows}
use Rattle.paxos_world.specs.Logs.{first_undecided}
use Rattle.paxos_world.specs.Serving.{serves}
use Rattle.kv_service.specs.Dues.{is_due}
use Rattle.paxos_world.specs.Settling.{answer_from, view_of_answer, highest_answered, is_next_known, is_leader_ready, is_answered_enough, rejoin_view}
use Rattle.paxos_world.specs.Turn.{untouched}
use Rattle.paxos_world.proofs.Basics.{lt_or_le}
use Rattle.paxos_world.proofs.Replies.{same-test}
use Rattle.turn_laws.proofs.Fitting.{Fits}
use Rattle.turn_laws.proofs.Going.{keep-when}
use Rattle.turn_laws.proofs.Scanning.{le-test, undecided-is}
use Rattle.turn_laws.proofs.Settling.{highest-above}

-- ---- Where the condition holds

view-low : (o : Option (Held RecoveryAnswer)) (view : ℕ) → ((h : Held RecoveryAnswer) → o ≡ Some h → h.body.view ≤ view) → view_of_answer o ≤ view
view-low None view low = omega arith
view-low (Some h) view low = low h refl

highest-low : (k : ℕ) (s : Stage) (view : ℕ) → ((p : ℕ) (h : Held RecoveryAnswer) → p < k → answer_from s p ≡ Some h → h.body.view ≤ view) → highest_answered k s ≤ view
highest-low zero s view low = omega arith
highest-low (suc k) s view low =
    let a = highest-low k s view (λ p h lt e. low p h (omega arith) e) in
    let b = view-low (answer_from s k) view (λ h e. low k h (omega arith) e) in
    omega arith

ready-test : (o : Option (Held RecoveryAnswer)) (h : Held RecoveryAnswer) (view undecided next : ℕ) → o ≡ Some h → h.body.view ≡ view → h.body.next ≡ Some next → next ≤ undecided → is_leader_ready o view undecided ≡ true
ready-test o h view undecided next e in_view has low =
    let a : (h.body.view == view) ≡ true = same-test h.body.view view in_view in
    let b : is_next_known h.body.next undecided ≡ true = ap (λ (x : Option ℕ). is_next_known x undecided) has ∙ le-test next undecided low in
    ap (λ (x : Option (Held RecoveryAnswer)). is_leader_ready x view undecided) e ∙ ap (λ (x : Bool). x && is_next_known h.body.next undecided) a ∙ b

all-pass : (a b c : Bool) → a ≡ true → b ≡ true → c ≡ true → (a && b && c) ≡ true
all-pass a b c ea eb ec = rw (ea, eb, ec) refl

-- the stage finds the view in which its life may rejoin
pub can-found : (w : World) (s : Stage) (view : ℕ) → 0 < s.config.n → Fits (setup_of s.config) w s.config.me true s → CanRejoin (setup_of s.config) s.config.me s.life view → rejoin_view s ≡ Some view
can-found w s view some fits can =
    let n = s.config.n in
    let top = highest_answered n s in
    let boss = leader n view in
    let low : top ≤ view = highest-low n s view (λ p h lt e. can.highest p h lt e) in
    let high : can.leader_answer.body.view ≤ top = highest-above n s boss can.leader_answer (mod-lt view some) can.leader_counted in
    let in_view = can.leader_view in
    let is : view ≡ top = omega arith in
    let undecided = first_undecided s in
    let first = undecided-is (setup_of s.config) w s.config.me true s fits in
    let known : can.next ≤ undecided = elim (lt_or_le undecided can.next) [ inl lt ↦ absurd (first.unknown (can.known undecided lt)) | inr le ↦ le ] in
    let ready : is_leader_ready (answer_from s boss) view undecided ≡ true = ready-test (answer_from s boss) can.leader_answer view undecided can.next can.leader_counted can.leader_view can.leader_next known in
    let ready_top : is_leader_ready (answer_from s (leader n top)) top undecided ≡ true = subst (λ (v : ℕ). is_leader_ready (answer_from s (leader n v)) v undecided ≡ true) is ready in
    let recovering : is_recovering s.life.phase ≡ true = ap (λ (p : Phase). is_recovering p) can.recovering in
    let enough : is_answered_enough s ≡ true = le-test (majority n) (count_below n (is_answered (setup_of s.config) s.config.me s.life)) can.quorum in
    ap (λ (b : Bool). number_if b top) (all-pass (is_recovering s.life.phase) (is_answered_enough s) (is_leader_ready (answer_from s (leader n top)) top undecided) recovering enough ready_top)
    ∙ ap (λ (v : ℕ). Some v) (sym is)

-- where it finds none, the condition holds for no view
pub none-can : (w : World) (s : Stage) (view : ℕ) → 0 < s.config.n → Fits (setup_of s.config) w s.config.me true s → rejoin_view s ≡ None → ¬ CanRejoin (setup_of s.config) s.config.me s.life view
none-can w s view some fits none can = let e = can-found w s view some fits can in absurd cc

-- ---- Where it does not hold

count-none : (n : ℕ) (test : ℕ → Bool) → ((p : ℕ) → test p ≡ false) → count_below n test ≡ 0
count-none zero test none = refl
count-none (suc k) test none = let a = count-none k test none in rw (none k) (omega arith)

-- the RecoveryAnswer of p that is counted, by what was taken
counted_by : Setup → ℕ → Life → ℕ → List Taken → Option (Held RecoveryAnswer)
counted_by c r l p ts = let held = held_answer l.mark p ts in if not (p == r) && has_epoch_answer p (entry_in c.mode r l p) held then held else None

either-none : (b : Bool) (o : Option (Held RecoveryAnswer)) → o ≡ None → (if b then o else None) ≡ None
either-none true o e = e
either-none false o e = refl

answered-none : (c : Setup) (r : ℕ) (l : Life) (p : ℕ) → l.taken ≡ [] → is_answered c r l p ≡ false
unfolding counted_by
answered-none c r l p e = ap (λ (ts : List Taken). is_some (counted_by c r l p ts)) e ∙ ap (λ (o : Option (Held RecoveryAnswer)). is_some o) (either-none (not (p == r) && false) None refl)

-- a stage whose life has taken nothing finds none
pub taken-none : (s : Stage) → s.life.taken ≡ [] → rejoin_view s ≡ None
taken-none s e =
    let n = s.config.n in
    let view = highest_answered n s in
    let none : count_below n (is_answered (setup_of s.config) s.config.me s.life) ≡ 0 = count-none n (is_answered (setup_of s.config) s.config.me s.life) (λ p. answered-none (setup_of s.config) s.config.me s.life p e) in
    let few : is_answered_enough s ≡ false = ap (λ (k : ℕ). nat_le (majority n) k) none ∙ le-not (majority n) 0 (omega arith) in
    ap (λ (b : Bool). number_if b view) (first-fails (is_recovering s.life.phase) (is_answered_enough s) (is_leader_ready (answer_from s (leader n view)) view (first_undecided s)) few)
  where
    first-fails : (a b c : Bool) → b ≡ false → (a && b && c) ≡ false
    first-fails true b c f = ap (λ (x : Bool). x && c) f
    first-fails false b c f = refl

    le-not : (a b : ℕ) → b < a → nat_le a b ≡ false
    le-not a b lt = elim (leb_tells a b) [ inl h ↦ (let f = h.1 in absurd (omega arith)) | inr h ↦ h.0 ]

-- ---- Steps of the service

-- what a stage finds does not depend on the states of its service
abbrev serving : Stage → State → List State → Stage
serving s x xs = record s { life = record s.life { service = x; states = xs } }

highest-serving : (k : ℕ) (s : Stage) (x : State) (xs : List State) → highest_answered k (serving s x xs) ≡ highest_answered k s
highest-serving zero s x xs = refl
highest-serving (suc k) s x xs = ap (λ (v : ℕ). max v (view_of_answer (answer_from s k))) (highest-serving k s x xs)

undecided-serving : (s : Stage) (x : State) (xs : List State) → first_undecided (serving s x xs) ≡ first_undecided s
unfolding first_undecided
undecided-serving s x xs = refl

view-serving : (s : Stage) (x : State) (xs : List State) → rejoin_view (serving s x xs) ≡ rejoin_view s
view-serving s x xs =
    let f = λ (view undecided : ℕ). number_if (is_recovering s.life.phase && is_answered_enough s && is_leader_ready (answer_from s (leader s.config.n view)) view undecided) view in
    ap (λ (u : ℕ). f (highest_answered s.config.n (serving s x xs)) u) (undecided-serving s x xs) ∙ ap (λ (v : ℕ). f v (first_undecided s)) (highest-serving s.config.n s x xs)

-- a step of the service leaves a stage that finds none as one that finds none
pub serves-none : (d : Decision) (s : Stage) → rejoin_view s ≡ None → rejoin_view (serves d (untouched s)).stage ≡ None
serves-none (Decided i batch) s none =
    keep-when (λ (t : Turned). rejoin_view t.stage ≡ None) (is_due s.life.service i) (shows (Step.Execute s.config.me i (outcomes s.life.service batch)) (Execute i)) (untouched s) (λ e. view-serving s _ _ ∙ none) (λ e. none)
serves-none (Installed upto state) s none =
    keep-when (λ (t : Turned). rejoin_view t.stage ≡ None) (nat_lt s.life.service.executed upto) (shows (Step.Restore s.config.me upto) (Restore upto state)) (untouched s) (λ e. view-serving s _ _ ∙ none) (λ e. none)

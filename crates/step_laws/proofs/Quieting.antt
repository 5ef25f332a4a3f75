-- Words that show no step which passes a test, and leave the constants as they are.
use Rattle.std.proofs.Common.{◌≡◌, ℕ, zero, suc, ◌+◌, ◌-◌, ◌%◌, Bool, true, false, ◌&&◌, not, List, [], ◌∷◌, ◌++◌, Option, Some, None, nat_lt, is_some, ◌==◌, if◌then◌else◌, refl, ◌∙◌, append-nil}
use Rattle.jp_types.specs.declared.message.Message.{Message}
use Rattle.jp_types.specs.declared.message.SnapshotPart.{SnapshotPart}
use Rattle.jp_types.specs.Instances.{Batch, peer}
use Rattle.jp_types.specs.Views.{next_led}
use Rattle.kv_service.specs.Service.{State}
use Rattle.kv_service.specs.StateReading.{state_in}
use Rattle.kv_service.specs.Parts.{Joiner, is_joined, joined_bytes, takes_part, with_part}
use Rattle.paxos_world.specs.declared.step.Step.{Step}
use Rattle.paxos_world.specs.World.{Deed}
use Rattle.paxos_world.specs.Stage.{Snapshot, Stage, Decision, Show, Send, Hand, Save, Turned}
use Rattle.paxos_world.specs.Writing.{◌▹◌, when, when_some, for_each, for_range, with_stage, does, shows, sends, says, saves, hands, others, sends_to_all, says_to_all}
use Rattle.paxos_world.specs.Logs.{first_undecided, is_known, is_in_span, tallied}
use Rattle.paxos_world.specs.Retransmitting.{arms_prepare, arms_query, cancels_prepare, cancels_query, cancels_propose, cancels_proposes}
use Rattle.paxos_world.specs.Leading.{works, leads, is_view_ss, prepare_of, begin_from, begin_phase_1, drop_waiting, raise_to, raise_up_to, suspect}
use Rattle.paxos_world.specs.Learning.{learns, learn_check, votes_for}
use Rattle.paxos_world.specs.CatchingUp.{query_of, queries_peer, replied_batches, parts_of, on_query, learns_each, is_joining_above, joiner_for, keeps_joiner, installs, installs_if, has_part, puts_part, on_part}
use Rattle.step_laws.specs.Kinds.{shown_where}
use Rattle.step_laws.proofs.Viewing.{shown_where-append}

-- a turn went on and showed no step that passes the test; the constants are as they were
pub record Calmly (P : Step → Bool) (t u : Turned) : Type 0 where
  pub shown : shown_where P u.acts ≡ shown_where P t.acts
  pub config : u.stage.config ≡ t.stage.config

-- a test that each step fails which an item may show
pub record Calm (P : Step → Bool) : Type 0 where
  pub enter : (r view : ℕ) → P (Step.Enter r view) ≡ false
  pub promise : (r view : ℕ) → P (Step.Promise r view) ≡ false
  pub vote : (r view i : ℕ) → P (Step.Vote r view i) ≡ false
  pub learn : (r i : ℕ) → P (Step.Learn r i) ≡ false
  pub answer : (r to view : ℕ) (next : Option ℕ) → P (Step.Answer r to view next) ≡ false
  pub install : (r upto : ℕ) → P (Step.Install r upto) ≡ false

-- one thing and then another
infixl 20 ◌⊳◌
pub ◌⊳◌ : {P : Step → Bool} {t u v : Turned} → Calmly P t u → Calmly P u v → Calmly P t v
a ⊳ b = record { shown = b.shown ∙ a.shown; config = b.config ∙ a.config }

-- ---- The words that join others

-- nothing is done
pub calm-stays : (P : Step → Bool) (t : Turned) → Calmly P t t
calm-stays P t = record { shown = refl; config = refl }

-- what is done where a test passes
pub calm-when : (P : Step → Bool) (b : Bool) (f : Turned → Turned) (t : Turned) → ((u : Turned) → Calmly P u (f u)) → Calmly P t (when b f t)
calm-when P true f t h = h t
calm-when P false f t h = calm-stays P t

-- what is done with a value, where there is one
pub calm-some : {A : Type 0} (P : Step → Bool) (o : Option A) (f : A → Turned → Turned) (t : Turned) → ((x : A) (u : Turned) → Calmly P u (f x u)) → Calmly P t (when_some o f t)
calm-some P None f t h = calm-stays P t
calm-some P (Some x) f t h = h x t

-- what is done with each
pub calm-each : {A : Type 0} (P : Step → Bool) (xs : List A) (f : A → Turned → Turned) (t : Turned) → ((x : A) (u : Turned) → Calmly P u (f x u)) → Calmly P t (for_each xs f t)
calm-each P [] f t h = calm-stays P t
calm-each P (x ∷ xs) f t h = h x t ⊳ calm-each P xs f (f x t) h

-- what is done with each number of a range
pub calm-range : (P : Step → Bool) (k a : ℕ) (f : ℕ → Turned → Turned) (t : Turned) → ((i : ℕ) (u : Turned) → Calmly P u (f i u)) → Calmly P t (for_range k a f t)
calm-range P zero a f t h = calm-stays P t
calm-range P (suc k) a f t h = h a t ⊳ calm-range P k (suc a) f (f a t) h

-- ---- The basic words

-- the stage is changed, but for the constants
pub calm-stage : (P : Step → Bool) (f : Stage → Stage) (t : Turned) → (f t.stage).config ≡ t.stage.config → Calmly P t (with_stage f t)
calm-stage P f t e = record { shown = refl; config = e }

-- a step of the world, which is not shown
pub calm-does : (P : Step → Bool) (d : Deed) (t : Turned) → Calmly P t (does d t)
calm-does P d t = record { shown = refl; config = refl }

-- a shown step that fails the test
pub calm-shows : (P : Step → Bool) (step : Step) (d : Deed) (t : Turned) → P step ≡ false → Calmly P t (shows step d t)
calm-shows P step d t e = record { shown = shown_where-append P t.acts (Show step ∷ []) ∙ go (P step) e; config = refl }
  where
    go : (b : Bool) → b ≡ false → shown_where P t.acts ++ (if b then step ∷ [] else []) ≡ shown_where P t.acts
    go true h = absurd cc
    go false h = append-nil (shown_where P t.acts)

-- a shown step that passes the test is one more
pub shows-adds : (P : Step → Bool) (step : Step) (d : Deed) (t : Turned) → P step ≡ true → shown_where P (shows step d t).acts ≡ shown_where P t.acts ++ step ∷ []
shows-adds P step d t e = shown_where-append P t.acts (Show step ∷ []) ∙ go (P step) e
  where
    go : (b : Bool) → b ≡ true → shown_where P t.acts ++ (if b then step ∷ [] else []) ≡ shown_where P t.acts ++ step ∷ []
    go true h = refl
    go false h = absurd cc

-- a message is sent
pub calm-sends : (P : Step → Bool) (to : ℕ) (m : Message) (t : Turned) → Calmly P t (sends to m t)
calm-sends P to m t = record { shown = shown_where-append P t.acts (Send to m ∷ []) ∙ append-nil (shown_where P t.acts); config = refl }

-- a message is sent with no step of its own
pub calm-says : (P : Step → Bool) (to : ℕ) (m : Message) (t : Turned) → Calmly P t (says to m t)
calm-says P to m t = record { shown = shown_where-append P t.acts (Send to m ∷ []) ∙ append-nil (shown_where P t.acts); config = refl }

-- the number is saved
pub calm-saves : (P : Step → Bool) (k : ℕ) (t : Turned) → Calmly P t (saves k t)
calm-saves P k t = record { shown = shown_where-append P t.acts (Save k ∷ []) ∙ append-nil (shown_where P t.acts); config = refl }

-- a decision is handed on
pub calm-hands : (P : Step → Bool) (d : Decision) (t : Turned) → Calmly P t (hands d t)
calm-hands P d t = record { shown = shown_where-append P t.acts (Hand d ∷ []) ∙ append-nil (shown_where P t.acts); config = refl }

-- a message goes to all others
pub calm-sends_all : (P : Step → Bool) (m : Message) (t : Turned) → Calmly P t (sends_to_all m t)
calm-sends_all P m t = calm-each P (others t.stage.config) (λ q. sends q m) t (λ q u. calm-sends P q m u)

-- a message goes to all others, with no step of its own
pub calm-says_all : (P : Step → Bool) (m : Message) (t : Turned) → Calmly P t (says_to_all m t)
calm-says_all P m t = calm-each P (others t.stage.config) (λ q. says q m) t (λ q u. calm-says P q m u)

-- ---- Raising the view

module _ (P : Step → Bool) (calm : Calm P) where
  -- phase 1 begins from an instance on
  pub calm-begin : (first : ℕ) (t : Turned) → Calmly P t (begin_from first t)
  calm-begin first t =
      let s = t.stage in
      let a = t ▹ shows (Step.Promise s.config.me s.life.view) (Deed.Open s.life.view first) in
      let b = a ▹ says_to_all (prepare_of s first) in
      let x : Calmly P t a = calm-shows P (Step.Promise s.config.me s.life.view) (Deed.Open s.life.view first) t (calm.promise _ _) in
      let y : Calmly P a b = calm-says_all P (prepare_of s first) a in
      let z : Calmly P b (b ▹ arms_prepare (prepare_of s first)) = record { shown = refl; config = refl } in
      x ⊳ y ⊳ z

  -- the view is raised
  pub calm-raise : (view : ℕ) (t : Turned) → Calmly P t (raise_to view t)
  calm-raise view t =
      let s = t.stage in
      let a = t ▹ when (is_view_ss s.config.mode && nat_lt s.stable view) (saves view) in
      let b = a ▹ shows (Step.Enter s.config.me view) (Deed.Enter view) in
      let c = b ▹ cancels_prepare ▹ cancels_proposes ▹ with_stage (λ s. record s { quiet = 0 }) in
      let d = c ▹ when (leads s s.config.me view) begin_phase_1 in
      let p : Calmly P t a = calm-when P (is_view_ss s.config.mode && nat_lt s.stable view) (saves view) t (calm-saves P view) in
      let q : Calmly P a b = calm-shows P (Step.Enter s.config.me view) (Deed.Enter view) a (calm.enter _ _) in
      let r : Calmly P b c = record { shown = refl; config = refl } in
      let x : Calmly P c d = calm-when P (leads s s.config.me view) begin_phase_1 c (λ u. calm-begin (first_undecided u.stage) u) in
      let y : Calmly P d (d ▹ when (not (leads s s.config.me view)) drop_waiting) = calm-when P (not (leads s s.config.me view)) drop_waiting d (λ u. record { shown = refl; config = refl }) in
      p ⊳ q ⊳ r ⊳ x ⊳ y

  -- the view is raised, where it is lower
  pub calm-raise_up : (view : ℕ) (t : Turned) → Calmly P t (raise_up_to view t)
  calm-raise_up view t = calm-when P (works t.stage && nat_lt t.stage.life.view view) (raise_to view) t (calm-raise view)

  -- the leader is suspected
  pub calm-suspect : (t : Turned) → Calmly P t (suspect t)
  calm-suspect t =
      let s = t.stage in
      let f = when_some (next_led s.config.n s.config.me s.life.view) raise_to in
      calm-when P (works s) f t (λ u. calm-some P (next_led s.config.n s.config.me s.life.view) raise_to u calm-raise)

  -- ---- Learning, voting and launching

  -- a batch is learned
  pub calm-learns : (i : ℕ) (batch : Batch) (t : Turned) → Calmly P t (learns i batch t)
  calm-learns i batch t =
      let a = t ▹ shows (Step.Learn t.stage.config.me i) (Deed.Learn i batch) in
      let x : Calmly P t a = calm-shows P (Step.Learn t.stage.config.me i) (Deed.Learn i batch) t (calm.learn _ _) in
      let y : Calmly P a (a ▹ cancels_propose i) = record { shown = refl; config = refl } in
      x ⊳ y

  -- an instance is learned where its tally is full
  pub calm-check : (i : ℕ) (t : Turned) → Calmly P t (learn_check i t)
  calm-check i t = calm-some P (tallied t.stage i) (learns i) t (calm-learns i)

  -- a vote
  pub calm-votes : (view i : ℕ) (batch : Batch) (t : Turned) → Calmly P t (votes_for view i batch t)
  calm-votes view i batch t = calm-shows P (Step.Vote t.stage.config.me view i) (Deed.Vote view i batch) t (calm.vote _ _ _)

  -- each batch is learned where it may be
  pub calm-learns_each : (i : ℕ) (batches : List Batch) (t : Turned) → Calmly P t (learns_each i batches t)
  calm-learns_each i [] t = calm-stays P t
  calm-learns_each i (batch ∷ batches) t =
      calm-when P (is_in_span t.stage i && not (is_known t.stage i)) (learns i batch) t (calm-learns i batch)
      ⊳ calm-learns_each (suc i) batches (t ▹ when (is_in_span t.stage i && not (is_known t.stage i)) (learns i batch))

  -- ---- Catching up

  -- a query goes out
  pub calm-queries : (t : Turned) → Calmly P t (queries_peer t)
  calm-queries t =
      let s = t.stage in
      let query = query_of (first_undecided s) in
      let to = peer s.config.me s.config.n s.queries in
      let a = t ▹ cancels_query in
      let b = a ▹ says to query in
      let x : Calmly P t a = record { shown = refl; config = refl } in
      let y : Calmly P a b = calm-says P to query a in
      let z : Calmly P b (b ▹ arms_query query to ▹ with_stage (λ s. record s { queries = (s.queries + 1) % (s.config.n - 1) })) = record { shown = refl; config = refl } in
      x ⊳ y ⊳ z

  -- a query is answered
  pub calm-query : (p first : ℕ) (t : Turned) → Calmly P t (on_query p first t)
  calm-query p first t =
      let s = t.stage in
      let f : Snapshot → Turned → Turned = λ snapshot. for_each (parts_of snapshot) (says p) in
      let a = t ▹ when (nat_lt first s.base) (when_some s.newest f) in
      let x : Calmly P t a = calm-when P (nat_lt first s.base) (when_some s.newest f) t (λ u. calm-some P s.newest f u (λ n v. calm-each P (parts_of n) (says p) v (calm-says P p))) in
      let m = Message.CatchUpReply (record { first = first; batches = replied_batches s first }) in
      x ⊳ calm-when P (not (nat_lt first s.base) && is_some (s.life.known first)) (says p m) a (calm-says P p m)

  -- a state is installed
  pub calm-installs : (upto : ℕ) (bytes : List ℕ) (state : State) (t : Turned) → Calmly P t (installs upto bytes state t)
  calm-installs upto bytes state t =
      let a = t ▹ cancels_query ▹ with_stage (λ s. record s { base = upto; newest = Some (record { place = upto; bytes = bytes; installed = true }) }) in
      let x : Calmly P t a = record { shown = refl; config = refl } in
      x ⊳ calm-shows P (Step.Install t.stage.config.me upto) (Deed.Install upto state) a (calm.install _ _)

  -- joined bytes are installed where they are a state of the place
  pub calm-installs_if : (upto : ℕ) (bytes : List ℕ) (state : State) (t : Turned) → Calmly P t (installs_if upto bytes state t)
  calm-installs_if upto bytes state t = calm-when P (state.executed == upto) (installs upto bytes state) t (calm-installs upto bytes state)

  -- a joiner has one part more
  pub calm-has_part : (j : Joiner) (t : Turned) → Calmly P t (has_part j t)
  calm-has_part j t =
      let a = t ▹ when (not (is_joined j)) (keeps_joiner (Some j)) in
      let f : Turned → Turned = λ t. t ▹ keeps_joiner None ▹ when_some (state_in (joined_bytes j)) (installs_if j.upto (joined_bytes j)) in
      calm-when P (not (is_joined j)) (keeps_joiner (Some j)) t (λ u. record { shown = refl; config = refl }) ⊳ calm-when P (is_joined j) f a (λ u. joins u)
    where
      joins : (u : Turned) → Calmly P u (u ▹ keeps_joiner None ▹ when_some (state_in (joined_bytes j)) (installs_if j.upto (joined_bytes j)))
      joins u =
          let b = u ▹ keeps_joiner None in
          let x : Calmly P u b = record { shown = refl; config = refl } in
          x ⊳ calm-some P (state_in (joined_bytes j)) (installs_if j.upto (joined_bytes j)) b (calm-installs_if j.upto (joined_bytes j))

  -- a part is put into the joiner
  pub calm-puts_part : (j : Joiner) (m : SnapshotPart) (t : Turned) → Calmly P t (puts_part j m t)
  calm-puts_part j m t =
      let a = t ▹ when (takes_part j m) (has_part (with_part j m)) in
      calm-when P (takes_part j m) (has_part (with_part j m)) t (calm-has_part (with_part j m))
      ⊳ calm-when P (not (takes_part j m)) (keeps_joiner (Some j)) a (λ u. record { shown = refl; config = refl })

  -- a part comes
  pub calm-part : (m : SnapshotPart) (t : Turned) → Calmly P t (on_part m t)
  calm-part m t =
      let s = t.stage in
      let j = joiner_for s.joiner m.upto m.total in
      calm-when P (nat_lt (first_undecided s) m.upto && not (is_joining_above s.joiner m.upto)) (puts_part j m) t (calm-puts_part j m)

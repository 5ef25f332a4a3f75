-- Which steps that pass a test the words of a turn show: the basic words, and the words that show none of a narrow test.
use Rattle.std.proofs.Common.{◌≡◌, ℕ, zero, suc, ◌-◌, max, Bool, true, false, ◌&&◌, not, List, [], ◌∷◌, ◌++◌, nat_lt, ◌==◌, Option, Some, None, is_some, if◌then◌else◌, refl, ap, ◌∙◌, append-nil}
use Rattle.jp_types.specs.declared.message.Message.{Message}
use Rattle.jp_types.specs.declared.message.SnapshotPart.{SnapshotPart}
use Rattle.jp_types.specs.declared.message.Propose.{Propose}
use Rattle.jp_types.specs.Instances.{Batch, peer}
use Rattle.jp_types.specs.Reports.{decided_below}
use Rattle.kv_service.specs.Parts.{Joiner, is_joined, joined_bytes, takes_part, with_part}
use Rattle.kv_service.specs.Service.{State}
use Rattle.kv_service.specs.StateReading.{state_in}
use Rattle.paxos_world.specs.declared.step.Step.{Step}
use Rattle.paxos_world.specs.Life.{Leading, No, Preparing, Leads}
use Rattle.paxos_world.specs.World.{Deed}
use Rattle.paxos_world.specs.Stage.{Act, Show, Send, Hand, Save, Turned}
use Rattle.paxos_world.specs.Writing.{◌▹◌, when, when_some, for_each, for_range, with_stage, shows, sends, says, saves, hands, others, sends_to_all, says_to_all}
use Rattle.paxos_world.specs.Logs.{is_in_span, is_known, first_undecided, tallied}
use Rattle.paxos_world.specs.Retransmitting.{arms_propose, cancels_query, cancels_prepare}
use Rattle.paxos_world.specs.Leading.{works, is_view_ss}
use Rattle.paxos_world.specs.Learning.{notes, learns, learn_check, votes_for, propose_of, accept_of, launches}
use Rattle.paxos_world.specs.CatchingUp.{query_of, queries_peer, query_where_due, replied_batches, parts_of, on_query, learns_each, on_batches, is_joining_above, joiner_for, keeps_joiner, installs, installs_if, has_part, puts_part, on_part}
use Rattle.paxos_world.specs.Messages.{votes_on, votes_if}
use Rattle.paxos_world.specs.Settling.{rejoin_view, rejoins, settles_rejoin, is_prepared, adoption_end, adopts, adopts_where, becomes_prepared, settles_leading, settles_prepared, open_place, launches_waiting, settles_waiting, next_handing, hands_on, settles}
use Rattle.step_laws.specs.Kinds.{shown_where}

-- the steps among these that pass a test
abbrev pub picks : (Step → Bool) → List Step → List Step
picks P [] = []
picks P (step ∷ steps) = let rest = picks P steps in if P step then step ∷ rest else rest

-- the steps that acts show are those of the first acts and those of the rest
pub shown_where-append : (P : Step → Bool) (xs ys : List Act) → shown_where P (xs ++ ys) ≡ shown_where P xs ++ shown_where P ys
shown_where-append P [] ys = refl
shown_where-append P (Show step ∷ xs) ys = ap (λ (zs : List Step). if P step then step ∷ zs else zs) (shown_where-append P xs ys) ∙ front (P step)
  where
    front : (b : Bool) → (if b then step ∷ (shown_where P xs ++ shown_where P ys) else (shown_where P xs ++ shown_where P ys)) ≡ (if b then step ∷ shown_where P xs else shown_where P xs) ++ shown_where P ys
    front true = refl
    front false = refl
shown_where-append P (Send to m ∷ xs) ys = shown_where-append P xs ys
shown_where-append P (Hand d ∷ xs) ys = shown_where-append P xs ys
shown_where-append P (Save k ∷ xs) ys = shown_where-append P xs ys

-- a word shows no step that passes the test
abbrev pub Quiet : (Step → Bool) → (Turned → Turned) → Type 0
Quiet P f = (t : Turned) → shown_where P (f t).acts ≡ shown_where P t.acts

-- one more act that shows no step of the test changes nothing
pub quiet-act : (P : Step → Bool) (a : Act) (xs : List Act) → shown_where P (a ∷ []) ≡ [] → shown_where P (xs ++ a ∷ []) ≡ shown_where P xs
quiet-act P a xs e = shown_where-append P xs (a ∷ []) ∙ ap (λ (zs : List Step). shown_where P xs ++ zs) e ∙ append-nil (shown_where P xs)

-- a shown step that fails the test changes nothing
pub quiet-show : (P : Step → Bool) (step : Step) (xs : List Act) → P step ≡ false → shown_where P (xs ++ Show step ∷ []) ≡ shown_where P xs
quiet-show P step xs e = quiet-act P (Show step) xs (ap (λ (b : Bool). if b then step ∷ [] else []) e)

-- what is done where a test passes is quiet if it is
pub quiet-when : (P : Step → Bool) (b : Bool) (f : Turned → Turned) → Quiet P f → Quiet P (when b f)
quiet-when P true f q t = q t
quiet-when P false f q t = refl

-- what is done with a value is quiet if it is
pub quiet-some : {A : Type 0} (P : Step → Bool) (o : Option A) (f : A → Turned → Turned) → ((x : A) → Quiet P (f x)) → Quiet P (when_some o f)
quiet-some P None f q t = refl
quiet-some P (Some x) f q t = q x t

-- what is done with each of a list is quiet if it is
pub quiet-each : {A : Type 0} (P : Step → Bool) (xs : List A) (f : A → Turned → Turned) → ((x : A) → Quiet P (f x)) → Quiet P (for_each xs f)
quiet-each P [] f q t = refl
quiet-each P (x ∷ xs) f q t = quiet-each P xs f q (f x t) ∙ q x t

-- what is done with each of a range is quiet if it is
pub quiet-range : (P : Step → Bool) (k a : ℕ) (f : ℕ → Turned → Turned) → ((i : ℕ) → Quiet P (f i)) → Quiet P (for_range k a f)
quiet-range P zero a f q t = refl
quiet-range P (suc k) a f q t = quiet-range P k (suc a) f q (f a t) ∙ q a t

-- sends to all others are quiet
pub quiet-sends_to_all : (P : Step → Bool) (m : Message) → Quiet P (sends_to_all m)
quiet-sends_to_all P m t = quiet-each P (others t.stage.config) (λ q. sends q m) (λ q u. quiet-act P (Send q m) u.acts refl) t

-- messages to all others are quiet
pub quiet-says_to_all : (P : Step → Bool) (m : Message) → Quiet P (says_to_all m)
quiet-says_to_all P m t = quiet-each P (others t.stage.config) (λ q. says q m) (λ q u. quiet-act P (Send q m) u.acts refl) t

-- a test that passes no step but those of entering, promising and answering
pub record Narrow (P : Step → Bool) : Type 0 where
  pub learn : (r i : ℕ) → P (Step.Learn r i) ≡ false
  pub vote : (r view i : ℕ) → P (Step.Vote r view i) ≡ false
  pub launch : (r view i : ℕ) (batch : Batch) → P (Step.Launch r view i batch) ≡ false
  pub rejoin : (r view : ℕ) → P (Step.Rejoin r view) ≡ false
  pub prepared : (r view next : ℕ) → P (Step.Prepared r view next) ≡ false
  pub install : (r upto : ℕ) → P (Step.Install r upto) ≡ false

module _ (P : Step → Bool) (no : Narrow P) where
  -- ---- Learning, voting and launching

  -- learning is quiet
  pub quiet-learns : (i : ℕ) (batch : Batch) → Quiet P (learns i batch)
  quiet-learns i batch t = quiet-show P (Step.Learn t.stage.config.me i) t.acts (no.learn t.stage.config.me i)

  -- learning by a tally is quiet
  pub quiet-learn_check : (i : ℕ) → Quiet P (learn_check i)
  quiet-learn_check i t = quiet-some P (tallied t.stage i) (learns i) (quiet-learns i) t

  -- a vote is quiet
  pub quiet-votes_for : (view i : ℕ) (batch : Batch) → Quiet P (votes_for view i batch)
  quiet-votes_for view i batch t = quiet-show P (Step.Vote t.stage.config.me view i) t.acts (no.vote t.stage.config.me view i)

  -- a launch is quiet
  pub quiet-launches : (i : ℕ) (batch : Batch) → Quiet P (launches i batch)
  quiet-launches i batch t =
      let s = t.stage in
      let view = s.life.view in
      let t1 : Turned = shows (Step.Launch s.config.me view i batch) (Deed.Launch view i batch) t in
      let t2 : Turned = votes_for view i batch t1 in
      let t3 : Turned = notes i view s.config.me (Some batch) t2 in
      quiet-when P (not (is_known s i)) (arms_propose i (propose_of view i batch)) (λ u. refl) (sends_to_all (propose_of view i batch) t3)
      ∙ quiet-sends_to_all P (propose_of view i batch) t3
      ∙ quiet-votes_for view i batch t1
      ∙ quiet-show P (Step.Launch s.config.me view i batch) t.acts (no.launch s.config.me view i batch)

  -- a vote on a proposal is quiet
  pub quiet-votes_if : (m : Propose) → Quiet P (votes_if m)
  quiet-votes_if m t =
      quiet-when P (works t.stage && (t.stage.life.view == m.view) && is_in_span t.stage m.instance) (votes_on m)
      (λ u. quiet-sends_to_all P (accept_of m.view m.instance) (notes m.instance m.view u.stage.config.me None (votes_for m.view m.instance m.batch u)) ∙ quiet-votes_for m.view m.instance m.batch u) t

  -- ---- Catching up

  -- a query is quiet
  pub quiet-query_where_due : Quiet P query_where_due
  quiet-query_where_due t = quiet-when P (nat_lt (first_undecided t.stage) t.stage.horizon) queries_peer (λ u. quiet-act P (Send (peer u.stage.config.me u.stage.config.n u.stage.queries) (query_of (first_undecided u.stage))) u.acts refl) t

  -- the answer to a query is quiet
  pub quiet-on_query : (p first : ℕ) → Quiet P (on_query p first)
  quiet-on_query p first t =
      let s = t.stage in
      let reply : Message = Message.CatchUpReply (record { first = first; batches = replied_batches s first }) in
      let parts : Turned → Turned = when_some s.newest (λ snapshot. for_each (parts_of snapshot) (says p)) in
      quiet-when P (not (nat_lt first s.base) && is_some (s.life.known first)) (says p reply) (λ u. quiet-act P (Send p reply) u.acts refl) (when (nat_lt first s.base) parts t)
      ∙ quiet-when P (nat_lt first s.base) parts (quiet-some P s.newest (λ snapshot. for_each (parts_of snapshot) (says p)) (λ snapshot. quiet-each P (parts_of snapshot) (says p) (λ m u. quiet-act P (Send p m) u.acts refl))) t

  -- learning each of some batches is quiet
  pub quiet-learns_each : (i : ℕ) (batches : List Batch) → Quiet P (learns_each i batches)
  quiet-learns_each i [] t = refl
  quiet-learns_each i (batch ∷ batches) t =
      quiet-learns_each (suc i) batches (when (is_in_span t.stage i && not (is_known t.stage i)) (learns i batch) t)
      ∙ quiet-when P (is_in_span t.stage i && not (is_known t.stage i)) (learns i batch) (quiet-learns i batch) t

  -- known batches are quiet
  pub quiet-on_batches : (first : ℕ) (batches : List Batch) → Quiet P (on_batches first batches)
  quiet-on_batches first batches t = quiet-learns_each first batches (cancels_query t)

  -- an Install is quiet
  pub quiet-installs_if : (upto : ℕ) (bytes : List ℕ) (state : State) → Quiet P (installs_if upto bytes state)
  quiet-installs_if upto bytes state t =
      quiet-when P (state.executed == upto) (installs upto bytes state) (λ u. quiet-show P (Step.Install u.stage.config.me upto) u.acts (no.install u.stage.config.me upto)) t

  -- one more part is quiet
  pub quiet-has_part : (j : Joiner) → Quiet P (has_part j)
  quiet-has_part j t =
      let joined : Turned → Turned = λ u. u ▹ keeps_joiner None ▹ when_some (state_in (joined_bytes j)) (installs_if j.upto (joined_bytes j)) in
      quiet-when P (is_joined j) joined
      (λ u. quiet-some P (state_in (joined_bytes j)) (installs_if j.upto (joined_bytes j)) (quiet-installs_if j.upto (joined_bytes j)) (keeps_joiner None u)) (when (not (is_joined j)) (keeps_joiner (Some j)) t)
      ∙ quiet-when P (not (is_joined j)) (keeps_joiner (Some j)) (λ u. refl) t

  -- a part of a snapshot is quiet
  pub quiet-on_part : (m : SnapshotPart) → Quiet P (on_part m)
  quiet-on_part m t =
      let s = t.stage in
      let j = joiner_for s.joiner m.upto m.total in
      quiet-when P (nat_lt (first_undecided s) m.upto && not (is_joining_above s.joiner m.upto)) (puts_part j m)
      (λ u. quiet-when P (not (takes_part j m)) (keeps_joiner (Some j)) (λ v. refl) (when (takes_part j m) (has_part (with_part j m)) u)
      ∙ quiet-when P (takes_part j m) (has_part (with_part j m)) (quiet-has_part (with_part j m)) u) t

  -- ---- Settling

  -- rejoining is quiet
  pub quiet-settles_rejoin : Quiet P settles_rejoin
  quiet-settles_rejoin t = quiet-some P (rejoin_view t.stage) rejoins one t
    where
      one : (view : ℕ) → Quiet P (rejoins view)
      one view u =
          let s = u.stage in
          let saved : Turned = when (is_view_ss s.config.mode && nat_lt s.life.mark view) (saves view) u in
          quiet-show P (Step.Rejoin s.config.me view) saved.acts (no.rejoin s.config.me view)
          ∙ quiet-when P (is_view_ss s.config.mode && nat_lt s.life.mark view) (saves view) (λ v. quiet-act P (Save view) v.acts refl) u

  -- launching adopted batches is quiet
  pub quiet-adopts_where : (leading : Leading) (from end : ℕ) → Quiet P (adopts_where leading from end)
  quiet-adopts_where No from end t = refl
  quiet-adopts_where (Preparing first) from end t = refl
  quiet-adopts_where (Leads lead) from end t = quiet-range P (end - from) from (adopts lead) one t
    where
      one : (i : ℕ) → Quiet P (adopts lead i)
      one i u =
          let learnt : Turned → Turned = when_some (decided_below u.stage.config.n lead.reports i) (learns i) in
          quiet-launches i (lead.adopted i) (when (not (is_known u.stage i)) learnt u)
          ∙ quiet-when P (not (is_known u.stage i)) learnt (quiet-some P (decided_below u.stage.config.n lead.reports i) (learns i) (quiet-learns i)) u

  -- becoming Prepared is quiet
  pub quiet-becomes_prepared : (first : ℕ) → Quiet P (becomes_prepared first)
  quiet-becomes_prepared first t =
      let s = t.stage in
      let end = adoption_end s first in
      let next = max end (first_undecided s) in
      let t1 : Turned = shows (Step.Prepared s.config.me s.life.view next) (Deed.Prepared s.life.view next) (cancels_prepare t) in
      quiet-adopts_where t1.stage.life.leading (max first s.base) end t1
      ∙ quiet-show P (Step.Prepared s.config.me s.life.view next) t.acts (no.prepared s.config.me s.life.view next)

  -- becoming Prepared where the condition holds is quiet
  pub quiet-settles_leading : (leading : Leading) → Quiet P (settles_leading leading)
  quiet-settles_leading No t = refl
  quiet-settles_leading (Preparing first) t = quiet-when P (is_prepared t.stage first) (becomes_prepared first) (quiet-becomes_prepared first) t
  quiet-settles_leading (Leads lead) t = refl

  -- launching what waits is quiet
  pub quiet-launches_waiting : (batches : List Batch) → Quiet P (launches_waiting batches)
  quiet-launches_waiting [] t = refl
  quiet-launches_waiting (batch ∷ batches) t =
      quiet-some P (open_place t.stage) (λ i u. launches_waiting batches (u ▹ with_stage (λ s. record s { waiting = batches }) ▹ launches i batch))
      (λ i u. let v : Turned = with_stage (λ s. record s { waiting = batches }) u in quiet-launches_waiting batches (launches i batch v) ∙ quiet-launches i batch v) t

  -- handing on is quiet
  pub quiet-hands_on : (room : ℕ) → Quiet P (hands_on room)
  quiet-hands_on zero t = refl
  quiet-hands_on (suc room) t =
      quiet-some P (next_handing t.stage) (λ handing u. hands_on room (u ▹ with_stage (λ s. record s { handed = handing.1 }) ▹ hands handing.0))
      (λ handing u. quiet-hands_on room (u ▹ with_stage (λ s. record s { handed = handing.1 }) ▹ hands handing.0) ∙ quiet-act P (Hand handing.0) u.acts refl) t

  -- settling is quiet
  pub quiet-settles : (room : ℕ) → Quiet P (settles room)
  quiet-settles room t =
      let t1 : Turned = settles_rejoin t in
      let t2 : Turned = settles_prepared t1 in
      let t3 : Turned = settles_waiting t2 in
      quiet-hands_on room t3
      ∙ quiet-launches_waiting t2.stage.waiting t2
      ∙ quiet-settles_leading t1.stage.life.leading t1
      ∙ quiet-settles_rejoin t

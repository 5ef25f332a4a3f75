-- A turn votes exactly on a proposal that it may vote on, and with each launch.
use Rattle.std.proofs.Common.{◌≡◌, ℕ, suc, ◌+◌, min, Bool, true, false, not, ◌&&◌, nat_lt, nat_le, length, if◌then◌else◌, ◌==◌, List, [], ◌∷◌, ◌++◌, Some, None, refl, sym, ap, subst, ◌∙◌, append-nil, append_assoc, arith}
use Rattle.std.proofs.lemmas.Bool.Decides.{nat_tests}
use Rattle.jp_types.specs.declared.message.Message.{Message}
use Rattle.jp_types.specs.declared.message.Propose.{Propose}
use Rattle.jp_types.specs.declared.mode.Phase.{Phase}
use Rattle.jp_types.specs.Instances.{Batch, span}
use Rattle.jp_types.specs.Views.{number_limit}
use Rattle.paxos_world.specs.declared.step.Step.{Step}
use Rattle.paxos_world.specs.Life.{LifeId}
use Rattle.paxos_world.specs.World.{Deed}
use Rattle.paxos_world.specs.Shown.{shown_in}
use Rattle.paxos_world.specs.Stage.{Config, Stage, Item, Came, Closed, Tick, Suspect, Snapped, Act, Show, Send, Hand, Save, Turned}
use Rattle.paxos_world.specs.Writing.{◌▹◌, when, for_each, with_stage, does, shows, says, saves, others}
use Rattle.paxos_world.specs.Logs.{is_known, first_undecided}
use Rattle.paxos_world.specs.Retransmitting.{arms_propose, cancels_prepare, cancels_proposes}
use Rattle.paxos_world.specs.Leading.{is_working, is_leading, works, leads, is_view_ss, prepare_of, begin_phase_1, drop_waiting, raise_to, raise_up_to}
use Rattle.paxos_world.specs.Learning.{horizon_to, notes, learn_check, votes_for, accept_of, propose_of, launches}
use Rattle.paxos_world.specs.Messages.{votes_on, votes_if, on_propose, on_message}
use Rattle.paxos_world.specs.Turn.{waiting_limit, on_item, on_tick_working, untouched, turn}
use Rattle.step_laws.specs.Kinds.{shown_where, is_launch, is_vote}
use Rattle.step_laws.specs.Laws.{votes_of, VotesExactly}
use Rattle.step_laws.specs.Views.{proposal_vote}
use Rattle.step_laws.proofs.Casting.{Quiet, k-when, k-sends_to_all, k-arms_propose, k-raise_up_to, k-suspect, k-horizon_to, k-notes, k-learn_check, k-query_where_due, k-on_query, k-on_batches, k-on_part, k-on_snapshot, k-on_prepare, k-on_prepare_ok, k-on_accept, k-on_recovery, k-on_recovery_answer, k-on_alive, k-on_tick_working, settles-keeps}
use Rattle.step_laws.proofs.Viewing.{shown_where-append}

-- ---- What one act adds

-- a step that fails the test adds none
pub failing : (P : Step → Bool) (step : Step) (xs : List Act) → P step ≡ false → shown_where P (xs ++ Show step ∷ []) ≡ shown_where P xs
failing P step xs e =
    shown_where-append P xs (Show step ∷ []) ∙ ap (λ (b : Bool). shown_where P xs ++ (if b then step ∷ [] else [])) e ∙ append-nil (shown_where P xs)

-- an act that shows no step adds none
pub silent-act : (P : Step → Bool) (a : Act) (xs : List Act) → shown_in (a ∷ []) ≡ [] → shown_where P (xs ++ a ∷ []) ≡ shown_where P xs
silent-act P (Show step) xs e = absurd cc
silent-act P (Send to m) xs e = shown_where-append P xs (Send to m ∷ []) ∙ append-nil (shown_where P xs)
silent-act P (Hand d) xs e = shown_where-append P xs (Hand d ∷ []) ∙ append-nil (shown_where P xs)
silent-act P (Save k) xs e = shown_where-append P xs (Save k ∷ []) ∙ append-nil (shown_where P xs)

-- one launch more is one vote more
pub votes_of-more : (me view i : ℕ) (batch : Batch) (steps : List Step) → votes_of (steps ++ Step.Launch me view i batch ∷ []) ≡ votes_of steps ++ Step.Vote me view i ∷ []
votes_of-more me view i batch [] = refl
votes_of-more me view i batch (Step.First r ∷ steps) = votes_of-more me view i batch steps
votes_of-more me view i batch (Step.Return r mark ∷ steps) = votes_of-more me view i batch steps
votes_of-more me view i batch (Step.Crash r ∷ steps) = votes_of-more me view i batch steps
votes_of-more me view i batch (Step.Enter r v ∷ steps) = votes_of-more me view i batch steps
votes_of-more me view i batch (Step.Promise r v ∷ steps) = votes_of-more me view i batch steps
votes_of-more me view i batch (Step.Prepared r v next ∷ steps) = votes_of-more me view i batch steps
votes_of-more me view i batch (Step.Launch r v j b ∷ steps) = ap (λ (xs : List Step). Step.Vote r v j ∷ xs) (votes_of-more me view i batch steps)
votes_of-more me view i batch (Step.Vote r v j ∷ steps) = votes_of-more me view i batch steps
votes_of-more me view i batch (Step.Learn r j ∷ steps) = votes_of-more me view i batch steps
votes_of-more me view i batch (Step.Answer r to v next ∷ steps) = votes_of-more me view i batch steps
votes_of-more me view i batch (Step.Rejoin r v ∷ steps) = votes_of-more me view i batch steps
votes_of-more me view i batch (Step.Install r upto ∷ steps) = votes_of-more me view i batch steps
votes_of-more me view i batch (Step.Execute r j outcomes ∷ steps) = votes_of-more me view i batch steps
votes_of-more me view i batch (Step.Restore r upto ∷ steps) = votes_of-more me view i batch steps
votes_of-more me view i batch (Step.Send number to kind ∷ steps) = votes_of-more me view i batch steps

-- ---- Votes with no launch, and votes beside launches

-- a turn so far shows exactly these votes, and no launch
pub record Casts (v : List Step) (t : Turned) : Type 0 where
  pub votes : shown_where is_vote t.acts ≡ v
  pub launches : shown_where is_launch t.acts ≡ []

-- a turn so far shows exactly these votes, and then those of its launches
pub record Balanced (v : List Step) (t : Turned) : Type 0 where
  pub votes : shown_where is_vote t.acts ≡ v ++ votes_of (shown_where is_launch t.acts)

-- an act that shows neither a vote nor a launch keeps the votes, with no launch
pub quiet-casts : (v : List Step) → Quiet (Casts v)
quiet-casts v =
    record {
      shown = λ step d t e f h. record { votes = failing is_vote step t.acts e ∙ h.votes; launches = failing is_launch step t.acts f ∙ h.launches };
      silent = λ d t h. record { votes = h.votes; launches = h.launches };
      other = λ a t e h. record { votes = silent-act is_vote a t.acts e ∙ h.votes; launches = silent-act is_launch a t.acts e ∙ h.launches };
      same = λ t u same h. record { votes = ap (shown_where is_vote) same.acts ∙ h.votes; launches = ap (shown_where is_launch) same.acts ∙ h.launches };
    }

-- an act that shows neither a vote nor a launch keeps the votes beside the launches
pub quiet-balanced : (v : List Step) → Quiet (Balanced v)
quiet-balanced v =
    record {
      shown = λ step d t e f h. record { votes = failing is_vote step t.acts e ∙ h.votes ∙ ap (λ (ls : List Step). v ++ votes_of ls) (sym (failing is_launch step t.acts f)) };
      silent = λ d t h. record { votes = h.votes };
      other = λ a t e h. record { votes = silent-act is_vote a t.acts e ∙ h.votes ∙ ap (λ (ls : List Step). v ++ votes_of ls) (sym (silent-act is_launch a t.acts e)) };
      same = λ t u same h. record { votes = ap (shown_where is_vote) same.acts ∙ h.votes ∙ ap (λ (xs : List Act). v ++ votes_of (shown_where is_launch xs)) (sym same.acts) };
    }

-- a launch and its vote keep the votes beside the launches
pub launches-balanced : (v : List Step) (i : ℕ) (batch : Batch) (t : Turned) → Balanced v t → Balanced v (launches i batch t)
launches-balanced v i batch t h =
    k-when (Balanced v) quiet (not (is_known t.stage i)) (arms_propose i m) (k-arms_propose (Balanced v) quiet i m) _
    (k-sends_to_all (Balanced v) quiet m _ (k-notes (Balanced v) quiet i view me (Some batch) _ both))
  where
    quiet : Quiet (Balanced v)
    quiet = quiet-balanced v

    view : ℕ
    view = t.stage.life.view

    me : ℕ
    me = t.stage.config.me

    m : Message
    m = propose_of view i batch

    launch : Step
    launch = Step.Launch me view i batch

    vote : Step
    vote = Step.Vote me view i

    ls : List Step
    ls = shown_where is_launch t.acts

    both : Balanced v (t ▹ shows launch (Deed.Launch view i batch) ▹ votes_for view i batch)
    both =
        record {
          votes = shown_where-append is_vote (t.acts ++ Show launch ∷ []) (Show vote ∷ [])
              ∙ ap (λ (xs : List Step). xs ++ vote ∷ []) (failing is_vote launch t.acts refl ∙ h.votes)
              ∙ append_assoc v (votes_of ls) (vote ∷ [])
              ∙ ap (λ (xs : List Step). v ++ xs) (sym (votes_of-more me view i batch ls))
              ∙ ap (λ (xs : List Step). v ++ votes_of xs) (sym (shown_where-append is_launch t.acts (Show launch ∷ [])))
              ∙ ap (λ (xs : List Step). v ++ votes_of xs) (sym (failing is_launch vote (t.acts ++ Show launch ∷ []) refl));
        }

-- ---- What raising the view leaves of the stage

-- what a vote on a proposal looks at
pub record Look : Type 0 where
  pub config : Config
  pub phase : Phase
  pub base : ℕ
  pub view : ℕ

-- what a vote looks at, of a stage
abbrev pub look : Stage → Look
look s = record { config = s.config; phase = s.life.phase; base = s.base; view = s.life.view }

-- the stage is left by sends
pub said-stage : (qs : List ℕ) (m : Message) (t : Turned) → (for_each qs (λ q. says q m) t).stage ≡ t.stage
said-stage [] m t = refl
said-stage (q ∷ qs) m t = said-stage qs m (says q m t)

-- phase 1 begins, and a vote looks at the same
pub begun-look : (t : Turned) → look (begin_phase_1 t).stage ≡ look t.stage
begun-look t =
    ap look (said-stage (others t.stage.config) (prepare_of t.stage (first_undecided t.stage)) (shows (Step.Promise t.stage.config.me t.stage.life.view) (Deed.Open t.stage.life.view (first_undecided t.stage)) t))

-- the view is raised, and nothing else that a vote looks at
pub raised-look : (view : ℕ) (t : Turned) → look (raise_to view t).stage ≡ record (look t.stage) { view = view }
raised-look view t = go (is_view_ss t.stage.config.mode && nat_lt t.stage.stable view) (leads t.stage t.stage.config.me view)
  where
    go : (b d : Bool) → look (t ▹ when b (saves view) ▹ shows (Step.Enter t.stage.config.me view) (Deed.Enter view) ▹ cancels_prepare ▹ cancels_proposes
        ▹ with_stage (λ s. record s { quiet = 0 }) ▹ when d begin_phase_1 ▹ when (not d) drop_waiting).stage ≡ record (look t.stage) { view = view }
    go true true = begun-look _
    go true false = refl
    go false true = begun-look _
    go false false = refl

-- what a vote looks at after the view is raised up to this one
pub raised_up-look : (view : ℕ) (t : Turned) → look (raise_up_to view t).stage ≡ (if works t.stage && nat_lt t.stage.life.view view then record (look t.stage) { view = view } else look t.stage)
raised_up-look view t = go (works t.stage && nat_lt t.stage.life.view view)
  where
    go : (b : Bool) → look (when b (raise_to view) t).stage ≡ (if b then record (look t.stage) { view = view } else look t.stage)
    go true = raised-look view t
    go false = refl

-- ---- The vote on a proposal

-- whether an instance is in span from this base
abbrev spans : ℕ → ℕ → Bool
spans base i = nat_le base i && nat_lt i (min (base + span) number_limit)

-- the vote on a proposal, where what it looks at allows it
abbrev vote_of : Look → Propose → List Step
vote_of k m = if is_working k.phase && (k.view == m.view) && spans k.base m.instance then Step.Vote k.config.me m.view m.instance ∷ [] else []

-- a proposal is voted on where the stage may
pub voted : (m : Propose) (t : Turned) → Casts [] t → Casts (vote_of (look t.stage) m) (votes_if m t)
voted m t h = go (works t.stage && (t.stage.life.view == m.view) && spans t.stage.base m.instance)
  where
    vote : Step
    vote = Step.Vote t.stage.config.me m.view m.instance

    one : Casts (vote ∷ []) (votes_for m.view m.instance m.batch t)
    one =
        record {
          votes = shown_where-append is_vote t.acts (Show vote ∷ []) ∙ ap (λ (xs : List Step). xs ++ vote ∷ []) h.votes;
          launches = failing is_launch vote t.acts refl ∙ h.launches;
        }

    go : (b : Bool) → Casts (if b then vote ∷ [] else []) (when b (votes_on m) t)
    go true =
        k-sends_to_all (Casts (vote ∷ [])) (quiet-casts (vote ∷ [])) (accept_of m.view m.instance) _
        (k-notes (Casts (vote ∷ [])) (quiet-casts (vote ∷ [])) m.instance m.view t.stage.config.me None _ one)
    go false = h

-- the tests before raising the view, and after it
pub tests : (w lt eq le sp lead : Bool) (xs : List Step) → lead ≡ true → (lt ≡ true → le ≡ true) → (lt ≡ false → eq ≡ le)
    → (if w && (if w && lt then true else eq) && sp then xs else []) ≡ (if w && lead && le && sp then xs else [])
tests false lt eq le sp lead xs a b c = refl
tests true lt eq le sp false xs a b c = absurd cc
tests true true eq true sp true xs a b c = refl
tests true true eq false sp true xs a b c = let x = b refl in absurd cc
tests true false eq le sp true xs a b c = ap (λ (x : Bool). if x && sp then xs else []) (c refl)

-- a lower view is at most the other
pub less-le : (a b : ℕ) → nat_lt a b ≡ true → nat_le a b ≡ true
less-le a b e = grind (arith, nat_tests)

-- a view that is not lower is equal where it is at most the other
pub not_less-same : (a b : ℕ) → nat_lt a b ≡ false → (a == b) ≡ nat_le a b
not_less-same a b e = go (a == b) (nat_le a b) refl refl
  where
    go : (x y : Bool) → (a == b) ≡ x → nat_le a b ≡ y → x ≡ y
    go true true p q = refl
    go false false p q = refl
    go true false p q = absurd (grind (arith, nat_tests))
    go false true p q = absurd (grind (arith, nat_tests))

-- a number is itself
pub same-number : (a : ℕ) → (a == a) ≡ true
same-number a = grind (arith, nat_tests)

-- the vote after raising the view is the vote that the stage before it asks for, of the leader of the proposal's view
pub vote-after : (k : Look) (m : Propose) (lead : Bool) → lead ≡ true → vote_of (if is_working k.phase && nat_lt k.view m.view then record k { view = m.view } else k) m
    ≡ (if is_working k.phase && lead && nat_le k.view m.view && spans k.base m.instance then Step.Vote k.config.me m.view m.instance ∷ [] else [])
vote-after k m lead e =
    go (is_working k.phase && nat_lt k.view m.view)
    ∙ tests (is_working k.phase) (nat_lt k.view m.view) (k.view == m.view) (nat_le k.view m.view) (spans k.base m.instance) lead (Step.Vote k.config.me m.view m.instance ∷ []) e
    (less-le k.view m.view) (not_less-same k.view m.view)
  where
    go : (b : Bool) → vote_of (if b then record k { view = m.view } else k) m
        ≡ (if is_working k.phase && (if b then true else k.view == m.view) && spans k.base m.instance then Step.Vote k.config.me m.view m.instance ∷ [] else [])
    go true = ap (λ (x : Bool). if is_working k.phase && x && spans k.base m.instance then Step.Vote k.config.me m.view m.instance ∷ [] else []) (same-number m.view)
    go false = refl

-- who does not lead a proposal's view gets no vote
pub no-vote : (w lead le sp : Bool) (xs : List Step) → lead ≡ false → [] ≡ (if w && lead && le && sp then xs else [])
no-vote false lead le sp xs e = refl
no-vote true false le sp xs e = refl
no-vote true true le sp xs e = absurd cc

-- on a Propose the stage casts its vote on the proposal, and no other
pub casts-propose : (from : LifeId) (m : Propose) (t : Turned) → Casts [] t → Casts (proposal_vote t.stage (Came from (Message.Propose m))) (on_propose from.replica m t)
casts-propose from m t h = go (leads t.stage from.replica m.view) refl
  where
    wanted : List Step
    wanted = proposal_vote t.stage (Came from (Message.Propose m))

    noted : Turned
    noted = t ▹ horizon_to (suc m.instance) ▹ raise_up_to m.view ▹ notes m.instance m.view from.replica (Some m.batch)

    none : Casts [] noted
    none =
        k-notes (Casts []) (quiet-casts []) m.instance m.view from.replica (Some m.batch) _
        (k-raise_up_to (Casts []) (quiet-casts []) m.view _ (k-horizon_to (Casts []) (quiet-casts []) (suc m.instance) t h))

    is : leads t.stage from.replica m.view ≡ true → vote_of (look noted.stage) m ≡ wanted
    is e = ap (λ (k : Look). vote_of k m) (raised_up-look m.view (horizon_to (suc m.instance) t)) ∙ vote-after (look t.stage) m (leads t.stage from.replica m.view) e

    go : (b : Bool) → leads t.stage from.replica m.view ≡ b → Casts wanted (when b (λ t.
        t ▹ horizon_to (suc m.instance) ▹ raise_up_to m.view ▹ notes m.instance m.view from.replica (Some m.batch) ▹ votes_if m ▹ learn_check m.instance) t)
    go true e = k-learn_check (Casts wanted) (quiet-casts wanted) m.instance _ (subst (λ (v : List Step). Casts v (votes_if m noted)) (is e) (voted m noted none))
    go false e =
        subst (λ (v : List Step). Casts v t)
        (no-vote (works t.stage) (leads t.stage from.replica m.view) (nat_le t.stage.life.view m.view) (spans t.stage.base m.instance) (Step.Vote t.stage.config.me m.view m.instance ∷ []) e) h

-- ---- Items, and the turn

-- the stage that took a message has voted on nothing yet
pub took : (s : Stage) (from : LifeId) (m : Message) (b : Bool) → Casts [] (untouched s ▹ does (Deed.Take from m) ▹ when b (with_stage (λ s. record s { quiet = 0 })))
took s from m true = record { votes = refl; launches = refl }
took s from m false = record { votes = refl; launches = refl }

-- a message makes the stage cast its vote on a proposal, and no other
pub casts-message : (s : Stage) (from : LifeId) (m : Message) → Casts (proposal_vote s (Came from m)) (on_message from m (untouched s))
casts-message s from (Message.Propose m) = go (leads s from.replica s.life.view)
  where
    go : (b : Bool) → Casts (proposal_vote s (Came from (Message.Propose m)))
        (on_propose from.replica m (untouched s ▹ does (Deed.Take from (Message.Propose m)) ▹ when b (with_stage (λ s. record s { quiet = 0 }))))
    go true = casts-propose from m _ (took s from (Message.Propose m) true)
    go false = casts-propose from m _ (took s from (Message.Propose m) false)
casts-message s from (Message.Prepare m) = k-on_prepare (Casts []) (quiet-casts []) from.replica m _ (took s from (Message.Prepare m) _)
casts-message s from (Message.PrepareOk m) = k-on_prepare_ok (Casts []) (quiet-casts []) m _ (took s from (Message.PrepareOk m) _)
casts-message s from (Message.Accept m) = k-on_accept (Casts []) (quiet-casts []) from.replica m.view m.instance _ (took s from (Message.Accept m) _)
casts-message s from (Message.Recovery m) = k-on_recovery (Casts []) (quiet-casts []) from.replica m.mark _ (took s from (Message.Recovery m) _)
casts-message s from (Message.RecoveryAnswer m) = k-on_recovery_answer (Casts []) (quiet-casts []) m _ (took s from (Message.RecoveryAnswer m) _)
casts-message s from (Message.CatchUpQuery m) = k-on_query (Casts []) (quiet-casts []) from.replica m.first _ (took s from (Message.CatchUpQuery m) _)
casts-message s from (Message.CatchUpReply m) = k-on_batches (Casts []) (quiet-casts []) m.first m.batches _ (took s from (Message.CatchUpReply m) _)
casts-message s from (Message.SnapshotPart m) = k-on_part (Casts []) (quiet-casts []) m _ (took s from (Message.SnapshotPart m) _)
casts-message s from (Message.Alive m) = k-on_alive (Casts []) (quiet-casts []) from.replica m _ (took s from (Message.Alive m) _)

-- an item makes the stage cast its vote on a proposal, and no other, with no launch
pub casts-item : (s : Stage) (item : Item) → Casts (proposal_vote s item) (untouched s ▹ on_item item)
casts-item s (Came from m) = casts-message s from m
casts-item s (Closed batch) = go (works s && is_leading s.life.leading && nat_lt (length s.waiting) waiting_limit)
  where
    go : (b : Bool) → Casts [] (when b (with_stage (λ s. record s { waiting = s.waiting ++ batch ∷ [] })) (untouched s))
    go true = record { votes = refl; launches = refl }
    go false = record { votes = refl; launches = refl }
casts-item s Tick =
    k-query_where_due (Casts []) (quiet-casts []) _
    (k-when (Casts []) (quiet-casts []) (works s) on_tick_working (k-on_tick_working (Casts []) (quiet-casts [])) (untouched s) (record { votes = refl; launches = refl }))
casts-item s Suspect = k-suspect (Casts []) (quiet-casts []) (untouched s) (record { votes = refl; launches = refl })
casts-item s (Snapped upto bytes) = k-on_snapshot (Casts []) (quiet-casts []) upto bytes (untouched s) (record { votes = refl; launches = refl })

-- votes with no launch are balanced
pub casts-balanced : (v : List Step) (t : Turned) → Casts v t → Balanced v t
casts-balanced v t h = record { votes = h.votes ∙ sym (append-nil v) ∙ ap (λ (ls : List Step). v ++ votes_of ls) (sym h.launches) }

-- a turn votes exactly on a proposal that it may vote on, and with each launch
pub votes_exactly : VotesExactly
unfolding turn
votes_exactly s item room =
    let v = proposal_vote s item in
    (settles-keeps (Balanced v) (quiet-balanced v) (launches-balanced v) room _ (casts-balanced v _ (casts-item s item))).votes

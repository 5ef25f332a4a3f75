-- What an item makes a turn learn: by a tally, or by known batches that came.
use Rattle.std.proofs.Common.{◌≡◌, ℕ, suc, ◌+◌, min, ◌≤◌, le_refl, Bool, true, false, ◌&&◌, not, List, [], ◌∷◌, ◌++◌, nat_le, nat_lt, length, ◌==◌, Option, Some, None, if◌then◌else◌, refl, sym, ap, ◌∙◌, append-nil, append_assoc, arith}
use Rattle.jp_types.specs.declared.message.Message.{Message}
use Rattle.jp_types.specs.declared.message.Propose.{Propose}
use Rattle.jp_types.specs.Instances.{Batch, span}
use Rattle.jp_types.specs.Views.{number_limit}
use Rattle.paxos_world.specs.declared.step.Step.{Step}
use Rattle.paxos_world.specs.Life.{LifeId}
use Rattle.paxos_world.specs.World.{Deed}
use Rattle.paxos_world.specs.Stage.{Config, Note, Stage, Item, Came, Closed, Tick, Suspect, Snapped, Show, Turned}
use Rattle.paxos_world.specs.Writing.{◌▹◌, when, when_some, with_stage, does, shows, saves, others}
use Rattle.paxos_world.specs.Logs.{first_undecided, is_known, is_in_span, tallied}
use Rattle.paxos_world.specs.Retransmitting.{cancels_prepare, cancels_proposes, cancels_query}
use Rattle.paxos_world.specs.Leading.{is_working, is_leading, works, leads, is_view_ss, prepare_of, begin_phase_1, drop_waiting, raise_to, raise_up_to}
use Rattle.paxos_world.specs.Learning.{horizon_to, notes, learns, learn_check, votes_for, accept_of}
use Rattle.paxos_world.specs.CatchingUp.{on_query, on_part, learns_each, on_batches, place_of}
use Rattle.paxos_world.specs.Messages.{on_prepare, on_prepare_ok, votes_on, votes_if, on_propose, on_accept, on_recovery, on_recovery_answer, on_alive, on_message}
use Rattle.paxos_world.specs.Turn.{waiting_limit, on_item, untouched}
use Rattle.paxos_world.proofs.Basics.{with_at-other}
use Rattle.step_laws.specs.Kinds.{shown_where, is_learn}
use Rattle.step_laws.specs.Learned.{with_acceptance, with_proposal, learned_if, learned_from, learned_by}
use Rattle.step_laws.specs.Views.{may_vote}
use Rattle.step_laws.proofs.Viewing.{shown_where-append, quiet-show, quiet-when, quiet-sends_to_all}
use Rattle.step_laws.proofs.Launching.{each-leaves}
use Rattle.step_laws.proofs.Voting.{Look, look, said-stage, raised_up-look, vote-after}
use Rattle.step_laws.proofs.LearningWords.{Learnless, learnless-raise_up, learnless-suspect, learnless-prepare, learnless-prepare_ok, learnless-recovery, learnless-recovery_answer, learnless-alive, learnless-tick, learnless-query, learnless-part}

-- ---- One instance

-- learning shows itself
pub learns-adds : (i : ℕ) (batch : Batch) (t : Turned) → shown_where is_learn (learns i batch t).acts ≡ shown_where is_learn t.acts ++ Step.Learn t.stage.config.me i ∷ []
learns-adds i batch t = shown_where-append is_learn t.acts (Show (Step.Learn t.stage.config.me i) ∷ [])

-- learning with a batch, if there is one, shows itself where there is
pub learns_if-adds : (i : ℕ) (o : Option Batch) (t : Turned) → shown_where is_learn (when_some o (learns i) t).acts ≡ shown_where is_learn t.acts ++ learned_if t.stage.config.me i o
learns_if-adds i None t = sym (append-nil (shown_where is_learn t.acts))
learns_if-adds i (Some batch) t = learns-adds i batch t

-- ---- Known batches

-- two stages with the same constants, the same base, and the same that is known from an instance on
pub record Ahead (i : ℕ) (s u : Stage) : Type 0 where
  pub config : u.config ≡ s.config
  pub base : u.base ≡ s.base
  pub known : (j : ℕ) → i ≤ j → u.life.known j ≡ s.life.known j

-- whether the instance is known is the same
pub ahead-known : (i : ℕ) (s u : Stage) → Ahead i s u → is_known u i ≡ is_known s i
ahead-known i s u h =
    let b = h.base in
    let k = h.known i (le_refl i) in
    cc

-- whether it is in span is the same
pub ahead-span : (i : ℕ) (s u : Stage) → Ahead i s u → is_in_span u i ≡ is_in_span s i
ahead-span i s u h = let b = h.base in cc

-- one instance further they are as before
pub ahead-next : (i : ℕ) (s u : Stage) → Ahead i s u → Ahead (suc i) s u
ahead-next i s u h = record { config = h.config; base = h.base; known = λ j le. h.known j (omega arith) }

-- learning an instance leaves what is known of those behind it
pub ahead-learns : (i : ℕ) (batch : Batch) (s : Stage) (t : Turned) → Ahead i s t.stage → Ahead (suc i) s (learns i batch t).stage
ahead-learns i batch s t h =
    record {
      config = h.config;
      base = h.base;
      known = λ j le. with_at-other t.stage.life.known i (Some batch) j (λ e. absurd (omega arith)) ∙ h.known j (omega arith);
    }

-- each of some batches is learned that is in span and not known
pub each-adds : (s : Stage) (i : ℕ) (batches : List Batch) (t : Turned) → Ahead i s t.stage
    → shown_where is_learn (learns_each i batches t).acts ≡ shown_where is_learn t.acts ++ learned_from s i batches
each-adds s i [] t h = sym (append-nil (shown_where is_learn t.acts))
each-adds s i (batch ∷ batches) t h =
    let span = ahead-span i s t.stage h in
    let known = ahead-known i s t.stage h in
    let test : (is_in_span t.stage i && not (is_known t.stage i)) ≡ (is_in_span s i && not (is_known s i)) = cc in
    ap (λ (b : Bool). shown_where is_learn (learns_each (suc i) batches (when b (learns i batch) t)).acts) test ∙ go (each-adds s (suc i) batches) (is_in_span s i && not (is_known s i))
  where
    rest : List Step
    rest = learned_from s (suc i) batches

    go : ((u : Turned) → Ahead (suc i) s u.stage → shown_where is_learn (learns_each (suc i) batches u).acts ≡ shown_where is_learn u.acts ++ rest) → (b : Bool)
        → shown_where is_learn (learns_each (suc i) batches (when b (learns i batch) t)).acts ≡ shown_where is_learn t.acts ++ (if b then Step.Learn s.config.me i ∷ rest else rest)
    go on true =
        on (learns i batch t) (ahead-learns i batch s t h)
        ∙ ap (λ (xs : List Step). xs ++ rest) (learns-adds i batch t)
        ∙ append_assoc (shown_where is_learn t.acts) (Step.Learn t.stage.config.me i ∷ []) rest
        ∙ ap (λ (c : Config). shown_where is_learn t.acts ++ Step.Learn c.me i ∷ rest) h.config
    go on false = on t (ahead-next i s t.stage h)

-- ---- Tallies

-- what a tally looks at
pub record Seen : Type 0 where
  pub config : Config
  pub base : ℕ
  pub known : ℕ → Option Batch
  pub noted : List Note

-- what a tally looks at, of a stage
abbrev pub see : Stage → Seen
see s = record { config = s.config; base = s.base; known = s.life.known; noted = s.noted }

-- the stage with all that a tally looks at from elsewhere
abbrev pub seeing : Stage → Seen → Stage
seeing s k = record s { config = k.config; base = k.base; life = record s.life { known = k.known }; noted = k.noted }

-- the tally of an instance has the same batch
pub same-tallied : (i : ℕ) (s u : Stage) → see u ≡ see s → tallied u i ≡ tallied s i
same-tallied i s u e = ap (λ (k : Seen). tallied (seeing s k) i) e

-- phase 1 begins, and a tally looks at the same
pub begun-sees : (t : Turned) → see (begin_phase_1 t).stage ≡ see t.stage
begun-sees t =
    let s = t.stage in
    let first = first_undecided s in
    ap see (said-stage (others s.config) (prepare_of s first) (shows (Step.Promise s.config.me s.life.view) (Deed.Open s.life.view first) t))

-- the view is raised, and a tally looks at the same
pub raised-sees : (view : ℕ) (t : Turned) → see (raise_to view t).stage ≡ see t.stage
raised-sees view t = go (is_view_ss t.stage.config.mode && nat_lt t.stage.stable view) (leads t.stage t.stage.config.me view)
  where
    go : (b d : Bool) → see (t ▹ when b (saves view) ▹ shows (Step.Enter t.stage.config.me view) (Deed.Enter view) ▹ cancels_prepare ▹ cancels_proposes
        ▹ with_stage (λ s. record s { quiet = 0 }) ▹ when d begin_phase_1 ▹ when (not d) drop_waiting).stage ≡ see t.stage
    go true true = begun-sees _
    go true false = refl
    go false true = begun-sees _
    go false false = refl

-- the same where it is raised up to this one
pub raised_up-sees : (view : ℕ) (t : Turned) → see (raise_up_to view t).stage ≡ see t.stage
raised_up-sees view t = go (works t.stage && nat_lt t.stage.life.view view)
  where
    go : (b : Bool) → see (when b (raise_to view) t).stage ≡ see t.stage
    go true = raised-sees view t
    go false = refl

-- ---- A proposal

-- the stage with the acceptance of a proposal of p noted, and the own one where it votes
abbrev pub with_votes : Bool → Stage → ℕ → Propose → Stage
with_votes b s p m =
    let proposed = with_acceptance s m.instance m.view p (Some m.batch) in
    if b then with_acceptance proposed m.instance m.view s.config.me None else proposed

-- a tally then looks at the same where it did before
pub votes-see : (b : Bool) (s u : Stage) (p : ℕ) (m : Propose) → see u ≡ see s → see (with_votes b u p m) ≡ see (with_votes b s p m)
votes-see true s u p m e = ap (λ (k : Seen). see (with_votes true (seeing s k) p m)) e
votes-see false s u p m e = ap (λ (k : Seen). see (with_votes false (seeing s k) p m)) e

-- the constants are as they were
pub votes-config : (b : Bool) (s : Stage) (p : ℕ) (m : Propose) → (with_votes b s p m).config ≡ s.config
votes-config true s p m = refl
votes-config false s p m = refl

-- the stage that voted, where it does, notes so
pub voted-sees : (b : Bool) (p : ℕ) (m : Propose) (t : Turned) → see (t ▹ notes m.instance m.view p (Some m.batch) ▹ when b (votes_on m)).stage ≡ see (with_votes b t.stage p m)
voted-sees true p m t =
    let a = t ▹ notes m.instance m.view p (Some m.batch) in
    let c = a ▹ votes_for m.view m.instance m.batch ▹ notes m.instance m.view t.stage.config.me None in
    ap see (each-leaves (others t.stage.config) (accept_of m.view m.instance) c)
voted-sees false p m t = refl

-- a vote on a proposal is no learning
pub learnless-votes_if : (m : Propose) → Learnless (votes_if m)
learnless-votes_if m t =
    quiet-when is_learn (works t.stage && (t.stage.life.view == m.view) && is_in_span t.stage m.instance) (votes_on m) one t
  where
    one : Learnless (votes_on m)
    one u =
        let c = u ▹ votes_for m.view m.instance m.batch ▹ notes m.instance m.view u.stage.config.me None in
        quiet-sends_to_all is_learn (accept_of m.view m.instance) c ∙ quiet-show is_learn (Step.Vote u.stage.config.me m.view m.instance) u.acts refl

-- two tests are the same where one step stands by the one exactly where one does by the other
pub same-tests : (b d : Bool) (x y : Step) → (if b then x ∷ [] else []) ≡ (if d then y ∷ [] else []) → b ≡ d
same-tests true true x y e = refl
same-tests false false x y e = refl
same-tests true false x y e = absurd cc
same-tests false true x y e = absurd cc

-- the vote of a stage on a proposal, by what the vote looks at
abbrev votes_by : Look → Propose → List Step
votes_by k m =
    if is_working k.phase && (k.view == m.view) && (nat_le k.base m.instance && nat_lt m.instance (min (k.base + span) number_limit)) then Step.Vote k.config.me m.view m.instance ∷ []
    else []

-- after its view is raised up to the proposal's, the stage votes where it may before
pub may-after : (p : ℕ) (m : Propose) (t : Turned) → leads t.stage p m.view ≡ true →
    let u = (t ▹ horizon_to (suc m.instance) ▹ raise_up_to m.view).stage in
    (works u && (u.life.view == m.view) && is_in_span u m.instance) ≡ may_vote t.stage p m
may-after p m t e =
    let a = t ▹ horizon_to (suc m.instance) in
    let u = (a ▹ raise_up_to m.view).stage in
    same-tests (works u && (u.life.view == m.view) && is_in_span u m.instance) (may_vote t.stage p m) (Step.Vote u.config.me m.view m.instance) (Step.Vote t.stage.config.me m.view m.instance)
    (ap (λ (k : Look). votes_by k m) (raised_up-look m.view a) ∙ vote-after (look t.stage) m (leads t.stage p m.view) e)

-- what a proposal makes the stage learn
pub propose-adds : (from : LifeId) (m : Propose) (t : Turned)
    → shown_where is_learn (on_propose from.replica m t).acts ≡ shown_where is_learn t.acts ++ learned_by t.stage (Came from (Message.Propose m))
propose-adds from m t = go (leads t.stage from.replica m.view) refl
  where
    i : ℕ
    i = m.instance

    p : ℕ
    p = from.replica

    s : Stage
    s = t.stage

    u : Turned
    u = t ▹ horizon_to (suc i) ▹ raise_up_to m.view

    v : Turned
    v = u ▹ notes i m.view p (Some m.batch)

    w : Turned
    w = v ▹ votes_if m

    sees : leads s p m.view ≡ true → see w.stage ≡ see (with_proposal s p m)
    sees e =
        ap (λ (b : Bool). see (v ▹ when b (votes_on m)).stage) (may-after p m t e)
        ∙ voted-sees (may_vote s p m) p m u
        ∙ votes-see (may_vote s p m) s u.stage p m (raised_up-sees m.view (t ▹ horizon_to (suc i)))

    shown : shown_where is_learn w.acts ≡ shown_where is_learn t.acts
    shown = learnless-votes_if m v ∙ learnless-raise_up m.view (t ▹ horizon_to (suc i))

    go : (b : Bool) → leads s p m.view ≡ b → shown_where is_learn (when b (λ t.
        t ▹ horizon_to (suc i) ▹ raise_up_to m.view ▹ notes i m.view p (Some m.batch) ▹ votes_if m ▹ learn_check i) t).acts
        ≡ shown_where is_learn t.acts ++ (if b then learned_if s.config.me i (tallied (with_proposal s p m) i) else [])
    go true e =
        let config = ap (λ (k : Seen). k.config) (sees e) ∙ votes-config (may_vote s p m) s p m in
        learns_if-adds i (tallied w.stage i) w
        ∙ ap (λ (xs : List Step). xs ++ learned_if w.stage.config.me i (tallied w.stage i)) shown
        ∙ ap (λ (c : Config). shown_where is_learn t.acts ++ learned_if c.me i (tallied w.stage i)) config
        ∙ ap (λ (o : Option Batch). shown_where is_learn t.acts ++ learned_if s.config.me i o) (same-tallied i (with_proposal s p m) w.stage (sees e))
    go false e = sym (append-nil (shown_where is_learn t.acts))

-- ---- Items

-- the stage as a message was taken
abbrev pub taking : Stage → LifeId → Message → Bool → Turned
taking s from m b = untouched s ▹ does (Deed.Take from m) ▹ when b (with_stage (λ s. record s { quiet = 0 }))

-- it has learned nothing yet
pub taking-none : (s : Stage) (from : LifeId) (m : Message) (b : Bool) → shown_where is_learn (taking s from m b).acts ≡ []
taking-none s from m true = refl
taking-none s from m false = refl

-- nor has it after a word that shows no learning
pub taken-none : (s : Stage) (from : LifeId) (m : Message) (f : Turned → Turned) → Learnless f → shown_where is_learn (f (taking s from m (leads s from.replica s.life.view))).acts ≡ []
taken-none s from m f none = none (taking s from m (leads s from.replica s.life.view)) ∙ taking-none s from m (leads s from.replica s.life.view)

-- of a proposal it learns what the stage before does
pub taking-same : (s : Stage) (from : LifeId) (m : Propose) (b : Bool) →
    let item = Came from (Message.Propose m) in
    learned_by (taking s from (Message.Propose m) b).stage item ≡ learned_by s item
taking-same s from m b = go b
  where
    p : ℕ
    p = from.replica

    votes : (b d : Bool) → see (with_votes d (taking s from (Message.Propose m) b).stage p m) ≡ see (with_votes d s p m)
    votes true true = refl
    votes true false = refl
    votes false true = refl
    votes false false = refl

    learned : Option Batch → List Step
    learned o = if leads s p m.view then learned_if s.config.me m.instance o else []

    go : (b : Bool) →
        let item = Came from (Message.Propose m) in
        learned_by (taking s from (Message.Propose m) b).stage item ≡ learned_by s item
    go true = ap learned (same-tallied m.instance (with_proposal s p m) (with_proposal (taking s from (Message.Propose m) true).stage p m) (votes true (may_vote s p m)))
    go false = ap learned (same-tallied m.instance (with_proposal s p m) (with_proposal (taking s from (Message.Propose m) false).stage p m) (votes false (may_vote s p m)))

-- what a message makes the stage learn
pub learned-message : (s : Stage) (from : LifeId) (m : Message) → shown_where is_learn (on_message from m (untouched s)).acts ≡ learned_by s (Came from m)
learned-message s from (Message.Propose m) =
    let b = leads s from.replica s.life.view in
    let t = taking s from (Message.Propose m) b in
    propose-adds from m t ∙ ap (λ (xs : List Step). xs ++ learned_by t.stage (Came from (Message.Propose m))) (taking-none s from (Message.Propose m) b) ∙ taking-same s from m b
learned-message s from (Message.Accept m) = go (leads s from.replica s.life.view)
  where
    noted : Bool → Turned
    noted b = taking s from (Message.Accept m) b ▹ horizon_to (suc m.instance) ▹ notes m.instance m.view from.replica None

    full : Option Batch
    full = tallied (with_acceptance s m.instance m.view from.replica None) m.instance

    go : (b : Bool) → shown_where is_learn (on_accept from.replica m.view m.instance (taking s from (Message.Accept m) b)).acts ≡ learned_by s (Came from (Message.Accept m))
    go true = learns_if-adds m.instance full (noted true)
    go false = learns_if-adds m.instance full (noted false)
learned-message s from (Message.CatchUpReply m) = go (leads s from.replica s.life.view)
  where
    taken : Bool → Turned
    taken b = taking s from (Message.CatchUpReply m) b ▹ cancels_query

    go : (b : Bool) → shown_where is_learn (on_batches m.first m.batches (taking s from (Message.CatchUpReply m) b)).acts ≡ learned_from s m.first m.batches
    go true = each-adds s m.first m.batches (taken true) (record { config = refl; base = refl; known = λ j le. refl })
    go false = each-adds s m.first m.batches (taken false) (record { config = refl; base = refl; known = λ j le. refl })
learned-message s from (Message.Prepare m) = taken-none s from (Message.Prepare m) (on_prepare from.replica m) (learnless-prepare from.replica m)
learned-message s from (Message.PrepareOk m) = taken-none s from (Message.PrepareOk m) (on_prepare_ok m) (learnless-prepare_ok m)
learned-message s from (Message.Recovery m) = taken-none s from (Message.Recovery m) (on_recovery from.replica m.mark) (learnless-recovery from.replica m.mark)
learned-message s from (Message.RecoveryAnswer m) = taken-none s from (Message.RecoveryAnswer m) (on_recovery_answer m) (learnless-recovery_answer m)
learned-message s from (Message.CatchUpQuery m) = taken-none s from (Message.CatchUpQuery m) (on_query from.replica m.first) (learnless-query from.replica m.first)
learned-message s from (Message.SnapshotPart m) = taken-none s from (Message.SnapshotPart m) (on_part m) (learnless-part m)
learned-message s from (Message.Alive m) = taken-none s from (Message.Alive m) (on_alive from.replica m) (learnless-alive from.replica m)

-- what an item makes the stage learn
pub learned-item : (s : Stage) (item : Item) → shown_where is_learn (untouched s ▹ on_item item).acts ≡ learned_by s item
learned-item s (Came from m) = learned-message s from m
learned-item s (Closed batch) =
    quiet-when is_learn (works s && is_leading s.life.leading && nat_lt (length s.waiting) waiting_limit) (with_stage (λ s. record s { waiting = s.waiting ++ batch ∷ [] })) (λ u. refl) (untouched s)
learned-item s Tick = learnless-tick (untouched s)
learned-item s Suspect = learnless-suspect (untouched s)
learned-item s (Snapped upto bytes) =
    quiet-when is_learn (nat_lt (place_of s.newest) upto && nat_le upto (first_undecided s))
    (with_stage (λ s. record s { base = place_of s.newest; newest = Some (record { place = upto; bytes = bytes; installed = false }) })) (λ u. refl) (untouched s)

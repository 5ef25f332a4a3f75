-- Which steps of entering, promising and answering each item makes a turn show.
use Rattle.std.proofs.Common.{◌≡◌, ℕ, suc, Bool, true, false, ◌&&◌, not, List, [], ◌∷◌, ◌++◌, nat_le, nat_lt, ◌==◌, Option, Some, None, is_some, if◌then◌else◌, refl, sym, ap, ◌∙◌, append_assoc, arith, append-nil}
use Rattle.std.proofs.lemmas.Bool.Decides.{nat_tests}
use Rattle.std.specs.Option.{unwrap_or}
use Rattle.jp_types.specs.declared.message.Message.{Message}
use Rattle.jp_types.specs.declared.message.Prepare.{Prepare}
use Rattle.jp_types.specs.declared.message.Propose.{Propose}
use Rattle.jp_types.specs.declared.message.Alive.{Alive}
use Rattle.jp_types.specs.Views.{next_led, number_if}
use Rattle.paxos_world.specs.declared.step.Step.{Step}
use Rattle.paxos_world.specs.Life.{next_of}
use Rattle.paxos_world.specs.World.{Deed}
use Rattle.paxos_world.specs.Stage.{Config, Show, Send, Turned}
use Rattle.paxos_world.specs.Writing.{◌▹◌, when, with_stage, shows, says_to_all}
use Rattle.paxos_world.specs.Logs.{report_from}
use Rattle.paxos_world.specs.Leading.{works, leads, leads_own, is_view_ss, raise_to, raise_up_to, suspect}
use Rattle.paxos_world.specs.Learning.{horizon_to, notes, learn_check}
use Rattle.paxos_world.specs.Messages.{promises, promises_if, on_prepare, votes_if, on_propose, vector_of, answers, on_recovery, on_alive}
use Rattle.paxos_world.specs.Turn.{alive_of, counts_quiet, on_tick, on_tick_working, quiet_limit}
use Rattle.step_laws.specs.Kinds.{shown_where}
use Rattle.step_laws.proofs.Viewing.{picks, shown_where-append, quiet-act, quiet-says_to_all, Narrow, quiet-votes_if, quiet-learn_check, quiet-query_where_due}
use Rattle.step_laws.proofs.Raising.{entering, entering_of, picks-append, raised, raised-stage, raise-working, raised-up, suspected}

-- ---- Promises and answers

-- a promise to who asks shows the Promise
pub promise-shows : (P : Step → Bool) (p : ℕ) (m : Prepare) (t : Turned) → shown_where P (promises p m t).acts ≡ shown_where P t.acts ++ picks P (Step.Promise t.stage.config.me m.view ∷ [])
promise-shows P p m t =
    let step : Step = Step.Promise t.stage.config.me m.view in
    quiet-act P (Send p (Message.PrepareOk (record { view = m.view; mark = m.mark; vector = vector_of t.stage; low = t.stage.base; report = report_from t.stage m.first }))) (t.acts ++ Show step ∷ []) refl
    ∙ shown_where-append P t.acts (Show step ∷ [])

-- the same, where the own view is the asked one
pub promise-if-same : (P : Step → Bool) (p : ℕ) (m : Prepare) (t : Turned) → (t.stage.life.view == m.view) ≡ true
    → shown_where P (promises_if p m t).acts ≡ shown_where P t.acts ++ picks P (Step.Promise t.stage.config.me m.view ∷ [])
promise-if-same P p m t e = ap (λ (b : Bool). shown_where P (when b (promises p m) t).acts) e ∙ promise-shows P p m t

-- nothing is promised where the own view is another
pub promise-if-other : (P : Step → Bool) (p : ℕ) (m : Prepare) (t : Turned) → (t.stage.life.view == m.view) ≡ false → shown_where P (promises_if p m t).acts ≡ shown_where P t.acts
promise-if-other P p m t e = ap (λ (b : Bool). shown_where P (when b (promises p m) t).acts) e

-- an answer shows the Answer with the own view and `next`
pub answer-shows : (P : Step → Bool) (p mark : ℕ) (t : Turned) → shown_where P (answers p mark t).acts
    ≡ shown_where P t.acts ++ picks P (Step.Answer t.stage.config.me p t.stage.life.view (next_of t.stage.life.leading) ∷ [])
answer-shows P p mark t =
    let s = t.stage in
    let next = next_of s.life.leading in
    let step : Step = Step.Answer s.config.me p s.life.view next in
    let u : Turned = shows step (Deed.Answer p s.life.view next mark) t in
    quiet-act P (Send p (Message.RecoveryAnswer (record { mark = mark; view = s.life.view; vector = vector_of u.stage; next = next }))) u.acts refl
    ∙ shown_where-append P t.acts (Show step ∷ [])

-- a number equals itself by its test
pub same-test : (a b : ℕ) → a ≡ b → (a == b) ≡ true
same-test a b e = grind (arith, nat_tests)

-- the picks of two lists behind a list are those of both together
pub picks-more : (P : Step → Bool) (xs : List Step) (xs1 bs : List Step) → (xs ++ picks P xs1) ++ picks P bs ≡ xs ++ picks P (xs1 ++ bs)
picks-more P xs xs1 bs = append_assoc xs (picks P xs1) (picks P bs) ∙ ap (λ (zs : List Step). xs ++ zs) (sym (picks-append P xs1 bs))

-- what a Prepare shows
pub prepare-shows : (P : Step → Bool) (p : ℕ) (m : Prepare) (t : Turned) → shown_where P (on_prepare p m t).acts
    ≡ shown_where P t.acts
    ++ picks P
    (entering_of t.stage.config.n t.stage.config.me (if works t.stage then number_if (leads t.stage p m.view && nat_lt t.stage.life.view m.view) m.view else None)
    ++ (if works t.stage && leads t.stage p m.view && nat_le t.stage.life.view m.view then Step.Promise t.stage.config.me m.view ∷ [] else []))
prepare-shows P p m t = go (works t.stage) (leads t.stage p m.view) refl
  where
    inner : (lt le : Bool) → nat_lt t.stage.life.view m.view ≡ lt → nat_le t.stage.life.view m.view ≡ le → shown_where P (promises_if p m (when lt (raise_to m.view) t)).acts
        ≡ shown_where P t.acts ++ picks P (entering_of t.stage.config.n t.stage.config.me (number_if lt m.view) ++ (if le then Step.Promise t.stage.config.me m.view ∷ [] else []))
    inner true true e f =
        let k = raised-stage m.view t in
        promise-if-same P p m (raise_to m.view t) (same-test (raise_to m.view t).stage.life.view m.view k.1)
        ∙ ap (λ (c : Config). shown_where P (raise_to m.view t).acts ++ picks P (Step.Promise c.me m.view ∷ [])) k.0
        ∙ ap (λ (zs : List Step). zs ++ picks P (Step.Promise t.stage.config.me m.view ∷ [])) (raised P m.view t)
        ∙ picks-more P (shown_where P t.acts) (entering t.stage.config.n t.stage.config.me m.view) (Step.Promise t.stage.config.me m.view ∷ [])
    inner true false e f = absurd (grind (arith, nat_tests))
    inner false true e f =
        let same : (t.stage.life.view == m.view) ≡ true = grind (arith, nat_tests) in
        promise-if-same P p m t same
    inner false false e f =
        let other : (t.stage.life.view == m.view) ≡ false = grind (arith, nat_tests) in
        promise-if-other P p m t other ∙ sym (append-nil (shown_where P t.acts))

    go : (w l : Bool) → works t.stage ≡ w → shown_where P (when (w && l) (λ u. u ▹ raise_up_to m.view ▹ promises_if p m) t).acts
        ≡ shown_where P t.acts
        ++ picks P
        (entering_of t.stage.config.n t.stage.config.me (if w then number_if (l && nat_lt t.stage.life.view m.view) m.view else None)
        ++ (if w && l && nat_le t.stage.life.view m.view then Step.Promise t.stage.config.me m.view ∷ [] else []))
    go true true e =
        ap (λ (u : Turned). shown_where P (promises_if p m u).acts) (raise-working m.view t e)
        ∙ inner (nat_lt t.stage.life.view m.view) (nat_le t.stage.life.view m.view) refl refl
    go true false e = sym (append-nil (shown_where P t.acts))
    go false l e = sym (append-nil (shown_where P t.acts))

-- what a Recovery shows
pub recovery-shows : (P : Step → Bool) (p mark : ℕ) (t : Turned) →
    let entered = if works t.stage then number_if (is_view_ss t.stage.config.mode && nat_lt t.stage.life.view mark) mark else None in
    shown_where P (on_recovery p mark t).acts
    ≡ shown_where P t.acts
    ++ picks P
    (entering_of t.stage.config.n t.stage.config.me entered
    ++ (if works t.stage then Step.Answer t.stage.config.me p (unwrap_or entered t.stage.life.view) (if is_some entered then None else next_of t.stage.life.leading) ∷ [] else []))
recovery-shows P p mark t = go (works t.stage) refl
  where
    inner : (lt : Bool) →
        let entered = number_if lt mark in
        shown_where P (answers p mark (when lt (raise_to mark) t)).acts
        ≡ shown_where P t.acts
        ++ picks P
        (entering_of t.stage.config.n t.stage.config.me entered
        ++ Step.Answer t.stage.config.me p (unwrap_or entered t.stage.life.view) (if is_some entered then None else next_of t.stage.life.leading) ∷ [])
    inner true =
        let k = raised-stage mark t in
        let s = (raise_to mark t).stage in
        let xs = shown_where P (raise_to mark t).acts in
        answer-shows P p mark (raise_to mark t)
        ∙ ap (λ (c : Config). xs ++ picks P (Step.Answer c.me p s.life.view (next_of s.life.leading) ∷ [])) k.0
        ∙ ap (λ (v : ℕ). xs ++ picks P (Step.Answer t.stage.config.me p v (next_of s.life.leading) ∷ [])) k.1
        ∙ ap (λ (o : Option ℕ). xs ++ picks P (Step.Answer t.stage.config.me p mark o ∷ [])) k.2
        ∙ ap (λ (zs : List Step). zs ++ picks P (Step.Answer t.stage.config.me p mark None ∷ [])) (raised P mark t)
        ∙ picks-more P (shown_where P t.acts) (entering t.stage.config.n t.stage.config.me mark) (Step.Answer t.stage.config.me p mark None ∷ [])
    inner false = answer-shows P p mark t

    deeper : (v : Bool) → works t.stage ≡ true →
        let entered = number_if (v && nat_lt t.stage.life.view mark) mark in
        shown_where P (answers p mark (when v (raise_up_to mark) t)).acts
        ≡ shown_where P t.acts
        ++ picks P
        (entering_of t.stage.config.n t.stage.config.me entered
        ++ Step.Answer t.stage.config.me p (unwrap_or entered t.stage.life.view) (if is_some entered then None else next_of t.stage.life.leading) ∷ [])
    deeper true e = ap (λ (u : Turned). shown_where P (answers p mark u).acts) (raise-working mark t e) ∙ inner (nat_lt t.stage.life.view mark)
    deeper false e = inner false

    go : (w : Bool) → works t.stage ≡ w →
        let entered = if w then number_if (is_view_ss t.stage.config.mode && nat_lt t.stage.life.view mark) mark else None in
        shown_where P (when w (λ u. u ▹ when (is_view_ss u.stage.config.mode) (raise_up_to mark) ▹ answers p mark) t).acts
        ≡ shown_where P t.acts
        ++ picks P
        (entering_of t.stage.config.n t.stage.config.me entered
        ++ (if w then Step.Answer t.stage.config.me p (unwrap_or entered t.stage.life.view) (if is_some entered then None else next_of t.stage.life.leading) ∷ [] else []))
    go true e = deeper (is_view_ss t.stage.config.mode) e
    go false e = sym (append-nil (shown_where P t.acts))

-- no view is entered, whether the stage is Working or not
pub none-entered : (P : Step → Bool) (n me : ℕ) (w : Bool) (xs : List Step) → xs ≡ xs ++ picks P (entering_of n me (if w then None else None))
none-entered P n me true xs = sym (append-nil xs)
none-entered P n me false xs = sym (append-nil xs)

-- what an Alive shows
pub alive-shows : (P : Step → Bool) (p : ℕ) (m : Alive) (t : Turned) → shown_where P (on_alive p m t).acts
    ≡ shown_where P t.acts ++ picks P (entering_of t.stage.config.n t.stage.config.me (if works t.stage then number_if (leads t.stage p m.view && nat_lt t.stage.life.view m.view) m.view else None))
alive-shows P p m t = go (leads t.stage p m.view)
  where
    go : (l : Bool) → shown_where P (when l (λ u. u ▹ horizon_to m.first_undecided ▹ raise_up_to m.view) t).acts
        ≡ shown_where P t.acts ++ picks P (entering_of t.stage.config.n t.stage.config.me (if works t.stage then number_if (l && nat_lt t.stage.life.view m.view) m.view else None))
    go true = raised-up P m.view (horizon_to m.first_undecided t)
    go false = none-entered P t.stage.config.n t.stage.config.me (works t.stage) (shown_where P t.acts)

-- what a Propose shows
pub propose-shows : (P : Step → Bool) → Narrow P → (p : ℕ) (m : Propose) (t : Turned) → shown_where P (on_propose p m t).acts
    ≡ shown_where P t.acts ++ picks P (entering_of t.stage.config.n t.stage.config.me (if works t.stage then number_if (leads t.stage p m.view && nat_lt t.stage.life.view m.view) m.view else None))
propose-shows P narrow p m t = go (leads t.stage p m.view)
  where
    go : (l : Bool) → shown_where P (when l (λ u. u ▹ horizon_to (suc m.instance) ▹ raise_up_to m.view ▹ notes m.instance m.view p (Some m.batch) ▹ votes_if m ▹ learn_check m.instance) t).acts
        ≡ shown_where P t.acts ++ picks P (entering_of t.stage.config.n t.stage.config.me (if works t.stage then number_if (l && nat_lt t.stage.life.view m.view) m.view else None))
    go true =
        let t1 : Turned = horizon_to (suc m.instance) t in
        let t2 : Turned = notes m.instance m.view p (Some m.batch) (raise_up_to m.view t1) in
        quiet-learn_check P narrow m.instance (votes_if m t2) ∙ quiet-votes_if P narrow m t2 ∙ raised-up P m.view t1
    go false = none-entered P t.stage.config.n t.stage.config.me (works t.stage) (shown_where P t.acts)

-- ---- A tick

-- what a tick shows
pub tick-shows : (P : Step → Bool) → Narrow P → (t : Turned) → shown_where P (on_tick t).acts
    ≡ shown_where P t.acts
    ++ picks P
    (entering_of t.stage.config.n t.stage.config.me
    (if works t.stage then (if not (leads_own t.stage) && (suc t.stage.quiet == quiet_limit) then next_led t.stage.config.n t.stage.config.me t.stage.life.view else None) else None))
tick-shows P narrow t = quiet-query_where_due P narrow (when (works t.stage) on_tick_working t) ∙ go (works t.stage) refl
  where
    -- a Working stage that does not lead
    counts : (lt eq : Bool) → works t.stage ≡ true → nat_lt t.stage.quiet quiet_limit ≡ lt → (suc t.stage.quiet == quiet_limit) ≡ eq
        → shown_where P (when lt (λ u. u ▹ with_stage (λ s. record s { quiet = suc u.stage.quiet }) ▹ when (suc u.stage.quiet == quiet_limit) suspect) t).acts
        ≡ shown_where P t.acts ++ picks P (entering_of t.stage.config.n t.stage.config.me (if eq then next_led t.stage.config.n t.stage.config.me t.stage.life.view else None))
    counts true true w e f =
        let u : Turned = with_stage (λ s. record s { quiet = suc t.stage.quiet }) t in
        ap (λ (b : Bool). shown_where P (when b suspect u).acts) f ∙ suspected P u
        ∙ ap (λ (b : Bool). shown_where P t.acts ++ picks P (entering_of t.stage.config.n t.stage.config.me (if b then next_led t.stage.config.n t.stage.config.me t.stage.life.view else None))) w
    counts true false w e f =
        let u : Turned = with_stage (λ s. record s { quiet = suc t.stage.quiet }) t in
        ap (λ (b : Bool). shown_where P (when b suspect u).acts) f ∙ sym (append-nil (shown_where P t.acts))
    counts false true w e f = absurd (grind (arith, nat_tests))
    counts false false w e f = sym (append-nil (shown_where P t.acts))

    working : (own : Bool) → works t.stage ≡ true
        → shown_where P (when (not own && nat_lt t.stage.quiet quiet_limit) counts_quiet (when own (says_to_all (alive_of t.stage)) t)).acts
        ≡ shown_where P t.acts
        ++ picks P (entering_of t.stage.config.n t.stage.config.me (if not own && (suc t.stage.quiet == quiet_limit) then next_led t.stage.config.n t.stage.config.me t.stage.life.view else None))
    working true w = quiet-says_to_all P (alive_of t.stage) t ∙ sym (append-nil (shown_where P t.acts))
    working false w = counts (nat_lt t.stage.quiet quiet_limit) (suc t.stage.quiet == quiet_limit) w refl refl

    go : (w : Bool) → works t.stage ≡ w → shown_where P (when w on_tick_working t).acts
        ≡ shown_where P t.acts
        ++ picks P
        (entering_of t.stage.config.n t.stage.config.me
        (if w then (if not (leads_own t.stage) && (suc t.stage.quiet == quiet_limit) then next_led t.stage.config.n t.stage.config.me t.stage.life.view else None) else None))
    go true e = working (leads_own t.stage) e
    go false e = sym (append-nil (shown_where P t.acts))

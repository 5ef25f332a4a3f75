-- A retransmission shows nothing; a turn shows no step of another kind, and saves exactly the views that it enters and rejoins in where these are to be saved.
use Rattle.std.proofs.Common.{◌≡◌, ℕ, suc, Bool, true, false, ◌&&◌, not, List, [], ◌∷◌, ◌++◌, length, nat_le, nat_lt, ◌==◌, Option, Some, None, if◌then◌else◌, refl, sym, ap, ◌∙◌, arith, append-nil, ◌⊎◌, inl, inr}
use Rattle.std.proofs.lemmas.Bool.Decides.{nat_tests}
use Rattle.std.specs.Option.{option_map}
use Rattle.jp_types.specs.declared.message.Message.{Message}
use Rattle.jp_types.specs.declared.message.Prepare.{Prepare}
use Rattle.jp_types.specs.declared.message.Propose.{Propose}
use Rattle.jp_types.specs.declared.message.Alive.{Alive}
use Rattle.jp_types.specs.Views.{next_led, number_if}
use Rattle.paxos_world.specs.declared.step.Step.{Step}
use Rattle.paxos_world.specs.Counting.{is_recovering}
use Rattle.paxos_world.specs.Life.{LifeId, Taken}
use Rattle.jp_types.specs.Lists.{In}
use Rattle.paxos_world.specs.Shown.{shown_in}
use Rattle.paxos_world.specs.World.{Deed}
use Rattle.paxos_world.specs.Stage.{Config, Stage, Item, Came, Closed, Tick, Suspect, Snapped, Act, Show, Send, Hand, Save, Outgoing, Turned}
use Rattle.paxos_world.specs.Writing.{◌▹◌, when, when_some, for_each, with_stage, does, shows, says, saves, says_to_all}
use Rattle.paxos_world.specs.Logs.{first_undecided}
use Rattle.paxos_world.specs.Retransmitting.{claim, cursor_after, cancels_query}
use Rattle.paxos_world.specs.Leading.{works, leads, leads_own, is_leading, is_view_ss, prepare_of, begin_phase_1, drop_waiting, raise_to, raise_up_to, suspect}
use Rattle.paxos_world.specs.Learning.{horizon_to, notes, learn_check}
use Rattle.paxos_world.specs.CatchingUp.{place_of}
use Rattle.paxos_world.specs.Messages.{promises_if, on_prepare, prepares, votes_if, on_propose, answers, on_recovery, on_alive, on_kind, on_message}
use Rattle.paxos_world.specs.Settling.{rejoin_view, rejoins, settles_rejoin, settles_prepared, settles_waiting}
use Rattle.paxos_world.specs.Turn.{quiet_limit, waiting_limit, alive_of, counts_quiet, on_tick_working, on_tick, on_item, untouched, repeats, retransmit, turn}
use Rattle.paxos_world.proofs.Turning.{shown_in-append}
use Rattle.step_laws.specs.Kinds.{shown_where, is_of_a_turn, saved_in}
use Rattle.step_laws.specs.Kept.{saved_on_entering, saved_on_rejoining}
use Rattle.step_laws.specs.Laws.{RepeatsOnly, ShowsNoOther, SavesExactly}
use Rattle.step_laws.specs.Views.{entered_view}
use Rattle.step_laws.proofs.Quieting.{Calm}
use Rattle.step_laws.proofs.QuietItems.{calm-item, calm-rejoin, calm-prepared, calm-waiting, calm-hands_on}
use Rattle.step_laws.proofs.Raising.{lifted, says_to_all-stage}
use Rattle.step_laws.proofs.Sending.{taking}
use Rattle.step_laws.proofs.SavingWords.{saved_in-append, Unsaved, unsaved-act, unsaved-when, unsaved-some, unsaved-says_to_all, unsaved-shows, unsaved-learn_check, unsaved-learns_each, unsaved-query_where_due, unsaved-on_query, unsaved-on_part, unsaved-promises_if, unsaved-votes_if, unsaved-answers, unsaved-prepared, unsaved-waiting, unsaved-hands_on}

-- ---- A retransmission

-- messages to each of these replicas show nothing
pub says_each-shows : (qs : List ℕ) (m : Message) (t : Turned) → shown_in (for_each qs (λ q. says q m) t).acts ≡ shown_in t.acts
says_each-shows [] m t = refl
says_each-shows (q ∷ qs) m t = says_each-shows qs m (says q m t) ∙ shown_in-append t.acts (Send q m ∷ []) ∙ append-nil (shown_in t.acts)

-- a retransmission shows no step, and leaves the stage as it was
pub repeats_only : RepeatsOnly
unfolding retransmit
repeats_only s cursor at t e = go (claim s.slots cursor) e
  where
    go : (o : Option (ℕ × Outgoing)) → option_map {U = ℕ × Turned} (λ found. (cursor_after found.0, untouched s ▹ repeats found.1)) o ≡ Some (at, t) → (shown_in t.acts ≡ []) × (t.stage ≡ s)
    go None e = absurd cc
    go (Some found) e =
        let same : (at, t) ≡ (cursor_after found.0, repeats found.1 (untouched s)) = cc in (
          ap (λ (p : ℕ × Turned). shown_in p.1.acts) same ∙ says_each-shows found.1.to found.1.message (untouched s),
          ap (λ (p : ℕ × Turned). p.1.stage) same ∙ says_to_all-stage found.1.to found.1.message (untouched s),
        )

-- ---- The kinds of steps

-- a step of a kind that no turn shows
abbrev pub is_other : Step → Bool
is_other step = not (is_of_a_turn step)

-- an item shows none of them
pub other-calm : Calm is_other
other-calm = record { enter = λ r v. refl; promise = λ r v. refl; vote = λ r v i. refl; learn = λ r i. refl; answer = λ r to v n. refl; install = λ r u. refl }

-- where none of them is shown, each shown step is of a kind that a turn shows
pub of_a_turn : (acts : List Act) (step : Step) → shown_where is_other acts ≡ [] → In step (shown_in acts) → is_of_a_turn step ≡ true
of_a_turn [] step e i = absurd i
of_a_turn (Show x ∷ acts) step e i = go (of_a_turn acts step) (is_of_a_turn x) refl e i
  where
    go : (shown_where is_other acts ≡ [] → In step (shown_in acts) → is_of_a_turn step ≡ true) → (b : Bool) → is_of_a_turn x ≡ b
        → (if not b then x ∷ shown_where is_other acts else shown_where is_other acts) ≡ [] → (step ≡ x) ⊎ In step (shown_in acts) → is_of_a_turn step ≡ true
    go rest true f e (inl k) = ap is_of_a_turn k ∙ f
    go rest true f e (inr i) = rest e i
    go rest false f e i = absurd cc
of_a_turn (Send to m ∷ acts) step e i = of_a_turn acts step e i
of_a_turn (Hand d ∷ acts) step e i = of_a_turn acts step e i
of_a_turn (Save k ∷ acts) step e i = of_a_turn acts step e i

-- a turn shows no step of another kind
pub shows_no_other : ShowsNoOther
unfolding turn
shows_no_other s item room step i =
    let t1 = untouched s ▹ on_item item in
    let t2 = t1 ▹ settles_rejoin in
    let t3 = t2 ▹ settles_prepared in
    let t4 = t3 ▹ settles_waiting in
    let a = calm-item is_other other-calm item (untouched s) in
    let b = calm-rejoin is_other other-calm (λ r v. refl) t1 in
    let c = calm-prepared is_other other-calm (λ r v n. refl) (λ r v i b. refl) t2.stage.life.leading t2 in
    let d = calm-waiting is_other other-calm (λ r v i b. refl) t3.stage.waiting t3 in
    let e = calm-hands_on is_other other-calm room t4 in
    of_a_turn (turn s item room).acts step (e.shown ∙ d.shown ∙ c.shown ∙ b.shown ∙ a.shown) i

-- ---- Raising the view

-- what is saved on entering a view is the same of stages with the same constants and number on the disk
pub entering-same : (s u : Stage) (o : Option ℕ) → u.config ≡ s.config → u.stable ≡ s.stable → saved_on_entering u o ≡ saved_on_entering s o
entering-same s u None config stable = refl
entering-same s u (Some view) config stable =
    ap (λ (c : Config). if is_view_ss c.mode && nat_lt u.stable view then view ∷ [] else []) config
    ∙ ap (λ (k : ℕ). if is_view_ss s.config.mode && nat_lt k view then view ∷ [] else []) stable

-- beginning phase 1 saves none
pub unsaved-begin : Unsaved begin_phase_1
unsaved-begin t =
    let s = t.stage in
    let first = first_undecided s in
    unsaved-says_to_all (prepare_of s first) (shows (Step.Promise s.config.me s.life.view) (Deed.Open s.life.view first) t)
    ∙ unsaved-shows (Step.Promise s.config.me s.life.view) (Deed.Open s.life.view first) t

-- a number that is saved where a test passes
pub adds-save : (b : Bool) (k : ℕ) (t : Turned) → saved_in (when b (saves k) t).acts ≡ saved_in t.acts ++ (if b then k ∷ [] else [])
adds-save true k t = saved_in-append t.acts (Save k ∷ [])
adds-save false k t = sym (append-nil (saved_in t.acts))

-- raising the view saves it, where it is to be saved
pub raised-saves : (view : ℕ) (t : Turned) → saved_in (raise_to view t).acts ≡ saved_in t.acts ++ saved_on_entering t.stage (Some view)
raised-saves view t = go (is_view_ss t.stage.config.mode && nat_lt t.stage.stable view) (leads t.stage t.stage.config.me view)
  where
    up : (b : Bool) → saved_in (lifted b view t).acts ≡ saved_in t.acts ++ (if b then view ∷ [] else [])
    up b = unsaved-shows (Step.Enter t.stage.config.me view) (Deed.Enter view) (when b (saves view) t) ∙ adds-save b view t

    go : (b l : Bool) → saved_in (lifted b view t ▹ when l begin_phase_1 ▹ when (not l) drop_waiting).acts ≡ saved_in t.acts ++ (if b then view ∷ [] else [])
    go b true = unsaved-begin (lifted b view t) ∙ up b
    go b false = up b

-- raising the view up to this one, where it is done
pub raised_up-saves : (view : ℕ) (t : Turned) → saved_in (raise_up_to view t).acts
    ≡ saved_in t.acts ++ saved_on_entering t.stage (if works t.stage then number_if (nat_lt t.stage.life.view view) view else None)
raised_up-saves view t = go (works t.stage) (nat_lt t.stage.life.view view)
  where
    go : (w lt : Bool) → saved_in (when (w && lt) (raise_to view) t).acts ≡ saved_in t.acts ++ saved_on_entering t.stage (if w then number_if lt view else None)
    go true true = raised-saves view t
    go true false = sym (append-nil (saved_in t.acts))
    go false lt = sym (append-nil (saved_in t.acts))

-- a suspicion saves the next view that the replica leads, where it is to be saved
pub suspect-saves : (t : Turned) → saved_in (suspect t).acts
    ≡ saved_in t.acts ++ saved_on_entering t.stage (if works t.stage then next_led t.stage.config.n t.stage.config.me t.stage.life.view else None)
suspect-saves t = go (works t.stage) (next_led t.stage.config.n t.stage.config.me t.stage.life.view)
  where
    go : (w : Bool) (o : Option ℕ) → saved_in (when w (when_some o raise_to) t).acts ≡ saved_in t.acts ++ saved_on_entering t.stage (if w then o else None)
    go true (Some view) = raised-saves view t
    go true None = sym (append-nil (saved_in t.acts))
    go false o = sym (append-nil (saved_in t.acts))

-- no view is entered, whether the stage is Working or not
pub no-saves : (s : Stage) (w : Bool) → [] ≡ saved_on_entering s (if w then None else None)
no-saves s true = refl
no-saves s false = refl

-- ---- Messages

-- what a Prepare makes the stage save
pub prepare-saves : (p : ℕ) (m : Prepare) (t : Turned) → saved_in (on_prepare p m t).acts
    ≡ saved_in t.acts ++ saved_on_entering t.stage (if works t.stage then number_if (leads t.stage p m.view && nat_lt t.stage.life.view m.view) m.view else None)
prepare-saves p m t = go (works t.stage) (leads t.stage p m.view) refl
  where
    go : (w l : Bool) → works t.stage ≡ w → saved_in (when (w && l) (λ u. u ▹ raise_up_to m.view ▹ promises_if p m) t).acts
        ≡ saved_in t.acts ++ saved_on_entering t.stage (if w then number_if (l && nat_lt t.stage.life.view m.view) m.view else None)
    go true true e =
        unsaved-promises_if p m (raise_up_to m.view t) ∙ raised_up-saves m.view t
        ∙ ap (λ (b : Bool). saved_in t.acts ++ saved_on_entering t.stage (if b then number_if (nat_lt t.stage.life.view m.view) m.view else None)) e
    go true false e = sym (append-nil (saved_in t.acts))
    go false l e = sym (append-nil (saved_in t.acts))

-- what a Recovery makes the stage save
pub recovery-saves : (p mark : ℕ) (t : Turned) → saved_in (on_recovery p mark t).acts
    ≡ saved_in t.acts ++ saved_on_entering t.stage (if works t.stage then number_if (is_view_ss t.stage.config.mode && nat_lt t.stage.life.view mark) mark else None)
recovery-saves p mark t = go (works t.stage) refl
  where
    deeper : (v : Bool) → works t.stage ≡ true → saved_in (answers p mark (when v (raise_up_to mark) t)).acts
        ≡ saved_in t.acts ++ saved_on_entering t.stage (number_if (v && nat_lt t.stage.life.view mark) mark)
    deeper true e =
        unsaved-answers p mark (raise_up_to mark t) ∙ raised_up-saves mark t
        ∙ ap (λ (b : Bool). saved_in t.acts ++ saved_on_entering t.stage (if b then number_if (nat_lt t.stage.life.view mark) mark else None)) e
    deeper false e = unsaved-answers p mark t ∙ sym (append-nil (saved_in t.acts))

    go : (w : Bool) → works t.stage ≡ w → saved_in (when w (λ u. u ▹ when (is_view_ss u.stage.config.mode) (raise_up_to mark) ▹ answers p mark) t).acts
        ≡ saved_in t.acts ++ saved_on_entering t.stage (if w then number_if (is_view_ss t.stage.config.mode && nat_lt t.stage.life.view mark) mark else None)
    go true e = deeper (is_view_ss t.stage.config.mode) e
    go false e = sym (append-nil (saved_in t.acts))

-- the view of a message that raises the horizon first
pub raised_over-saves : (i view : ℕ) (t : Turned) → saved_in (raise_up_to view (horizon_to i t)).acts
    ≡ saved_in t.acts ++ saved_on_entering t.stage (if works t.stage then number_if (nat_lt t.stage.life.view view) view else None)
raised_over-saves i view t =
    raised_up-saves view (horizon_to i t)
    ∙ ap (λ (zs : List ℕ). saved_in t.acts ++ zs)
    (entering-same t.stage (horizon_to i t).stage (if works t.stage then number_if (nat_lt t.stage.life.view view) view else None) refl refl)

-- no view is entered by a message of another than its leader
pub not_led-saves : (t : Turned) → saved_in t.acts ≡ saved_in t.acts ++ saved_on_entering t.stage (if works t.stage then None else None)
not_led-saves t = sym (append-nil (saved_in t.acts)) ∙ ap (λ (zs : List ℕ). saved_in t.acts ++ zs) (no-saves t.stage (works t.stage))

-- what an Alive makes the stage save
pub alive-saves : (p : ℕ) (m : Alive) (t : Turned) → saved_in (on_alive p m t).acts
    ≡ saved_in t.acts ++ saved_on_entering t.stage (if works t.stage then number_if (leads t.stage p m.view && nat_lt t.stage.life.view m.view) m.view else None)
alive-saves p m t = go (leads t.stage p m.view)
  where
    go : (l : Bool) → saved_in (when l (λ u. u ▹ horizon_to m.first_undecided ▹ raise_up_to m.view) t).acts
        ≡ saved_in t.acts ++ saved_on_entering t.stage (if works t.stage then number_if (l && nat_lt t.stage.life.view m.view) m.view else None)
    go true = raised_over-saves m.first_undecided m.view t
    go false = not_led-saves t

-- what a Propose makes the stage save
pub propose-saves : (p : ℕ) (m : Propose) (t : Turned) → saved_in (on_propose p m t).acts
    ≡ saved_in t.acts ++ saved_on_entering t.stage (if works t.stage then number_if (leads t.stage p m.view && nat_lt t.stage.life.view m.view) m.view else None)
propose-saves p m t = go (leads t.stage p m.view)
  where
    noted : Turned
    noted = t ▹ horizon_to (suc m.instance) ▹ raise_up_to m.view ▹ notes m.instance m.view p (Some m.batch)

    go : (l : Bool)
        → saved_in (when l (λ u. u ▹ horizon_to (suc m.instance) ▹ raise_up_to m.view ▹ notes m.instance m.view p (Some m.batch) ▹ votes_if m ▹ learn_check m.instance) t).acts
        ≡ saved_in t.acts ++ saved_on_entering t.stage (if works t.stage then number_if (l && nat_lt t.stage.life.view m.view) m.view else None)
    go true = unsaved-learn_check m.instance (votes_if m noted) ∙ unsaved-votes_if m noted ∙ raised_over-saves (suc m.instance) m.view t
    go false = not_led-saves t

-- what a message makes a stage save that just took it
pub kind-saves : (s : Stage) (taken : List Taken) (quiet : ℕ) (deeds : List Deed) (from : LifeId) (m : Message)
    → saved_in (on_kind from.replica m (taking s taken quiet deeds)).acts ≡ saved_on_entering (taking s taken quiet deeds).stage (entered_view s (Came from m))
kind-saves s taken quiet deeds from (Message.Prepare m) = prepare-saves from.replica m (taking s taken quiet deeds)
kind-saves s taken quiet deeds from (Message.PrepareOk m) =
    let t = taking s taken quiet deeds in
    unsaved-when (prepares t.stage m.view m.mark) (horizon_to m.low) (λ u. refl) t ∙ no-saves t.stage (works s)
kind-saves s taken quiet deeds from (Message.Propose m) = propose-saves from.replica m (taking s taken quiet deeds)
kind-saves s taken quiet deeds from (Message.Accept m) =
    let t = taking s taken quiet deeds in
    unsaved-learn_check m.instance (notes m.instance m.view from.replica None (horizon_to (suc m.instance) t)) ∙ no-saves t.stage (works s)
kind-saves s taken quiet deeds from (Message.Recovery m) = recovery-saves from.replica m.mark (taking s taken quiet deeds)
kind-saves s taken quiet deeds from (Message.RecoveryAnswer m) =
    let t = taking s taken quiet deeds in
    unsaved-when (is_recovering t.stage.life.phase && (t.stage.life.mark == m.mark)) (when_some m.next horizon_to) (unsaved-some m.next horizon_to (λ x u. refl)) t ∙ no-saves t.stage (works s)
kind-saves s taken quiet deeds from (Message.CatchUpQuery m) = let t = taking s taken quiet deeds in unsaved-on_query from.replica m.first t ∙ no-saves t.stage (works s)
kind-saves s taken quiet deeds from (Message.CatchUpReply m) = let t = taking s taken quiet deeds in unsaved-learns_each m.first m.batches (cancels_query t) ∙ no-saves t.stage (works s)
kind-saves s taken quiet deeds from (Message.SnapshotPart m) = let t = taking s taken quiet deeds in unsaved-on_part m t ∙ no-saves t.stage (works s)
kind-saves s taken quiet deeds from (Message.Alive m) = alive-saves from.replica m (taking s taken quiet deeds)

-- what a message makes a stage save
pub came-saves : (s : Stage) (from : LifeId) (m : Message) → saved_in (on_message from m (untouched s)).acts ≡ saved_on_entering s (entered_view s (Came from m))
came-saves s from m = go (leads s from.replica s.life.view)
  where
    t : Turned
    t = does (Deed.Take from m) (untouched s)

    entered : Option ℕ
    entered = entered_view s (Came from m)

    go : (b : Bool) → saved_in (on_kind from.replica m (when b (with_stage (λ s. record s { quiet = 0 })) t)).acts ≡ saved_on_entering s entered
    go true = kind-saves s t.stage.life.taken 0 t.deeds from m ∙ entering-same s (taking s t.stage.life.taken 0 t.deeds).stage entered refl refl
    go false = kind-saves s t.stage.life.taken s.quiet t.deeds from m ∙ entering-same s (taking s t.stage.life.taken s.quiet t.deeds).stage entered refl refl

-- ---- Other items

-- a counted tick at a Working stage saves the view, where it is the last that the stage waits for its leader
pub counts-saves : (t : Turned) → works t.stage ≡ true → saved_in (when (nat_lt t.stage.quiet quiet_limit) counts_quiet t).acts
    ≡ saved_in t.acts ++ saved_on_entering t.stage (if suc t.stage.quiet == quiet_limit then next_led t.stage.config.n t.stage.config.me t.stage.life.view else None)
counts-saves t w = go (nat_lt t.stage.quiet quiet_limit) (suc t.stage.quiet == quiet_limit) refl refl
  where
    next : Option ℕ
    next = next_led t.stage.config.n t.stage.config.me t.stage.life.view

    u : Turned
    u = with_stage (λ s. record s { quiet = suc t.stage.quiet }) t

    go : (lt eq : Bool) → nat_lt t.stage.quiet quiet_limit ≡ lt → (suc t.stage.quiet == quiet_limit) ≡ eq → saved_in (when lt counts_quiet t).acts
        ≡ saved_in t.acts ++ saved_on_entering t.stage (if eq then next else None)
    go true true e f =
        ap (λ (b : Bool). saved_in (when b suspect u).acts) f ∙ suspect-saves u ∙ ap (λ (b : Bool). saved_in t.acts ++ saved_on_entering u.stage (if b then next else None)) w
        ∙ ap (λ (zs : List ℕ). saved_in t.acts ++ zs) (entering-same t.stage u.stage next refl refl)
    go true false e f = ap (λ (b : Bool). saved_in (when b suspect u).acts) f ∙ sym (append-nil (saved_in t.acts))
    go false true e f = absurd (grind (arith, nat_tests))
    go false false e f = sym (append-nil (saved_in t.acts))

-- what a tick makes the stage save
pub tick-saves : (t : Turned) → saved_in (on_tick t).acts ≡ saved_in t.acts ++ saved_on_entering t.stage (entered_view t.stage Tick)
tick-saves t = unsaved-query_where_due (when (works t.stage) on_tick_working t) ∙ go (works t.stage) refl
  where
    next : Option ℕ
    next = next_led t.stage.config.n t.stage.config.me t.stage.life.view

    working : (own : Bool) → works t.stage ≡ true → saved_in (t ▹ when own (says_to_all (alive_of t.stage)) ▹ when (not own && nat_lt t.stage.quiet quiet_limit) counts_quiet).acts
        ≡ saved_in t.acts ++ saved_on_entering t.stage (if not own && (suc t.stage.quiet == quiet_limit) then next else None)
    working true w = unsaved-says_to_all (alive_of t.stage) t ∙ sym (append-nil (saved_in t.acts))
    working false w = counts-saves t w

    go : (w : Bool) → works t.stage ≡ w → saved_in (when w on_tick_working t).acts
        ≡ saved_in t.acts ++ saved_on_entering t.stage (if w then (if not (leads_own t.stage) && (suc t.stage.quiet == quiet_limit) then next else None) else None)
    go true e = working (leads_own t.stage) e
    go false e = sym (append-nil (saved_in t.acts))

-- what an item makes a stage save
pub item-saves : (s : Stage) (item : Item) → saved_in (on_item item (untouched s)).acts ≡ saved_on_entering s (entered_view s item)
item-saves s (Came from m) = came-saves s from m
item-saves s (Closed batch) =
    unsaved-when (works s && is_leading s.life.leading && nat_lt (length s.waiting) waiting_limit) (with_stage (λ s. record s { waiting = s.waiting ++ batch ∷ [] })) (λ u. refl) (untouched s)
    ∙ no-saves s (works s)
item-saves s Tick = tick-saves (untouched s)
item-saves s Suspect = suspect-saves (untouched s)
item-saves s (Snapped upto bytes) =
    unsaved-when (nat_lt (place_of s.newest) upto && nat_le upto (first_undecided s))
    (with_stage (λ s. record s { base = place_of s.newest; newest = Some (record { place = upto; bytes = bytes; installed = false }) })) (λ u. refl) (untouched s)
    ∙ no-saves s (works s)

-- ---- The law

-- rejoining saves the view, where it is to be saved
pub rejoins-saves : (o : Option ℕ) (t : Turned) → saved_in (when_some o rejoins t).acts ≡ saved_in t.acts ++ saved_on_rejoining t.stage o
rejoins-saves None t = sym (append-nil (saved_in t.acts))
rejoins-saves (Some view) t =
    let b = is_view_ss t.stage.config.mode && nat_lt t.stage.life.mark view in
    unsaved-act (Show (Step.Rejoin t.stage.config.me view)) (when b (saves view) t).acts refl ∙ adds-save b view t

-- a turn saves exactly the view that it enters, and the one in which it rejoins, where these are to be saved
pub saves_exactly : SavesExactly
unfolding turn
saves_exactly s item room =
    let t1 = untouched s ▹ on_item item in
    let t2 = t1 ▹ settles_rejoin in
    let t3 = t2 ▹ settles_prepared in
    let t4 = t3 ▹ settles_waiting in
    unsaved-hands_on room t4 ∙ unsaved-waiting t3.stage.waiting t3 ∙ unsaved-prepared t2.stage.life.leading t2 ∙ rejoins-saves (rejoin_view t1.stage) t1
    ∙ ap (λ (xs : List ℕ). xs ++ saved_on_rejoining t1.stage (rejoin_view t1.stage)) (item-saves s item)

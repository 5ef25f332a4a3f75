-- Which messages each item makes a turn send.
use Rattle.std.proofs.Common.{◌≡◌, ℕ, suc, ◌+◌, min, Bool, true, false, ◌&&◌, not, List, [], ◌∷◌, ◌++◌, map, nat_le, nat_lt, ◌==◌, Option, Some, None, is_some, if◌then◌else◌, refl, sym, ap, ◌∙◌, arith, append-nil}
use Rattle.std.proofs.lemmas.Bool.Decides.{nat_tests}
use Rattle.std.specs.Option.{option_map_or, unwrap_or}
use Rattle.jp_types.specs.declared.message.Message.{Message}
use Rattle.jp_types.specs.declared.message.Prepare.{Prepare}
use Rattle.jp_types.specs.declared.message.Propose.{Propose}
use Rattle.jp_types.specs.declared.message.Alive.{Alive}
use Rattle.jp_types.specs.Instances.{Batch, span, peer}
use Rattle.jp_types.specs.Views.{next_led, number_if, number_limit}
use Rattle.paxos_world.specs.declared.step.Step.{Step}
use Rattle.paxos_world.specs.Life.{next_of}
use Rattle.paxos_world.specs.World.{Deed}
use Rattle.paxos_world.specs.Stage.{Snapshot, Stage, Show, Turned}
use Rattle.paxos_world.specs.Writing.{◌▹◌, when, when_some, for_each, says, others}
use Rattle.paxos_world.specs.Logs.{first_undecided, report_from}
use Rattle.paxos_world.specs.Leading.{is_working, works, leads, is_view_ss, raise_to, raise_up_to, suspect}
use Rattle.paxos_world.specs.Learning.{horizon_to, notes, learn_check, votes_for, accept_of}
use Rattle.paxos_world.specs.CatchingUp.{query_of, queries_peer, query_where_due, replied_batches, parts_of, on_query}
use Rattle.paxos_world.specs.Messages.{promises, promises_if, on_prepare, votes_on, votes_if, on_propose, answers, on_recovery, on_alive}
use Rattle.step_laws.specs.Kinds.{sent_in}
use Rattle.step_laws.specs.Sent.{to_each, phase_1_sends, query_sends}
use Rattle.step_laws.specs.Views.{may_vote}
use Rattle.step_laws.proofs.Asked.{same-test}
use Rattle.step_laws.proofs.Raising.{raised-stage, raise-working}
use Rattle.step_laws.proofs.SendingWords.{silent-shows, silent-learn_check, adds-send, adds-both, adds-sends_to_all, adds-says_one, Told, told, replied-same, ok_to, ok-told, answer_in, due_query, raised-sends, raised-told, raised_up-sends, phase-same, no-phase}
use Rattle.step_laws.proofs.Voting.{Look, look, raised_up-look, less-le, not_less-same}

-- ---- Messages

-- a promise to who asks is sent
pub promise-sends : (p : ℕ) (m : Prepare) (t : Turned) → sent_in (promises p m t).acts ≡ sent_in t.acts ++ (p, ok_to t.stage m) ∷ []
promise-sends p m t =
    let step : Step = Step.Promise t.stage.config.me m.view in
    adds-send p (ok_to t.stage m) (t.acts ++ Show step ∷ [])
    ∙ ap (λ (zs : List (ℕ × Message)). zs ++ (p, ok_to t.stage m) ∷ []) (silent-shows step (Deed.Promise m.view m.first m.mark t.stage.base (report_from t.stage m.first)) t)

-- what a Prepare makes the stage send
pub prepare-sends : (p : ℕ) (m : Prepare) (t : Turned) → sent_in (on_prepare p m t).acts
    ≡ sent_in t.acts
    ++ (phase_1_sends t.stage (if works t.stage then number_if (leads t.stage p m.view && nat_lt t.stage.life.view m.view) m.view else None)
    ++ (if works t.stage && leads t.stage p m.view && nat_le t.stage.life.view m.view then (p, ok_to t.stage m) ∷ [] else []))
prepare-sends p m t = go (works t.stage) (leads t.stage p m.view) refl
  where
    one : List (ℕ × Message)
    one = (p, ok_to t.stage m) ∷ []

    same : (u : Turned) → (u.stage.life.view == m.view) ≡ true → told u.stage ≡ told t.stage → sent_in (promises_if p m u).acts ≡ sent_in u.acts ++ one
    same u e k =
        ap (λ (b : Bool). sent_in (when b (promises p m) u).acts) e ∙ promise-sends p m u
        ∙ ap (λ (x : Message). sent_in u.acts ++ (p, x) ∷ []) (ok-told t.stage u.stage m k)

    other : (u : Turned) → (u.stage.life.view == m.view) ≡ false → sent_in (promises_if p m u).acts ≡ sent_in u.acts
    other u e = ap (λ (b : Bool). sent_in (when b (promises p m) u).acts) e

    inner : (lt le : Bool) → nat_lt t.stage.life.view m.view ≡ lt → nat_le t.stage.life.view m.view ≡ le → sent_in (promises_if p m (when lt (raise_to m.view) t)).acts
        ≡ sent_in t.acts ++ (phase_1_sends t.stage (number_if lt m.view) ++ (if le then one else []))
    inner true true e f =
        let u : Turned = raise_to m.view t in
        adds-both (sent_in t.acts) (sent_in u.acts) (sent_in (promises_if p m u).acts) (phase_1_sends t.stage (Some m.view)) one
        (same u (same-test u.stage.life.view m.view (raised-stage m.view t).1) (raised-told m.view t)) (raised-sends m.view t)
    inner true false e f = absurd (grind (arith, nat_tests))
    inner false true e f =
        let equal : (t.stage.life.view == m.view) ≡ true = grind (arith, nat_tests) in
        same t equal refl
    inner false false e f =
        let differs : (t.stage.life.view == m.view) ≡ false = grind (arith, nat_tests) in
        other t differs ∙ sym (append-nil (sent_in t.acts))

    go : (w l : Bool) → works t.stage ≡ w → sent_in (when (w && l) (λ u. u ▹ raise_up_to m.view ▹ promises_if p m) t).acts
        ≡ sent_in t.acts
        ++ (phase_1_sends t.stage (if w then number_if (l && nat_lt t.stage.life.view m.view) m.view else None)
        ++ (if w && l && nat_le t.stage.life.view m.view then one else []))
    go true true e =
        ap (λ (u : Turned). sent_in (promises_if p m u).acts) (raise-working m.view t e)
        ∙ inner (nat_lt t.stage.life.view m.view) (nat_le t.stage.life.view m.view) refl refl
    go true false e = sym (append-nil (sent_in t.acts))
    go false l e = sym (append-nil (sent_in t.acts))

-- a recovery is answered
pub answer-sends : (p mark : ℕ) (t : Turned) → sent_in (answers p mark t).acts
    ≡ sent_in t.acts ++ (p, answer_in (told t.stage) p mark t.stage.life.view (next_of t.stage.life.leading)) ∷ []
answer-sends p mark t =
    let s = t.stage in
    let next = next_of s.life.leading in
    let step : Step = Step.Answer s.config.me p s.life.view next in
    adds-send p (answer_in (told s) p mark s.life.view next) (t.acts ++ Show step ∷ [])
    ∙ ap (λ (zs : List (ℕ × Message)). zs ++ (p, answer_in (told s) p mark s.life.view next) ∷ []) (silent-shows step (Deed.Answer p s.life.view next mark) t)

-- what a Recovery makes the stage send
pub recovery-sends : (p mark : ℕ) (t : Turned) →
    let entered = if works t.stage then number_if (is_view_ss t.stage.config.mode && nat_lt t.stage.life.view mark) mark else None in
    sent_in (on_recovery p mark t).acts
    ≡ sent_in t.acts
    ++ (phase_1_sends t.stage entered
    ++ (if works t.stage then (p, answer_in (told t.stage) p mark (unwrap_or entered t.stage.life.view) (if is_some entered then None else next_of t.stage.life.leading)) ∷ [] else []))
recovery-sends p mark t = go (works t.stage) refl
  where
    one : Option ℕ → List (ℕ × Message)
    one entered = (p, answer_in (told t.stage) p mark (unwrap_or entered t.stage.life.view) (if is_some entered then None else next_of t.stage.life.leading)) ∷ []

    inner : (lt : Bool) → sent_in (answers p mark (when lt (raise_to mark) t)).acts ≡ sent_in t.acts ++ (phase_1_sends t.stage (number_if lt mark) ++ one (number_if lt mark))
    inner true =
        let u : Turned = raise_to mark t in
        let k = raised-stage mark t in
        let answer : sent_in (answers p mark u).acts ≡ sent_in u.acts ++ one (Some mark) =
        answer-sends p mark u
        ∙ ap (λ (x : Told). sent_in u.acts ++ (p, answer_in x p mark u.stage.life.view (next_of u.stage.life.leading)) ∷ []) (raised-told mark t)
        ∙ ap (λ (v : ℕ). sent_in u.acts ++ (p, answer_in (told t.stage) p mark v (next_of u.stage.life.leading)) ∷ []) k.1
        ∙ ap (λ (o : Option ℕ). sent_in u.acts ++ (p, answer_in (told t.stage) p mark mark o) ∷ []) k.2 in
        adds-both (sent_in t.acts) (sent_in u.acts) (sent_in (answers p mark u).acts) (phase_1_sends t.stage (Some mark)) (one (Some mark)) answer (raised-sends mark t)
    inner false = answer-sends p mark t

    deeper : (v : Bool) → works t.stage ≡ true →
        let entered = number_if (v && nat_lt t.stage.life.view mark) mark in
        sent_in (answers p mark (when v (raise_up_to mark) t)).acts ≡ sent_in t.acts ++ (phase_1_sends t.stage entered ++ one entered)
    deeper true e = ap (λ (u : Turned). sent_in (answers p mark u).acts) (raise-working mark t e) ∙ inner (nat_lt t.stage.life.view mark)
    deeper false e = inner false

    go : (w : Bool) → works t.stage ≡ w →
        let entered = if w then number_if (is_view_ss t.stage.config.mode && nat_lt t.stage.life.view mark) mark else None in
        sent_in (when w (λ u. u ▹ when (is_view_ss u.stage.config.mode) (raise_up_to mark) ▹ answers p mark) t).acts
        ≡ sent_in t.acts ++ (phase_1_sends t.stage entered ++ (if w then one entered else []))
    go true e = deeper (is_view_ss t.stage.config.mode) e
    go false e = sym (append-nil (sent_in t.acts))

-- what an Alive makes the stage send
pub alive-sends : (p : ℕ) (m : Alive) (t : Turned) → sent_in (on_alive p m t).acts
    ≡ sent_in t.acts ++ phase_1_sends t.stage (if works t.stage then number_if (leads t.stage p m.view && nat_lt t.stage.life.view m.view) m.view else None)
alive-sends p m t = go (leads t.stage p m.view)
  where
    u : Turned
    u = horizon_to m.first_undecided t

    go : (l : Bool) → sent_in (when l (λ u. u ▹ horizon_to m.first_undecided ▹ raise_up_to m.view) t).acts
        ≡ sent_in t.acts ++ phase_1_sends t.stage (if works t.stage then number_if (l && nat_lt t.stage.life.view m.view) m.view else None)
    go true =
        raised_up-sends m.view u
        ∙ ap (λ (zs : List (ℕ × Message)). sent_in t.acts ++ zs)
        (phase-same t.stage u.stage (if works t.stage then number_if (nat_lt t.stage.life.view m.view) m.view else None) refl refl refl refl)
    go false = sym (append-nil (sent_in t.acts)) ∙ ap (λ (zs : List (ℕ × Message)). sent_in t.acts ++ zs) (no-phase t.stage (works t.stage))

-- ---- A proposal

-- whether an instance is in span from this base
abbrev pub reaches : ℕ → ℕ → Bool
reaches base i = nat_le base i && nat_lt i (min (base + span) number_limit)

-- the Accepts of a proposal, where what a vote looks at allows it
abbrev pub accepts_of : Look → Propose → List (ℕ × Message)
accepts_of k m = if is_working k.phase && (k.view == m.view) && reaches k.base m.instance then to_each (others k.config) (accept_of m.view m.instance) else []

-- a vote on a proposal sends the Accept to all others
pub votes_if-sends : (m : Propose) (t : Turned) → sent_in (votes_if m t).acts ≡ sent_in t.acts ++ accepts_of (look t.stage) m
votes_if-sends m t = go (works t.stage && (t.stage.life.view == m.view) && reaches t.stage.base m.instance)
  where
    accepts : List (ℕ × Message)
    accepts = to_each (others t.stage.config) (accept_of m.view m.instance)

    noted : Turned
    noted = t ▹ votes_for m.view m.instance m.batch ▹ notes m.instance m.view t.stage.config.me None

    go : (b : Bool) → sent_in (when b (votes_on m) t).acts ≡ sent_in t.acts ++ (if b then accepts else [])
    go true =
        adds-sends_to_all (accept_of m.view m.instance) noted
        ∙ ap (λ (zs : List (ℕ × Message)). zs ++ accepts) (silent-shows (Step.Vote t.stage.config.me m.view m.instance) (Deed.Vote m.view m.instance m.batch) t)
    go false = sym (append-nil (sent_in t.acts))

-- the tests before raising the view, and after it
pub tests-same : (w lt eq le sp lead : Bool) → lead ≡ true → (lt ≡ true → le ≡ true) → (lt ≡ false → eq ≡ le) → (w && (if w && lt then true else eq) && sp) ≡ (w && lead && le && sp)
tests-same false lt eq le sp lead a b c = refl
tests-same true lt eq le sp false a b c = absurd cc
tests-same true true eq true sp true a b c = refl
tests-same true true eq false sp true a b c = let x = b refl in absurd cc
tests-same true false eq le sp true a b c = ap (λ (x : Bool). x && sp) (c refl)

-- the Accepts after raising the view are those that the stage before it asks for, of a proposal of the leader of its view
pub accepts-after : (k : Look) (m : Propose) (lead : Bool) → lead ≡ true → accepts_of (if is_working k.phase && nat_lt k.view m.view then record k { view = m.view } else k) m
    ≡ (if is_working k.phase && lead && nat_le k.view m.view && reaches k.base m.instance then to_each (others k.config) (accept_of m.view m.instance) else [])
accepts-after k m lead e =
    go (is_working k.phase && nat_lt k.view m.view)
    ∙ ap (λ (b : Bool). if b then accepts else [])
    (tests-same (is_working k.phase) (nat_lt k.view m.view) (k.view == m.view) (nat_le k.view m.view) (reaches k.base m.instance) lead e (less-le k.view m.view)
    (not_less-same k.view m.view))
  where
    accepts : List (ℕ × Message)
    accepts = to_each (others k.config) (accept_of m.view m.instance)

    go : (b : Bool) → accepts_of (if b then record k { view = m.view } else k) m ≡ (if is_working k.phase && (if b then true else k.view == m.view) && reaches k.base m.instance then accepts else [])
    go true = ap (λ (x : Bool). if is_working k.phase && x && reaches k.base m.instance then accepts else []) (same-test m.view m.view refl)
    go false = refl

-- what a Propose makes the stage send
pub propose-sends : (p : ℕ) (m : Propose) (t : Turned) → sent_in (on_propose p m t).acts
    ≡ sent_in t.acts
    ++ (phase_1_sends t.stage (if works t.stage then number_if (leads t.stage p m.view && nat_lt t.stage.life.view m.view) m.view else None)
    ++ (if may_vote t.stage p m then to_each (others t.stage.config) (accept_of m.view m.instance) else []))
propose-sends p m t = go (leads t.stage p m.view) refl
  where
    accepts : List (ℕ × Message)
    accepts = to_each (others t.stage.config) (accept_of m.view m.instance)

    t1 : Turned
    t1 = horizon_to (suc m.instance) t

    t2 : Turned
    t2 = raise_up_to m.view t1

    t3 : Turned
    t3 = notes m.instance m.view p (Some m.batch) t2

    entered : Bool → Option ℕ
    entered l = if works t.stage then number_if (l && nat_lt t.stage.life.view m.view) m.view else None

    wanted : Bool → List (ℕ × Message)
    wanted l = if works t.stage && l && nat_le t.stage.life.view m.view && reaches t.stage.base m.instance then accepts else []

    raised : sent_in t2.acts ≡ sent_in t.acts ++ phase_1_sends t.stage (entered true)
    raised = raised_up-sends m.view t1 ∙ ap (λ (zs : List (ℕ × Message)). sent_in t.acts ++ zs) (phase-same t.stage t1.stage (entered true) refl refl refl refl)

    voted : sent_in (votes_if m t3).acts ≡ sent_in t2.acts ++ wanted true
    voted =
        votes_if-sends m t3
        ∙ ap (λ (zs : List (ℕ × Message)). sent_in t2.acts ++ zs) (ap (λ (k : Look). accepts_of k m) (raised_up-look m.view t1) ∙ accepts-after (look t.stage) m true refl)

    none : (w : Bool) → phase_1_sends t.stage (if w then None else None) ≡ phase_1_sends t.stage (if w then None else None) ++ (if w && false && nat_le t.stage.life.view m.view && reaches t.stage.base m.instance then accepts else [])
    none true = refl
    none false = refl

    nothing : [] ≡ phase_1_sends t.stage (entered false) ++ wanted false
    nothing = no-phase t.stage (works t.stage) ∙ none (works t.stage)

    go : (l : Bool) → leads t.stage p m.view ≡ l
        → sent_in (when l (λ u. u ▹ horizon_to (suc m.instance) ▹ raise_up_to m.view ▹ notes m.instance m.view p (Some m.batch) ▹ votes_if m ▹ learn_check m.instance) t).acts
        ≡ sent_in t.acts ++ (phase_1_sends t.stage (entered l) ++ wanted l)
    go true e = silent-learn_check m.instance (votes_if m t3) ∙ adds-both (sent_in t.acts) (sent_in t2.acts) (sent_in (votes_if m t3).acts) (phase_1_sends t.stage (entered true)) (wanted true) voted raised
    go false e = sym (append-nil (sent_in t.acts)) ∙ ap (λ (zs : List (ℕ × Message)). sent_in t.acts ++ zs) nothing

-- ---- A query, and a tick

-- what a query makes the stage send
pub query-sends : (p first : ℕ) (t : Turned) → sent_in (on_query p first t).acts ≡ sent_in t.acts ++ query_sends t.stage p first
query-sends p first t = go (nat_lt first t.stage.base) (is_some (t.stage.life.known first))
  where
    reply : Message
    reply = Message.CatchUpReply (record { first = first; batches = replied_batches t.stage first })

    parts : (o : Option Snapshot) → sent_in (when_some o (λ snapshot. for_each (parts_of snapshot) (says p)) t).acts
        ≡ sent_in t.acts ++ option_map_or (λ snapshot. map (λ m. (p, m)) (parts_of snapshot)) o []
    parts (Some snapshot) = adds-says_one p (parts_of snapshot) t
    parts None = sym (append-nil (sent_in t.acts))

    go : (b k : Bool) → sent_in (t ▹ when b (when_some t.stage.newest (λ snapshot. for_each (parts_of snapshot) (says p))) ▹ when (not b && k) (says p reply)).acts
        ≡ sent_in t.acts ++ (if b then option_map_or (λ snapshot. map (λ m. (p, m)) (parts_of snapshot)) t.stage.newest [] else if k then (p, reply) ∷ [] else [])
    go true k = parts t.stage.newest
    go false true = adds-send p reply t.acts
    go false false = sym (append-nil (sent_in t.acts))

-- it is the same of stages that know the same, from the same base, and have the same newest snapshot
pub query-same : (s u : Stage) (p first : ℕ) → u.life.known ≡ s.life.known → u.base ≡ s.base → u.newest ≡ s.newest → query_sends u p first ≡ query_sends s p first
query-same s u p first known base newest =
    ap (λ (b : ℕ). of_query b u.newest (u.life.known first) (replied_batches u first)) base
    ∙ ap (λ (o : Option Snapshot). of_query s.base o (u.life.known first) (replied_batches u first)) newest
    ∙ ap (λ (f : ℕ → Option Batch). of_query s.base s.newest (f first) (replied_batches u first)) known
    ∙ ap (λ (bs : List Batch). of_query s.base s.newest (s.life.known first) bs) (replied-same s u first known)
  where
    of_query : ℕ → Option Snapshot → Option Batch → List Batch → List (ℕ × Message)
    of_query base o known batches =
        if nat_lt first base then option_map_or (λ snapshot. map (λ m. (p, m)) (parts_of snapshot)) o []
        else if is_some known then (p, Message.CatchUpReply (record { first = first; batches = batches })) ∷ []
        else []

-- a query goes out where one is due
pub due-sends : (t : Turned) → sent_in (query_where_due t).acts ≡ sent_in t.acts ++ due_query t.stage
due-sends t = go (nat_lt (first_undecided t.stage) t.stage.horizon)
  where
    query : ℕ × Message
    query = (peer t.stage.config.me t.stage.config.n t.stage.queries, query_of (first_undecided t.stage))

    go : (b : Bool) → sent_in (when b queries_peer t).acts ≡ sent_in t.acts ++ (if b then query ∷ [] else [])
    go true = adds-send query.0 query.1 t.acts
    go false = sym (append-nil (sent_in t.acts))

-- a suspicion leaves what the messages tell
pub suspect-told : (t : Turned) → told (suspect t).stage ≡ told t.stage
suspect-told t = go (works t.stage) (next_led t.stage.config.n t.stage.config.me t.stage.life.view)
  where
    go : (w : Bool) (o : Option ℕ) → told (when w (when_some o raise_to) t).stage ≡ told t.stage
    go true (Some view) = raised-told view t
    go true None = refl
    go false o = refl

-- What each word of a turn leaves of the ticks without the leader and of the waiting batches, and what an item makes of them.
use Rattle.std.proofs.Common.{◌≡◌, ℕ, suc, Bool, true, false, ◌&&◌, not, List, [], ◌∷◌, ◌++◌, length, nat_le, nat_lt, ◌==◌, Option, Some, None, is_some, if◌then◌else◌, refl, ap, ◌∙◌, arith}
use Rattle.std.proofs.lemmas.Bool.Decides.{nat_tests}
use Rattle.jp_types.specs.declared.message.Message.{Message}
use Rattle.jp_types.specs.declared.message.Prepare.{Prepare}
use Rattle.jp_types.specs.declared.message.Propose.{Propose}
use Rattle.jp_types.specs.declared.message.SnapshotPart.{SnapshotPart}
use Rattle.jp_types.specs.declared.message.Alive.{Alive}
use Rattle.jp_types.specs.Instances.{Batch}
use Rattle.jp_types.specs.Views.{leader, next_led, number_if}
use Rattle.kv_service.specs.Parts.{Joiner, is_joined, joined_bytes, takes_part, with_part}
use Rattle.kv_service.specs.StateReading.{state_in}
use Rattle.paxos_world.specs.declared.step.Step.{Step}
use Rattle.paxos_world.specs.Counting.{is_recovering}
use Rattle.paxos_world.specs.Life.{LifeId, Taken}
use Rattle.paxos_world.specs.World.{Deed}
use Rattle.paxos_world.specs.Stage.{Config, Snapshot, Stage, Item, Came, Closed, Tick, Suspect, Snapped, Turned}
use Rattle.paxos_world.specs.Writing.{◌▹◌, when, when_some, for_each, with_stage, does, shows, says, others, sends_to_all, says_to_all}
use Rattle.paxos_world.specs.Logs.{is_in_span, is_known, first_undecided, tallied}
use Rattle.paxos_world.specs.Leading.{works, leads, leads_own, is_leading, is_view_ss, prepare_of, begin_phase_1, drop_waiting, raise_to, raise_up_to, suspect}
use Rattle.paxos_world.specs.Learning.{horizon_to, notes, learns, learn_check, votes_for, accept_of}
use Rattle.paxos_world.specs.CatchingUp.{queries_peer, query_where_due, replied_batches, parts_of, on_query, learns_each, on_batches, is_joining_above, joiner_for, keeps_joiner, installs, installs_if, has_part, puts_part, on_part, place_of}
use Rattle.paxos_world.specs.Retransmitting.{cancels_query}
use Rattle.paxos_world.specs.Messages.{promises, promises_if, on_prepare, prepares, votes_on, votes_if, on_propose, answers, on_recovery, on_kind, on_message, on_alive}
use Rattle.paxos_world.specs.Turn.{quiet_limit, waiting_limit, alive_of, counts_quiet, on_tick_working, on_tick, on_item, untouched}
use Rattle.step_laws.specs.Kept.{waiting_in, waiting_after, quiet_counted, quiet_after}
use Rattle.step_laws.specs.Views.{entered_view}
use Rattle.step_laws.proofs.Launching.{each-leaves}
use Rattle.step_laws.proofs.Raising.{lifted, says_to_all-stage}
use Rattle.step_laws.proofs.Sending.{taking}

-- the ticks without the leader, and the waiting batches
pub record Kept : Type 0 where
  pub quiet : ℕ
  pub waiting : List Batch

-- those of a stage
abbrev pub kept : Stage → Kept
kept s = record { quiet = s.quiet; waiting = s.waiting }

-- a word leaves them as they are
abbrev pub Leaves : (Turned → Turned) → Type 0
Leaves f = (t : Turned) → kept (f t).stage ≡ kept t.stage

-- ---- The words that leave them

-- what is done where a test passes
pub leaves-when : (b : Bool) (f : Turned → Turned) → Leaves f → Leaves (when b f)
leaves-when true f q t = q t
leaves-when false f q t = refl

-- what is done with a value, where there is one
pub leaves-some : {A : Type 0} (o : Option A) (f : A → Turned → Turned) → ((x : A) → Leaves (f x)) → Leaves (when_some o f)
leaves-some None f q t = refl
leaves-some (Some x) f q t = q x t

-- what is done with each
pub leaves-each : {A : Type 0} (xs : List A) (f : A → Turned → Turned) → ((x : A) → Leaves (f x)) → Leaves (for_each xs f)
leaves-each [] f q t = refl
leaves-each (x ∷ xs) f q t = leaves-each xs f q (f x t) ∙ q x t

-- a message to all others
pub leaves-sends_to_all : (m : Message) → Leaves (sends_to_all m)
leaves-sends_to_all m t = ap kept (each-leaves (others t.stage.config) m t)

-- a message to all others, with no step of its own
pub leaves-says_to_all : (m : Message) → Leaves (says_to_all m)
leaves-says_to_all m t = ap kept (says_to_all-stage (others t.stage.config) m t)

-- learning by a tally
pub leaves-learn_check : (i : ℕ) → Leaves (learn_check i)
leaves-learn_check i t = leaves-some (tallied t.stage i) (learns i) (λ batch u. refl) t

-- learning each batch that may be learned
pub leaves-learns_each : (i : ℕ) (batches : List Batch) → Leaves (learns_each i batches)
leaves-learns_each i [] t = refl
leaves-learns_each i (batch ∷ batches) t =
    let b = is_in_span t.stage i && not (is_known t.stage i) in
    leaves-learns_each (suc i) batches (when b (learns i batch) t) ∙ leaves-when b (learns i batch) (λ u. refl) t

-- known batches that came
pub leaves-on_batches : (first : ℕ) (batches : List Batch) → Leaves (on_batches first batches)
leaves-on_batches first batches t = leaves-learns_each first batches (cancels_query t)

-- a vote on a proposal, where the stage may
pub leaves-votes_if : (m : Propose) → Leaves (votes_if m)
leaves-votes_if m t =
    leaves-when (works t.stage && (t.stage.life.view == m.view) && is_in_span t.stage m.instance) (votes_on m)
    (λ u. leaves-sends_to_all (accept_of m.view m.instance) (notes m.instance m.view u.stage.config.me None (votes_for m.view m.instance m.batch u))) t

-- a promise to who asks, where the view is the own one
pub leaves-promises_if : (p : ℕ) (m : Prepare) → Leaves (promises_if p m)
leaves-promises_if p m t = leaves-when (t.stage.life.view == m.view) (promises p m) (λ u. refl) t

-- a query, where one is due
pub leaves-query_where_due : Leaves query_where_due
leaves-query_where_due t = leaves-when (nat_lt (first_undecided t.stage) t.stage.horizon) queries_peer (λ u. refl) t

-- the answer to a query
pub leaves-on_query : (p first : ℕ) → Leaves (on_query p first)
leaves-on_query p first t =
    let s = t.stage in
    let f : Snapshot → Turned → Turned = λ snapshot. for_each (parts_of snapshot) (says p) in
    let u : Turned = when (nat_lt first s.base) (when_some s.newest f) t in
    leaves-when (not (nat_lt first s.base) && is_some (s.life.known first)) (says p (Message.CatchUpReply (record { first = first; batches = replied_batches s first }))) (λ v. refl) u
    ∙ leaves-when (nat_lt first s.base) (when_some s.newest f) (leaves-some s.newest f (λ snapshot. leaves-each (parts_of snapshot) (says p) (λ m v. refl))) t

-- a joiner with one part more
pub leaves-has_part : (j : Joiner) → Leaves (has_part j)
leaves-has_part j t =
    let bytes = joined_bytes j in
    let u : Turned = when (not (is_joined j)) (keeps_joiner (Some j)) t in
    leaves-when (is_joined j) (λ t. t ▹ keeps_joiner None ▹ when_some (state_in bytes) (installs_if j.upto bytes))
    (λ v. leaves-some (state_in bytes) (installs_if j.upto bytes) (λ state. leaves-when (state.executed == j.upto) (installs j.upto bytes state) (λ w. refl)) (keeps_joiner None v)) u
    ∙ leaves-when (not (is_joined j)) (keeps_joiner (Some j)) (λ v. refl) t

-- a part that is put into the joiner
pub leaves-puts_part : (j : Joiner) (m : SnapshotPart) → Leaves (puts_part j m)
leaves-puts_part j m t =
    leaves-when (not (takes_part j m)) (keeps_joiner (Some j)) (λ v. refl) (when (takes_part j m) (has_part (with_part j m)) t)
    ∙ leaves-when (takes_part j m) (has_part (with_part j m)) (leaves-has_part (with_part j m)) t

-- a part that came
pub leaves-on_part : (m : SnapshotPart) → Leaves (on_part m)
leaves-on_part m t =
    let s = t.stage in
    let j = joiner_for s.joiner m.upto m.total in
    leaves-when (nat_lt (first_undecided s) m.upto && not (is_joining_above s.joiner m.upto)) (puts_part j m) (leaves-puts_part j m) t

-- ---- Raising the view

-- what a stage with these constants keeps of the ticks and of what waits, where a view is entered, if one is
abbrev pub kept_in : Config → List Batch → ℕ → Option ℕ → Kept
kept_in c waiting quiet None = record { quiet = quiet; waiting = waiting }
kept_in c waiting quiet (Some view) = record { quiet = 0; waiting = if leader c.n view == c.me then waiting else [] }

-- no view is entered, whether the stage is Working or not
pub none-kept : (s : Stage) (w : Bool) → kept s ≡ kept_in s.config s.waiting s.quiet (if w then None else None)
none-kept s true = refl
none-kept s false = refl

-- raising the view ends the count, and a stage that does not lead the view drops what waits
pub raised-kept : (view : ℕ) (t : Turned) → kept (raise_to view t).stage ≡ kept_in t.stage.config t.stage.waiting t.stage.quiet (Some view)
raised-kept view t = go (is_view_ss t.stage.config.mode && nat_lt t.stage.stable view) (leads t.stage t.stage.config.me view)
  where
    begun : (u : Turned) → kept (begin_phase_1 u).stage ≡ kept u.stage
    begun u =
        let first = first_undecided u.stage in
        leaves-says_to_all (prepare_of u.stage first) (shows (Step.Promise u.stage.config.me u.stage.life.view) (Deed.Open u.stage.life.view first) u)

    go : (b l : Bool) → kept (lifted b view t ▹ when l begin_phase_1 ▹ when (not l) drop_waiting).stage ≡ record { quiet = 0; waiting = if l then t.stage.waiting else [] }
    go true true = begun (lifted true view t)
    go false true = begun (lifted false view t)
    go true false = refl
    go false false = refl

-- the same, where the view is below this one
pub raised-up-kept : (view : ℕ) (t : Turned)
    → kept (raise_up_to view t).stage ≡ kept_in t.stage.config t.stage.waiting t.stage.quiet (if works t.stage then number_if (nat_lt t.stage.life.view view) view else None)
raised-up-kept view t = go (works t.stage) (nat_lt t.stage.life.view view)
  where
    go : (w lt : Bool) → kept (when (w && lt) (raise_to view) t).stage ≡ kept_in t.stage.config t.stage.waiting t.stage.quiet (if w then number_if lt view else None)
    go true true = raised-kept view t
    go true false = refl
    go false lt = refl

-- the same of a suspicion
pub suspected-kept : (t : Turned)
    → kept (suspect t).stage ≡ kept_in t.stage.config t.stage.waiting t.stage.quiet (if works t.stage then next_led t.stage.config.n t.stage.config.me t.stage.life.view else None)
suspected-kept t = go (works t.stage) (next_led t.stage.config.n t.stage.config.me t.stage.life.view)
  where
    go : (w : Bool) (o : Option ℕ) → kept (when w (when_some o raise_to) t).stage ≡ kept_in t.stage.config t.stage.waiting t.stage.quiet (if w then o else None)
    go true (Some view) = raised-kept view t
    go true None = refl
    go false o = refl

-- ---- Messages

-- a Prepare
pub prepare-kept : (p : ℕ) (m : Prepare) (t : Turned) → kept (on_prepare p m t).stage
    ≡ kept_in t.stage.config t.stage.waiting t.stage.quiet (if works t.stage then number_if (leads t.stage p m.view && nat_lt t.stage.life.view m.view) m.view else None)
prepare-kept p m t = go (works t.stage) (leads t.stage p m.view) refl
  where
    go : (w l : Bool) → works t.stage ≡ w → kept (when (w && l) (λ u. u ▹ raise_up_to m.view ▹ promises_if p m) t).stage
        ≡ kept_in t.stage.config t.stage.waiting t.stage.quiet (if w then number_if (l && nat_lt t.stage.life.view m.view) m.view else None)
    go true true e =
        leaves-promises_if p m (raise_up_to m.view t) ∙ raised-up-kept m.view t
        ∙ ap (λ (b : Bool). kept_in t.stage.config t.stage.waiting t.stage.quiet (if b then number_if (nat_lt t.stage.life.view m.view) m.view else None)) e
    go true false e = refl
    go false l e = refl

-- a Propose
pub propose-kept : (p : ℕ) (m : Propose) (t : Turned) → kept (on_propose p m t).stage
    ≡ kept_in t.stage.config t.stage.waiting t.stage.quiet (if works t.stage then number_if (leads t.stage p m.view && nat_lt t.stage.life.view m.view) m.view else None)
propose-kept p m t = go (leads t.stage p m.view)
  where
    go : (l : Bool) → kept (when l (λ u. u ▹ horizon_to (suc m.instance) ▹ raise_up_to m.view ▹ notes m.instance m.view p (Some m.batch) ▹ votes_if m ▹ learn_check m.instance) t).stage
        ≡ kept_in t.stage.config t.stage.waiting t.stage.quiet (if works t.stage then number_if (l && nat_lt t.stage.life.view m.view) m.view else None)
    go true =
        let u : Turned = horizon_to (suc m.instance) t in
        let v : Turned = notes m.instance m.view p (Some m.batch) (raise_up_to m.view u) in
        leaves-learn_check m.instance (votes_if m v) ∙ leaves-votes_if m v ∙ raised-up-kept m.view u
    go false = none-kept t.stage (works t.stage)

-- a Recovery
pub recovery-kept : (p mark : ℕ) (t : Turned) → kept (on_recovery p mark t).stage
    ≡ kept_in t.stage.config t.stage.waiting t.stage.quiet (if works t.stage then number_if (is_view_ss t.stage.config.mode && nat_lt t.stage.life.view mark) mark else None)
recovery-kept p mark t = go (works t.stage) refl
  where
    deeper : (v : Bool) → works t.stage ≡ true → kept (answers p mark (when v (raise_up_to mark) t)).stage
        ≡ kept_in t.stage.config t.stage.waiting t.stage.quiet (number_if (v && nat_lt t.stage.life.view mark) mark)
    deeper true e =
        raised-up-kept mark t ∙ ap (λ (b : Bool). kept_in t.stage.config t.stage.waiting t.stage.quiet (if b then number_if (nat_lt t.stage.life.view mark) mark else None)) e
    deeper false e = refl

    go : (w : Bool) → works t.stage ≡ w → kept (when w (λ u. u ▹ when (is_view_ss u.stage.config.mode) (raise_up_to mark) ▹ answers p mark) t).stage
        ≡ kept_in t.stage.config t.stage.waiting t.stage.quiet (if w then number_if (is_view_ss t.stage.config.mode && nat_lt t.stage.life.view mark) mark else None)
    go true e = deeper (is_view_ss t.stage.config.mode) e
    go false e = refl

-- an Alive
pub alive-kept : (p : ℕ) (m : Alive) (t : Turned) → kept (on_alive p m t).stage
    ≡ kept_in t.stage.config t.stage.waiting t.stage.quiet (if works t.stage then number_if (leads t.stage p m.view && nat_lt t.stage.life.view m.view) m.view else None)
alive-kept p m t = go (leads t.stage p m.view)
  where
    go : (l : Bool) → kept (when l (λ u. u ▹ horizon_to m.first_undecided ▹ raise_up_to m.view) t).stage
        ≡ kept_in t.stage.config t.stage.waiting t.stage.quiet (if works t.stage then number_if (l && nat_lt t.stage.life.view m.view) m.view else None)
    go true = raised-up-kept m.view (horizon_to m.first_undecided t)
    go false = none-kept t.stage (works t.stage)

-- a message that a stage just took, with this number of quiet ticks
pub kind-kept : (s : Stage) (taken : List Taken) (quiet : ℕ) (deeds : List Deed) (from : LifeId) (m : Message)
    → kept (on_kind from.replica m (taking s taken quiet deeds)).stage ≡ kept_in s.config s.waiting quiet (entered_view s (Came from m))
kind-kept s taken quiet deeds from (Message.Prepare m) = prepare-kept from.replica m (taking s taken quiet deeds)
kind-kept s taken quiet deeds from (Message.PrepareOk m) =
    let t = taking s taken quiet deeds in
    leaves-when (prepares t.stage m.view m.mark) (horizon_to m.low) (λ u. refl) t ∙ none-kept t.stage (works s)
kind-kept s taken quiet deeds from (Message.Propose m) = propose-kept from.replica m (taking s taken quiet deeds)
kind-kept s taken quiet deeds from (Message.Accept m) =
    let t = taking s taken quiet deeds in
    leaves-learn_check m.instance (notes m.instance m.view from.replica None (horizon_to (suc m.instance) t)) ∙ none-kept t.stage (works s)
kind-kept s taken quiet deeds from (Message.Recovery m) = recovery-kept from.replica m.mark (taking s taken quiet deeds)
kind-kept s taken quiet deeds from (Message.RecoveryAnswer m) =
    let t = taking s taken quiet deeds in
    leaves-when (is_recovering t.stage.life.phase && (t.stage.life.mark == m.mark)) (when_some m.next horizon_to) (leaves-some m.next horizon_to (λ x u. refl)) t ∙ none-kept t.stage (works s)
kind-kept s taken quiet deeds from (Message.CatchUpQuery m) =
    let t = taking s taken quiet deeds in
    leaves-on_query from.replica m.first t ∙ none-kept t.stage (works s)
kind-kept s taken quiet deeds from (Message.CatchUpReply m) =
    let t = taking s taken quiet deeds in
    leaves-on_batches m.first m.batches t ∙ none-kept t.stage (works s)
kind-kept s taken quiet deeds from (Message.SnapshotPart m) =
    let t = taking s taken quiet deeds in
    leaves-on_part m t ∙ none-kept t.stage (works s)
kind-kept s taken quiet deeds from (Message.Alive m) = alive-kept from.replica m (taking s taken quiet deeds)

-- a message
pub came-kept : (s : Stage) (from : LifeId) (m : Message)
    → kept (on_message from m (untouched s)).stage ≡ kept_in s.config s.waiting (quiet_counted s (Came from m)) (entered_view s (Came from m))
came-kept s from m = go (leads s from.replica s.life.view)
  where
    t : Turned
    t = does (Deed.Take from m) (untouched s)

    go : (b : Bool) → kept (on_kind from.replica m (when b (with_stage (λ s. record s { quiet = 0 })) t)).stage
        ≡ kept_in s.config s.waiting (if b then 0 else s.quiet) (entered_view s (Came from m))
    go true = kind-kept s t.stage.life.taken 0 t.deeds from m
    go false = kind-kept s t.stage.life.taken s.quiet t.deeds from m

-- ---- Other items

-- a tick that a Working stage may count
pub counts-kept : (t : Turned) → works t.stage ≡ true → kept (when (nat_lt t.stage.quiet quiet_limit) counts_quiet t).stage
    ≡ kept_in t.stage.config t.stage.waiting (if nat_lt t.stage.quiet quiet_limit then suc t.stage.quiet else t.stage.quiet)
    (if suc t.stage.quiet == quiet_limit then next_led t.stage.config.n t.stage.config.me t.stage.life.view else None)
counts-kept t w = go (nat_lt t.stage.quiet quiet_limit) (suc t.stage.quiet == quiet_limit) refl refl
  where
    next : Option ℕ
    next = next_led t.stage.config.n t.stage.config.me t.stage.life.view

    u : Turned
    u = with_stage (λ s. record s { quiet = suc t.stage.quiet }) t

    go : (lt eq : Bool) → nat_lt t.stage.quiet quiet_limit ≡ lt → (suc t.stage.quiet == quiet_limit) ≡ eq → kept (when lt counts_quiet t).stage
        ≡ kept_in t.stage.config t.stage.waiting (if lt then suc t.stage.quiet else t.stage.quiet) (if eq then next else None)
    go true true e f =
        ap (λ (b : Bool). kept (when b suspect u).stage) f ∙ suspected-kept u
        ∙ ap (λ (b : Bool). kept_in t.stage.config t.stage.waiting (suc t.stage.quiet) (if b then next else None)) w
    go true false e f = ap (λ (b : Bool). kept (when b suspect u).stage) f
    go false true e f = absurd (grind (arith, nat_tests))
    go false false e f = refl

-- a tick
pub tick-kept : (s : Stage) → kept (on_tick (untouched s)).stage ≡ kept_in s.config s.waiting (quiet_counted s Tick) (entered_view s Tick)
tick-kept s = leaves-query_where_due (when (works s) on_tick_working t) ∙ go (works s) refl
  where
    t : Turned
    t = untouched s

    next : Option ℕ
    next = next_led s.config.n s.config.me s.life.view

    working : (own : Bool) → works s ≡ true → kept (t ▹ when own (says_to_all (alive_of s)) ▹ when (not own && nat_lt s.quiet quiet_limit) counts_quiet).stage
        ≡ kept_in s.config s.waiting (if not own && nat_lt s.quiet quiet_limit then suc s.quiet else s.quiet) (if not own && (suc s.quiet == quiet_limit) then next else None)
    working true w = leaves-says_to_all (alive_of s) t
    working false w = counts-kept t w

    go : (w : Bool) → works s ≡ w → kept (when w on_tick_working t).stage
        ≡ kept_in s.config s.waiting (if w && not (leads_own s) && nat_lt s.quiet quiet_limit then suc s.quiet else s.quiet)
        (if w then (if not (leads_own s) && (suc s.quiet == quiet_limit) then next else None) else None)
    go true e = working (leads_own s) e
    go false e = refl

-- the same in the words of the laws
pub in-words : (s : Stage) (quiet : ℕ) (o : Option ℕ) → kept_in s.config s.waiting quiet o ≡ record { quiet = if is_some o then 0 else quiet; waiting = waiting_in s o }
in-words s quiet None = refl
in-words s quiet (Some view) = refl

-- what an item makes of the ticks and of what waits
pub item-kept : (s : Stage) (item : Item) → kept (on_item item (untouched s)).stage ≡ record { quiet = quiet_after s item; waiting = waiting_after s item }
item-kept s (Came from m) = came-kept s from m ∙ in-words s (quiet_counted s (Came from m)) (entered_view s (Came from m))
item-kept s (Closed batch) = go (works s) (works s && is_leading s.life.leading && nat_lt (length s.waiting) waiting_limit)
  where
    go : (w b : Bool) → kept (when b (with_stage (λ s. record s { waiting = s.waiting ++ batch ∷ [] })) (untouched s)).stage
        ≡ record { quiet = if is_some {T = ℕ} (if w then None else None) then 0 else s.quiet; waiting = if b then s.waiting ++ batch ∷ [] else s.waiting }
    go true true = refl
    go true false = refl
    go false true = refl
    go false false = refl
item-kept s Tick = tick-kept s ∙ in-words s (quiet_counted s Tick) (entered_view s Tick)
item-kept s Suspect = suspected-kept (untouched s) ∙ in-words s (quiet_counted s Suspect) (entered_view s Suspect)
item-kept s (Snapped upto bytes) =
    leaves-when (nat_lt (place_of s.newest) upto && nat_le upto (first_undecided s))
    (with_stage (λ s. record s { base = place_of s.newest; newest = Some (record { place = upto; bytes = bytes; installed = false }) })) (λ u. refl) (untouched s)
    ∙ none-kept s (works s) ∙ in-words s s.quiet (entered_view s (Snapped upto bytes))

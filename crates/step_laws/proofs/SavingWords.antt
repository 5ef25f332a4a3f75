-- Which words of a turn save no number.
use Rattle.std.proofs.Common.{◌≡◌, ℕ, zero, suc, ◌-◌, max, Bool, true, false, ◌&&◌, not, List, [], ◌∷◌, ◌++◌, nat_lt, ◌==◌, Option, Some, None, is_some, refl, ap, ◌∙◌, append-nil}
use Rattle.jp_types.specs.declared.message.Message.{Message}
use Rattle.jp_types.specs.declared.message.Prepare.{Prepare}
use Rattle.jp_types.specs.declared.message.Propose.{Propose}
use Rattle.jp_types.specs.declared.message.SnapshotPart.{SnapshotPart}
use Rattle.jp_types.specs.Instances.{Batch, peer}
use Rattle.jp_types.specs.Reports.{decided_below}
use Rattle.kv_service.specs.Parts.{Joiner, is_joined, joined_bytes, takes_part, with_part}
use Rattle.kv_service.specs.Service.{State}
use Rattle.kv_service.specs.StateReading.{state_in}
use Rattle.paxos_world.specs.declared.step.Step.{Step}
use Rattle.paxos_world.specs.Life.{Leading, No, Preparing, Leads, next_of}
use Rattle.paxos_world.specs.World.{Deed}
use Rattle.paxos_world.specs.Stage.{Act, Show, Send, Hand, Save, Turned}
use Rattle.paxos_world.specs.Writing.{◌▹◌, when, when_some, for_each, for_range, with_stage, shows, sends, says, hands, others, sends_to_all, says_to_all}
use Rattle.paxos_world.specs.Logs.{report_from, first_undecided, is_known, is_in_span, tallied}
use Rattle.paxos_world.specs.Retransmitting.{arms_propose, cancels_prepare}
use Rattle.paxos_world.specs.Leading.{works}
use Rattle.paxos_world.specs.Learning.{notes, learns, learn_check, votes_for, propose_of, accept_of, launches}
use Rattle.paxos_world.specs.CatchingUp.{query_of, queries_peer, query_where_due, replied_batches, parts_of, on_query, learns_each, is_joining_above, joiner_for, keeps_joiner, installs, installs_if, has_part, puts_part, on_part}
use Rattle.paxos_world.specs.Messages.{vector_of, promises, promises_if, votes_on, votes_if, answers}
use Rattle.paxos_world.specs.Settling.{is_prepared, adoption_end, adopts, adopts_where, becomes_prepared, settles_leading, open_place, launches_waiting, next_handing, hands_on}
use Rattle.step_laws.specs.Kinds.{saved_in}

-- ---- Words that save none

-- the numbers that acts save are those of the first acts and those of the rest
pub saved_in-append : (xs ys : List Act) → saved_in (xs ++ ys) ≡ saved_in xs ++ saved_in ys
saved_in-append [] ys = refl
saved_in-append (Show step ∷ xs) ys = saved_in-append xs ys
saved_in-append (Send to m ∷ xs) ys = saved_in-append xs ys
saved_in-append (Hand d ∷ xs) ys = saved_in-append xs ys
saved_in-append (Save k ∷ xs) ys = ap (λ (zs : List ℕ). k ∷ zs) (saved_in-append xs ys)

-- a word saves none
abbrev pub Unsaved : (Turned → Turned) → Type 0
Unsaved f = (t : Turned) → saved_in (f t).acts ≡ saved_in t.acts

-- one more act that saves none changes nothing
pub unsaved-act : (a : Act) (xs : List Act) → saved_in (a ∷ []) ≡ [] → saved_in (xs ++ a ∷ []) ≡ saved_in xs
unsaved-act a xs e = saved_in-append xs (a ∷ []) ∙ ap (λ (zs : List ℕ). saved_in xs ++ zs) e ∙ append-nil (saved_in xs)

-- what is done where a test passes saves none if it saves none
pub unsaved-when : (b : Bool) (f : Turned → Turned) → Unsaved f → Unsaved (when b f)
unsaved-when true f q t = q t
unsaved-when false f q t = refl

-- what is done with a value saves none if it saves none
pub unsaved-some : {A : Type 0} (o : Option A) (f : A → Turned → Turned) → ((x : A) → Unsaved (f x)) → Unsaved (when_some o f)
unsaved-some None f q t = refl
unsaved-some (Some x) f q t = q x t

-- what is done with each saves none if it saves none
pub unsaved-each : {A : Type 0} (xs : List A) (f : A → Turned → Turned) → ((x : A) → Unsaved (f x)) → Unsaved (for_each xs f)
unsaved-each [] f q t = refl
unsaved-each (x ∷ xs) f q t = unsaved-each xs f q (f x t) ∙ q x t

-- what is done with each number of a range saves none if it saves none
pub unsaved-range : (k a : ℕ) (f : ℕ → Turned → Turned) → ((i : ℕ) → Unsaved (f i)) → Unsaved (for_range k a f)
unsaved-range zero a f q t = refl
unsaved-range (suc k) a f q t = unsaved-range k (suc a) f q (f a t) ∙ q a t

-- a message to all others saves none
pub unsaved-sends_to_all : (m : Message) → Unsaved (sends_to_all m)
unsaved-sends_to_all m t = unsaved-each (others t.stage.config) (λ q. sends q m) (λ q u. unsaved-act (Send q m) u.acts refl) t

-- the same with no step of its own
pub unsaved-says_to_all : (m : Message) → Unsaved (says_to_all m)
unsaved-says_to_all m t = unsaved-each (others t.stage.config) (λ q. says q m) (λ q u. unsaved-act (Send q m) u.acts refl) t

-- a shown step saves none
pub unsaved-shows : (step : Step) (d : Deed) → Unsaved (shows step d)
unsaved-shows step d t = unsaved-act (Show step) t.acts refl

-- learning saves none
pub unsaved-learns : (i : ℕ) (batch : Batch) → Unsaved (learns i batch)
unsaved-learns i batch t = unsaved-shows (Step.Learn t.stage.config.me i) (Deed.Learn i batch) t

-- learning by a tally saves none
pub unsaved-learn_check : (i : ℕ) → Unsaved (learn_check i)
unsaved-learn_check i t = unsaved-some (tallied t.stage i) (learns i) (unsaved-learns i) t

-- learning each of some batches saves none
pub unsaved-learns_each : (i : ℕ) (batches : List Batch) → Unsaved (learns_each i batches)
unsaved-learns_each i [] t = refl
unsaved-learns_each i (batch ∷ batches) t =
    unsaved-learns_each (suc i) batches (when (is_in_span t.stage i && not (is_known t.stage i)) (learns i batch) t)
    ∙ unsaved-when (is_in_span t.stage i && not (is_known t.stage i)) (learns i batch) (unsaved-learns i batch) t

-- a query that is due saves none
pub unsaved-query_where_due : Unsaved query_where_due
unsaved-query_where_due t =
    unsaved-when (nat_lt (first_undecided t.stage) t.stage.horizon) queries_peer
    (λ u. unsaved-act (Send (peer u.stage.config.me u.stage.config.n u.stage.queries) (query_of (first_undecided u.stage))) u.acts refl) t

-- the answer to a query saves none
pub unsaved-on_query : (p first : ℕ) → Unsaved (on_query p first)
unsaved-on_query p first t =
    let s = t.stage in
    let reply : Message = Message.CatchUpReply (record { first = first; batches = replied_batches s first }) in
    let parts : Turned → Turned = when_some s.newest (λ snapshot. for_each (parts_of snapshot) (says p)) in
    unsaved-when (not (nat_lt first s.base) && is_some (s.life.known first)) (says p reply) (λ u. unsaved-act (Send p reply) u.acts refl) (when (nat_lt first s.base) parts t)
    ∙ unsaved-when (nat_lt first s.base) parts
    (unsaved-some s.newest (λ snapshot. for_each (parts_of snapshot) (says p)) (λ snapshot. unsaved-each (parts_of snapshot) (says p) (λ m u. unsaved-act (Send p m) u.acts refl))) t

-- an Install saves none
pub unsaved-installs_if : (upto : ℕ) (bytes : List ℕ) (state : State) → Unsaved (installs_if upto bytes state)
unsaved-installs_if upto bytes state t =
    unsaved-when (state.executed == upto) (installs upto bytes state) (λ u. unsaved-act (Show (Step.Install u.stage.config.me upto)) u.acts refl) t

-- one more part saves none
pub unsaved-has_part : (j : Joiner) → Unsaved (has_part j)
unsaved-has_part j t =
    let joined : Turned → Turned = λ u. u ▹ keeps_joiner None ▹ when_some (state_in (joined_bytes j)) (installs_if j.upto (joined_bytes j)) in
    unsaved-when (is_joined j) joined
    (λ u. unsaved-some (state_in (joined_bytes j)) (installs_if j.upto (joined_bytes j)) (unsaved-installs_if j.upto (joined_bytes j)) (keeps_joiner None u))
    (when (not (is_joined j)) (keeps_joiner (Some j)) t)
    ∙ unsaved-when (not (is_joined j)) (keeps_joiner (Some j)) (λ u. refl) t

-- a part of a snapshot saves none
pub unsaved-on_part : (m : SnapshotPart) → Unsaved (on_part m)
unsaved-on_part m t =
    let s = t.stage in
    let j = joiner_for s.joiner m.upto m.total in
    unsaved-when (nat_lt (first_undecided s) m.upto && not (is_joining_above s.joiner m.upto)) (puts_part j m)
    (λ u. unsaved-when (not (takes_part j m)) (keeps_joiner (Some j)) (λ v. refl) (when (takes_part j m) (has_part (with_part j m)) u)
    ∙ unsaved-when (takes_part j m) (has_part (with_part j m)) (unsaved-has_part (with_part j m)) u) t

-- a promise to who asks saves none
pub unsaved-promises_if : (p : ℕ) (m : Prepare) → Unsaved (promises_if p m)
unsaved-promises_if p m t = unsaved-when (t.stage.life.view == m.view) (promises p m) one t
  where
    one : Unsaved (promises p m)
    one u =
        let s = u.stage in
        let step : Step = Step.Promise s.config.me m.view in
        let ok : Message = Message.PrepareOk (record { view = m.view; mark = m.mark; vector = vector_of s; low = s.base; report = report_from s m.first }) in
        unsaved-act (Send p ok) (u.acts ++ Show step ∷ []) refl ∙ unsaved-act (Show step) u.acts refl

-- a vote on a proposal saves none
pub unsaved-votes_if : (m : Propose) → Unsaved (votes_if m)
unsaved-votes_if m t =
    unsaved-when (works t.stage && (t.stage.life.view == m.view) && is_in_span t.stage m.instance) (votes_on m)
    (λ u. unsaved-sends_to_all (accept_of m.view m.instance) (notes m.instance m.view u.stage.config.me None (votes_for m.view m.instance m.batch u))
    ∙ unsaved-shows (Step.Vote u.stage.config.me m.view m.instance) (Deed.Vote m.view m.instance m.batch) u) t

-- an answer to a recovery saves none
pub unsaved-answers : (p mark : ℕ) → Unsaved (answers p mark)
unsaved-answers p mark t =
    let s = t.stage in
    let next = next_of s.life.leading in
    let step : Step = Step.Answer s.config.me p s.life.view next in
    let after : Turned = shows step (Deed.Answer p s.life.view next mark) t in
    let answer : Message = Message.RecoveryAnswer (record { mark = mark; view = s.life.view; vector = vector_of after.stage; next = next }) in
    unsaved-act (Send p answer) after.acts refl ∙ unsaved-act (Show step) t.acts refl

-- a launch saves none
pub unsaved-launches : (i : ℕ) (batch : Batch) → Unsaved (launches i batch)
unsaved-launches i batch t =
    let s = t.stage in
    let view = s.life.view in
    let m = propose_of view i batch in
    let a : Turned = shows (Step.Launch s.config.me view i batch) (Deed.Launch view i batch) t in
    let b : Turned = notes i view s.config.me (Some batch) (votes_for view i batch a) in
    unsaved-when (not (is_known s i)) (arms_propose i m) (λ u. refl) (sends_to_all m b)
    ∙ unsaved-sends_to_all m b
    ∙ unsaved-shows (Step.Vote s.config.me view i) (Deed.Vote view i batch) a
    ∙ unsaved-shows (Step.Launch s.config.me view i batch) (Deed.Launch view i batch) t

-- launching adopted batches saves none
pub unsaved-adopts_where : (leading : Leading) (from end : ℕ) → Unsaved (adopts_where leading from end)
unsaved-adopts_where No from end t = refl
unsaved-adopts_where (Preparing first) from end t = refl
unsaved-adopts_where (Leads lead) from end t = unsaved-range (end - from) from (adopts lead) one t
  where
    one : (i : ℕ) → Unsaved (adopts lead i)
    one i u =
        let learnt : Turned → Turned = when_some (decided_below u.stage.config.n lead.reports i) (learns i) in
        unsaved-launches i (lead.adopted i) (when (not (is_known u.stage i)) learnt u)
        ∙ unsaved-when (not (is_known u.stage i)) learnt (unsaved-some (decided_below u.stage.config.n lead.reports i) (learns i) (unsaved-learns i)) u

-- becoming Prepared saves none
pub unsaved-prepared : (leading : Leading) → Unsaved (settles_leading leading)
unsaved-prepared No t = refl
unsaved-prepared (Leads lead) t = refl
unsaved-prepared (Preparing first) t = unsaved-when (is_prepared t.stage first) (becomes_prepared first) one t
  where
    one : Unsaved (becomes_prepared first)
    one u =
        let s = u.stage in
        let end = adoption_end s first in
        let next = max end (first_undecided s) in
        let a : Turned = shows (Step.Prepared s.config.me s.life.view next) (Deed.Prepared s.life.view next) (cancels_prepare u) in
        unsaved-adopts_where a.stage.life.leading (max first s.base) end a ∙ unsaved-shows (Step.Prepared s.config.me s.life.view next) (Deed.Prepared s.life.view next) (cancels_prepare u)

-- launching what waits saves none
pub unsaved-waiting : (batches : List Batch) → Unsaved (launches_waiting batches)
unsaved-waiting [] t = refl
unsaved-waiting (batch ∷ batches) t =
    unsaved-some (open_place t.stage) (λ i u. launches_waiting batches (u ▹ with_stage (λ s. record s { waiting = batches }) ▹ launches i batch))
    (λ i u. let v : Turned = with_stage (λ s. record s { waiting = batches }) u in unsaved-waiting batches (launches i batch v) ∙ unsaved-launches i batch v) t

-- handing on saves none
pub unsaved-hands_on : (room : ℕ) → Unsaved (hands_on room)
unsaved-hands_on zero t = refl
unsaved-hands_on (suc room) t =
    unsaved-some (next_handing t.stage) (λ handing u. hands_on room (u ▹ with_stage (λ s. record s { handed = handing.1 }) ▹ hands handing.0))
    (λ handing u. unsaved-hands_on room (u ▹ with_stage (λ s. record s { handed = handing.1 }) ▹ hands handing.0) ∙ unsaved-act (Hand handing.0) u.acts refl) t

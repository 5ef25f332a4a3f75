-- Which messages the words of a turn send: the basic words, the words that send none, the words that send a message to each of some replicas, and raising the view.
use Rattle.std.proofs.Common.{◌≡◌, ℕ, zero, suc, Bool, true, false, ◌&&◌, not, List, [], ◌∷◌, ◌++◌, filter, map, nat_le, nat_lt, ◌==◌, Option, Some, None, if◌then◌else◌, refl, sym, ap, ◌∙◌, append-nil, append_assoc}
use Rattle.jp_types.specs.declared.message.Entry.{Entry}
use Rattle.jp_types.specs.declared.message.Message.{Message}
use Rattle.jp_types.specs.declared.message.Prepare.{Prepare}
use Rattle.jp_types.specs.declared.message.SnapshotPart.{SnapshotPart}
use Rattle.jp_types.specs.Instances.{Batch, span, reply_limit, known_from, peer}
use Rattle.jp_types.specs.Reports.{entry_by}
use Rattle.jp_types.specs.Vectors.{table}
use Rattle.jp_types.specs.Views.{leader, next_led, number_if}
use Rattle.kv_service.specs.Parts.{Joiner, is_joined, joined_bytes, takes_part, with_part}
use Rattle.kv_service.specs.Service.{State}
use Rattle.kv_service.specs.StateReading.{state_in}
use Rattle.paxos_world.specs.declared.step.Step.{Step}
use Rattle.paxos_world.specs.Counting.{entry_of}
use Rattle.paxos_world.specs.Life.{Taken, Life}
use Rattle.paxos_world.specs.World.{Deed}
use Rattle.paxos_world.specs.Stage.{Config, Stage, Act, Show, Send, Hand, Save, Turned}
use Rattle.paxos_world.specs.Writing.{◌▹◌, when, when_some, for_each, with_stage, shows, sends, says, saves, hands, others, sends_to_all, says_to_all}
use Rattle.paxos_world.specs.Logs.{is_in_span, is_known, first_undecided, tallied, entries_from, report_from}
use Rattle.paxos_world.specs.Retransmitting.{cancels_query}
use Rattle.paxos_world.specs.Leading.{works, leads, is_view_ss, prepare_of, begin_phase_1, drop_waiting, raise_to, raise_up_to, suspect}
use Rattle.paxos_world.specs.Learning.{learns, learn_check}
use Rattle.paxos_world.specs.CatchingUp.{query_of, replied_batches, learns_each, on_batches, is_joining_above, joiner_for, keeps_joiner, installs, installs_if, has_part, puts_part, on_part}
use Rattle.paxos_world.specs.Messages.{vector_of}
use Rattle.paxos_world.specs.Settling.{rejoin_view, rejoins, settles_rejoin, next_handing, hands_on}
use Rattle.step_laws.specs.Kinds.{sent_in}
use Rattle.step_laws.specs.Sent.{to_each, phase_1_sends}
use Rattle.step_laws.proofs.Launching.{undecided-same}
use Rattle.step_laws.proofs.Raising.{lifted, says_to_all-stage}

-- the messages that acts send are those of the first acts and those of the rest
pub sent_in-append : (xs ys : List Act) → sent_in (xs ++ ys) ≡ sent_in xs ++ sent_in ys
sent_in-append [] ys = refl
sent_in-append (Show step ∷ xs) ys = sent_in-append xs ys
sent_in-append (Send to m ∷ xs) ys = ap (λ (zs : List (ℕ × Message)). (to, m) ∷ zs) (sent_in-append xs ys)
sent_in-append (Hand d ∷ xs) ys = sent_in-append xs ys
sent_in-append (Save k ∷ xs) ys = sent_in-append xs ys

-- a word sends no message
abbrev pub Silent : (Turned → Turned) → Type 0
Silent f = (t : Turned) → sent_in (f t).acts ≡ sent_in t.acts

-- one more act that sends no message changes nothing
pub silent-act : (a : Act) (xs : List Act) → sent_in (a ∷ []) ≡ [] → sent_in (xs ++ a ∷ []) ≡ sent_in xs
silent-act a xs e = sent_in-append xs (a ∷ []) ∙ ap (λ (zs : List (ℕ × Message)). sent_in xs ++ zs) e ∙ append-nil (sent_in xs)

-- a shown step sends no message
pub silent-shows : (step : Step) (d : Deed) → Silent (shows step d)
silent-shows step d t = silent-act (Show step) t.acts refl

-- what is done where a test passes sends none if it sends none
pub silent-when : (b : Bool) (f : Turned → Turned) → Silent f → Silent (when b f)
silent-when true f q t = q t
silent-when false f q t = refl

-- what is done with a value sends none if it sends none
pub silent-some : {A : Type 0} (o : Option A) (f : A → Turned → Turned) → ((x : A) → Silent (f x)) → Silent (when_some o f)
silent-some None f q t = refl
silent-some (Some x) f q t = q x t

-- saving sends none
pub silent-saves : (k : ℕ) → Silent (saves k)
silent-saves k t = silent-act (Save k) t.acts refl

-- ---- Learning and catching up

-- learning sends none
pub silent-learns : (i : ℕ) (batch : Batch) → Silent (learns i batch)
silent-learns i batch t = silent-shows (Step.Learn t.stage.config.me i) (Deed.Learn i batch) t

-- learning by a tally sends none
pub silent-learn_check : (i : ℕ) → Silent (learn_check i)
silent-learn_check i t = silent-some (tallied t.stage i) (learns i) (silent-learns i) t

-- learning each of some batches sends none
pub silent-learns_each : (i : ℕ) (batches : List Batch) → Silent (learns_each i batches)
silent-learns_each i [] t = refl
silent-learns_each i (batch ∷ batches) t =
    silent-learns_each (suc i) batches (when (is_in_span t.stage i && not (is_known t.stage i)) (learns i batch) t)
    ∙ silent-when (is_in_span t.stage i && not (is_known t.stage i)) (learns i batch) (silent-learns i batch) t

-- known batches that came make the stage send none
pub silent-on_batches : (first : ℕ) (batches : List Batch) → Silent (on_batches first batches)
silent-on_batches first batches t = silent-learns_each first batches (cancels_query t)

-- an Install sends none
pub silent-installs_if : (upto : ℕ) (bytes : List ℕ) (state : State) → Silent (installs_if upto bytes state)
silent-installs_if upto bytes state t =
    silent-when (state.executed == upto) (installs upto bytes state) (λ u. silent-act (Show (Step.Install u.stage.config.me upto)) u.acts refl) t

-- one more part makes the stage send none
pub silent-has_part : (j : Joiner) → Silent (has_part j)
silent-has_part j t =
    let joined : Turned → Turned = λ u. u ▹ keeps_joiner None ▹ when_some (state_in (joined_bytes j)) (installs_if j.upto (joined_bytes j)) in
    silent-when (is_joined j) joined (λ u. silent-some (state_in (joined_bytes j)) (installs_if j.upto (joined_bytes j)) (silent-installs_if j.upto (joined_bytes j)) (keeps_joiner None u))
    (when (not (is_joined j)) (keeps_joiner (Some j)) t)
    ∙ silent-when (not (is_joined j)) (keeps_joiner (Some j)) (λ u. refl) t

-- a part of a snapshot makes the stage send none
pub silent-on_part : (m : SnapshotPart) → Silent (on_part m)
silent-on_part m t =
    let s = t.stage in
    let j = joiner_for s.joiner m.upto m.total in
    silent-when (nat_lt (first_undecided s) m.upto && not (is_joining_above s.joiner m.upto)) (puts_part j m)
    (λ u. silent-when (not (takes_part j m)) (keeps_joiner (Some j)) (λ v. refl) (when (takes_part j m) (has_part (with_part j m)) u)
    ∙ silent-when (takes_part j m) (has_part (with_part j m)) (silent-has_part (with_part j m)) u) t

-- ---- Settling

-- decisions that are handed on send none
pub silent-hands_on : (room : ℕ) → Silent (hands_on room)
silent-hands_on zero t = refl
silent-hands_on (suc room) t =
    silent-some (next_handing t.stage) (λ handing u. hands_on room (u ▹ with_stage (λ s. record s { handed = handing.1 }) ▹ hands handing.0))
    (λ handing u. silent-hands_on room (u ▹ with_stage (λ s. record s { handed = handing.1 }) ▹ hands handing.0) ∙ silent-act (Hand handing.0) u.acts refl) t

-- rejoining sends none
pub silent-rejoin : Silent settles_rejoin
silent-rejoin t =
    silent-some (rejoin_view t.stage) rejoins
    (λ view u. silent-act (Show (Step.Rejoin u.stage.config.me view)) (when (is_view_ss u.stage.config.mode && nat_lt u.stage.life.mark view) (saves view) u).acts refl
    ∙ silent-when (is_view_ss u.stage.config.mode && nat_lt u.stage.life.mark view) (saves view) (silent-saves view) u) t

-- ---- Words that send

-- a message that is sent is the last of all
pub adds-send : (to : ℕ) (m : Message) (xs : List Act) → sent_in (xs ++ Send to m ∷ []) ≡ sent_in xs ++ (to, m) ∷ []
adds-send to m xs = sent_in-append xs (Send to m ∷ [])

-- the messages of one list and then of another, behind what was sent before
pub adds-both : (a b c xs ys : List (ℕ × Message)) → c ≡ b ++ ys → b ≡ a ++ xs → c ≡ a ++ (xs ++ ys)
adds-both a b c xs ys e f = e ∙ ap (λ (zs : List (ℕ × Message)). zs ++ ys) f ∙ append_assoc a xs ys

-- a message goes to each of these replicas, sent by a step
pub adds-sends_each : (qs : List ℕ) (m : Message) (t : Turned) → sent_in (for_each qs (λ q. sends q m) t).acts ≡ sent_in t.acts ++ to_each qs m
adds-sends_each [] m t = sym (append-nil (sent_in t.acts))
adds-sends_each (q ∷ qs) m t =
    adds-both (sent_in t.acts) (sent_in (sends q m t).acts) (sent_in (for_each qs (λ q. sends q m) (sends q m t)).acts) ((q, m) ∷ []) (to_each qs m) (adds-sends_each qs m (sends q m t))
    (adds-send q m t.acts)

-- the same with no step of its own
pub adds-says_each : (qs : List ℕ) (m : Message) (t : Turned) → sent_in (for_each qs (λ q. says q m) t).acts ≡ sent_in t.acts ++ to_each qs m
adds-says_each [] m t = sym (append-nil (sent_in t.acts))
adds-says_each (q ∷ qs) m t =
    adds-both (sent_in t.acts) (sent_in (says q m t).acts) (sent_in (for_each qs (λ q. says q m) (says q m t)).acts) ((q, m) ∷ []) (to_each qs m) (adds-says_each qs m (says q m t))
    (adds-send q m t.acts)

-- a message goes to all others, sent by a step
pub adds-sends_to_all : (m : Message) (t : Turned) → sent_in (sends_to_all m t).acts ≡ sent_in t.acts ++ to_each (others t.stage.config) m
adds-sends_to_all m t = adds-sends_each (others t.stage.config) m t

-- the same with no step of its own
pub adds-says_to_all : (m : Message) (t : Turned) → sent_in (says_to_all m t).acts ≡ sent_in t.acts ++ to_each (others t.stage.config) m
adds-says_to_all m t = adds-says_each (others t.stage.config) m t

-- each of these messages goes to one replica
pub adds-says_one : (p : ℕ) (ms : List Message) (t : Turned) → sent_in (for_each ms (says p) t).acts ≡ sent_in t.acts ++ map (λ m. (p, m)) ms
adds-says_one p [] t = sym (append-nil (sent_in t.acts))
adds-says_one p (m ∷ ms) t =
    adds-both (sent_in t.acts) (sent_in (says p m t).acts) (sent_in (for_each ms (says p) (says p m t)).acts) ((p, m) ∷ []) (map (λ x. (p, x)) ms) (adds-says_one p ms (says p m t))
    (adds-send p m t.acts)

-- ---- What the messages of a stage tell

-- what the messages of a stage tell, but for its view and whether it leads
pub record Told : Type 0 where
  pub config : Config
  pub mark : ℕ
  pub taken : List Taken
  pub answered : List (ℕ × ℕ)
  pub votes : ℕ → Option (ℕ × Batch)
  pub known : ℕ → Option Batch
  pub base : ℕ
  pub horizon : ℕ
  pub queries : ℕ

-- what the messages of a stage tell
abbrev pub told : Stage → Told
told s =
    record {
      config = s.config;
      mark = s.life.mark;
      taken = s.life.taken;
      answered = s.life.answered;
      votes = s.life.votes;
      known = s.life.known;
      base = s.base;
      horizon = s.horizon;
      queries = s.queries;
    }

-- the entries of lives that know and voted the same
pub entries-same : (k : ℕ) (l m : Life) (i : ℕ) → m.known ≡ l.known → m.votes ≡ l.votes → entries_from k m i ≡ entries_from k l i
entries-same zero l m i known votes = refl
entries-same (suc k) l m i known votes =
    ap (λ (f : ℕ → Option Batch). entry_by i (f i) (m.votes i) ++ entries_from k m (suc i)) known
    ∙ ap (λ (f : ℕ → Option (ℕ × Batch)). entry_by i (l.known i) (f i) ++ entries_from k m (suc i)) votes
    ∙ ap (λ (es : List Entry). entry_by i (l.known i) (l.votes i) ++ es) (entries-same k l m (suc i) known votes)

-- the report of stages that know and voted the same, from the same base
pub report-same : (s u : Stage) (first : ℕ) → u.life.known ≡ s.life.known → u.life.votes ≡ s.life.votes → u.base ≡ s.base → report_from u first ≡ report_from s first
unfolding report_from
report-same s u first known votes base =
    ap (λ (b : ℕ). filter (λ e. nat_le first e.instance) (entries_from span u.life b)) base
    ∙ ap (λ (es : List Entry). filter (λ e. nat_le first e.instance) es) (entries-same span s.life u.life s.base known votes)

-- the batches that answer a query are those of stages that know the same
pub replied-same : (s u : Stage) (first : ℕ) → u.life.known ≡ s.life.known → replied_batches u first ≡ replied_batches s first
unfolding replied_batches
replied-same s u first known = ap (λ (f : ℕ → Option Batch). known_from reply_limit f first) known

-- the first undecided instance of stages that tell the same
pub undecided-told : (s u : Stage) → told u ≡ told s → first_undecided u ≡ first_undecided s
undecided-told s u e = undecided-same s u (ap (λ (k : Told). k.known) e) (ap (λ (k : Told). k.base) e)

-- the answer to a Prepare
abbrev pub ok_to : Stage → Prepare → Message
ok_to s m = Message.PrepareOk (record { view = m.view; mark = m.mark; vector = vector_of s; low = s.base; report = report_from s m.first })

-- it is the same of stages that tell the same
pub ok-told : (s u : Stage) (m : Prepare) → told u ≡ told s → ok_to u m ≡ ok_to s m
ok-told s u m e =
    ap (λ (k : Told). Message.PrepareOk (record { view = m.view; mark = m.mark; vector = table (entry_of k.config.mode k.config.me k.mark k.answered k.taken); low = k.base; report = report_from u m.first })) e
    ∙ ap (λ (es : List Entry). Message.PrepareOk (record { view = m.view; mark = m.mark; vector = vector_of s; low = s.base; report = es }))
    (report-same s u m.first (ap (λ (k : Told). k.known) e) (ap (λ (k : Told). k.votes) e) (ap (λ (k : Told). k.base) e))

-- the answer to a recovery of p
abbrev pub answer_in : Told → ℕ → ℕ → ℕ → Option ℕ → Message
answer_in k p mark view next =
    Message.RecoveryAnswer (record { mark = mark; view = view; vector = table (entry_of k.config.mode k.config.me k.mark ((p, mark) ∷ k.answered) k.taken); next = next })

-- the query of a stage, where one is due
abbrev pub due_query : Stage → List (ℕ × Message)
due_query s = if nat_lt (first_undecided s) s.horizon then (peer s.config.me s.config.n s.queries, query_of (first_undecided s)) ∷ [] else []

-- it is the same of stages that tell the same
pub due-told : (s u : Stage) → told u ≡ told s → due_query u ≡ due_query s
due-told s u e =
    ap (λ (k : Told). if nat_lt (first_undecided u) k.horizon then (peer k.config.me k.config.n k.queries, query_of (first_undecided u)) ∷ [] else []) e
    ∙ ap (λ (f : ℕ). if nat_lt f s.horizon then (peer s.config.me s.config.n s.queries, query_of f) ∷ [] else []) (undecided-told s u e)

-- ---- Raising the view

-- beginning phase 1 sends the Prepare to all others
pub begin-sends : (t : Turned) → sent_in (begin_phase_1 t).acts ≡ sent_in t.acts ++ to_each (others t.stage.config) (prepare_of t.stage (first_undecided t.stage))
begin-sends t =
    let s = t.stage in
    let first = first_undecided s in
    let t1 : Turned = shows (Step.Promise s.config.me s.life.view) (Deed.Open s.life.view first) t in
    adds-says_to_all (prepare_of s first) t1
    ∙ ap (λ (zs : List (ℕ × Message)). zs ++ to_each (others s.config) (prepare_of s first)) (silent-shows (Step.Promise s.config.me s.life.view) (Deed.Open s.life.view first) t)

-- up to where phase 1 may begin, nothing is sent
pub silent-lifted : (b : Bool) (view : ℕ) (t : Turned) → sent_in (lifted b view t).acts ≡ sent_in t.acts
silent-lifted b view t =
    silent-shows (Step.Enter t.stage.config.me view) (Deed.Enter view) (when b (saves view) t) ∙ silent-when b (saves view) (silent-saves view) t

-- raising the view sends the Prepare, where the replica leads it
pub raised-sends : (view : ℕ) (t : Turned) → sent_in (raise_to view t).acts ≡ sent_in t.acts ++ phase_1_sends t.stage (Some view)
raised-sends view t = go (is_view_ss t.stage.config.mode && nat_lt t.stage.stable view) (leads t.stage t.stage.config.me view)
  where
    prepare : ℕ → List (ℕ × Message)
    prepare first = to_each (others t.stage.config) (Message.Prepare (record { view = view; first = first; mark = t.stage.life.mark }))

    led : (b : Bool) → (lifted b view t).stage.config ≡ t.stage.config → sent_in (begin_phase_1 (lifted b view t)).acts ≡ sent_in t.acts ++ prepare (first_undecided t.stage)
    led true e =
        begin-sends (lifted true view t) ∙ ap (λ (zs : List (ℕ × Message)). zs ++ prepare (first_undecided (lifted true view t).stage)) (silent-lifted true view t)
        ∙ ap (λ (first : ℕ). sent_in t.acts ++ prepare first) (undecided-same t.stage (lifted true view t).stage refl refl)
    led false e =
        begin-sends (lifted false view t) ∙ ap (λ (zs : List (ℕ × Message)). zs ++ prepare (first_undecided (lifted false view t).stage)) (silent-lifted false view t)
        ∙ ap (λ (first : ℕ). sent_in t.acts ++ prepare first) (undecided-same t.stage (lifted false view t).stage refl refl)

    go : (b l : Bool) → sent_in (lifted b view t ▹ when l begin_phase_1 ▹ when (not l) drop_waiting).acts ≡ sent_in t.acts ++ (if l then prepare (first_undecided t.stage) else [])
    go true true = led true refl
    go false true = led false refl
    go true false = silent-lifted true view t ∙ sym (append-nil (sent_in t.acts))
    go false false = silent-lifted false view t ∙ sym (append-nil (sent_in t.acts))

-- beginning phase 1 leaves what the messages tell
pub begun-told : (t : Turned) → told (begin_phase_1 t).stage ≡ told t.stage
begun-told t =
    ap told (says_to_all-stage (others t.stage.config) (prepare_of t.stage (first_undecided t.stage)) (shows (Step.Promise t.stage.config.me t.stage.life.view) (Deed.Open t.stage.life.view (first_undecided t.stage)) t))

-- raising the view leaves it
pub raised-told : (view : ℕ) (t : Turned) → told (raise_to view t).stage ≡ told t.stage
raised-told view t = go (is_view_ss t.stage.config.mode && nat_lt t.stage.stable view) (leads t.stage t.stage.config.me view)
  where
    go : (b l : Bool) → told (lifted b view t ▹ when l begin_phase_1 ▹ when (not l) drop_waiting).stage ≡ told t.stage
    go true true = begun-told (lifted true view t)
    go false true = begun-told (lifted false view t)
    go true false = refl
    go false false = refl

-- raising the view up to this one sends the Prepare, where it is done
pub raised_up-sends : (view : ℕ) (t : Turned) → sent_in (raise_up_to view t).acts
    ≡ sent_in t.acts ++ phase_1_sends t.stage (if works t.stage then number_if (nat_lt t.stage.life.view view) view else None)
raised_up-sends view t = go (works t.stage) (nat_lt t.stage.life.view view)
  where
    go : (w lt : Bool) → sent_in (when (w && lt) (raise_to view) t).acts ≡ sent_in t.acts ++ phase_1_sends t.stage (if w then number_if lt view else None)
    go true true = raised-sends view t
    go true false = sym (append-nil (sent_in t.acts))
    go false lt = sym (append-nil (sent_in t.acts))

-- a suspicion sends the Prepare of the next view that the replica leads
pub suspect-sends : (t : Turned) → sent_in (suspect t).acts ≡ sent_in t.acts ++ phase_1_sends t.stage (if works t.stage then next_led t.stage.config.n t.stage.config.me t.stage.life.view else None)
suspect-sends t = go (works t.stage) (next_led t.stage.config.n t.stage.config.me t.stage.life.view)
  where
    go : (w : Bool) (o : Option ℕ) → sent_in (when w (when_some o raise_to) t).acts ≡ sent_in t.acts ++ phase_1_sends t.stage (if w then o else None)
    go true (Some view) = raised-sends view t
    go true None = sym (append-nil (sent_in t.acts))
    go false o = sym (append-nil (sent_in t.acts))

-- the Prepare of a view that is entered, of a stage that is alike
pub phase-same : (s u : Stage) (o : Option ℕ) → u.config ≡ s.config → u.life.mark ≡ s.life.mark → u.life.known ≡ s.life.known → u.base ≡ s.base → phase_1_sends u o ≡ phase_1_sends s o
phase-same s u None config mark known base = refl
phase-same s u (Some view) config mark known base =
    ap (λ (c : Config). if leader c.n view == c.me then to_each (others c) (Message.Prepare (record { view = view; first = first_undecided u; mark = u.life.mark })) else []) config
    ∙ ap (λ (k : ℕ). if leads s s.config.me view then to_each (others s.config) (Message.Prepare (record { view = view; first = first_undecided u; mark = k })) else []) mark
    ∙ ap (λ (f : ℕ). if leads s s.config.me view then to_each (others s.config) (Message.Prepare (record { view = view; first = f; mark = s.life.mark })) else []) (undecided-same s u known base)

-- no view is entered, whether the stage is Working or not
pub no-phase : (s : Stage) (w : Bool) → [] ≡ phase_1_sends s (if w then None else None)
no-phase s true = refl
no-phase s false = refl

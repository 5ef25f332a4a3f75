-- What is heard of the leader, and a tick, go as the model's.
use Rattle.std.proofs.Common.{◌≡◌, ◌≢◌, ◌∙◌, inr, inl, ℕ, zero, suc, ◌+◌, ◌-◌, ◌%◌, ◌≤◌, ◌<◌, Bool, true, false, ◌&&◌, not, List, [], ◌∷◌, nat_lt, ◌==◌, if◌then◌else◌, refl, sym, ap, subst, le_refl, arith}
use Rattle.std.proofs.Math.Nat.{mod-lt, mod-eq_of_lt, add-mod_left}
use Rattle.paxos_world.proofs.Basics.{lt_or_le}
use Rattle.jp_types.specs.declared.message.Message.{Message}
use Rattle.jp_types.specs.Instances.{peer}
use Rattle.jp_types.specs.ReplicaSets.{no_members, with_member}
use Rattle.paxos_world.specs.Stage.{Stage}
use Rattle.paxos_world.specs.Stage as model
use Rattle.paxos_world.specs.Writing.{◌▹◌, when, with_stage, says_to_all}
use Rattle.paxos_world.specs.Logs as logs
use Rattle.paxos_world.specs.Leading as leading
use Rattle.paxos_world.specs.Learning as learning
use Rattle.paxos_world.specs.CatchingUp as catching
use Rattle.paxos_world.specs.Turn as model_turn
use Rattle.core_laws.proofs.LogLemmas.{logs_are_read}
use Rattle.replica_log.specs.Log as log
use Rattle.protocol_core.specs.declared.act.Topic.{Topic}
use Rattle.protocol_core.specs.declared.life.Life.{Life}
use Rattle.protocol_core.specs.CatchingUp as catching_up
use Rattle.protocol_core.specs.Leading as raising
use Rattle.protocol_core.specs.Sending.{sent_to_all}
use Rattle.protocol_core.specs.Turning as turning
use Rattle.protocol_core.specs.Turned.{stay}
use Rattle.protocol_core.specs.Voting as voting
use Rattle.protocol_laws.specs.Arming.{Arming, arming_of, armed_for, cancelled_for, members_below}
use Rattle.protocol_laws.specs.Keeping.{Cores, life_in}
use Rattle.protocol_laws.specs.Coming.{IsAddressed, IsRepeatable}
use Rattle.protocol_laws.specs.Following.{Follows}
use Rattle.protocol_laws.proofs.Goes.{Goes, GoesHear, GoesAlive, GoesTick}
use Rattle.protocol_laws.proofs.Others.{member-one}
use Rattle.protocol_laws.proofs.Steps.{stays, and-then, chooses, said-to-all}
use Rattle.protocol_laws.proofs.Changing.{same-led}
use Rattle.protocol_laws.proofs.Raising.{goes-raise-up, goes-suspect}
use Rattle.protocol_laws.proofs.Taking.{goes-quiet, goes-horizon}

-- ---- The leader is heard

-- the leader of the own view was heard, where the replica is it
pub goes-hear : GoesHear
goes-hear p t c = go (leading.leads t.stage p t.stage.life.view)
  where
    go : (b : Bool) → Follows t (when b (with_stage (λ s. record s { quiet = 0 })) t) (stay (if b then record (life_in t.stage c) { quiet = 0 } else life_in t.stage c))
    go true = goes-quiet t c 0
    go false = stays t c

-- the leader's word that it is alive
pub goes-alive : GoesAlive
goes-alive p m t c =
    chooses (leading.leads s p m.view) (λ u. u ▹ learning.horizon_to m.first_undecided ▹ leading.raise_up_to m.view) t
    (raising.raised_up_to (voting.horizon_to (life_in s c) m.first_undecided) m.view) (stay (life_in s c)) (λ e. heard) (λ e. stays t c)
  where
    s : Stage
    s = t.stage

    heard : Follows t (t ▹ learning.horizon_to m.first_undecided ▹ leading.raise_up_to m.view) (raising.raised_up_to (voting.horizon_to (life_in s c) m.first_undecided) m.view)
    heard =
        let t1 = learning.horizon_to m.first_undecided t in
        let h1 = goes-horizon m.first_undecided t c in
        let h2 = goes-raise-up m.view t1 h1.keeps.cores in
        and-then t t1 (leading.raise_up_to m.view t1) (stay (voting.horizon_to (life_in s c) m.first_undecided)) (λ (l : Life). raising.raised_up_to l m.view) h1 h2

-- ---- A tick

-- Alive goes to all others
goes-says-alive : (t : model.Turned) (c : Cores t.stage) → Follows t (says_to_all (model_turn.alive_of t.stage) t) (sent_to_all (turning.alive_of (life_in t.stage c)) (life_in t.stage c))
goes-says-alive t c =
    let read = logs_are_read t.stage c.log c.kept in
    subst (λ (first : ℕ). Follows t (says_to_all (model_turn.alive_of t.stage) t) (sent_to_all (Message.Alive (record { view = t.stage.life.view; first_undecided = first })) (life_in t.stage c)))
    (sym read.first_undecided) (said-to-all t c (model_turn.alive_of t.stage) tt)

-- one more tick without a message of the leader, who is then suspected at the limit
goes-counts-quiet : (t : model.Turned) (c : Cores t.stage) → Follows t (model_turn.counts_quiet t) (turning.suspected_if_quiet (record (life_in t.stage c) { quiet = suc t.stage.quiet }))
goes-counts-quiet t c =
    let quiet = suc t.stage.quiet in
    let t1 = with_stage (λ s. record s { quiet = quiet }) t in
    let h1 = goes-quiet t c quiet in
    let c1 = h1.keeps.cores in
    let h2 = chooses (quiet == turning.quiet_limit) leading.suspect t1 (raising.suspected (life_in t1.stage c1)) (stay (life_in t1.stage c1)) (λ e. goes-suspect t1 c1) (λ e. stays t1 c1) in
    and-then t t1 (when (quiet == turning.quiet_limit) leading.suspect t1) (stay (record (life_in t.stage c) { quiet = quiet })) turning.suspected_if_quiet h1 h2

-- a tick at a Working life
goes-ticks-working : Goes model_turn.on_tick_working turning.on_tick_working
goes-ticks-working t c = go (leading.leads_own t.stage)
  where
    s : Stage
    s = t.stage

    counted : Follows t (when (nat_lt s.quiet model_turn.quiet_limit) model_turn.counts_quiet t) (turning.tick_counted (life_in s c))
    counted = chooses (nat_lt s.quiet model_turn.quiet_limit) model_turn.counts_quiet t (turning.suspected_if_quiet (record (life_in s c) { quiet = suc s.quiet })) (stay (life_in s c)) (λ e. goes-counts-quiet t c) (λ e. stays t c)

    go : (b : Bool)
        → Follows t (t ▹ when b (says_to_all (model_turn.alive_of s)) ▹ when (not b && nat_lt s.quiet model_turn.quiet_limit) model_turn.counts_quiet)
        (if b then sent_to_all (turning.alive_of (life_in s c)) (life_in s c) else turning.tick_counted (life_in s c))
    go true = goes-says-alive t c
    go false = counted

-- ---- Queries

-- a set of one replica has it alone for a member
pub one-member : (p : ℕ) → p < 9 → members_below 9 (with_member no_members p) ≡ p ∷ []
one-member zero lt = refl
one-member (suc zero) lt = refl
one-member (suc (suc zero)) lt = refl
one-member (suc (suc (suc zero))) lt = refl
one-member (suc (suc (suc (suc zero)))) lt = refl
one-member (suc (suc (suc (suc (suc zero))))) lt = refl
one-member (suc (suc (suc (suc (suc (suc zero)))))) lt = refl
one-member (suc (suc (suc (suc (suc (suc (suc zero))))))) lt = refl
one-member (suc (suc (suc (suc (suc (suc (suc (suc zero)))))))) lt = refl
one-member (suc (suc (suc (suc (suc (suc (suc (suc (suc p))))))))) lt = absurd (omega arith)

-- a query goes to a replica below n
peer-below : (me n queries : ℕ) → 3 ≤ n → peer me n queries < n
peer-below me n queries le = mod-lt (me + 1 + queries % (n - 1)) (omega arith)

-- it goes to another replica
peer-other : (me n queries : ℕ) → 3 ≤ n → me < n → peer me n queries ≢ me
peer-other me n queries le lt same = elim (lt_or_le (me + 1 + step) n) [
  | inl small ↦ (let is = mod-eq_of_lt small in absurd (omega arith))
  | inr large ↦ (
      let over : ℕ = me + 1 + step - n in
      let whole : n + over ≡ me + 1 + step = omega arith in
      let is : (me + 1 + step) % n ≡ over % n = ap (λ (k : ℕ). k % n) (sym whole) ∙ add-mod_left n over in
      let less : over < n = omega arith in
      let stays = mod-eq_of_lt less in
      absurd (omega arith))
]
  where
    step : ℕ
    step = queries % (n - 1)

    few : step < n - 1
    few = mod-lt queries (omega arith)

-- a query from this instance on goes out to a replica
goes-query-from : (t : model.Turned) (c : Cores t.stage)
    → Follows t (catching.queries_peer t)
    (catching_up.query_sent (life_in t.stage c) (peer t.stage.config.me t.stage.config.n t.stage.queries) (catching_up.query_of (logs.first_undecided t.stage)))
goes-query-from t c =
    record {
      config = refl;
      keeps = record { cores = same-led s c s.stable s.horizon s.quiet ((s.queries + 1) % (s.config.n - 1)) s.waiting (armed (to ∷ [])); is = refl };
      acts = refl;
      arming = ap armed (sym (one-member to lt));
      sends = (record { below = inside; other = apart; may = tt }, (repeated, tt));
      handed = le_refl _;
      hands = tt;
      service = refl;
    }
  where
    s : Stage
    s = t.stage

    to : ℕ
    to = peer s.config.me s.config.n s.queries

    armed : List ℕ → Arming
    armed members = armed_for Topic.Query (record { message = catching.query_of (logs.first_undecided s); to = members }) (cancelled_for Topic.Query (arming_of s))

    inside : to < s.config.n
    inside = peer-below s.config.me s.config.n s.queries c.within.0

    apart : to ≢ s.config.me
    apart = peer-other s.config.me s.config.n s.queries c.within.0 c.within.2

    lt : to < 9
    lt = let below = inside in let nine = c.within.1 in omega arith

    repeated : IsRepeatable s.config (record { to = with_member no_members to; message = catching.query_of (logs.first_undecided s) })
    repeated q e =
        let same : q ≡ to = member-one to q lt e in
        subst (λ (k : ℕ). IsAddressed s.config k (catching.query_of (logs.first_undecided s))) (sym same) (record { below = inside; other = apart; may = tt })

-- a query goes out where one is due
goes-query-due : Goes catching.query_where_due catching_up.queried_if_due
goes-query-due t c =
    subst (λ (first : ℕ). Follows t (catching.query_where_due t) (if nat_lt first s.horizon then catching_up.query_sent (life_in s c) to (catching_up.query_of first) else stay (life_in s c))) (sym read) due
  where
    s : Stage
    s = t.stage

    to : ℕ
    to = peer s.config.me s.config.n s.queries

    read : log.first_undecided c.log ≡ logs.first_undecided s
    read = (logs_are_read s c.log c.kept).first_undecided

    due : Follows t (catching.query_where_due t)
        (if nat_lt (logs.first_undecided s) s.horizon then catching_up.query_sent (life_in s c) to (catching_up.query_of (logs.first_undecided s)) else stay (life_in s c))
    due = chooses (nat_lt (logs.first_undecided s) s.horizon) catching.queries_peer t (catching_up.query_sent (life_in s c) to (catching_up.query_of (logs.first_undecided s))) (stay (life_in s c)) (λ e. goes-query-from t c) (λ e. stays t c)

-- a tick
pub goes-tick : GoesTick
goes-tick t c =
    let s = t.stage in
    let t1 = when (leading.works s) model_turn.on_tick_working t in
    let h1 = chooses (leading.works s) model_turn.on_tick_working t (turning.on_tick_working (life_in s c)) (stay (life_in s c)) (λ e. goes-ticks-working t c) (λ e. stays t c) in
    let h2 = goes-query-due t1 h1.keeps.cores in
    and-then t t1 (catching.query_where_due t1) (turning.on_tick_if_working (life_in s c)) catching_up.queried_if_due h1 h2

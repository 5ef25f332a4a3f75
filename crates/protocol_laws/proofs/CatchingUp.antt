-- Batches that wait, queries, and known batches that answer a query go as the model's.
use Rattle.std.proofs.Common.{◌≡◌, take, zero, drop, ℕ, ◌≤◌, ◌<◌, ◌^◌, Bool, true, false, ◌&&◌, not, List, [], ◌∷◌, ◌++◌, length, map, nat_le, nat_lt, Option, Some, None, is_some, if◌then◌else◌, refl, le_refl, sym, subst, arith, suc, ◌+◌, min, inl, inr}
use Rattle.jp_types.specs.Instances.{Batch, span}
use Rattle.paxos_world.specs.Life.{Leading, No, Preparing, Leads}
use Rattle.paxos_world.specs.Stage.{Stage}
use Rattle.paxos_world.specs.Stage as model
use Rattle.paxos_world.specs.Writing.{◌▹◌, when, when_some, for_each, with_stage, says}
use Rattle.paxos_world.specs.Leading.{works, is_leading}
use Rattle.paxos_world.specs.Turn as model_turn
use Rattle.proposer_core.specs.Proposing as proposing
use Rattle.core_laws.specs.PrepareLaws.{leading_as}
use Rattle.std.specs.Option.{option_map}
use Rattle.std.proofs.lemmas.Bool.Decides.{nat_tests}
use Rattle.jp_types.specs.declared.message.Message.{Message}
use Rattle.jp_types.specs.declared.message.SnapshotPart.{SnapshotPart}
use Rattle.paxos_world.specs.CatchingUp as catching
use Rattle.catch_up.specs.declared.reply.Given.{Given}
use Rattle.catch_up.specs.declared.reply.Given.TheVariants as given
use Rattle.snapshots.specs.Cutting as cutting
use Rattle.snapshots.proofs.Cuts.{parts-messages}
use Rattle.core_laws.proofs.AcceptLemmas.{answers_alike}
use Rattle.protocol_core.specs.declared.act.Act.{Act}
use Rattle.protocol_core.specs.declared.life.Life.{Life}
use Rattle.protocol_core.specs.CatchingUp as catching_up
use Rattle.protocol_core.specs.Turned.{Turned, stay, followed_by}
use Rattle.protocol_laws.specs.Keeping.{Cores, life_in, snapshot_of}
use Rattle.std.proofs.lemmas.List.{length-take}
use Rattle.kv_service.specs.Parts.{part_count, part_size}
use Rattle.protocol_laws.specs.Coming.{IsAddressed}
use Rattle.protocol_laws.specs.Following.{Follows}
use Rattle.protocol_laws.proofs.Goes.{GoesBatch, GoesQuery, GoesLearnOpen, GoesBatches, IsOther}
use Rattle.protocol_laws.proofs.Steps.{stays, changes, and-then, append-nil}
use Rattle.protocol_laws.proofs.Same.{other-stage, other-cores}
use Rattle.jp_types.specs.Views.{number_limit}
use Rattle.paxos_world.specs.Logs as logs
use Rattle.paxos_world.specs.Learning as learning
use Rattle.paxos_world.specs.Retransmitting.{free_armed, cancels_query}
use Rattle.paxos_world.proofs.Basics.{lt_or_le}
use Rattle.replica_log.specs.Log.{is_known}
use Rattle.acceptor_core.specs.Learning.{is_open}
use Rattle.protocol_core.specs.declared.act.Topic.{Topic}
use Rattle.protocol_core.specs.Launching as launching
use Rattle.protocol_core.specs.Sending.{does}
use Rattle.protocol_core.specs.Voting.{up}

-- ---- Closed batches

-- a proposer leads where the life does
leading-alike : (leading : Leading) (view mark : ℕ) → proposing.is_leading (leading_as leading view mark) ≡ is_leading leading
leading-alike No view mark = refl
leading-alike (Preparing first) view mark = refl
leading-alike (Leads lead) view mark = refl

-- a closed batch waits where the model lets it wait
pub goes-batch : GoesBatch
goes-batch batch t c =
    subst (λ (d : Bool). Follows t (model_turn.on_batch batch t) (stay (if works t.stage && d && nat_lt (length t.stage.waiting) model_turn.waiting_limit then longer else life)))
    (sym (leading-alike t.stage.life.leading t.stage.life.view t.stage.life.mark))
    (go (works t.stage && is_leading t.stage.life.leading && nat_lt (length t.stage.waiting) model_turn.waiting_limit))
  where
    life : Life
    life = life_in t.stage c

    waiting : List Batch
    waiting = t.stage.waiting ++ batch ∷ []

    longer : Life
    longer = record life { waiting = waiting }

    cores : Cores (other-stage t.stage waiting t.stage.joiner t.stage.handed t.stage.slots t.stage.armed_query)
    cores = other-cores t.stage c waiting t.stage.joiner t.stage.handed t.stage.slots t.stage.armed_query c.fit.joiner (le_refl _)

    go : (b : Bool) → Follows t (when b (with_stage (λ s. record s { waiting = s.waiting ++ batch ∷ [] })) t) (stay (if b then longer else life))
    go true = changes t (record t { stage = other-stage t.stage waiting t.stage.joiner t.stage.handed t.stage.slots t.stage.armed_query }) longer refl (record { cores = cores; is = refl }) refl refl refl refl
    go false = stays t c

-- ---- Queries

-- a message goes to p as the model's does
said-one : (p : ℕ) (m : Message) (t : model.Turned) (c : Cores t.stage) → IsAddressed t.stage.config p m → Follows t (says p m t) (record { life = life_in t.stage c; acts = Act.Send p m ∷ [] })
said-one p m t c fit =
    record { config = refl; keeps = record { cores = c; is = refl }; acts = refl; arming = refl; sends = (fit, tt); handed = le_refl _; hands = tt; service = refl }

-- each of these parts is of a state within the limit, and at most a part's size
abbrev AreSmall : List SnapshotPart → Type 0
AreSmall [] = Unit {0}
AreSmall (part ∷ parts) = ((part.total ≤ 2 ^ 28) × (length part.bytes ≤ part_size)) × AreSmall parts

-- what is taken is at most what was asked for
take-most : {A : Type 0} (n : ℕ) (xs : List A) → length (take n xs) ≤ n
take-most n xs = let is = length-take n xs in omega arith

-- the parts of a small state are
cut-small : (k upto : ℕ) (bytes : List ℕ) (at : ℕ) → length bytes ≤ 2 ^ 28 → AreSmall (cutting.cut_from k upto bytes at)
cut-small zero upto bytes at le = tt
cut-small (suc k) upto bytes at le = ((le, take-most part_size (drop at bytes)), cut-small k upto bytes (at + part_size) le)

-- parts go to p in order
parts-said : (p : ℕ) (parts : List SnapshotPart) (t : model.Turned) (c : Cores t.stage) → IsOther p t.stage → AreSmall parts
    → Follows t (for_each (map (λ part. Message.SnapshotPart part) parts) (says p) t) (record { life = life_in t.stage c; acts = catching_up.each_sent p parts })
parts-said p [] t c other small = stays t c
parts-said p (part ∷ parts) t c other small =
    let u = says p (Message.SnapshotPart part) t in
    let k : Turned = record { life = life_in t.stage c; acts = Act.Send p (Message.SnapshotPart part) ∷ [] } in
    let one = said-one p (Message.SnapshotPart part) t c (record { below = other.0; other = other.1; may = small.0 }) in
    and-then t u (for_each (map (λ part. Message.SnapshotPart part) parts) (says p) u) k (λ (l : Life). record { life = l; acts = catching_up.each_sent p parts })
    one (parts-said p parts u one.keeps.cores other small.1)

-- a snapshot goes to p in the model's parts
snapshot-said : (p : ℕ) (snapshot : model.Snapshot) (t : model.Turned) (c : Cores t.stage) → IsOther p t.stage → t.stage.newest ≡ Some snapshot
    → Follows t (for_each (catching.parts_of snapshot) (says p) t) (record { life = life_in t.stage c; acts = catching_up.snapshot_sent p (snapshot_of snapshot) })
snapshot-said p snapshot t c other e =
    let size = (c.fit.newest snapshot e).size in
    let small : nat_le (length snapshot.bytes) (2 ^ 28) ≡ true = grind (arith, nat_tests) in
    let parts = cutting.parts_of snapshot.place snapshot.bytes in
    subst (λ (b : Bool). Follows t (for_each (catching.parts_of snapshot) (says p) t) (record { life = life_in t.stage c; acts = if b then catching_up.each_sent p parts else [] })) (sym small)
    (subst (λ (ms : List Message). Follows t (for_each ms (says p) t) (record { life = life_in t.stage c; acts = catching_up.each_sent p parts })) (parts-messages snapshot.place snapshot.bytes)
    (parts-said p parts t c other (cut-small (part_count (length snapshot.bytes)) snapshot.place snapshot.bytes 0 size)))

-- the newest snapshot goes to p, if there is one
newest-said : (p : ℕ) (o : Option model.Snapshot) (t : model.Turned) (c : Cores t.stage) → IsOther p t.stage → t.stage.newest ≡ o
    → Follows t (when_some o (λ snapshot. for_each (catching.parts_of snapshot) (says p)) t) (record { life = life_in t.stage c; acts = catching_up.newest_sent p (option_map snapshot_of o) })
newest-said p None t c other e = stays t c
newest-said p (Some snapshot) t c other e = snapshot-said p snapshot t c other e

-- a query is answered as the model answers it
pub goes-query : GoesQuery
goes-query p first t c other =
    subst (λ (g : Given). Follows t (catching.on_query p first t) (record { life = life; acts = catching_up.given_sent life p first g })) (sym (answers_alike.reply s c.log first c.kept))
    (go (nat_lt first s.base) (is_some (s.life.known first)))
  where
    s : Stage
    s = t.stage

    life : Life
    life = life_in s c

    batches : List Batch
    batches = catching.replied_batches s first

    go : (b k : Bool)
        → Follows t
        (t ▹ when b (when_some s.newest (λ snapshot. for_each (catching.parts_of snapshot) (says p))) ▹ when (not b && k) (says p (Message.CatchUpReply (record { first = first; batches = batches }))))
        (record { life = life; acts = catching_up.given_sent life p first (if b then given.Offer else (if k then given.Batches batches else given.Nothing)) })
    go true k = newest-said p s.newest t c other refl
    go false true = said-one p (Message.CatchUpReply (record { first = first; batches = batches })) t c (record { below = other.0; other = other.1; may = tt })
    go false false = stays t c

-- ---- Known batches

-- the armed query is cancelled as the model cancels it
pub query-cancelled : (t : model.Turned) (c : Cores t.stage) → Follows t (cancels_query t) (does (Act.Cancel Topic.Query) (life_in t.stage c))
query-cancelled t c =
    let s = t.stage in
    record { config = refl; keeps = record { cores = other-cores s c s.waiting s.joiner s.handed (free_armed s.slots s.armed_query) None c.fit.joiner (le_refl _); is = refl }; acts = sym (append-nil t.acts); arming = refl; sends = tt; handed = le_refl _; hands = tt; service = refl }

-- below the limit of numbers one more is a number of the machine
up-is : (i : ℕ) → i < 2 ^ 48 → up i ≡ suc i
up-is i lt = omega arith

-- one more than a number from the limit on is such a number
up-above : (i : ℕ) → 2 ^ 48 ≤ i → 2 ^ 48 ≤ up i
up-above i le = omega arith

-- from the limit on nothing is in span
none-open : (base end i : ℕ) (known : Bool) → 2 ^ 48 ≤ i → ((nat_le base i && nat_lt i (min end number_limit)) && not known) ≡ false
none-open base end i known le = by (nat_le base i) (nat_lt i (min end number_limit)) past
  where
    past : nat_lt i (min end number_limit) ≡ false
    past = grind (arith, nat_tests)

    by : (a b : Bool) → b ≡ false → ((a && b) && not known) ≡ false
    by true b e = rw e refl
    by false b e = refl

module _ (learn-open : GoesLearnOpen) where
  -- from the limit on nothing is learned on either side
  learns-none : (i j : ℕ) (batches : List Batch) (t : model.Turned) (c : Cores t.stage) → 2 ^ 48 ≤ i → 2 ^ 48 ≤ j → Follows t (catching.learns_each i batches t) (catching_up.learned_each (life_in t.stage c) j batches)
  learns-none i j [] t c a b = stays t c
  learns-none i j (batch ∷ batches) t c a b =
      let s = t.stage in
      let log = c.log in
      let off : (logs.is_in_span s i && not (logs.is_known s i)) ≡ false = none-open s.base (s.base + span) i (logs.is_known s i) a in
      let shut : is_open log j ≡ false = none-open log.base (log.base + span) j (is_known log j) b in
      let rest = learns-none (suc i) (up j) batches t c (omega arith) (up-above j b) in
      subst (λ (x : Bool). Follows t (catching.learns_each (suc i) batches (when x (learning.learns i batch) t)) (catching_up.learned_each (life_in s c) j (batch ∷ batches))) (sym off)
      (subst (λ (x : Bool). Follows t (catching.learns_each (suc i) batches t) (followed_by (if x then launching.learned (life_in s c) j batch else stay (life_in s c)) (λ (next : Life). catching_up.learned_each next (up j) batches))) (sym shut)
      rest)

  -- each batch is learned where the model learns it
  learns-each : (i : ℕ) (batches : List Batch) (t : model.Turned) (c : Cores t.stage) → Follows t (catching.learns_each i batches t) (catching_up.learned_each (life_in t.stage c) i batches)
  learns-each i [] t c = stays t c
  learns-each i (batch ∷ batches) t c = elim (lt_or_le i (2 ^ 48)) [
    | inl lt ↦ (
        let u : model.Turned = when (logs.is_in_span t.stage i && not (logs.is_known t.stage i)) (learning.learns i batch) t in
        let one = learn-open i batch t c in
        let rest = learns-each (suc i) batches u one.keeps.cores in
        let next = subst (λ (k : ℕ). Follows u (catching.learns_each (suc i) batches u) (catching_up.learned_each (life_in u.stage one.keeps.cores) k batches)) (sym (up-is i lt)) rest in
        and-then t u (catching.learns_each (suc i) batches u) (launching.learned_if_open (life_in t.stage c) i batch) (λ (l : Life). catching_up.learned_each l (up i) batches) one next)
    | inr ge ↦ learns-none i i (batch ∷ batches) t c ge ge
  ]

  -- batches that answer a query are learned as the model learns them
  pub goes-batches : GoesBatches
  goes-batches first batches t c =
      let u = cancels_query t in
      let one = query-cancelled t c in
      and-then t u (catching.learns_each first batches u) (does (Act.Cancel Topic.Query) (life_in t.stage c)) (λ (l : Life). catching_up.learned_each l first batches) one
      (learns-each first batches u one.keeps.cores)

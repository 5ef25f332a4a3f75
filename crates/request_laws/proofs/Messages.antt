-- An item makes a stage send no Propose, and a launch sends one of its batch.
use Rattle.std.proofs.Common.{◌≡◌, ℕ, zero, suc, ◌+◌, ◌-◌, max, min, Bool, true, false, ◌&&◌, List, [], ◌∷◌, ◌++◌, map, length, nat_le, nat_lt, if◌then◌else◌, Option, Some, None, is_some, inl, inr, ⊎_elim, refl, sym, ap, subst, ◌∙◌, ◌⊎◌}
use Rattle.std.specs.Option.{option_map_or}
use Rattle.jp_types.specs.declared.message.Message.{Message}
use Rattle.jp_types.specs.declared.message.Propose.{Propose}
use Rattle.jp_types.specs.Instances.{Batch, peer}
use Rattle.kv_service.specs.Parts.{part_size, part_count, parts_from}
use Rattle.paxos_world.specs.declared.step.Step.{Step}
use Rattle.paxos_world.specs.Adoption.{counted_report, adopted_by}
use Rattle.paxos_world.specs.CatchingUp.{parts_of, query_of, replied_batches}
use Rattle.paxos_world.specs.Leading.{works, leads, leads_own}
use Rattle.paxos_world.specs.Learning.{accept_of, propose_of}
use Rattle.paxos_world.specs.Life.{LifeId, Leading, No, Preparing, Leads}
use Rattle.paxos_world.specs.Logs.{first_undecided, span_end}
use Rattle.paxos_world.specs.Settling.{is_prepared, adoption_end}
use Rattle.jp_types.specs.Lists.{In}
use Rattle.paxos_world.specs.Stage.{Config, setup_of, Snapshot, Stage, Item, Came, Closed, Tick, Suspect, Snapped, Act, Show, Send, Hand, Save}
use Rattle.paxos_world.specs.Turn.{alive_of}
use Rattle.paxos_world.specs.World.{Deed, Sent}
use Rattle.paxos_world.specs.Writing.{others}
use Rattle.paxos_world.proofs.Basics.{In-append}
use Rattle.schedules.specs.Cluster as cluster
use Rattle.step_laws.specs.Kinds.{sent_in}
use Rattle.step_laws.specs.Sent.{to_each, having_done, phase_1_sends, answer_to, query_sends, message_sends, sent_by, proposals_of}
use Rattle.step_laws.specs.Settled.{adopted_launches, launches_at_prepared, placed_from, launches_of_waiting}
use Rattle.step_laws.specs.Views.{entered_view, may_vote}

-- a message that is no Propose
abbrev pub IsOther : Message → Type 0
IsOther (Message.Propose m) = ⊥
IsOther _ = Unit {0}

-- none of these messages is a Propose
pub record NonePropose (xs : List (ℕ × Message)) : Type 0 where
  pub each : (x : ℕ × Message) → In x xs → IsOther x.1

-- ---- Lists of messages

pub none-nil : NonePropose []
none-nil = record { each = λ x n. absurd n }

pub none-one : (to : ℕ) (m : Message) → IsOther m → NonePropose ((to, m) ∷ [])
none-one to m is = record { each = λ x n. ⊎_elim (λ e. subst (λ (y : ℕ × Message). IsOther y.1) (sym e) is) (λ k. absurd k) n }

pub none-append : (xs ys : List (ℕ × Message)) → NonePropose xs → NonePropose ys → NonePropose (xs ++ ys)
none-append xs ys h k = record { each = λ x n. ⊎_elim (λ a. h.each x a) (λ a. k.each x a) (In-append x xs ys n) }

none-if : (b : Bool) (xs ys : List (ℕ × Message)) → NonePropose xs → NonePropose ys → NonePropose (if b then xs else ys)
none-if true xs ys h k = h
none-if false xs ys h k = k

-- a message to each of some replicas is that message
pub each-is : (qs : List ℕ) (m : Message) (x : ℕ × Message) → In x (to_each qs m) → x.1 ≡ m
each-is [] m x n = absurd n
each-is (q ∷ qs) m x (inl e) = ap (λ (y : ℕ × Message). y.1) e
each-is (q ∷ qs) m x (inr n) = each-is qs m x n

pub none-each : (qs : List ℕ) (m : Message) → IsOther m → NonePropose (to_each qs m)
none-each qs m is = record { each = λ x n. subst IsOther (sym (each-is qs m x n)) is }

part-is : (p k upto total : ℕ) (bytes : List ℕ) (at : ℕ) (x : ℕ × Message) → In x (map (λ m. (p, m)) (parts_from k upto total bytes at)) → IsOther x.1
part-is p zero upto total bytes at x n = absurd n
part-is p (suc k) upto total bytes at x (inl e) = subst (λ (y : ℕ × Message). IsOther y.1) (sym e) tt
part-is p (suc k) upto total bytes at x (inr n) = part-is p k upto total bytes (at + part_size) x n

-- ---- What an item makes a stage send

none-phase : (s : Stage) (o : Option ℕ) → NonePropose (phase_1_sends s o)
none-phase s None = none-nil
none-phase s (Some view) = none-if (leads s s.config.me view) _ _ (none-each (others s.config) (Message.Prepare (record { view = view; first = first_undecided s; mark = s.life.mark })) tt) none-nil

none-query : (s : Stage) (p first : ℕ) → NonePropose (query_sends s p first)
none-query s p first =
    none-if (nat_lt first s.base) _ _ (parts s.newest)
    (none-if (is_some (s.life.known first)) _ _ (none-one p (Message.CatchUpReply (record { first = first; batches = replied_batches s first })) tt) none-nil)
  where
    parts : (o : Option Snapshot) → NonePropose (option_map_or (λ snapshot. map (λ m. (p, m)) (parts_of snapshot)) o [])
    parts None = none-nil
    parts (Some snapshot) = record { each = part-is p (part_count (length snapshot.bytes)) snapshot.place (length snapshot.bytes) snapshot.bytes 0 }

none-message : (s : Stage) (from : LifeId) (m : Message) (entered : Option ℕ) → NonePropose (message_sends s from m entered)
none-message s from (Message.Prepare m) entered = none-if (works s && leads s from.replica m.view && nat_le s.life.view m.view) _ _ (none-one from.replica _ tt) none-nil
none-message s from (Message.Propose m) entered = none-if (may_vote s from.replica m) _ _ (none-each (others s.config) (accept_of m.view m.instance) tt) none-nil
none-message s from (Message.Recovery m) entered = none-if (works s) _ _ (none-one from.replica (answer_to s from m.mark entered) tt) none-nil
none-message s from (Message.CatchUpQuery m) entered = none-query s from.replica m.first
none-message s from (Message.PrepareOk m) entered = none-nil
none-message s from (Message.Accept m) entered = none-nil
none-message s from (Message.RecoveryAnswer m) entered = none-nil
none-message s from (Message.CatchUpReply m) entered = none-nil
none-message s from (Message.SnapshotPart m) entered = none-nil
none-message s from (Message.Alive m) entered = none-nil

-- an item makes a stage send no Propose
pub none-sent : (s : Stage) (item : Item) → NonePropose (sent_by s item)
none-sent s (Came from m) =
    let entered = entered_view s (Came from m) in
    none-append (phase_1_sends s entered) (message_sends (having_done (Deed.Take from m) s) from m entered) (none-phase s entered) (none-message (having_done (Deed.Take from m) s) from m entered)
none-sent s (Closed batch) = none-nil
none-sent s Tick =
    none-append _ _ (none-if (works s && leads_own s) _ _ (none-each (others s.config) (alive_of s) tt) none-nil)
    (none-append _ _ (none-phase s (entered_view s Tick))
    (none-if (nat_lt (first_undecided s) s.horizon) _ _ (none-one (peer s.config.me s.config.n s.queries) (query_of (first_undecided s)) tt) none-nil))
none-sent s Suspect = none-phase s (entered_view s Suspect)
none-sent s (Snapped upto bytes) = none-nil

-- a message that acts of a life send is among those of the acts
pub sent-of : (from : LifeId) (acts : List Act) (x : Sent) → In x (cluster.sent_by from acts) → In {X = ℕ × Message} (x.to, x.message) (sent_in acts)
sent-of from [] x n = absurd n
sent-of from (Show step ∷ acts) x n = sent-of from acts x n
sent-of from (Send to m ∷ acts) x (inl e) = inl (ap (λ (y : Sent). (y.to, y.message)) e)
sent-of from (Send to m ∷ acts) x (inr n) = inr (sent-of from acts x n)
sent-of from (Hand d ∷ acts) x n = sent-of from acts x n
sent-of from (Save k ∷ acts) x n = sent-of from acts x n

-- acts that send no Propose
pub none-of : (from : LifeId) (acts : List Act) (x : Sent) (m : Propose) → NonePropose (sent_in acts) → In x (cluster.sent_by from acts) → x.message ≡ Message.Propose m → ⊥
none-of from acts x m h n e = subst IsOther e (h.each (x.to, x.message) (sent-of from acts x n))

-- ---- What launches send

-- this holds of each batch that is launched among these steps
pub record LaunchesMeet (Q : Batch → Type 0) (steps : List Step) : Type 0 where
  pub each : (r view i : ℕ) (batch : Batch) → In (Step.Launch r view i batch) steps → Q batch

-- it holds of each of these batches
abbrev pub AllMeet : (Batch → Type 0) → List Batch → Type 0
AllMeet Q batches = (batch : Batch) → In batch batches → Q batch

module _ (Q : Batch → Type 0) where
  no-launch : LaunchesMeet Q []
  no-launch = record { each = λ r view i batch n. absurd n }

  pub launches-append : (xs ys : List Step) → LaunchesMeet Q xs → LaunchesMeet Q ys → LaunchesMeet Q (xs ++ ys)
  launches-append xs ys h k = record { each = λ r view i batch n. ⊎_elim (λ a. h.each r view i batch a) (λ a. k.each r view i batch a) (In-append (Step.Launch r view i batch) xs ys n) }

  one-more : (me view i : ℕ) (batch : Batch) (steps : List Step) → Q batch → LaunchesMeet Q steps → LaunchesMeet Q (Step.Launch me view i batch ∷ steps)
  one-more me view i batch steps is h =
      record { each = λ r v j b n. ⊎_elim (λ e. (let g : b ≡ batch = cc in subst Q (sym g) is)) (λ m. h.each r v j b m) n }

  less-one : (step : Step) (steps : List Step) → LaunchesMeet Q (step ∷ steps) → LaunchesMeet Q steps
  less-one step steps h = record { each = λ r view i batch n. h.each r view i batch (inr n) }

  -- the batch of each proposal of launches
  pub proposal-meets : (c : Config) (steps : List Step) → LaunchesMeet Q steps → (x : ℕ × Message) (m : Propose) → In x (proposals_of c steps) → x.1 ≡ Message.Propose m → Q m.batch
  proposal-meets c [] h x m n e = absurd n
  proposal-meets c (Step.Launch r view i batch ∷ steps) h x m n e = go (In-append x (to_each (others c) (propose_of view i batch)) (proposals_of c steps) n) (proposal-meets c steps (less-one _ steps h) x m)
    where
      go : In x (to_each (others c) (propose_of view i batch)) ⊎ In x (proposals_of c steps) → (In x (proposals_of c steps) → x.1 ≡ Message.Propose m → Q m.batch) → Q m.batch
      go (inl a) again =
          let f : Message.Propose m ≡ Message.Propose (record { view = view; instance = i; batch = batch }) = sym e ∙ each-is (others c) (propose_of view i batch) x a in
          let g : m ≡ record { view = view; instance = i; batch = batch } = cc in
          subst Q (sym (ap (λ (p : Propose). p.batch) g)) (h.each r view i batch (inl refl))
      go (inr a) again = again a e
  proposal-meets c (Step.First r ∷ steps) h x m n e = proposal-meets c steps (less-one _ steps h) x m n e
  proposal-meets c (Step.Return r mark ∷ steps) h x m n e = proposal-meets c steps (less-one _ steps h) x m n e
  proposal-meets c (Step.Crash r ∷ steps) h x m n e = proposal-meets c steps (less-one _ steps h) x m n e
  proposal-meets c (Step.Enter r v ∷ steps) h x m n e = proposal-meets c steps (less-one _ steps h) x m n e
  proposal-meets c (Step.Promise r v ∷ steps) h x m n e = proposal-meets c steps (less-one _ steps h) x m n e
  proposal-meets c (Step.Prepared r v next ∷ steps) h x m n e = proposal-meets c steps (less-one _ steps h) x m n e
  proposal-meets c (Step.Vote r v j ∷ steps) h x m n e = proposal-meets c steps (less-one _ steps h) x m n e
  proposal-meets c (Step.Learn r j ∷ steps) h x m n e = proposal-meets c steps (less-one _ steps h) x m n e
  proposal-meets c (Step.Answer r to v next ∷ steps) h x m n e = proposal-meets c steps (less-one _ steps h) x m n e
  proposal-meets c (Step.Rejoin r v ∷ steps) h x m n e = proposal-meets c steps (less-one _ steps h) x m n e
  proposal-meets c (Step.Install r upto ∷ steps) h x m n e = proposal-meets c steps (less-one _ steps h) x m n e
  proposal-meets c (Step.Execute r j outcomes ∷ steps) h x m n e = proposal-meets c steps (less-one _ steps h) x m n e
  proposal-meets c (Step.Restore r upto ∷ steps) h x m n e = proposal-meets c steps (less-one _ steps h) x m n e
  proposal-meets c (Step.Send number to kind ∷ steps) h x m n e = proposal-meets c steps (less-one _ steps h) x m n e

  -- ---- Which batches are launched

  -- it holds of each batch that this stage would adopt
  abbrev pub AdoptedMeet : Stage → Type 0
  AdoptedMeet s = (i : ℕ) → Q (adopted_by s.config.n (counted_report (setup_of s.config) s.config.me s.life) s.life i)

  adopted-meet : (k : ℕ) (s : Stage) (i : ℕ) → AdoptedMeet s → LaunchesMeet Q (adopted_launches k s i)
  adopted-meet zero s i h = no-launch
  adopted-meet (suc k) s i h =
      one-more s.config.me s.life.view i (adopted_by s.config.n (counted_report (setup_of s.config) s.config.me s.life) s.life i) (adopted_launches k s (suc i)) (h i) (adopted-meet k s (suc i) h)

  pub prepared-meet : (l : Leading) (s : Stage) → AdoptedMeet s → LaunchesMeet Q (launches_at_prepared l s)
  prepared-meet No s h = no-launch
  prepared-meet (Preparing first) s h = go (is_prepared s first)
    where
      go : (b : Bool) → LaunchesMeet Q (if b then adopted_launches (adoption_end s first - max first s.base) s (max first s.base) else [])
      go true = adopted-meet (adoption_end s first - max first s.base) s (max first s.base) h
      go false = no-launch
  prepared-meet (Leads lead) s h = no-launch

  placed-meet : (me view next limit : ℕ) (batches : List Batch) → AllMeet Q batches → LaunchesMeet Q (placed_from me view next limit batches)
  placed-meet me view next limit [] h = no-launch
  placed-meet me view next limit (batch ∷ batches) h = go (nat_lt next limit) (placed-meet me view (suc next) limit batches (λ b n. h b (inr n)))
    where
      go : (b : Bool) → LaunchesMeet Q (placed_from me view (suc next) limit batches) → LaunchesMeet Q (if b then Step.Launch me view next batch ∷ placed_from me view (suc next) limit batches else [])
      go true rest = one-more me view next batch (placed_from me view (suc next) limit batches) (h batch (inl refl)) rest
      go false rest = no-launch

  pub waiting-meet : (l : Leading) (s : Stage) → AllMeet Q s.waiting → LaunchesMeet Q (launches_of_waiting l s)
  waiting-meet No s h = no-launch
  waiting-meet (Preparing first) s h = no-launch
  waiting-meet (Leads lead) s h = placed-meet s.config.me s.life.view lead.next (min (first_undecided s + s.config.window) (span_end s)) s.waiting h

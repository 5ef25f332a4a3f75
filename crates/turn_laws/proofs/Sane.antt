-- Each batch and each state of a world is within the limits.
use Rattle.std.proofs.Common.{◌≡◌, ℕ, zero, suc, ◌+◌, ◌<◌, ◌⊎◌, Bool, true, false, List, [], ◌∷◌, ◌++◌, take, drop, slice_get, Option, Some, None, option_map, if◌then◌else◌, nat_lt, ◌==◌, refl, sym, ap, subst, ◌∙◌, inl, inr, ⊎_elim}
use Rattle.std.proofs.lemmas.Bool.Decides.{leb_tells}
use Rattle.std.specs.List.{list_all}
use Rattle.std.specs.Option.{unwrap_or, option_or}
use Rattle.jp_types.specs.declared.message.Message.{Message}
use Rattle.jp_types.specs.declared.message.Entry.{Entry}
use Rattle.jp_types.specs.declared.message.PrepareOk.{PrepareOk}
use Rattle.jp_types.specs.declared.mode.Phase.{Phase}
use Rattle.jp_types.specs.declared.mode.Phase.TheVariants.{Recovering, Working}
use Rattle.kv_service.specs.Service.{State, start}
use Rattle.kv_service.specs.StateBytes.{state_bytes}
use Rattle.kv_service.specs.StateReading.{read_state, state_in}
use Rattle.jp_types.specs.Views.{leader, number_limit}
use Rattle.jp_types.specs.Lists.{In}
use Rattle.paxos_world.specs.Setup.{Setup, with_at}
use Rattle.paxos_world.specs.Life.{LifeId, Launched, Leading, No, Preparing, Leads, Life, Took, new_life}
use Rattle.jp_types.specs.Instances.{Batch}
use Rattle.jp_types.specs.Marks.{first_mark, view_at_return}
use Rattle.paxos_world.specs.Counting.{Held, counted_ok}
use Rattle.paxos_world.specs.Adoption.{IsTold, report_in, counted_report, adopted_by}
use Rattle.jp_types.specs.Reports.{decided_below, highest_below}
use Rattle.jp_types.specs.Reports.{decided_entry, voted_entry, decided_in, vote_in, higher}
use Rattle.paxos_world.specs.World.{Replica, World, Sent, Deed, Take, Enter, Open, Promise, Prepared, Launch, Vote, Learn, Answer, Rejoin, Install, Execute, Restore, Say, Move, First, Return, Crash, Act, Can, MaySay, MayLearn, By_votes, By_report, By_catch_up, HasProposal, who, id_of, lead_of, lead_after, executed_with, life_after, replica_after, of_running, sends, sends_of, to_others, after, opening}
use Rattle.kv_service.specs.Parts.{part_size}
use Rattle.paxos_world.specs.Trace.{end_of}
use Rattle.paxos_world.specs.Turn.{moves_of}
use Rattle.paxos_world.specs.Stage.{Config, setup_of}
use Rattle.paxos_world.proofs.Basics.{with_at-cases, In-append}
use Rattle.paxos_world.proofs.Replies.{and-true, counted_ok-is}
use Rattle.paxos_world.proofs.Adopting.{or-some, decided_in-from, vote_in-from}
use Rattle.paxos_world.proofs.Sound.{WorldSound, act-is, some-is, to_others-is}
use Rattle.turn_laws.specs.Nodes.{KeepsLimits}
use Rattle.jp_types.specs.Limits.{AreBytes, IsBatch}
use Rattle.turn_laws.specs.Limits.{IsState, StatesRead}

-- each batch in a report is within the limits
abbrev pub AreEntries : List Entry → Type 0
AreEntries es = (e : Entry) → In e es → IsBatch e.batch

-- what a message carries is within the limits
abbrev pub IsSane : Message → Type 0
IsSane (Message.Propose m) = IsBatch m.batch
IsSane (Message.PrepareOk m) = AreEntries m.report
IsSane (Message.CatchUpReply m) = (at : ℕ) (batch : Batch) → slice_get m.batches at ≡ Some batch → IsBatch batch
IsSane (Message.SnapshotPart m) = AreBytes m.bytes
IsSane _ = Unit {0}

-- what a Prepared step fixed is within the limits
abbrev pub IsSaneLead : Leading → Type 0
IsSaneLead No = Unit {0}
IsSaneLead (Preparing first) = Unit {0}
IsSaneLead (Leads lead) = ((i : ℕ) → IsBatch (lead.adopted i)) × ((p : ℕ) → AreEntries (lead.reports p))

pub record LifeSane (l : Life) : Type 0 where
  pub votes : (i : ℕ) (vote : ℕ × Batch) → l.votes i ≡ Some vote → IsBatch vote.1
  pub known : (i : ℕ) (batch : Batch) → l.known i ≡ Some batch → IsBatch batch
  pub launched : (x : Launched) → In x l.launched → IsBatch x.batch
  pub leading : IsSaneLead l.leading
  pub service : IsState l.service
  pub states : (s : State) → In s l.states → IsState s
  pub installed : (s : State) → In s l.installed → IsState s

pub record Sane (w : World) : Type 0 where
  pub lives : (q : ℕ) (l : Life) → (w.replicas q).running ≡ Some l → LifeSane l
  pub sent : (x : Sent) → In x w.sent → IsSane x.message

-- each world on the way is sane
abbrev pub SaneRun : Setup → World → List Move → Type 0
SaneRun c w [] = Sane w
SaneRun c w (m ∷ ms) = Sane w × SaneRun c (after c w m) ms

pub sane-append : (c : Setup) (w : World) (xs ys : List Move) → SaneRun c w xs → SaneRun c (end_of c w xs) ys → SaneRun c w (xs ++ ys)
sane-append c w [] ys h k = k
sane-append c w (x ∷ xs) ys h k = (h.0, sane-append c (after c w x) xs ys h.1 k)

pub sane-deed : (c : Setup) (r : ℕ) (w : World) (ds : List Deed) (d : Deed) → SaneRun c w (moves_of r ds) → Sane (end_of c w (moves_of r (ds ++ d ∷ []))) → SaneRun c w (moves_of r (ds ++ d ∷ []))
sane-deed c r w [] d h k = (h, k)
sane-deed c r w (e ∷ ds) d h k = (h.0, sane-deed c r (after c w (Act r e)) ds d h.1 k)

-- the world after the first steps is sane
pub sane-at : (c : Setup) (w : World) (xs ys : List Move) → SaneRun c w (xs ++ ys) → Sane (end_of c w xs)
sane-at c w [] [] h = h
sane-at c w [] (y ∷ ys) h = h.0
sane-at c w (x ∷ xs) ys h = sane-at c (after c w x) xs ys h.1

-- ---- Adopted batches

highest_below-from : (n : ℕ) (reports : ℕ → List Entry) (own : Option (ℕ × Batch)) (i : ℕ) (v : ℕ × Batch) → highest_below n reports own i ≡ Some v
    → (own ≡ Some v) ⊎ ((p : ℕ) × In (voted_entry i v.0 v.1) (reports p))
highest_below-from zero reports own i v e = inl e
highest_below-from (suc k) reports own i v e = go (highest_below k reports own i) (vote_in i (reports k)) refl refl e (λ f. highest_below-from k reports own i v f)
  where
    pick : (b : Bool) (x y : ℕ × Batch) → (if b then Some y else Some x) ≡ Some v → (Some x ≡ Some v) ⊎ (Some y ≡ Some v)
    pick true x y f = inr f
    pick false x y f = inl f

    go : (a b : Option (ℕ × Batch)) → highest_below k reports own i ≡ a → vote_in i (reports k) ≡ b → higher a b ≡ Some v
        → (highest_below k reports own i ≡ Some v → (own ≡ Some v) ⊎ ((p : ℕ) × In (voted_entry i v.0 v.1) (reports p)))
        → (own ≡ Some v) ⊎ ((p : ℕ) × In (voted_entry i v.0 v.1) (reports p))
    go None b f g h again = inr (k, vote_in-from i (reports k) v (g ∙ h))
    go (Some x) None f g h again = again (f ∙ h)
    go (Some x) (Some y) f g h again = ⊎_elim (λ m. again (f ∙ m)) (λ m. inr (k, vote_in-from i (reports k) v (g ∙ m))) (pick (nat_lt x.0 y.0) x y h)

decided_below-from : (n : ℕ) (reports : ℕ → List Entry) (i : ℕ) (b : Batch) → decided_below n reports i ≡ Some b → (p : ℕ) × In (decided_entry i b) (reports p)
decided_below-from zero reports i b e = absurd cc
decided_below-from (suc k) reports i b e =
    ⊎_elim (λ a. decided_below-from k reports i b a) (λ a. (k, decided_in-from i (reports k) b a)) (or-some (decided_below k reports i) (decided_in i (reports k)) b e)

no-batch : IsBatch []
no-batch r n = absurd n

picked : (k d : Option Batch) (h : Option (ℕ × Batch)) → ((b : Batch) → k ≡ Some b → IsBatch b) → ((b : Batch) → d ≡ Some b → IsBatch b) → ((v : ℕ × Batch) → h ≡ Some v → IsBatch v.1)
    → IsBatch (unwrap_or (option_or k (option_or d (option_map (λ v. v.1) h))) [])
picked (Some b) d h x y z = x b refl
picked None (Some b) h x y z = y b refl
picked None None (Some v) x y z = z v refl
picked None None None x y z = no-batch

adopted-sane : (n : ℕ) (reports : ℕ → List Entry) (l : Life) (i : ℕ) → LifeSane l → ((p : ℕ) → AreEntries (reports p)) → IsBatch (adopted_by n reports l i)
adopted-sane n reports l i sane entries =
    picked (l.known i) (decided_below n reports i) (highest_below n reports (l.votes i) i) (sane.known i)
    (λ b e. (let a = decided_below-from n reports i b e in entries a.0 (decided_entry i b) a.1))
    (λ v e. ⊎_elim (λ a. sane.votes i v a) (λ a. entries a.0 (voted_entry i v.0 v.1) a.1) (highest_below-from n reports (l.votes i) i v e))

-- ---- Bytes

take-in : (k : ℕ) (xs : List ℕ) (x : ℕ) → In x (take k xs) → In x xs
take-in zero xs x n = absurd n
take-in (suc k) [] x n = absurd n
take-in (suc k) (y ∷ ys) x (inl e) = inl e
take-in (suc k) (y ∷ ys) x (inr n) = inr (take-in k ys x n)

drop-in : (k : ℕ) (xs : List ℕ) (x : ℕ) → In x (drop k xs) → In x xs
drop-in zero xs x n = n
drop-in (suc k) [] x n = absurd n
drop-in (suc k) (y ∷ ys) x n = inr (drop-in k ys x n)

-- ---- Steps

module _ (k : Config) (reads : StatesRead) (w : World) (r : ℕ) (l : Life) (good : WorldSound (setup_of k) w) (sane : Sane w) (runs : (w.replicas r).running ≡ Some l) where
  abbrev c : Setup
  c = setup_of k

  mine : LifeSane l
  mine = sane.lives r l runs

  pub took-sane : (p : ℕ) (m : Message) → Took l p m → IsSane m
  took-sane p m h =
      let sound = (good.replica r).life l runs in
      subst IsSane h.3 (sane.sent (record { from = h.0.from; to = r; message = h.0.message }) (sound.taken h.0 h.1))

  proposal-sane : (view i : ℕ) (batch : Batch) → HasProposal l view i batch → IsBatch batch
  proposal-sane view i batch (inl a) = mine.launched _ a
  proposal-sane view i batch (inr a) = took-sane a.0 _ a.1

  learn-sane : (i : ℕ) (batch : Batch) → MayLearn c w r l i batch → IsBatch batch
  learn-sane i batch (By_votes view members proposal quorum accepted) = proposal-sane view i batch proposal
  learn-sane i batch (By_report lead p leads lt n) = (subst IsSaneLead leads mine.leading).1 p (decided_entry i batch) n
  learn-sane i batch (By_catch_up p first at batches took is there) = took-sane p _ took at batch there

  counted-sane : (p : ℕ) → AreEntries (counted_report c r l p)
  counted-sane p = go (counted_ok c r l p) refl
    where
      go : (o : Option (Held PrepareOk)) → counted_ok c r l p ≡ o → AreEntries (report_in o)
      go None e = λ x n. absurd n
      go (Some h) e =
          let a = (counted_ok-is c r l p h e).held in
          let sound = (good.replica r).life l runs in
          let b : IsSane a.t.message = sane.sent (record { from = a.t.from; to = r; message = a.t.message }) (sound.taken a.t a.in_taken) in
          subst IsSane a.message b

  with-vote : (i : ℕ) (vote : ℕ × Batch) → IsBatch vote.1 → (j : ℕ) (v : ℕ × Batch) → with_at l.votes i (Some vote) j ≡ Some v → IsBatch v.1
  with-vote i vote is j v = with_at-cases (λ o. o ≡ Some v → IsBatch v.1) l.votes i (Some vote) j (λ e f. let g : vote ≡ v = cc in subst (λ (x : ℕ × Batch). IsBatch x.1) g is) (λ ne f. mine.votes j v f)

  lead-sane : (b : Leading) (i : ℕ) → IsSaneLead b → IsSaneLead (lead_after b i)
  lead-sane No i h = tt
  lead-sane (Preparing first) i h = tt
  lead-sane (Leads lead) i h = h

  executed-sane : (o : Option Batch) → l.service.executed < number_limit → ((b : Batch) → o ≡ Some b → IsBatch b) → IsState (executed_with l.service o)
  executed-sane None lt h = mine.service
  executed-sane (Some b) lt h = reads.executes l.service b mine.service (h b refl) lt

  deed-sane : (d : Deed) → Can c w r l d → KeepsLimits l d → LifeSane (life_after c r l d)
  deed-sane (Take from message) can valid = let h = mine in assumption h
  deed-sane (Enter view) can valid = let h = mine in let leading : IsSaneLead No = tt in assumption (leading, h)
  deed-sane (Open view first) can valid = let h = mine in let leading : IsSaneLead (Preparing first) = tt in assumption (leading, h)
  deed-sane (Promise view first mark low report) can valid = mine
  deed-sane (Prepared view x) can valid =
      let h = mine in
      let leading : IsSaneLead (Leads (lead_of c r l x)) = (λ i. adopted-sane c.n (counted_report c r l) l i mine counted-sane, counted-sane) in
      assumption (leading, h)
  deed-sane (Launch view i batch) can valid =
      let h = mine in
      let votes : (j : ℕ) (v : ℕ × Batch) → with_at l.votes i (Some (view, batch)) j ≡ Some v → IsBatch v.1 = with-vote i (view, batch) valid in
      let launched : (x : Launched) → In x (record { view = view; instance = i; batch = batch } ∷ l.launched) → IsBatch x.batch
      = λ x n. ⊎_elim (λ e. subst (λ (y : Launched). IsBatch y.batch) (sym e) valid) (λ m. h.launched x m) n in
      let leading : IsSaneLead (lead_after l.leading i) = lead-sane l.leading i h.leading in
      assumption (votes, launched, leading, h)
  deed-sane (Vote view i batch) can valid =
      let h = mine in
      let is : IsBatch batch = ⊎_elim (λ a. h.launched _ a) (λ a. took-sane _ _ a) can.proposal in
      let votes : (j : ℕ) (v : ℕ × Batch) → with_at l.votes i (Some (view, batch)) j ≡ Some v → IsBatch v.1 = with-vote i (view, batch) is in
      assumption (votes, h)
  deed-sane (Learn i batch) can valid =
      let h = mine in
      let known : (j : ℕ) (b : Batch) → with_at l.known i (Some batch) j ≡ Some b → IsBatch b
      = λ j b. with_at-cases (λ o. o ≡ Some b → IsBatch b) l.known i (Some batch) j (λ e f. let g : batch ≡ b = cc in subst (λ (x : Batch). IsBatch x) g (learn-sane i batch can)) (λ ne f. h.known j b f) in
      assumption (known, h)
  deed-sane (Answer to view next mark) can valid = let h = mine in assumption h
  deed-sane (Rejoin view) can valid = let h = mine in assumption h
  deed-sane (Install upto state) can valid =
      let h = mine in
      let installed : (s : State) → In s (state ∷ l.installed) → IsState s = λ s n. ⊎_elim (λ e. subst (λ (x : State). IsState x) (sym e) valid) (λ m. h.installed s m) n in
      assumption (installed, h)
  deed-sane (Execute i) can valid =
      let h = mine in
      let service : IsState (executed_with l.service (l.known i)) = executed-sane (l.known i) valid (h.known i) in
      let states : (s : State) → In s (executed_with l.service (l.known i) ∷ l.states) → IsState s = λ s n. ⊎_elim (λ e. subst (λ (x : State). IsState x) (sym e) service) (λ m. h.states s m) n in
      assumption (service, states, h)
  deed-sane (Restore upto state) can valid =
      let h = mine in
      let service : IsState state = h.installed state can.installed in
      let states : (s : State) → In s (state ∷ l.states) → IsState s = λ s n. ⊎_elim (λ e. subst (λ (x : State). IsState x) (sym e) service) (λ m. h.states s m) n in
      assumption (service, states, h)
  deed-sane (Say to message) can valid = mine

  -- what is said is within the limits
  say-sane : (m : Message) → MaySay c r l m → IsSane m
  say-sane (Message.Propose m) may = mine.launched _ may
  say-sane (Message.CatchUpReply m) may = λ at batch e. mine.known (m.first + at) batch (may at batch e)
  say-sane (Message.SnapshotPart m) may =
      let is : IsState may.0 = ⊎_elim (λ a. mine.states may.0 a) (λ a. mine.installed may.0 a) may.1 in
      let part = may.3.part_is in
      let all : AreBytes (take part_size (drop m.at (state_bytes may.0))) = λ b n. is.1 b (drop-in m.at (state_bytes may.0) b (take-in part_size (drop m.at (state_bytes may.0)) b n)) in
      subst (λ (xs : List ℕ). AreBytes xs) (sym part) all
  say-sane (Message.Prepare m) may = tt
  say-sane (Message.PrepareOk m) may = absurd may
  say-sane (Message.Accept m) may = tt
  say-sane (Message.Recovery m) may = tt
  say-sane (Message.RecoveryAnswer m) may = tt
  say-sane (Message.CatchUpQuery m) may = tt
  say-sane (Message.Alive m) may = tt

  told-sane : (i : ℕ) (vote : Option ℕ) (batch : Batch) → IsTold l i vote batch → IsBatch batch
  told-sane i None batch h = mine.known i batch h
  told-sane i (Some view) batch h = mine.votes i (view, batch) h.1

  one-sane : (to : ℕ) (m : Message) (from : LifeId) → IsSane m → (x : Sent) → In x (record { from = from; to = to; message = m } ∷ []) → IsSane x.message
  one-sane to m from is x (inl e) = subst (λ (y : Sent). IsSane y.message) (sym e) is
  one-sane to m from is x (inr n) = absurd n

  sends-sane : (d : Deed) → Can c w r l d → KeepsLimits l d → (x : Sent) → In x (sends_of c r l d) → IsSane x.message
  sends-sane (Promise view first mark low report) can valid x n = one-sane (leader c.n view) _ (id_of r l) (λ e m. told-sane e.instance e.vote e.batch (can.reported.told e m)) x n
  sends-sane (Launch view i batch) can valid x n = subst IsSane (sym (to_others-is c.n r (id_of r l) _ x n).1) valid
  sends-sane (Vote view i batch) can valid x n = go (r == leader c.n view) n
    where
      go : (b : Bool) → In x (if b then [] else to_others c.n r (id_of r l) (Message.Accept (record { view = view; instance = i }))) → IsSane x.message
      go true m = absurd m
      go false m = subst IsSane (sym (to_others-is c.n r (id_of r l) _ x m).1) tt
  sends-sane (Answer to view next mark) can valid x n = one-sane to _ (id_of r l) tt x n
  sends-sane (Say to message) can valid x n = one-sane to message (id_of r l) (say-sane message can.1) x n
  sends-sane (Take from message) can valid x n = absurd n
  sends-sane (Enter view) can valid x n = absurd n
  sends-sane (Open view first) can valid x n = absurd n
  sends-sane (Prepared view y) can valid x n = absurd n
  sends-sane (Learn j batch) can valid x n = absurd n
  sends-sane (Rejoin view) can valid x n = absurd n
  sends-sane (Install upto state) can valid x n = absurd n
  sends-sane (Execute j) can valid x n = absurd n
  sends-sane (Restore upto state) can valid x n = absurd n

  pub step_sane : (d : Deed) → Can c w r l d → KeepsLimits l d → Sane (after c w (Act r d))
  step_sane d can valid =
      record {
        lives = λ q. with_at-cases (λ (a : Replica). (m : Life) → a.running ≡ Some m → LifeSane m) w.replicas r (replica_after c (w.replicas r) (Act r d)) q
            (λ e m f. (let g : Some (life_after c r l d) ≡ Some m = sym (ap (λ (a : Replica). a.running) (act-is c r (w.replicas r) d l runs)) ∙ f in subst (λ (x : Life). LifeSane x) (some-is _ m g) (deed-sane d can valid)))
            (λ ne. sane.lives q);
        sent = λ x n. ⊎_elim (λ i. sane.sent x i) (λ i. sends-sane d can valid x (subst (λ (o : Option Life). In x (of_running o (λ y. sends_of c r y d))) runs i)) (In-append x w.sent (sends c w (Act r d)) n);
      }

-- ---- Lives that begin and end

all-of : (test : ℕ → Bool) (xs : List ℕ) → list_all test xs ≡ true → (x : ℕ) → In x xs → test x ≡ true
all-of test [] e x n = absurd n
all-of test (y ∷ ys) e x (inl f) = subst (λ z. test z ≡ true) (sym f) (and-true (test y) (list_all test ys) e).0
all-of test (y ∷ ys) e x (inr n) = all-of test ys (and-true (test y) (list_all test ys) e).1 x n

start-bytes : AreBytes (state_bytes start)
unfolding state_bytes
start-bytes b n =
    let t : nat_lt b 256 ≡ true = all-of (λ x. nat_lt x 256) (state_bytes start) refl b n in
    ⊎_elim (λ h. h.1) (λ h. let f = h.0 in absurd cc) (leb_tells (suc b) 256)

start-reads : state_in (state_bytes start) ≡ Some start
unfolding read_state state_bytes
start-reads = refl

pub start-state : IsState start
start-state = (start-reads, start-bytes)

new-sane : (number mark : ℕ) (phase : Phase) (view : ℕ) → LifeSane (new_life number mark phase view)
new-sane number mark phase view =
    record {
      votes = λ i v e. absurd cc;
      known = λ i b e. absurd cc;
      launched = λ x n. absurd n;
      leading = tt;
      service = start-state;
      states = λ s n. ⊎_elim (λ e. subst (λ (x : State). IsState x) (sym e) start-state) (λ m. absurd m) n;
      installed = λ s n. absurd n;
    }

-- the step is not one of a running life
abbrev pub IsLifes : Move → Type 0
IsLifes (Act r d) = ⊥
IsLifes _ = Unit {0}

pub life_sane : (c : Setup) (w : World) (m : Move) → IsLifes m → Sane w → Sane (after c w m)
life_sane c w m is sane =
    record {
      lives = λ q. with_at-cases (λ (a : Replica). (l : Life) → a.running ≡ Some l → LifeSane l) w.replicas (who m) (replica_after c (w.replicas (who m)) m) q (λ e. acting m is) (λ ne. sane.lives q);
      sent = λ x n. ⊎_elim (λ i. sane.sent x i) (λ i. absurd (silent m is x i)) (In-append x w.sent (sends c w m) n);
    }
  where
    acting : (m : Move) → IsLifes m → (l : Life) → (replica_after c (w.replicas (who m)) m).running ≡ Some l → LifeSane l
    acting (First r) is l e = subst (λ (k : Life). LifeSane k) (some-is _ l e) (new-sane (suc (w.replicas r).starts) (first_mark c.mode) Working 0)
    acting (Return r mark) is l e = subst (λ (k : Life). LifeSane k) (some-is _ l e) (new-sane (suc (w.replicas r).starts) mark Recovering (view_at_return c.mode mark))
    acting (Crash r) is l e = absurd cc
    acting (Act r d) is l e = absurd is

    silent : (m : Move) → IsLifes m → (x : Sent) → In x (sends c w m) → ⊥
    silent (First r) is x n = n
    silent (Return r mark) is x n = n
    silent (Crash r) is x n = n
    silent (Act r d) is x n = is

pub opening_sane : Sane opening
opening_sane = record { lives = λ q l e. absurd cc; sent = λ x n. absurd n }

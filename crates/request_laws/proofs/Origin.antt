-- In a run of at least two replicas each batch that was launched is in a Propose that was sent. So what holds of the empty batch, and of the batch of each Propose, holds of all that is voted on, known, chosen, reported and adopted.
use Rattle.std.proofs.Common.{◌≡◌, ◌≢◌, ℕ, zero, suc, ◌+◌, ◌-◌, ◌≤◌, ◌<◌, ◌⊎◌, Bool, true, false, List, [], ◌∷◌, length, Option, Some, None, option_map, if◌then◌else◌, nat_lt, ◌==◌, refl, sym, ap, subst, ◌∙◌, inl, inr, ⊎_elim, arith, le_refl, le_of_lt, zero-add, suc-add}
use Rattle.std.proofs.lemmas.Bool.Decides.{eqb_tells}
use Rattle.std.specs.Option.{unwrap_or, option_or}
use Rattle.jp_types.specs.declared.message.Message.{Message}
use Rattle.jp_types.specs.declared.message.Entry.{Entry}
use Rattle.jp_types.specs.declared.message.Propose.{Propose}
use Rattle.jp_types.specs.Instances.{Batch}
use Rattle.jp_types.specs.Reports.{decided_entry, voted_entry, decided_in, vote_in, higher, decided_below, highest_below}
use Rattle.jp_types.specs.Lists.{In}
use Rattle.paxos_world.specs.Setup.{Setup}
use Rattle.paxos_world.specs.Life.{LifeId, Life}
use Rattle.paxos_world.specs.Adoption.{IsTold, counted_report, adopted_by}
use Rattle.paxos_world.specs.World.{World, Sent, Ballot, Promise, Launch, Act, Move, CanPromise, HasLaunched, id_of, of_running, to_others, sends, sends_of, opening}
use Rattle.paxos_world.specs.Trace.{Trace, at, Runs, IsChosenIn, IsRun, end_of}
use Rattle.paxos_world.proofs.Basics.{same_or_not, In-left, In-right}
use Rattle.paxos_world.proofs.Replies.{counted_ok-is}
use Rattle.paxos_world.proofs.Runs.{at-does, at-idle, life_sound-at, can-at}
use Rattle.paxos_world.proofs.Origins.{IsPromised, promise-from}
use Rattle.paxos_world.proofs.Ballots.{IsLaunched, later_launched, IsCast, proposal-from, vote-real}
use Rattle.paxos_world.proofs.Adopting.{or-some, decided_in-from, vote_in-from}
use Rattle.paxos_world.proofs.Chosen.{chosen-launched, known-chosen, entry-from}
use Rattle.paxos_world.proofs.Listed.{run_of, at-end}

-- this holds of the batch of each Propose among these messages
abbrev pub SentMeet : (Batch → Type 0) → List Sent → Type 0
SentMeet Q sent = (x : Sent) (m : Propose) → In x sent → x.message ≡ Message.Propose m → Q m.batch

-- ---- A launch sends a Propose

-- a message to all others goes to each other replica
others-has : (k r q : ℕ) (from : LifeId) (message : Message) → q < k → q ≢ r → In (record { from = from; to = q; message = message }) (to_others k r from message)
others-has zero r q from message lt ne = absurd (omega arith)
others-has (suc k) r q from message lt ne = go (same_or_not q k) (λ less. others-has k r q from message less ne)
  where
    x : Sent
    x = record { from = from; to = q; message = message }

    y : Sent
    y = record { from = from; to = k; message = message }

    last : q ≡ k → ((k == r) ≡ true) × (k ≡ r) ⊎ ((k == r) ≡ false) × (k ≢ r) → In x (if k == r then [] else y ∷ [])
    last e (inl h) = absurd (ne (e ∙ h.1))
    last e (inr h) = subst (λ (b : Bool). In x (if b then [] else y ∷ [])) (sym h.0) (inl (ap (λ (n : ℕ). record { from = from; to = n; message = message }) e))

    go : (q ≡ k) ⊎ (q ≢ k) → (q < k → In x (to_others k r from message)) → In x (to_others (suc k) r from message)
    go (inl e) again = In-right x (to_others k r from message) (if k == r then [] else y ∷ []) (last e (eqb_tells k r))
    go (inr other) again = In-left x (to_others k r from message) (if k == r then [] else y ∷ []) (again (omega arith))

-- among two replicas at least each has another
another : (n r : ℕ) → 2 ≤ n → (q : ℕ) × (q < n) × (q ≢ r)
another n zero two = (1, omega arith, λ e. omega arith)
another n (suc r) two = (0, omega arith, λ e. omega arith)

-- what was sent stays
sent-suc : (run : Trace) (t : ℕ) (x : Sent) → In x (at run t).sent → In x (at run (suc t)).sent
sent-suc run t x h = go (run.moves t) refl
  where
    go : (o : Option Move) → run.moves t ≡ o → In x (at run (suc t)).sent
    go None e = subst (λ (w : World). In x w.sent) (sym (at-idle run t e)) h
    go (Some m) e = subst (λ (w : World). In x w.sent) (sym (at-does run t m e)) (In-left x (at run t).sent (sends run.setup (at run t) m) h)

sent-by : (run : Trace) (x : Sent) (s k : ℕ) → In x (at run s).sent → In x (at run (k + s)).sent
sent-by run x s zero h = rw zero-add h
sent-by run x s (suc k) h = rw suc-add (sent-suc run (k + s) x (sent-by run x s k h))

sent-up : (run : Trace) (x : Sent) (s t : ℕ) → s ≤ t → In x (at run s).sent → In x (at run t).sent
sent-up run x s t le h = let e : (t - s) + s ≡ t = omega arith in subst (λ k. In x (at run k).sent) e (sent-by run x s (t - s) h)

-- a batch that was launched is in a Propose that was sent
launched-proposed : (run : Trace) → 2 ≤ run.setup.n → (t v i : ℕ) (batch : Batch) → IsLaunched run t v i batch
    → (x : Sent) × In x (at run t).sent × (x.message ≡ Message.Propose (record { view = v; instance = i; batch = batch }))
launched-proposed run two t v i batch h =
    let c = run.setup in
    let w = at run h.s in
    let deed = Launch v i batch in
    let message = Message.Propose (record { view = v; instance = i; batch = batch }) in
    let q = another c.n h.q two in
    let x : Sent = record { from = id_of h.q h.life; to = q.0; message = message } in
    let new : In x (sends c w (Act h.q deed))
    = subst (λ (o : Option Life). In x (of_running o (λ l. sends_of c h.q l deed))) (sym h.runs) (others-has c.n h.q q.0 (id_of h.q h.life) message q.1 q.2) in
    let there : In x (at run (suc h.s)).sent = subst (λ (v : World). In x v.sent) (sym (at-does run h.s (Act h.q deed) h.does)) (In-right x w.sent (sends c w (Act h.q deed)) new) in
    (x, sent-up run x (suc h.s) t h.before there, refl)

-- ---- What is adopted

decided_below-from : (n : ℕ) (reports : ℕ → List Entry) (i : ℕ) (b : Batch) → decided_below n reports i ≡ Some b → (p : ℕ) × In (decided_entry i b) (reports p)
decided_below-from zero reports i b e = absurd cc
decided_below-from (suc k) reports i b e =
    ⊎_elim (λ a. decided_below-from k reports i b a) (λ a. (k, decided_in-from i (reports k) b a)) (or-some (decided_below k reports i) (decided_in i (reports k)) b e)

highest_below-from : (n : ℕ) (reports : ℕ → List Entry) (own : Option (ℕ × Batch)) (i : ℕ) (v : ℕ × Batch) → highest_below n reports own i ≡ Some v
    → (own ≡ Some v) ⊎ ((p : ℕ) × In (voted_entry i v.0 v.1) (reports p))
highest_below-from zero reports own i v e = inl e
highest_below-from (suc k) reports own i v e = go (highest_below k reports own i) (vote_in i (reports k)) refl refl e (λ f. highest_below-from k reports own i v f)
  where
    pick : (b : Bool) (x y : ℕ × Batch) → (if b then Some y else Some x) ≡ Some v → (Some x ≡ Some v) ⊎ (Some y ≡ Some v)
    pick true x y f = inr f
    pick false x y f = inl f

    go : (a b : Option (ℕ × Batch)) → highest_below k reports own i ≡ a → vote_in i (reports k) ≡ b → higher a b ≡ Some v
        → (highest_below k reports own i ≡ Some v → (own ≡ Some v) ⊎ ((p : ℕ) × In (voted_entry i v.0 v.1) (reports p)))
        → (own ≡ Some v) ⊎ ((p : ℕ) × In (voted_entry i v.0 v.1) (reports p))
    go None b f g h again = inr (k, vote_in-from i (reports k) v (g ∙ h))
    go (Some x) None f g h again = again (f ∙ h)
    go (Some x) (Some y) f g h again = ⊎_elim (λ m. again (f ∙ m)) (λ m. inr (k, vote_in-from i (reports k) v (g ∙ m))) (pick (nat_lt x.0 y.0) x y h)

picked : (Q : Batch → Type 0) → Q [] → (k d : Option Batch) (h : Option (ℕ × Batch)) → ((b : Batch) → k ≡ Some b → Q b) → ((b : Batch) → d ≡ Some b → Q b) → ((v : ℕ × Batch) → h ≡ Some v → Q v.1)
    → Q (unwrap_or (option_or k (option_or d (option_map (λ v. v.1) h))) [])
picked Q none (Some b) d h x y z = x b refl
picked Q none None (Some b) h x y z = y b refl
picked Q none None None (Some v) x y z = z v refl
picked Q none None None None x y z = none

-- ---- In a run

-- what holds of the empty batch, and of each Propose that was sent by moment t
module _ (Q : Batch → Type 0) (none : Q []) (run : Trace) (two : 2 ≤ run.setup.n) (t : ℕ) (sent : SentMeet Q (at run t).sent) where
  launched-meets : (v i : ℕ) (batch : Batch) → IsLaunched run t v i batch → Q batch
  launched-meets v i batch h = let p = launched-proposed run two t v i batch h in sent p.0 (record { view = v; instance = i; batch = batch }) p.1 p.2

  cast-meets : (s : ℕ) → s ≤ t → (b : Ballot) → IsCast run s b → Q b.batch
  cast-meets s le b h =
      let before = h.before in
      launched-meets b.view b.instance b.batch (later_launched run (suc h.s) t b.view b.instance b.batch (omega arith) h.launched)

  voted-meets : (s q : ℕ) (l : Life) → s ≤ t → Runs run s q l → (i : ℕ) (vote : ℕ × Batch) → l.votes i ≡ Some vote → Q vote.1
  voted-meets s q l le runs i vote e = cast-meets s le (record { life = id_of q l; view = vote.0; instance = i; batch = vote.1 }) (vote-real run s q l i vote runs e)

  chosen-meets : (s : ℕ) → s ≤ t → (v i : ℕ) (batch : Batch) → IsChosenIn run.setup.n (at run s) v i batch → Q batch
  chosen-meets s le v i batch h = launched-meets v i batch (later_launched run s t v i batch le (chosen-launched run s v i batch h))

  known-meets : (s q : ℕ) (l : Life) → s ≤ t → Runs run s q l → (i : ℕ) (batch : Batch) → l.known i ≡ Some batch → Q batch
  known-meets s q l le runs i batch e = let d = known-chosen run s q l i batch runs e in chosen-meets s le d.0 i batch d.1

  told-meets : (s q : ℕ) (l : Life) → s ≤ t → Runs run s q l → (i : ℕ) (vote : Option ℕ) (batch : Batch) → IsTold l i vote batch → Q batch
  told-meets s q l le runs i None batch h = known-meets s q l le runs i batch h
  told-meets s q l le runs i (Some view) batch h = voted-meets s q l le runs i (view, batch) h.1

  report-meets : (q : ℕ) (l : Life) → Runs run t q l → (p : ℕ) (e : Entry) → In e (counted_report run.setup q l p) → Q e.batch
  report-meets q l runs p e n =
      let f = entry-from run.setup q l p e n in
      let m = f.0.body in
      let k = (counted_ok-is run.setup q l p f.0 f.1).held in
      let y : Sent = record { from = k.t.from; to = q; message = k.t.message } in
      let g : IsPromised run t q k.t.from m = promise-from run t y m ((life_sound-at run t q l runs).taken k.t k.in_taken) k.message in
      let can : CanPromise run.setup k.t.from.replica g.life m.view g.first m.mark m.low m.report
      = can-at run g.s k.t.from.replica (Promise m.view g.first m.mark m.low m.report) g.life g.does g.runs in
      told-meets g.s k.t.from.replica g.life (le_of_lt g.before) g.runs e.instance e.vote e.batch (can.reported.told e f.2)

  adopted-meets : (q : ℕ) (l : Life) → Runs run t q l → (i : ℕ) → Q (adopted_by run.setup.n (counted_report run.setup q l) l i)
  adopted-meets q l runs i =
      let n = run.setup.n in
      let reports = counted_report run.setup q l in
      picked Q none (l.known i) (decided_below n reports i) (highest_below n reports (l.votes i) i) (known-meets t q l (le_refl t) runs i)
      (λ b e. (let a = decided_below-from n reports i b e in report-meets q l runs a.0 (decided_entry i b) a.1))
      (λ v e. ⊎_elim (λ a. voted-meets t q l (le_refl t) runs i v a) (λ a. report-meets q l runs a.0 (voted_entry i v.0 v.1) a.1) (highest_below-from n reports (l.votes i) i v e))

-- ---- In the world that some steps lead to

module _ (Q : Batch → Type 0) (none : Q []) (c : Setup) (few : c.n ≤ 9) (two : 2 ≤ c.n) (moves : List Move) (run : IsRun c opening moves) (sent : SentMeet Q (end_of c opening moves).sent) where
  ends : at (run_of c few moves run) (length moves) ≡ end_of c opening moves
  ends = at-end c few moves run (length moves) (le_refl (length moves))

  sent_at : SentMeet Q (at (run_of c few moves run) (length moves)).sent
  sent_at = subst (λ (w : World). SentMeet Q w.sent) (sym ends) sent

  runs_at : (r : ℕ) (l : Life) → ((end_of c opening moves).replicas r).running ≡ Some l → Runs (run_of c few moves run) (length moves) r l
  runs_at r l e = subst (λ (w : World). (w.replicas r).running ≡ Some l) (sym ends) e

  -- it holds of each adopted batch,
  pub adopted-in : (r : ℕ) (l : Life) → ((end_of c opening moves).replicas r).running ≡ Some l → (i : ℕ) → Q (adopted_by c.n (counted_report c r l) l i)
  adopted-in r l runs i = adopted-meets Q none (run_of c few moves run) two (length moves) sent_at r l (runs_at r l runs) i

  -- of what a life launched,
  pub launched-in : (r : ℕ) (l : Life) → ((end_of c opening moves).replicas r).running ≡ Some l → (view i : ℕ) (batch : Batch) → HasLaunched l view i batch → Q batch
  launched-in r l runs view i batch h =
      launched-meets Q none (run_of c few moves run) two (length moves) sent_at view i batch
      (proposal-from (run_of c few moves run) (length moves) r l view i batch (runs_at r l runs) (inl h))

  -- of what is known,
  pub known-in : (r : ℕ) (l : Life) → ((end_of c opening moves).replicas r).running ≡ Some l → (i : ℕ) (batch : Batch) → l.known i ≡ Some batch → Q batch
  known-in r l runs i batch e = known-meets Q none (run_of c few moves run) two (length moves) sent_at (length moves) r l (le_refl (length moves)) (runs_at r l runs) i batch e

  -- and of what is chosen
  pub chosen-in : (view i : ℕ) (batch : Batch) → IsChosenIn c.n (end_of c opening moves) view i batch → Q batch
  chosen-in view i batch h =
      chosen-meets Q none (run_of c few moves run) two (length moves) sent_at (length moves) (le_refl (length moves)) view i batch
      (subst (λ (w : World). IsChosenIn c.n w view i batch) (sym ends) h)

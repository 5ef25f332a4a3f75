-- Chosen batches: each Prepared step adopts them, each known batch is one, and there is one per instance.
use Rattle.std.proofs.Common.{◌≡◌, ℕ, zero, suc, ◌≤◌, ◌<◌, List, Option, Some, refl, sym, ap, subst, ◌∙◌, inl, inr, arith, le_of_lt}
use Rattle.jp_types.specs.declared.message.Message.{Message}
use Rattle.jp_types.specs.declared.message.Entry.{Entry}
use Rattle.jp_types.specs.declared.message.PrepareOk.{PrepareOk}
use Rattle.jp_types.specs.declared.message.Accept.{Accept}
use Rattle.jp_types.specs.declared.message.CatchUpReply.{CatchUpReply}
use Rattle.jp_types.specs.Views.{leader}
use Rattle.jp_types.specs.Lists.{In}
use Rattle.paxos_world.specs.Setup.{Setup}
use Rattle.paxos_world.specs.Life.{LifeId, Life}
use Rattle.jp_types.specs.Instances.{Batch}
use Rattle.paxos_world.specs.Counting.{Held, counted_ok}
use Rattle.jp_types.specs.Vectors.{entry}
use Rattle.paxos_world.specs.World.{Ballot, Sent, World, Deed, Promise, Launch, Vote, Learn, Say, Act, ballots, ballots_of, HasAccepted, MayLearn, By_votes, By_report, By_catch_up, CanPromise, of_running, id_of}
use Rattle.paxos_world.specs.Trace.{Trace, at, Runs, Does, IsChosenIn}
use Rattle.paxos_world.specs.Laws.{BecomesPrepared}
use Rattle.paxos_world.proofs.Basics.{shared, In-right}
use Rattle.paxos_world.proofs.Replies.{IsHeldOk, counted_ok-is, same}
use Rattle.paxos_world.proofs.Runs.{at-does, life_sound-at, can-at}
use Rattle.paxos_world.proofs.Origins.{IsPromised, IsSaying, promise-from, IsSentBy, sent-by, Source, From_promise, From_launch, From_vote, From_answer, From_say, source-of, saying-step}
use Rattle.paxos_world.specs.Laws.{KnownAreChosen}
use Rattle.paxos_world.proofs.Back.{can-prepared}
use Rattle.paxos_world.proofs.One.{was_prepared, launch-step, one_batch, prepared-leads}
use Rattle.paxos_world.specs.Adoption.{report_in, counted_report}
use Rattle.jp_types.specs.Reports.{decided_entry}
use Rattle.paxos_world.proofs.Ballots.{IsLaunched, later_launched, took-sent, proposal-from, votes-up, cast-by, learnt}
use Rattle.paxos_world.proofs.Adopting.{option_is}

-- the votes of a step are among those of the world after it
ballot-of : (run : Trace) (s r : ℕ) (d : Deed) (l : Life) (b : Ballot) → Does run s (Act r d) → Runs run s r l → In b (ballots_of r l d) → In b (at run (suc s)).votes
ballot-of run s r d l b e runs i =
    subst (λ (w : World). In b w.votes) (sym (at-does run s (Act r d) e))
    (In-right b (at run s).votes (ballots (at run s) (Act r d)) (subst (λ (o : Option Life). In b (of_running o (λ k. ballots_of r k d))) (sym runs) i))

-- the sender of an Accept voted on the instance in that view
accept-from : (run : Trace) (t : ℕ) (x : Sent) (m : Accept) → In x (at run t).sent → x.message ≡ Message.Accept m
    → (batch : Batch) × In (record { life = x.from; view = m.view; instance = m.instance; batch = batch }) (at run t).votes
accept-from run t x m i e = let h = sent-by run t x i in let g = source-of run.setup h.r h.life h.deed x h.sends in go h g.0 g.1
  where
    go : (h : IsSentBy run t x) → x.from ≡ id_of h.r h.life → Source run.setup h.r h.life h.deed x → (batch : Batch) × In (record { life = x.from; view = m.view; instance = m.instance; batch = batch }) (at run t).votes
    go h f (From_promise view first mark low report is same k) = absurd cc
    go h f (From_launch view j batch is k) = absurd cc
    go h f (From_vote view j batch is k) =
        let g : m ≡ record { view = view; instance = j } = cc in
        let does : Does run h.s (Act h.r (Vote view j batch)) = h.does ∙ ap (λ d. Some (Act h.r d)) is in
        let new : Ballot = record { life = id_of h.r h.life; view = view; instance = j; batch = batch } in
        let there : In new (at run t).votes = votes-up run new (suc h.s) t h.before (ballot-of run h.s h.r (Vote view j batch) h.life new does h.runs (inl refl)) in
        let at_m : In (record { life = id_of h.r h.life; view = m.view; instance = m.instance; batch = batch }) (at run t).votes
        = subst (λ (p : Accept). In (record { life = id_of h.r h.life; view = p.view; instance = p.instance; batch = batch }) (at run t).votes) (sym g) there in
        (batch, subst (λ (y : LifeId). In (record { life = y; view = m.view; instance = m.instance; batch = batch }) (at run t).votes) (sym f) at_m)
    go h f (From_answer to view next mark is same k) = absurd cc
    go h f (From_say to message is k) =
        let does : Does run h.s (Act h.r (Say to (Message.Accept m))) = h.does ∙ ap (λ d. Some (Act h.r d)) (is ∙ ap (Say to) (sym k ∙ e)) in
        absurd (can-at run h.s h.r (Say to (Message.Accept m)) h.life does h.runs).1

-- a CatchUpReply that was sent has batches that its sender knew
catch_up-from : (run : Trace) (t : ℕ) (x : Sent) (m : CatchUpReply) → In x (at run t).sent → x.message ≡ Message.CatchUpReply m → IsSaying run t x.from (Message.CatchUpReply m)
catch_up-from run t x m i e = let h = sent-by run t x i in let g = source-of run.setup h.r h.life h.deed x h.sends in go h g.0 g.1
  where
    go : (h : IsSentBy run t x) → x.from ≡ id_of h.r h.life → Source run.setup h.r h.life h.deed x → IsSaying run t x.from (Message.CatchUpReply m)
    go h f (From_promise view first mark low report is same k) = absurd cc
    go h f (From_launch view j batch is k) = absurd cc
    go h f (From_vote view j batch is k) = absurd cc
    go h f (From_answer to view next mark is same k) = absurd cc
    go h f (From_say to message is k) = saying-step run t h.s h.r to h.life h.deed x.from (Message.CatchUpReply m) h.before h.does h.runs f (is ∙ ap (Say to) (sym k ∙ e))

-- two launches of one instance in one view have one batch
pub launched-same : (run : Trace) (t t' v i : ℕ) (batch batch' : Batch) → IsLaunched run t v i batch → IsLaunched run t' v i batch' → batch ≡ batch'
launched-same run t t' v i batch batch' a b = one_batch run a.s a.q b.s b.q v i batch batch' a.does b.does

-- who launched in a view leads it
pub launch-leads : (run : Trace) (t v i : ℕ) (batch : Batch) (h : IsLaunched run t v i batch) → leader run.setup.n v ≡ h.q
launch-leads run t v i batch h =
    let a = (launch-step run h.s h.q v i batch h.life h.does h.runs).was in
    prepared-leads run a.s h.q a.life v a.x a.prepared

-- a launch casts a vote
pub launch-vote : (run : Trace) (t v i : ℕ) (batch : Batch) (h : IsLaunched run t v i batch) → In (record { life = record { replica = h.q; number = h.life.number }; view = v; instance = i; batch = batch }) (at run t).votes
launch-vote run t v i batch h =
    let new : Ballot = record { life = id_of h.q h.life; view = v; instance = i; batch = batch } in
    votes-up run new (suc h.s) t h.before (ballot-of run h.s h.q (Launch v i batch) h.life new h.does h.runs (inl refl))

-- what is chosen stays so
pub chosen-up : (run : Trace) (s t v i : ℕ) (batch : Batch) → s ≤ t → IsChosenIn run.setup.n (at run s) v i batch → IsChosenIn run.setup.n (at run t) v i batch
chosen-up run s t v i batch le h =
    record { members = h.members; quorum = h.quorum; voted = λ p lt e. let k = h.voted p lt e in (k.0, votes-up run _ s t le k.1) }

-- what is chosen was launched
pub chosen-launched : (run : Trace) (t v i : ℕ) (batch : Batch) → IsChosenIn run.setup.n (at run t) v i batch → IsLaunched run t v i batch
chosen-launched run t v i batch h =
    let z = shared run.setup.n h.members h.members h.quorum h.quorum in
    let k = h.voted z.0 z.1 z.2 in
    let c = cast-by run t _ k.1 in
    later_launched run (suc c.s) t v i batch c.before c.launched

-- what is known before moment k is chosen
KnownBelow : Trace → ℕ → Type 0
KnownBelow run k = (t q : ℕ) (l : Life) (i : ℕ) (batch : Batch) → t < k → Runs run t q l → l.known i ≡ Some batch → (v : ℕ) × IsChosenIn run.setup.n (at run t) v i batch

-- a counted report comes from a promise
pub record ReportOf (run : Trace) (t : ℕ) (l : Life) (v p : ℕ) (h : Held PrepareOk) : Type 0 where
  pub s : ℕ
  pub before : s < t
  pub life : Life
  pub runs : Runs run s p life
  pub first : ℕ
  pub can : CanPromise run.setup p life v first l.mark h.body.low h.body.report

pub report-of : (run : Trace) (t r : ℕ) (l : Life) (v x p : ℕ) (h : Held PrepareOk) → BecomesPrepared run t r l v x → counted_ok run.setup r l p ≡ Some h → ReportOf run t l v p h
report-of run t r l v x p h b e =
    let c = run.setup in
    let k = (counted_ok-is c r l p h e).held in
    let y : Sent = record { from = k.t.from; to = r; message = k.t.message } in
    let f0 : IsPromised run t r k.t.from h.body = promise-from run t y h.body ((life_sound-at run t r l b.runs).taken k.t k.in_taken) k.message in
    go k (subst (λ (g : LifeId). IsPromised run t r g h.body) k.from f0)
  where
    go : IsHeldOk l.mark l.view p l.taken h → IsPromised run t r h.from h.body → ReportOf run t l v p h
    go k f =
        let m = h.body in
        let deed = Promise m.view f.first m.mark m.low m.report in
        let does : Does run f.s (Act p deed) = subst (λ (q : ℕ). Does run f.s (Act q deed)) k.replica f.does in
        let there : Runs run f.s p f.life = subst (λ (q : ℕ). Runs run f.s q f.life) k.replica f.runs in
        let vm : m.view ≡ v = k.view_is ∙ (can-prepared run t r l v x b).in_view in
        let can : CanPromise run.setup p f.life m.view f.first m.mark m.low m.report = can-at run f.s p deed f.life does there in
        record {
          s = f.s;
          before = f.before;
          life = f.life;
          runs = there;
          first = f.first;
          can = subst (λ (q : ℕ). CanPromise run.setup p f.life v f.first q m.low m.report) k.mark_is (subst (λ (q : ℕ). CanPromise run.setup p f.life q f.first m.mark m.low m.report) vm can);
        }

-- an entry of a counted report is one of a counted PrepareOk
pub entry-from : (c : Setup) (r : ℕ) (l : Life) (p : ℕ) (e : Entry) → In e (counted_report c r l p) → (h : Held PrepareOk) × (counted_ok c r l p ≡ Some h) × In e h.body.report
entry-from c r l p e i = elim (option_is (counted_ok c r l p)) [
  | inl n ↦ absurd (subst (λ (o : Option (Held PrepareOk)). In e (report_in o)) n i)
  | inr h ↦ (h.0, h.1, subst (λ (o : Option (Held PrepareOk)). In e (report_in o)) h.1 i)
]

accepted-vote : (run : Trace) (s q : ℕ) (l : Life) (v i : ℕ) (batch : Batch) → Runs run s q l → IsLaunched run s v i batch → (p : ℕ) → HasAccepted run.setup (at run s) q l v i p
    → (number : ℕ) × In (record { life = record { replica = p; number = number }; view = v; instance = i; batch = batch }) (at run s).votes
accepted-vote run s q l v i batch runs h p (inl e) =
    (h.life.number, subst (λ (y : ℕ). In (record { life = record { replica = y; number = h.life.number }; view = v; instance = i; batch = batch }) (at run s).votes) (sym (launch-leads run s v i batch h) ∙ sym e) (launch-vote run s v i batch h))
accepted-vote run s q l v i batch runs h p (inr (inl took)) =
    let x = took-sent run s q l p (Message.Accept (record { view = v; instance = i })) runs took in
    let a = accept-from run s x.0 (record { view = v; instance = i }) x.1 x.2 in
    let c = cast-by run s _ a.1 in
    let same_batch : a.0 ≡ batch = launched-same run (suc c.s) s v i a.0 batch c.launched h in
    let there = subst (λ (b : Batch). In (record { life = x.0.from; view = v; instance = i; batch = b }) (at run s).votes) same_batch a.1 in
    (x.0.from.number, subst (λ (y : ℕ). In (record { life = record { replica = y; number = x.0.from.number }; view = v; instance = i; batch = batch }) (at run s).votes) x.3 there)
accepted-vote run s q l v i batch runs h p (inr (inr own)) =
    let c = cast-by run s _ own.1.1 in
    let same_batch : own.1.0 ≡ batch = launched-same run (suc c.s) s v i own.1.0 batch c.launched h in
    let there = subst (λ (b : Batch). In (record { life = id_of q l; view = v; instance = i; batch = b }) (at run s).votes) same_batch own.1.1 in
    (l.number, subst (λ (y : ℕ). In (record { life = record { replica = y; number = l.number }; view = v; instance = i; batch = batch }) (at run s).votes) (sym own.0) there)

-- what a life may learn is chosen
learn-chosen : (run : Trace) (s q : ℕ) (l : Life) (i : ℕ) (batch : Batch) → Runs run s q l → KnownBelow run s → MayLearn run.setup (at run s) q l i batch → (v : ℕ) × IsChosenIn run.setup.n (at run s) v i batch
unfolding KnownBelow
learn-chosen run s q l i batch runs ih (By_votes v members proposal quorum accepted) =
    let h = proposal-from run s q l v i batch runs proposal in
    (v, record { members = members; quorum = quorum; voted = λ p lt e. accepted-vote run s q l v i batch runs h p (accepted p lt e) })
learn-chosen run s q l i batch runs ih (By_report lead p leads lt entry) =
    let a = was_prepared run s q l lead runs leads in
    let is : lead.reports p ≡ counted_report run.setup q a.life p = ap (λ (f : ℕ → List Entry). f p) a.from.reports in
    let f = entry-from run.setup q a.life p (decided_entry i batch) (subst (λ (es : List Entry). In (decided_entry i batch) es) is entry) in
    let g = report-of run a.s q a.life l.view a.x p f.0 a.prepared f.1 in
    let b1 = g.before in
    let b2 = a.before in
    let known : g.life.known i ≡ Some batch = g.can.reported.told (decided_entry i batch) f.2 in
    let d = ih g.s p g.life i batch (omega arith) g.runs known in
    (d.0, chosen-up run g.s s d.0 i batch (omega arith) d.1)
learn-chosen run s q l i batch runs ih (By_catch_up p first at' batches took is there) =
    let m : CatchUpReply = record { first = first; batches = batches } in
    let x = took-sent run s q l p (Message.CatchUpReply m) runs took in
    let h = catch_up-from run s x.0 m x.1 x.2 in
    let known : h.life.known i ≡ Some batch = ap h.life.known is ∙ h.may at' batch there in
    let d = ih h.s x.0.from.replica h.life i batch h.before h.runs known in
    (d.0, chosen-up run h.s s d.0 i batch (le_of_lt h.before) d.1)

known_below : (run : Trace) (k : ℕ) → KnownBelow run k
unfolding KnownBelow
known_below run zero t q l i batch lt runs e = absurd (omega arith)
known_below run (suc k) t q l i batch lt runs e =
    let h = learnt run t q l i batch runs e in
    let b = h.before in
    let can = can-at run h.s q (Learn i batch) h.life h.does h.runs in
    let d = learn-chosen run h.s q h.life i batch h.runs (λ t2 q2 l2 i2 batch2 lt2 runs2 e2. known_below run k t2 q2 l2 i2 batch2 (omega arith) runs2 e2) can in
    (d.0, chosen-up run h.s t d.0 i batch (le_of_lt b) d.1)

-- a batch that is known at some moment is chosen by that moment
pub known-chosen : (run : Trace) (t q : ℕ) (l : Life) (i : ℕ) (batch : Batch) → Runs run t q l → l.known i ≡ Some batch → (v : ℕ) × IsChosenIn run.setup.n (at run t) v i batch
unfolding KnownBelow
known-chosen run t q l i batch runs e = known_below run (suc t) t q l i batch (omega arith) runs e

-- each known batch is chosen
pub known_are_chosen : (run : Trace) → KnownAreChosen run
known_are_chosen run t r l i batch runs e = let d = known-chosen run t r l i batch runs e in (d.0, (t, d.1))

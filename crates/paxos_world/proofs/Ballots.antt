-- Where launches, proposals and votes come from, and what a life keeps of its votes.
use Rattle.std.proofs.Common.{◌≡◌, ℕ, zero, suc, ◌+◌, ◌≤◌, ◌<◌, ◌⊎◌, List, ◌++◌, Option, Some, None, refl, sym, ap, subst, ◌∙◌, inl, inr, ⊎_elim, arith, le_of_lt, zero-add, suc-add, ◌-◌}
use Rattle.jp_types.specs.declared.message.Message.{Message}
use Rattle.jp_types.specs.declared.message.Propose.{Propose}
use Rattle.jp_types.specs.declared.mode.Phase.TheVariants.{Working}
use Rattle.jp_types.specs.Views.{leader}
use Rattle.jp_types.specs.Lists.{In}
use Rattle.paxos_world.specs.Setup.{Setup}
use Rattle.paxos_world.specs.Life.{Launched, Lead, Leads, Life, Took}
use Rattle.jp_types.specs.Instances.{Batch}
use Rattle.paxos_world.specs.World.{Replica, Ballot, Sent, World, Deed, Launch, Vote, Learn, Say, Can, Allowed, life_after, Move, First, Return, Crash, Act, who, replica_after, ballots, ballots_of, HasProposal, of_running, id_of}
use Rattle.paxos_world.specs.Trace.{Trace, at, Runs, Does}
use Rattle.paxos_world.proofs.Basics.{with_at-cases, with_at-same, In-append, In-left, In-right}
use Rattle.paxos_world.proofs.Replies.{same}
use Rattle.paxos_world.proofs.Sound.{act-is, some-is}
use Rattle.paxos_world.proofs.Runs.{at-does, at-idle, always, life_sound-at, same_life, within-at, runs-after, grows-at}
use Rattle.paxos_world.proofs.Origins.{IsSentBy, sent-by, Source, From_promise, From_launch, From_vote, From_answer, From_say, source-of, saying-step}
use Rattle.paxos_world.proofs.Back.{phase_is}

-- the life of q with this number launched the batch before moment t
pub record HasLaunch (run : Trace) (t q number : ℕ) (y : Launched) : Type 0 where
  pub s : ℕ
  pub before : s < t
  pub life : Life
  pub does : Does run s (Act q (Launch y.view y.instance y.batch))
  pub runs : Runs run s q life
  pub same : life.number ≡ number

LaunchesSo : Trace → ℕ → ℕ → Replica → Type 0
LaunchesSo run t q a = (l : Life) (y : Launched) → a.running ≡ Some l → In y l.launched → HasLaunch run t q l.number y

later_launch : (run : Trace) (t q number : ℕ) (y : Launched) → HasLaunch run t q number y → HasLaunch run (suc t) q number y
later_launch run t q number y h = record { s = h.s; before = let b = h.before in omega arith; life = h.life; does = h.does; runs = h.runs; same = h.same }

later_launches : (run : Trace) (t q : ℕ) (a : Replica) → LaunchesSo run t q a → LaunchesSo run (suc t) q a
unfolding LaunchesSo
later_launches run t q a h l y e i = later_launch run t q l.number y (h l y e i)

-- only a Launch adds to what a life launched
launched-after : (c : Setup) (r : ℕ) (l : Life) (d : Deed) (y : Launched) → In y (life_after c r l d).launched → In y l.launched ⊎ (d ≡ Launch y.view y.instance y.batch)
launched-after c r l (Launch view i batch) y (inl e) = inr (sym (ap (λ (k : Launched). Launch k.view k.instance k.batch) e))
launched-after c r l (Launch view i batch) y (inr j) = inl j
launched-after c r l _ y j = inl j

acting_launches : (run : Trace) (t : ℕ) (m : Move) → Does run t m → Allowed run.setup (at run t) m → LaunchesSo run t (who m) ((at run t).replicas (who m))
    → LaunchesSo run (suc t) (who m) (replica_after run.setup ((at run t).replicas (who m)) m)
unfolding LaunchesSo
acting_launches run t (First r) e a h l y is i = absurd (subst (λ (k : Life). In y k.launched) (sym (some-is _ l is)) i)
acting_launches run t (Return r mark) e a h l y is i = absurd (subst (λ (k : Life). In y k.launched) (sym (some-is _ l is)) i)
acting_launches run t (Crash r) e a h l y is i = absurd cc
acting_launches run t (Act r d) e a h l y is i =
    let k = a.meets.life in
    let runs = a.meets.running in
    let g : life_after run.setup r k d ≡ l = some-is _ l (sym (ap (λ (x : Replica). x.running) (act-is run.setup r ((at run t).replicas r) d k runs)) ∙ is) in
    let n : k.number ≡ l.number = sym ((grows-at run t r d k e runs).number) ∙ ap (λ (x : Life). x.number) g in
    let j : In y (life_after run.setup r k d).launched = subst (λ (x : Life). In y x.launched) (sym g) i in
    elim (launched-after run.setup r k d y j) [
      | inl o ↦ subst (λ (x : ℕ). HasLaunch run (suc t) r x y) n (later_launch run t r k.number y (h k y runs o))
      | inr o ↦ record { s = t; before = omega arith; life = k; does = e ∙ ap (λ x. Some (Act r x)) o; runs = runs; same = n }
    ]

-- what a life launched comes from its Launch
pub launched-from : (run : Trace) (t q : ℕ) (l : Life) (y : Launched) → Runs run t q l → In y l.launched → HasLaunch run t q l.number y
unfolding LaunchesSo
launched-from run t q l y = always run (λ u w. LaunchesSo run u q (w.replicas q)) (λ k j e f. absurd cc) (λ u w h. later_launches run u q (w.replicas q) h)
    (λ u m e a h. with_at-cases (λ b. LaunchesSo run (suc u) q b) (at run u).replicas (who m) (replica_after run.setup ((at run u).replicas (who m)) m) q
    (λ is. subst (λ k. LaunchesSo run (suc u) k (replica_after run.setup ((at run u).replicas (who m)) m)) (sym is) (acting_launches run u m e a (subst (λ k. LaunchesSo run u k ((at run u).replicas k)) is h)))
    (λ ne. later_launches run u q ((at run u).replicas q) h)) t l y

-- some life launched the batch before moment t
pub record IsLaunched (run : Trace) (t v i : ℕ) (batch : Batch) : Type 0 where
  pub s : ℕ
  pub before : s < t
  pub q : ℕ
  pub life : Life
  pub does : Does run s (Act q (Launch v i batch))
  pub runs : Runs run s q life

pub later_launched : (run : Trace) (s t v i : ℕ) (batch : Batch) → s ≤ t → IsLaunched run s v i batch → IsLaunched run t v i batch
later_launched run s t v i batch le h = record { s = h.s; before = let b = h.before in omega arith; q = h.q; life = h.life; does = h.does; runs = h.runs }

launch-of : (run : Trace) (t q number v i : ℕ) (batch : Batch) → HasLaunch run t q number (record { view = v; instance = i; batch = batch }) → IsLaunched run t v i batch
launch-of run t q number v i batch h = record { s = h.s; before = h.before; q = q; life = h.life; does = h.does; runs = h.runs }

-- the batch of a Propose that was sent was launched
pub propose-from : (run : Trace) (t : ℕ) (x : Sent) (m : Propose) → In x (at run t).sent → x.message ≡ Message.Propose m → IsLaunched run t m.view m.instance m.batch
propose-from run t x m i e = let h = sent-by run t x i in let g = source-of run.setup h.r h.life h.deed x h.sends in go h g.0 g.1
  where
    go : (h : IsSentBy run t x) → x.from ≡ id_of h.r h.life → Source run.setup h.r h.life h.deed x → IsLaunched run t m.view m.instance m.batch
    go h f (From_promise view first mark low report is same k) = absurd cc
    go h f (From_launch view j batch is k) =
        let g : m ≡ record { view = view; instance = j; batch = batch } = cc in
        let does : Does run h.s (Act h.r (Launch m.view m.instance m.batch)) = h.does ∙ ap (λ d. Some (Act h.r d)) (is ∙ sym (ap (λ (p : Propose). Launch p.view p.instance p.batch) g)) in
        record { s = h.s; before = h.before; q = h.r; life = h.life; does = does; runs = h.runs }
    go h f (From_vote view j batch is k) = absurd cc
    go h f (From_answer to view next mark is same k) = absurd cc
    go h f (From_say to message is k) =
        let said = saying-step run t h.s h.r to h.life h.deed x.from (Message.Propose m) h.before h.does h.runs f (is ∙ ap (Say to) (sym k ∙ e)) in
        later_launched run said.s t m.view m.instance m.batch (le_of_lt said.before) (launch-of run said.s x.from.replica said.life.number m.view m.instance m.batch
        (launched-from run said.s x.from.replica said.life (record { view = m.view; instance = m.instance; batch = m.batch }) said.runs said.may))

-- what was taken was sent
pub took-sent : (run : Trace) (t q : ℕ) (l : Life) (p : ℕ) (m : Message) → Runs run t q l → Took l p m → (x : Sent) × In x (at run t).sent × (x.message ≡ m) × (x.from.replica ≡ p)
took-sent run t q l p m runs took =
    let b = took.0 in
    (record { from = b.from; to = q; message = b.message }, (life_sound-at run t q l runs).taken b took.1, took.3, took.2)

-- where a life launched a batch or took its Propose, some life launched it
pub proposal-from : (run : Trace) (t q : ℕ) (l : Life) (v i : ℕ) (batch : Batch) → Runs run t q l → HasProposal l v i batch → IsLaunched run t v i batch
proposal-from run t q l v i batch runs (inl h) = launch-of run t q l.number v i batch (launched-from run t q l (record { view = v; instance = i; batch = batch }) runs h)
proposal-from run t q l v i batch runs (inr h) =
    let x = took-sent run t q l h.0 (Message.Propose (record { view = v; instance = i; batch = batch })) runs h.1 in
    propose-from run t x.0 (record { view = v; instance = i; batch = batch }) x.1 x.2

-- a vote comes from a step in which its life was in that view, and the batch was launched by then
pub record IsCast (run : Trace) (t : ℕ) (b : Ballot) : Type 0 where
  pub s : ℕ
  pub before : s < t
  pub life : Life
  pub runs : Runs run s b.life.replica life
  pub same : b.life.number ≡ life.number
  pub working : life.phase ≡ Working
  pub view : life.view ≡ b.view
  pub inside : b.life.replica < run.setup.n
  pub launched : IsLaunched run (suc s) b.view b.instance b.batch
  pub in_votes : In b (at run (suc s)).votes
  pub later : Life
  pub runs_later : Runs run (suc s) b.life.replica later
  pub same_later : later.number ≡ life.number
  pub voted : later.votes b.instance ≡ Some (b.view, b.batch)

-- the world's votes stay
votes-suc : (run : Trace) (t : ℕ) (b : Ballot) → In b (at run t).votes → In b (at run (suc t)).votes
votes-suc run t b h = always-suc (run.moves t) refl
  where
    always-suc : (o : Option Move) → run.moves t ≡ o → In b (at run (suc t)).votes
    always-suc None e = subst (λ (w : World). In b w.votes) (sym (at-idle run t e)) h
    always-suc (Some m) e = subst (λ (w : World). In b w.votes) (sym (at-does run t m e)) (In-left b (at run t).votes (ballots (at run t) m) h)

votes-by : (run : Trace) (b : Ballot) (s k : ℕ) → In b (at run s).votes → In b (at run (k + s)).votes
votes-by run b s zero h = rw zero-add h
votes-by run b s (suc k) h = rw suc-add (votes-suc run (k + s) b (votes-by run b s k h))

pub votes-up : (run : Trace) (b : Ballot) (s t : ℕ) → s ≤ t → In b (at run s).votes → In b (at run t).votes
votes-up run b s t le h = let e : (t - s) + s ≡ t = omega arith in subst (λ k. In b (at run k).votes) e (votes-by run b s (t - s) h)

later_cast : (run : Trace) (t : ℕ) (b : Ballot) → IsCast run t b → IsCast run (suc t) b
later_cast run t b h =
    record {
      s = h.s;
      before = let x = h.before in omega arith;
      life = h.life;
      runs = h.runs;
      same = h.same;
      working = h.working;
      view = h.view;
      inside = h.inside;
      launched = h.launched;
      in_votes = h.in_votes;
      later = h.later;
      runs_later = h.runs_later;
      same_later = h.same_later;
      voted = h.voted;
    }

-- a Prepared life is Working
pub leads-works : (run : Trace) (t q : ℕ) (l : Life) (lead : Lead) → Runs run t q l → l.leading ≡ Leads lead → l.phase ≡ Working
leads-works run t q l lead runs e = elim (phase_is l.phase) [ inl f ↦ (let w = ((life_sound-at run t q l runs).waiting f).1 in absurd cc) | inr f ↦ f ]

cast-now : (run : Trace) (t r : ℕ) (d : Deed) (l : Life) (b : Ballot) → Does run t (Act r d) → Runs run t r l → In b (ballots_of r l d) → Can run.setup (at run t) r l d → In b (at run (suc t)).votes → IsCast run (suc t) b
cast-now run t r (Launch view i batch) l b e runs (inl is) can there =
    let new : Ballot = record { life = id_of r l; view = view; instance = i; batch = batch } in
    let done : In new (at run (suc t)).votes → IsCast run (suc t) new = λ v. record {
      s = t;
      before = omega arith;
      life = l;
      runs = runs;
      same = refl;
      working = leads-works run t r l can.lead runs can.leads;
      view = can.in_view;
      inside = within-at run t _ e;
      launched = record { s = t; before = omega arith; q = r; life = l; does = e; runs = runs };
      in_votes = v;
      later = life_after run.setup r l (Launch view i batch);
      runs_later = runs-after run t r (Launch view i batch) l e runs;
      same_later = refl;
      voted = with_at-same l.votes i (Some (view, batch));
    } in
    subst (λ (k : Ballot). In k (at run (suc t)).votes → IsCast run (suc t) k) (sym is) done there
cast-now run t r (Launch view i batch) l b e runs (inr j) can there = absurd j
cast-now run t r (Vote view i batch) l b e runs (inl is) can there =
    let new : Ballot = record { life = id_of r l; view = view; instance = i; batch = batch } in
    let done : In new (at run (suc t)).votes → IsCast run (suc t) new = λ v. record {
      s = t;
      before = omega arith;
      life = l;
      runs = runs;
      same = refl;
      working = can.working;
      view = can.in_view;
      inside = within-at run t _ e;
      launched = later_launched run t (suc t) view i batch (omega arith) (proposal-from run t r l view i batch runs (⊎_elim (λ a. inl a) (λ a. inr (leader run.setup.n view, a)) can.proposal));
      in_votes = v;
      later = life_after run.setup r l (Vote view i batch);
      runs_later = runs-after run t r (Vote view i batch) l e runs;
      same_later = refl;
      voted = with_at-same l.votes i (Some (view, batch));
    } in
    subst (λ (k : Ballot). In k (at run (suc t)).votes → IsCast run (suc t) k) (sym is) done there
cast-now run t r (Vote view i batch) l b e runs (inr j) can there = absurd j
cast-now run t r _ l b e runs j can there = absurd j

cast-step : (run : Trace) (t : ℕ) (m : Move) (b : Ballot) → Does run t m → Allowed run.setup (at run t) m → In b (ballots (at run t) m) → In b (at run (suc t)).votes → IsCast run (suc t) b
cast-step run t (First r) b e a i there = absurd i
cast-step run t (Return r mark) b e a i there = absurd i
cast-step run t (Crash r) b e a i there = absurd i
cast-step run t (Act r d) b e a i there =
    let h = a.meets in
    cast-now run t r d h.life b e h.running (subst (λ (o : Option Life). In b (of_running o (λ k. ballots_of r k d))) h.running i) h.can there

-- each vote comes from its step
pub cast-by : (run : Trace) (t : ℕ) (b : Ballot) → In b (at run t).votes → IsCast run t b
cast-by run t b = always run (λ u w. In b w.votes → IsCast run u b) (λ i. absurd i) (λ u w h i. later_cast run u b (h i))
    (λ u m e a h i. ⊎_elim (λ j. later_cast run u b (h j))
    (λ j. cast-step run u m b e a j (subst (λ (w : World). In b w.votes) (sym (at-does run u m e)) i)) (In-append b (at run u).votes (ballots (at run u) m) i)) t

-- a vote that was cast stays in the world's votes
pub cast-kept : (run : Trace) (t u : ℕ) (b : Ballot) → (h : IsCast run t b) → h.s < u → In b (at run u).votes
cast-kept run t u b h lt = votes-up run b (suc h.s) u lt h.in_votes

-- a life's latest vote on an instance is at or above each vote that it cast there
pub vote-kept : (run : Trace) (t u q : ℕ) (l : Life) (b : Ballot) → (h : IsCast run t b) → b.life.replica ≡ q → h.life.number ≡ l.number → h.s < u → Runs run u q l
    → (vote : ℕ × Batch) × (l.votes b.instance ≡ Some vote) × (b.view ≤ vote.0)
vote-kept run t u q l b h same n lt runs =
    let there : Runs run (suc h.s) q h.later = subst (λ (y : ℕ). Runs run (suc h.s) y h.later) same h.runs_later in
    (same_life run (suc h.s) u q h.later l lt there runs (h.same_later ∙ n)).votes b.instance (b.view, b.batch) h.voted

-- the latest votes of a life are among the world's votes
RealSo : List Ballot → ℕ → Replica → Type 0
RealSo votes q a = (l : Life) (i : ℕ) (vote : ℕ × Batch) → a.running ≡ Some l → l.votes i ≡ Some vote → In (record { life = id_of q l; view = vote.0; instance = i; batch = vote.1 }) votes

votes-after : (c : Setup) (r : ℕ) (l : Life) (d : Deed) (i : ℕ) (vote : ℕ × Batch) → (life_after c r l d).votes i ≡ Some vote
    → (l.votes i ≡ Some vote) ⊎ In (record { life = id_of r l; view = vote.0; instance = i; batch = vote.1 }) (ballots_of r l d)
votes-after c r l (Launch view j batch) i vote e =
    with_at-cases (λ o. o ≡ Some vote → (l.votes i ≡ Some vote) ⊎ In (record { life = id_of r l; view = vote.0; instance = i; batch = vote.1 }) (ballots_of r l (Launch view j batch))) l.votes j (Some (view, batch)) i
    (λ f g. let p : (view, batch) ≡ vote = some-is _ vote g in
    let v : vote.0 ≡ view = sym (ap (λ (k : ℕ × Batch). k.0) p) in let b : vote.1 ≡ batch = sym (ap (λ (k : ℕ × Batch). k.1) p) in
    inr (inl (λ k. record { life = id_of r l; view = v k; instance = f k; batch = b k }))) (λ ne g. inl g) e
votes-after c r l (Vote view j batch) i vote e =
    with_at-cases (λ o. o ≡ Some vote → (l.votes i ≡ Some vote) ⊎ In (record { life = id_of r l; view = vote.0; instance = i; batch = vote.1 }) (ballots_of r l (Vote view j batch))) l.votes j (Some (view, batch)) i
    (λ f g. let p : (view, batch) ≡ vote = some-is _ vote g in
    let v : vote.0 ≡ view = sym (ap (λ (k : ℕ × Batch). k.0) p) in let b : vote.1 ≡ batch = sym (ap (λ (k : ℕ × Batch). k.1) p) in
    inr (inl (λ k. record { life = id_of r l; view = v k; instance = f k; batch = b k }))) (λ ne g. inl g) e
votes-after c r l _ i vote e = inl e

acting_real : (run : Trace) (t : ℕ) (m : Move) → Does run t m → Allowed run.setup (at run t) m → RealSo (at run t).votes (who m) ((at run t).replicas (who m))
    → RealSo ((at run t).votes ++ ballots (at run t) m) (who m) (replica_after run.setup ((at run t).replicas (who m)) m)
unfolding RealSo
acting_real run t (First r) e a h l i vote is f = let g = ap (λ (k : Life). k.votes i) (some-is _ l is) in absurd cc
acting_real run t (Return r mark) e a h l i vote is f = let g = ap (λ (k : Life). k.votes i) (some-is _ l is) in absurd cc
acting_real run t (Crash r) e a h l i vote is f = absurd cc
acting_real run t (Act r d) e a h l i vote is f =
    let k = a.meets.life in
    let runs = a.meets.running in
    let g : life_after run.setup r k d ≡ l = some-is _ l (sym (ap (λ (x : Replica). x.running) (act-is run.setup r ((at run t).replicas r) d k runs)) ∙ is) in
    let n : k.number ≡ l.number = sym ((grows-at run t r d k e runs).number) ∙ ap (λ (x : Life). x.number) g in
    let new : List Ballot = ballots (at run t) (Act r d) in
    let ballot : ℕ → Ballot = λ (y : ℕ). record { life = record { replica = r; number = y }; view = vote.0; instance = i; batch = vote.1 } in
    let done : In (ballot k.number) ((at run t).votes ++ new)
    = elim (votes-after run.setup r k d i vote (ap (λ (x : Life). x.votes i) g ∙ f)) [
      | inl o ↦ In-left (ballot k.number) (at run t).votes new (h k i vote runs o)
      | inr o ↦ In-right (ballot k.number) (at run t).votes new (subst (λ (x : Option Life). In (ballot k.number) (of_running x (λ j. ballots_of r j d))) (sym runs) o)
    ] in
    subst (λ (y : ℕ). In (ballot y) ((at run t).votes ++ new)) n done

-- a life cast its latest vote
pub vote-real : (run : Trace) (t q : ℕ) (l : Life) (i : ℕ) (vote : ℕ × Batch) → Runs run t q l → l.votes i ≡ Some vote → IsCast run t (record { life = id_of q l; view = vote.0; instance = i; batch = vote.1 })
unfolding RealSo
vote-real run t q l i vote runs e =
    cast-by run t (record { life = id_of q l; view = vote.0; instance = i; batch = vote.1 })
    (always run (λ u w. RealSo w.votes q (w.replicas q)) (λ k j v x f. absurd cc) (λ u w h. h)
    (λ u m x a h. with_at-cases (λ b. RealSo ((at run u).votes ++ ballots (at run u) m) q b) (at run u).replicas (who m) (replica_after run.setup ((at run u).replicas (who m)) m) q
    (λ is. subst (λ k. RealSo ((at run u).votes ++ ballots (at run u) m) k (replica_after run.setup ((at run u).replicas (who m)) m)) (sym is) (acting_real run u m x a (subst (λ k. RealSo (at run u).votes k ((at run u).replicas k)) is h)))
    (λ ne k j v y f. In-left _ (at run u).votes (ballots (at run u) m) (h k j v y f))) t l i vote runs e)

-- a batch that is known was learned
pub record IsLearnt (run : Trace) (t q i : ℕ) (batch : Batch) : Type 0 where
  pub s : ℕ
  pub before : s < t
  pub life : Life
  pub does : Does run s (Act q (Learn i batch))
  pub runs : Runs run s q life

KnownSo : Trace → ℕ → ℕ → Replica → Type 0
KnownSo run t q a = (l : Life) (i : ℕ) (batch : Batch) → a.running ≡ Some l → l.known i ≡ Some batch → IsLearnt run t q i batch

later_learnt : (run : Trace) (t q i : ℕ) (batch : Batch) → IsLearnt run t q i batch → IsLearnt run (suc t) q i batch
later_learnt run t q i batch h = record { s = h.s; before = let b = h.before in omega arith; life = h.life; does = h.does; runs = h.runs }

later_known : (run : Trace) (t q : ℕ) (a : Replica) → KnownSo run t q a → KnownSo run (suc t) q a
unfolding KnownSo
later_known run t q a h l i batch e f = later_learnt run t q i batch (h l i batch e f)

known-after : (c : Setup) (r : ℕ) (l : Life) (d : Deed) (i : ℕ) (batch : Batch) → (life_after c r l d).known i ≡ Some batch → (l.known i ≡ Some batch) ⊎ (d ≡ Learn i batch)
known-after c r l (Learn j other) i batch e =
    with_at-cases (λ o. o ≡ Some batch → (l.known i ≡ Some batch) ⊎ (Learn j other ≡ Learn i batch)) l.known j (Some other) i
    (λ f g. let b : other ≡ batch = some-is other batch g in inr (λ k. Learn (sym f k) (b k))) (λ ne g. inl g) e
known-after c r l _ i batch e = inl e

acting_known : (run : Trace) (t : ℕ) (m : Move) → Does run t m → Allowed run.setup (at run t) m → KnownSo run t (who m) ((at run t).replicas (who m))
    → KnownSo run (suc t) (who m) (replica_after run.setup ((at run t).replicas (who m)) m)
unfolding KnownSo
acting_known run t (First r) e a h l i batch is f = let g = ap (λ (k : Life). k.known i) (some-is _ l is) in absurd cc
acting_known run t (Return r mark) e a h l i batch is f = let g = ap (λ (k : Life). k.known i) (some-is _ l is) in absurd cc
acting_known run t (Crash r) e a h l i batch is f = absurd cc
acting_known run t (Act r d) e a h l i batch is f =
    let k = a.meets.life in
    let runs = a.meets.running in
    let g : life_after run.setup r k d ≡ l = some-is _ l (sym (ap (λ (x : Replica). x.running) (act-is run.setup r ((at run t).replicas r) d k runs)) ∙ is) in
    elim (known-after run.setup r k d i batch (ap (λ (x : Life). x.known i) g ∙ f)) [
      | inl o ↦ later_learnt run t r i batch (h k i batch runs o)
      | inr o ↦ record { s = t; before = omega arith; life = k; does = e ∙ ap (λ x. Some (Act r x)) o; runs = runs }
    ]

pub learnt : (run : Trace) (t q : ℕ) (l : Life) (i : ℕ) (batch : Batch) → Runs run t q l → l.known i ≡ Some batch → IsLearnt run t q i batch
unfolding KnownSo
learnt run t q l i batch = always run (λ u w. KnownSo run u q (w.replicas q)) (λ k j b e f. absurd cc) (λ u w h. later_known run u q (w.replicas q) h)
    (λ u m e a h. with_at-cases (λ b. KnownSo run (suc u) q b) (at run u).replicas (who m) (replica_after run.setup ((at run u).replicas (who m)) m) q
    (λ is. subst (λ k. KnownSo run (suc u) k (replica_after run.setup ((at run u).replicas (who m)) m)) (sym is) (acting_known run u m e a (subst (λ k. KnownSo run u k ((at run u).replicas k)) is h)))
    (λ ne. later_known run u q ((at run u).replicas q) h)) t l i batch

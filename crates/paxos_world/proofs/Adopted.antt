-- Each Prepared step adopts what is chosen in lower views, and so an instance is chosen with at most one batch.
use Rattle.std.proofs.Common.{◌≡◌, ℕ, zero, suc, ◌≤◌, ◌<◌, ◌⊎◌, List, Some, None, refl, sym, ap, subst, ◌∙◌, inl, inr, arith, le_refl, le_of_lt}
use Rattle.jp_types.specs.declared.message.Message.{Message}
use Rattle.jp_types.specs.declared.message.Entry.{Entry}
use Rattle.jp_types.specs.declared.message.PrepareOk.{PrepareOk}
use Rattle.jp_types.specs.declared.message.Prepare.{Prepare}
use Rattle.jp_types.specs.Views.{leader}
use Rattle.jp_types.specs.Lists.{In}
use Rattle.paxos_world.specs.Life.{Launched, Lead, Leading, No, Preparing, Leads, Life, IsKnown, next_of}
use Rattle.jp_types.specs.Instances.{Batch}
use Rattle.paxos_world.specs.Counting.{Held, counted_ok, is_promised}
use Rattle.paxos_world.specs.World.{Ballot, Launch, life_after, MayLaunch, CanRejoin, CanPromise, CanPrepared, MayLaunch}
use Rattle.paxos_world.specs.Trace.{Trace, at, Runs, IsChosen}
use Rattle.paxos_world.specs.Laws.{BecomesPrepared, CountsLife}
use Rattle.paxos_world.proofs.Basics.{shared, lt_or_le}
use Rattle.paxos_world.proofs.Sound.{LaunchedSo, some-is}
use Rattle.paxos_world.proofs.Growth.{Onward}
use Rattle.paxos_world.proofs.Runs.{life_sound-at, later-at, same_life, newer_life, runs-after}
use Rattle.paxos_world.proofs.Origins.{prepare-from}
use Rattle.paxos_world.proofs.Rejoining.{HasRejoined, rejoined, AnswerFor, answer-for}
use Rattle.paxos_world.specs.Laws.{ChosenAreAdopted, OneChosen}
use Rattle.paxos_world.proofs.Seen.{can-rejoin}
use Rattle.paxos_world.proofs.Back.{same_mark, MemberOf, member-of, can-prepared, promised-counts, rejoin-view, counted_come_back, returned_come_back}
use Rattle.paxos_world.proofs.One.{WasPrepared, was_prepared, LaunchStep, launch-step, one_leader, prepared-leads}
use Rattle.paxos_world.specs.Adoption.{report_in, counted_report, adopted_by}
use Rattle.jp_types.specs.Reports.{decided_entry, voted_entry}
use Rattle.paxos_world.proofs.Ballots.{IsLaunched, later_launched, took-sent, IsCast, cast-by, vote-kept, vote-real}
use Rattle.paxos_world.proofs.Adopting.{option_is, IsAtLeast, Agrees, Shows, By_known, By_decided, By_vote, By_own, adopted-is, vote_in-has, vote_in-from}
use Rattle.paxos_world.proofs.Back.{answered-after}
use Rattle.paxos_world.proofs.Chosen.{launched-same, chosen-launched, report-of, entry-from, known-chosen}

-- the law for the Prepared steps before moment k
AdoptedBelow : Trace → ℕ → Type 0
AdoptedBelow run k = (t r : ℕ) (l : Life) (w x v i : ℕ) (batch : Batch) → t < k → BecomesPrepared run t r l w x → IsChosen run v i batch → v < w
    → (i < x) × ((i < l.below) ⊎ (adopted_by run.setup.n (counted_report run.setup r l) l i ≡ batch))

-- a launch in a view above one in which the instance is chosen has that batch
launch-right : (run : Trace) (k v w i : ℕ) (batch other : Batch) → AdoptedBelow run k → IsChosen run v i batch → IsLaunched run k w i other → v < w → other ≡ batch
unfolding AdoptedBelow
launch-right run k v w i batch other ih chosen h less =
    let a = launch-step run h.s h.q w i other h.life h.does h.runs in
    let p = a.was in
    let b1 = p.before in
    let b2 = h.before in
    let r = ih p.s h.q p.life w p.x v i batch (omega arith) p.prepared chosen less in
    go a p r a.can.may
  where
    go : (a : LaunchStep run h.s h.q w i other h.life) (p : WasPrepared run h.s h.q w a.can.lead h.life.number)
        → (i < p.x) × ((i < p.life.below) ⊎ (adopted_by run.setup.n (counted_report run.setup h.q p.life) p.life i ≡ batch)) → MayLaunch a.can.lead i other → other ≡ batch
    go a p r (inl m) = elim r.1 [
      | inl low ↦ (let f = p.from.floor in let g = m.1 in absurd (omega arith))
      | inr is ↦ m.2 ∙ ap (λ (f : ℕ → Batch). f i) p.from.adopted ∙ is
    ]
    go a p r (inr m) = let x = p.from.x in let y = m.0 in let z = r.0 in absurd (omega arith)

-- a vote at or above the view in which the instance is chosen has that batch
vote-right : (run : Trace) (k v w i : ℕ) (batch other : Batch) → AdoptedBelow run k → IsChosen run v i batch → IsLaunched run k w i other → v ≤ w → other ≡ batch
vote-right run k v w i batch other ih chosen h le =
    elim (lt_or_le v w) [
      | inl less ↦ launch-right run k v w i batch other ih chosen h less
      | inr ge ↦
          let e : w ≡ v = omega arith in
          let h' : IsLaunched run k v i other = subst (λ (y : ℕ). IsLaunched run k y i other) e h in
          launched-same run k chosen.0 v i other batch h' (chosen-launched run chosen.0 v i batch chosen.1)
    ]

-- a batch that is known by moment k is the chosen one
known-right : (run : Trace) (k t q : ℕ) (l : Life) (v i : ℕ) (batch other : Batch) → AdoptedBelow run k → IsChosen run v i batch → IsLaunched run k v i batch → t ≤ k → Runs run t q l → l.known i ≡ Some other → other ≡ batch
known-right run k t q l v i batch other ih chosen h le runs e =
    let d = known-chosen run t q l i other runs e in
    let g = later_launched run t k d.0 i other le (chosen-launched run t d.0 i other d.1) in
    elim (lt_or_le d.0 v) [
      | inl less ↦ sym (launch-right run k d.0 v i other batch ih (t, d.1) h less)
      | inr ge ↦ vote-right run k v d.0 i batch other ih chosen g ge
    ]

next-leads : (a : Leading) (n : ℕ) → next_of a ≡ Some n → (lead : Lead) × (a ≡ Leads lead) × (lead.next ≡ n)
next-leads No n e = cc
next-leads (Preparing first) n e = cc
next-leads (Leads lead) n e = (lead, refl, cc)

-- a life that returned after a vote on a chosen batch, and has rejoined, knows the instance
module _ (run : Trace) (k v i : ℕ) (batch : Batch) (ih : AdoptedBelow run k) (chosen : IsChosen run v i batch)
    (b : Ballot) (t0 : ℕ) (cast : IsCast run t0 b) (in_view : b.view ≡ v) (at_i : b.instance ≡ i) (its : b.batch ≡ batch)
    (t z : ℕ) (l : Life) (runs : Runs run t z l) (its_replica : b.life.replica ≡ z) (older : cast.life.number < l.number) (by : t ≤ k) (j : HasRejoined run t z l.number) where
  -- the batch that was voted on was launched
  launch : IsLaunched run (suc cast.s) v i batch
  launch =
      subst (λ (y : Batch). IsLaunched run (suc cast.s) v i y) its (subst (λ (y : ℕ). IsLaunched run (suc cast.s) v y b.batch) at_i (subst (λ (y : ℕ). IsLaunched run (suc cast.s) y b.instance b.batch) in_view cast.launched))

  step : LaunchStep run launch.s launch.q v i batch launch.life
  step = launch-step run launch.s launch.q v i batch launch.life launch.does launch.runs

  voter : Runs run cast.s z cast.life
  voter = subst (λ (y : ℕ). Runs run cast.s y cast.life) its_replica cast.runs

  starts-before : (s : ℕ) → s ≤ cast.s → ((at run s).replicas z).starts < j.life.number
  starts-before s le =
      let up = (later-at run s cast.s z le).starts in
      let n = (life_sound-at run cast.s z cast.life voter).number in
      let m = j.same in
      omega arith

  low : v ≤ j.view
  low =
      let p = step.was in
      let b1 = p.before in
      let b2 = launch.before in
      returned_come_back run p.s launch.q p.life v p.x j.s z j.life j.view p.prepared j.rejoins (starts-before p.s (omega arith))

  can : CanRejoin run.setup z j.life j.view
  can = can-rejoin run j.s z j.life j.view j.rejoins

  boss : ℕ
  boss = leader run.setup.n j.view

  module _ (a : AnswerFor run j.s z j.life boss can.leader_answer) (lead : Lead) (leads : a.life.leading ≡ Leads lead) where
    answer_view : a.life.view ≡ j.view
    answer_view = a.view ∙ can.leader_view

    was : WasPrepared run a.s boss j.view lead a.life.number
    was = subst (λ (y : ℕ). WasPrepared run a.s boss y lead a.life.number) answer_view (was_prepared run a.s boss a.life lead a.runs leads)

    -- the leader whose answer was counted had launched the instance, or adopted it
    launched-same-view : v ≡ j.view → i < lead.next
    launched-same-view e =
        let was' : WasPrepared run a.s boss v lead a.life.number = subst (λ (y : ℕ). WasPrepared run a.s boss y lead a.life.number) (sym e) was in
        let o = one_leader run launch.s launch.q a.s boss v step.can.lead lead launch.life.number a.life.number step.was was' in
        let y : Launched = record { view = v; instance = i; batch = batch } in
        let there : Runs run a.s launch.q a.life = subst (λ (q : ℕ). Runs run a.s q a.life) o.0 a.runs in
        let after' = answered-after run cast.s j.s z j.life a.s boss a.life j.rejoins.runs a.runs a.asked (starts-before cast.s (le_refl _)) in
        let before = launch.before in
        let g = same_life run (suc launch.s) a.s launch.q (life_after run.setup launch.q launch.life (Launch v i batch)) a.life (omega arith)
        (runs-after run launch.s launch.q (Launch v i batch) launch.life launch.does launch.runs) there (sym o.1) in
        let so : LaunchedSo a.life.view (Leads lead) y = subst (λ (x : Leading). LaunchedSo a.life.view x y) leads ((life_sound-at run a.s launch.q a.life there).launched y (g.launched y (inl refl))) in
        let w = answer_view in
        elim so [ inl less ↦ absurd (omega arith) | inr h ↦ h.1 ]

    adopted-above : v < j.view → i < lead.next
    unfolding AdoptedBelow
    adopted-above less =
        let b1 = was.before in
        let b2 = a.before in
        let b3 = j.before in
        let r = (ih was.s boss was.life j.view was.x v i batch (omega arith) was.prepared chosen less).0 in
        let x = was.from.x in
        let n = (life_sound-at run a.s boss a.life a.runs).next lead leads in
        omega arith

    below-next : i < lead.next
    below-next = elim (lt_or_le v j.view) [ inl less ↦ adopted-above less | inr ge ↦ launched-same-view (let le = low in omega arith) ]

  known-later : IsKnown l i
  unfolding boss
  known-later =
      let a = answer-for run j.s z j.life boss can.leader_answer j.rejoins.runs can.leader_counted in
      let n = next-leads a.life.leading can.next (sym a.next ∙ can.leader_next) in
      let less = below-next a n.0 n.1 in
      let e = n.2 in
      let known = can.known i (omega arith) in
      (same_life run j.s t z j.life l (le_of_lt j.before) j.rejoins.runs runs j.same).known i known

-- the law for one Prepared step, where it holds for those before
module _ (run : Trace) (t r : ℕ) (l : Life) (w x v i : ℕ) (batch : Batch) (ih : AdoptedBelow run t) (prepared : BecomesPrepared run t r l w x) (chosen : IsChosen run v i batch) (less : v < w) where
  reports : ℕ → List Entry
  reports = counted_report run.setup r l

  can_prepared : CanPrepared run.setup r l w x
  can_prepared = can-prepared run t r l w x prepared

  -- an instance that the leader knows is below x
  known-x : IsKnown l i → i < x
  known-x known =
      let c = can_prepared in
      let up = c.at_least in
      elim (lt_or_le i c.first) [
        | inl lt ↦ elim (lt_or_le i c.unknown) [ inl a ↦ omega arith | inr ge ↦ absurd (c.first_unknown.unknown ((life_sound-at run t r l prepared.runs).from_first c.first c.preparing c.unknown (omega arith))) ]
        | inr ge ↦ c.above_known i ge known
      ]

  -- what is to be shown, from what the leader knows or sees
  Seen : Type 0
  Seen = (i < x) × ((i < l.below) ⊎ Shows run.setup.n reports l v i)

  seen-known : IsKnown l i → Seen
  unfolding Seen
  seen-known known = (known-x known, elim known [ inl lt ↦ inl lt | inr h ↦ inr (By_known h.0 h.1) ])

  -- the leader itself voted on the instance
  seen-own : IsAtLeast (l.votes i) v → Seen
  unfolding Seen
  seen-own h =
      let c = can_prepared in
      elim (lt_or_le i c.first) [
        | inl lt ↦ (let known = (life_sound-at run t r l prepared.runs).from_first c.first c.preparing i lt in seen-known known)
        | inr ge ↦ (c.above_voted i h.0 ge h.1, inr (By_own h))
      ]

  -- a promise to the leader was asked for with the leader's own `first`
  asked-first : (s z : ℕ) (k : Life) (first low : ℕ) (report : List Entry) → s < t → Runs run s z k → CanPromise run.setup z k w first l.mark low report → first ≡ can_prepared.first
  asked-first s z k first low report lt runs can =
      let m : Prepare = record { view = w; first = first; mark = l.mark } in
      let y = took-sent run s z k (leader run.setup.n w) (Message.Prepare m) runs can.asked in
      let h = prepare-from run s y.0 m y.1 y.2 in
      let there : Runs run h.s r h.life = subst (λ (q : ℕ). Runs run h.s q h.life) (y.3 ∙ prepared-leads run t r l w x prepared) h.runs in
      let n = same_mark run h.s t r h.life l there prepared.runs h.may.2 in
      let b = h.before in
      let g = same_life run h.s t r h.life l (omega arith) there prepared.runs n in
      let v1 = h.may.1 in
      let v2 = can_prepared.in_view in
      elim g.leading [
        | inl up ↦ absurd (omega arith)
        | inr on ↦ sym (subst (λ (q : Leading). Onward q (Preparing can_prepared.first)) h.may.0 (subst (λ (q : Leading). Onward h.life.leading q) can_prepared.preparing on.1))
      ]

  -- a counted report has the instance
  report-is : (z : ℕ) (h : Held PrepareOk) → counted_ok run.setup r l z ≡ Some h → h.body.report ≡ reports z
  unfolding reports
  report-is z h e = sym (ap report_in e)

  seen-report : (s z : ℕ) (k : Life) (first : ℕ) (h : Held PrepareOk) → z < run.setup.n → s < t → Runs run s z k → counted_ok run.setup r l z ≡ Some h → CanPromise run.setup z k w first l.mark h.body.low h.body.report
      → IsKnown k i ⊎ IsAtLeast (k.votes i) v → Seen
  unfolding Seen reports
  seen-report s z k first h inside lt runs e can shown =
      let c = can_prepared in
      let f = asked-first s z k first h.body.low h.body.report lt runs can in
      elim (lt_or_le i c.first) [
        | inl less' ↦ seen-known ((life_sound-at run t r l prepared.runs).from_first c.first c.preparing i less')
        | inr ge ↦ elim (lt_or_le i h.body.low) [
          | inl less' ↦ seen-known (c.lows z h inside e i less')
          | inr above ↦ listed (omega arith) above (option_is (k.known i)) shown
        ]
      ]
    where
      decided : (d : Batch) → In (decided_entry i d) h.body.report → Seen
      decided d there =
          let there' = subst (λ (es : List Entry). In (decided_entry i d) es) (report-is z h e) there in
          (can_prepared.above_reports z (decided_entry i d) inside there', inr (By_decided z d inside there'))

      voted : (vote : ℕ × Batch) → k.votes i ≡ Some vote → v ≤ vote.0 → In (voted_entry i vote.0 vote.1) h.body.report → Seen
      voted vote is up there =
          let there' = subst (λ (es : List Entry). In (voted_entry i vote.0 vote.1) es) (report-is z h e) there in
          let d = vote_in-has i vote.0 (reports z) vote.1 there' in
          let back = vote_in-from i (reports z) d.0 d.1 in
          let told = can.reported.told (voted_entry i d.0.0 d.0.1) (subst (λ (es : List Entry). In (voted_entry i d.0.0 d.0.1) es) (sym (report-is z h e)) back) in
          let same_vote : vote ≡ (d.0.0, d.0.1) = some-is vote (d.0.0, d.0.1) (sym is ∙ told.1) in
          let up' : v ≤ d.0.0 = subst (λ (q : ℕ × Batch). v ≤ q.0) same_vote up in
          (can_prepared.above_reports z (voted_entry i vote.0 vote.1) inside there', inr (By_vote z inside (d.0, d.1, up')))

      listed : first ≤ i → h.body.low ≤ i → (k.known i ≡ None) ⊎ ((d : Batch) × (k.known i ≡ Some d)) → IsKnown k i ⊎ IsAtLeast (k.votes i) v → Seen
      listed ge above (inr d) shown = decided d.0 (can.reported.decided i d.0 ge above d.1)
      listed ge above (inl none) (inl (inl lt)) = let low = can.low_from in absurd (omega arith)
      listed ge above (inl none) (inl (inr d)) = let f = d.1 in absurd cc
      listed ge above (inl none) (inr vote) = voted vote.0 vote.1 vote.2 (can.reported.voted i vote.0.0 vote.0.1 ge above none vote.1)

  -- a replica that voted and counts toward phase 1
  module _ (z number : ℕ) (inside : z < run.setup.n) (counts : CountsLife run.setup r l z number) (m : MemberOf run t r l w z number)
      (b : Ballot) (cast : IsCast run chosen.0 b) (its_replica : b.life.replica ≡ z) (in_view : b.view ≡ v) (at_i : b.instance ≡ i) (its : b.batch ≡ batch) where
    its_voter : Runs run cast.s z cast.life
    its_voter = subst (λ (y : ℕ). Runs run cast.s y cast.life) its_replica cast.runs

    voted-in : cast.life.view ≡ v
    voted-in = cast.view ∙ in_view

    -- the vote came before the promise, and the promise shows it
    Shown : Type 0
    Shown = (cast.s < m.s) × (IsKnown m.life i ⊎ IsAtLeast (m.life.votes i) v)

    alike : cast.life.number ≡ m.life.number → Shown
    unfolding Shown
    alike n =
        let e1 = m.view in
        let e2 = voted-in in
        elim (lt_or_le cast.s m.s) [
          | inl before ↦ (let k = vote-kept run chosen.0 m.s z m.life b cast its_replica n before m.runs in
              (before, inr (subst (λ (y : ℕ). IsAtLeast (m.life.votes y) v) at_i (k.0, k.1, (let up = k.2 in omega arith)))))
          | inr le ↦ (let up = (same_life run m.s cast.s z m.life cast.life le m.runs its_voter (sym n)).view in absurd (omega arith))
        ]

    -- a later life cannot vote so low
    later : m.life.number < cast.life.number → Shown
    later older =
        let j = rejoined run cast.s z cast.life m.life.number its_voter cast.working ((life_sound-at run m.s z m.life m.runs).started) older in
        let n0 = j.same in
        let n1 = m.same in
        let back = counted_come_back run t r l w x z number j.s j.life j.view prepared counts j.rejoins (omega arith) in
        let up = rejoin-view run cast.s z cast.life j its_voter in
        let e2 = voted-in in
        absurd (omega arith)

    -- an earlier life voted, and the one that promised knows the instance since it rejoined
    earlier : cast.life.number < m.life.number → Shown
    unfolding Shown
    earlier older =
        let j = rejoined run m.s z m.life cast.life.number m.runs m.working ((life_sound-at run cast.s z cast.life its_voter).started) older in
        let before = (newer_life run cast.s m.s z cast.life m.life its_voter m.runs older).0 in
        (before, inl (known-later run t v i batch ih chosen b chosen.0 cast in_view at_i its m.s z m.life m.runs its_replica older m.upto j))

    shown : Shown
    shown = elim (lt_or_le cast.life.number m.life.number) [
      | inl older ↦ earlier older
      | inr ge ↦ elim (lt_or_le m.life.number cast.life.number) [ inl newer ↦ later newer | inr le ↦ alike (omega arith) ]
    ]

    -- the batch was launched before the Prepared step
    launched-by-then : IsLaunched run t v i batch
    unfolding Shown
    launched-by-then =
        let before = shown.0 in
        let upto = m.upto in
        later_launched run (suc cast.s) t v i batch (omega arith)
        (subst (λ (y : Batch). IsLaunched run (suc cast.s) v i y) its (subst (λ (y : ℕ). IsLaunched run (suc cast.s) v y b.batch) at_i (subst (λ (y : ℕ). IsLaunched run (suc cast.s) y b.instance b.batch) in_view cast.launched)))

    seen : Seen
    unfolding Shown
    seen = elim m.reported [
      | inl own ↦ elim shown.1 [
        | inl known ↦ seen-known (subst (λ (y : Life). IsKnown y i) own.1 known)
        | inr vote ↦ seen-own (subst (λ (y : Life). IsAtLeast (y.votes i) v) own.1 vote)
      ]
      | inr h ↦ seen-report m.s z m.life h.1 h.0 inside h.4 m.runs h.2 h.3 shown.1
    ]

  -- each known batch, each decided entry and each vote of view v or above on the instance has the batch
  agrees : IsLaunched run t v i batch → Agrees run.setup.n reports l v i batch
  unfolding reports
  agrees h =
      record {
        known = λ d e. known-right run t t r l v i batch d ih chosen h (le_refl t) prepared.runs e;
        decided = λ p d lt there.
            let f = entry-from run.setup r l p (decided_entry i d) there in
            let g = report-of run t r l w x p f.0 prepared f.1 in
            known-right run t g.s p g.life v i batch d ih chosen h (le_of_lt g.before) g.runs (g.can.reported.told (decided_entry i d) f.2);
        voted = λ p vote lt there up.
            let f = entry-from run.setup r l p (voted_entry i vote.0 vote.1) there in
            let g = report-of run t r l w x p f.0 prepared f.1 in
            let k = vote-real run g.s p g.life i vote g.runs (g.can.reported.told (voted_entry i vote.0 vote.1) f.2).1 in
            let b1 = k.before in
            let b2 = g.before in
            vote-right run t v vote.0 i batch vote.1 ih chosen (later_launched run (suc k.s) t vote.0 i vote.1 (omega arith) k.launched) up;
        own = λ vote e up.
            let k = vote-real run t r l i vote prepared.runs e in
            vote-right run t v vote.0 i batch vote.1 ih chosen (later_launched run (suc k.s) t vote.0 i vote.1 k.before k.launched) up;
      }

  adopts : (i < x) × ((i < l.below) ⊎ (adopted_by run.setup.n (counted_report run.setup r l) l i ≡ batch))
  unfolding Seen reports
  adopts =
      let z = shared run.setup.n chosen.1.members (is_promised run.setup r l) chosen.1.quorum can_prepared.quorum in
      let k = chosen.1.voted z.0 z.1 z.2 in
      let b : Ballot = record { life = record { replica = z.0; number = k.0 }; view = v; instance = i; batch = batch } in
      let cast = cast-by run chosen.0 b k.1 in
      let n = promised-counts run.setup r l z.0 z.3 in
      let m = member-of run t r l w x z.0 n.0 prepared n.1 in
      let s = seen z.0 n.0 z.1 n.1 m b cast refl refl refl refl in
      let h = launched-by-then z.0 n.0 z.1 n.1 m b cast refl refl refl refl in
      (s.0, elim s.1 [ inl lt ↦ inl lt | inr show ↦ inr (adopted-is run.setup.n reports l v i batch (agrees h) show) ])

adopted_below : (run : Trace) (k : ℕ) → AdoptedBelow run k
unfolding AdoptedBelow
adopted_below run zero t r l w x v i batch lt a b less = absurd (omega arith)
adopted_below run (suc k) t r l w x v i batch lt a b less =
    adopts run t r l w x v i batch (λ t2 r2 l2 w2 x2 v2 i2 batch2 lt2 a2 b2 less2. adopted_below run k t2 r2 l2 w2 x2 v2 i2 batch2 (omega arith) a2 b2 less2) a b less

-- a Prepared step adopts or knows what is chosen in lower views
pub chosen_are_adopted : (run : Trace) → ChosenAreAdopted run
unfolding AdoptedBelow
chosen_are_adopted run t r l w x v i batch a b less = adopted_below run (suc t) t r l w x v i batch (omega arith) a b less

-- an instance is chosen with at most one batch
pub one_chosen : (run : Trace) → OneChosen run
one_chosen run i v v' batch batch' a b =
    let h = chosen-launched run a.0 v i batch a.1 in
    let h' = chosen-launched run b.0 v' i batch' b.1 in
    elim (lt_or_le v v') [
      | inl less ↦ sym (launch-right run b.0 v v' i batch batch' (adopted_below run b.0) a h' less)
      | inr ge ↦ vote-right run a.0 v' v i batch' batch (adopted_below run a.0) b h ge
    ]

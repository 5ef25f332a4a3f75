-- A view has one Prepared step at most, and one batch per instance.
use Rattle.std.proofs.Common.{◌≡◌, ℕ, suc, ◌≤◌, ◌<◌, ◌⊎◌, Some, if◌then◌else◌, ◌==◌, refl, sym, ap, subst, ◌∙◌, inl, inr, arith}
use Rattle.jp_types.specs.Views.{leader}
use Rattle.paxos_world.specs.Setup.{Setup}
use Rattle.paxos_world.specs.Life.{Launched, Lead, Leads, Life}
use Rattle.jp_types.specs.Instances.{Batch}
use Rattle.paxos_world.specs.World.{Replica, World, Deed, Take, Enter, Open, Promise, Prepared, Launch, Vote, Learn, Answer, Rejoin, Install, Execute, Restore, Say, Can, Allowed, life_after, lead_of, lead_after, Move, First, Return, Crash, Act, who, replica_after, CanPrepared, CanLaunch}
use Rattle.paxos_world.proofs.Replies.{counted_answer-is}
use Rattle.paxos_world.specs.Trace.{Trace, at, Runs, Does}
use Rattle.paxos_world.specs.Laws.{BecomesPrepared}
use Rattle.paxos_world.proofs.Basics.{with_at-cases, le_or_lt, lt_or_le}
use Rattle.paxos_world.proofs.Replies.{counted_answer-is, same}
use Rattle.paxos_world.proofs.Sound.{IsLed, LifeSound, next-above, tops_of, act-is, some-is}
use Rattle.paxos_world.proofs.Growth.{LeadGrows, Onward, lead-refl, lead-trans}
use Rattle.paxos_world.proofs.Runs.{always, life_sound-at, same_life, newer_life, can-at, runs-after, does-runs, grows-at}
use Rattle.paxos_world.proofs.Rejoining.{HasRejoined, rejoined}
use Rattle.paxos_world.specs.Laws.{OnePrepared, OneBatch}
use Rattle.paxos_world.proofs.Seen.{can-rejoin}
use Rattle.paxos_world.proofs.Back.{can-prepared, preparing-works, rejoin-view, returned_come_back}

-- who becomes Prepared in a view leads it
pub prepared-leads : (run : Trace) (t r : ℕ) (l : Life) (v x : ℕ) → BecomesPrepared run t r l v x → leader run.setup.n v ≡ r
prepared-leads run t r l v x h =
    let can = can-prepared run t r l v x h in
    let led = subst (IsLed run.setup.n r l.view) can.preparing (life_sound-at run t r l h.runs).led in
    ap (leader run.setup.n) (sym can.in_view) ∙ led

-- two Prepared steps of one view by one replica, one after the other
one_after : (run : Trace) (t r : ℕ) (l : Life) (x t' : ℕ) (l' : Life) (x' v : ℕ) → BecomesPrepared run t r l v x → BecomesPrepared run t' r l' v x' → t < t' → ⊥
one_after run t r l x t' l' x' v a b lt = go (le_or_lt l.number l'.number) (le_or_lt l'.number l.number)
  where
    ca : CanPrepared run.setup r l v x
    ca = can-prepared run t r l v x a

    cb : CanPrepared run.setup r l' v x'
    cb = can-prepared run t' r l' v x' b

    alike : l.number ≡ l'.number → ⊥
    alike n =
        let g = same_life run (suc t) t' r (life_after run.setup r l (Prepared v x)) l' lt (runs-after run t r (Prepared v x) l a.does a.runs) b.runs n in
        elim g.leading [
          | inl up ↦ (let e = ca.in_view in let f = cb.in_view in omega arith)
          | inr on ↦ subst (Onward (Leads (lead_of run.setup r l x))) cb.preparing on.1
        ]

    newer : HasRejoined run t' r l'.number → l.number < l'.number → ⊥
    newer j less =
        let n0 = j.same in
        let n1 = (life_sound-at run t r l a.runs).number in
        let low = returned_come_back run t r l v x j.s r j.life j.view a j.rejoins (omega arith) in
        let up = rejoin-view run t' r l' j b.runs in
        let f = cb.in_view in
        let e : v ≡ j.view = omega arith in
        let can = can-rejoin run j.s r j.life j.view j.rejoins in
        let k = counted_answer-is run.setup r j.life (leader run.setup.n j.view) can.leader_answer can.leader_counted in
        k.other (ap (leader run.setup.n) (sym e) ∙ prepared-leads run t r l v x a)

    go : (l.number ≤ l'.number) ⊎ (l'.number < l.number) → (l'.number ≤ l.number) ⊎ (l.number < l'.number) → ⊥
    go (inl le) (inl ge) = alike (omega arith)
    go (inl le) (inr less) = newer (rejoined run t' r l' l.number b.runs (preparing-works run t' r l' v x' b) ((life_sound-at run t r l a.runs).started) less) less
    go (inr less) le = let o = (newer_life run t' t r l' l b.runs a.runs less).0 in omega arith

-- a view has one Prepared step at most
pub one_prepared : (run : Trace) → OnePrepared run
one_prepared run t r l x t' r' l' x' v a b =
    let same_r : r' ≡ r = sym (prepared-leads run t' r' l' v x' b) ∙ prepared-leads run t r l v x a in
    let b' : BecomesPrepared run t' r l' v x' = subst (λ (q : ℕ). BecomesPrepared run t' q l' v x') same_r b in
    elim (lt_or_le t t') [
      | inl lt ↦ absurd (one_after run t r l x t' l' x' v a b' lt)
      | inr ge ↦ elim (lt_or_le t' t) [ inl lt ↦ absurd (one_after run t' r l' x' t l x v b' a lt) | inr le ↦ omega arith ]
    ]

-- a life that leads its view became Prepared in it
pub record WasPrepared (run : Trace) (t q view : ℕ) (lead : Lead) (number : ℕ) : Type 0 where
  pub s : ℕ
  pub before : s < t
  pub life : Life
  pub x : ℕ
  pub prepared : BecomesPrepared run s q life view x
  pub same : life.number ≡ number
  pub from : LeadGrows (lead_of run.setup q life x) lead

LeadsSo : Trace → ℕ → ℕ → Replica → Type 0
LeadsSo run t q a = (l : Life) (lead : Lead) → a.running ≡ Some l → l.leading ≡ Leads lead → WasPrepared run t q l.view lead l.number

later_prepared : (run : Trace) (t q view : ℕ) (lead other : Lead) (number : ℕ) → LeadGrows lead other → WasPrepared run t q view lead number → WasPrepared run (suc t) q view other number
later_prepared run t q view lead other number g h =
    record { s = h.s; before = let b = h.before in omega arith; life = h.life; x = h.x; prepared = h.prepared; same = h.same; from = lead-trans _ lead other h.from g }

later_leads : (run : Trace) (t q : ℕ) (a : Replica) → LeadsSo run t q a → LeadsSo run (suc t) q a
unfolding LeadsSo
later_leads run t q a h l lead e f = later_prepared run t q l.view lead lead l.number (lead-refl lead) (h l lead e f)

-- how a life comes to lead
data LeadsBy (c : Setup) (r : ℕ) (l : Life) (d : Deed) (lead : Lead) : Type 0 where
  By_prepared : (x : ℕ) → d ≡ Prepared l.view x → lead ≡ lead_of c r l x → LeadsBy c r l d lead
  By_before : (old : Lead) → l.leading ≡ Leads old → LeadGrows old lead → LeadsBy c r l d lead

leads-same : (c : Setup) (r : ℕ) (l : Life) (d : Deed) (lead : Lead) → l.leading ≡ Leads lead → LeadsBy c r l d lead
leads-same c r l d lead e = By_before lead e (lead-refl lead)

leads-after : (c : Setup) (w : World) (r starts s : ℕ) (tops : ℕ → ℕ) (l : Life) (d : Deed) (lead : Lead) → LifeSound c r starts s tops w.sent l → Can c w r l d → (life_after c r l d).leading ≡ Leads lead
    → ((life_after c r l d).view ≡ l.view) × LeadsBy c r l d lead
leads-after c w r starts s tops l (Enter view) lead h can e = absurd cc
leads-after c w r starts s tops l (Open view first) lead h can e = absurd cc
leads-after c w r starts s tops l (Prepared view x) lead h can e = (refl, By_prepared x (ap (λ v. Prepared v x) (sym can.in_view)) cc)
leads-after c w r starts s tops l (Launch view i batch) lead h can e =
    let new : Lead = record can.lead { next = if i == can.lead.next then suc i else can.lead.next } in
    let is : lead_after l.leading i ≡ Leads new = ap (λ b. lead_after b i) can.leads in
    let f : new ≡ lead = cc in
    let up = next-above can.lead i batch (h.next can.lead can.leads) can.may in
    let g : LeadGrows can.lead new = record { x = refl; floor = refl; adopted = refl; reports = refl; next = up.1 } in
    (refl, By_before can.lead can.leads (subst (λ (k : Lead). LeadGrows can.lead k) f g))
leads-after c w r starts s tops l (Rejoin view) lead h can e = let a = (h.waiting can.recovering).1 in absurd cc
leads-after c w r starts s tops l (Take from message) lead h can e = (refl, leads-same c r l _ lead e)
leads-after c w r starts s tops l (Promise view first mark low report) lead h can e = (refl, leads-same c r l _ lead e)
leads-after c w r starts s tops l (Vote view i batch) lead h can e = (refl, leads-same c r l _ lead e)
leads-after c w r starts s tops l (Learn i batch) lead h can e = (refl, leads-same c r l _ lead e)
leads-after c w r starts s tops l (Answer to view next mark) lead h can e = (refl, leads-same c r l _ lead e)
leads-after c w r starts s tops l (Install upto state) lead h can e = (refl, leads-same c r l _ lead e)
leads-after c w r starts s tops l (Execute i) lead h can e = (refl, leads-same c r l _ lead e)
leads-after c w r starts s tops l (Restore upto state) lead h can e = (refl, leads-same c r l _ lead e)
leads-after c w r starts s tops l (Say to message) lead h can e = (refl, leads-same c r l _ lead e)

leads-by : (run : Trace) (t r : ℕ) (d : Deed) (l : Life) (lead : Lead) → Does run t (Act r d) → Runs run t r l → LeadsSo run t r ((at run t).replicas r) → LeadsBy run.setup r l d lead → WasPrepared run (suc t) r l.view lead l.number
unfolding LeadsSo
leads-by run t r d l lead e runs h (By_prepared x is same) =
    record {
      s = t;
      before = omega arith;
      life = l;
      x = x;
      prepared = record { does = e ∙ ap (λ k. Some (Act r k)) is; runs = runs };
      same = refl;
      from = subst (λ (k : Lead). LeadGrows (lead_of run.setup r l x) k) (sym same) (lead-refl _);
    }
leads-by run t r d l lead e runs h (By_before old is g) = later_prepared run t r l.view old lead l.number g (h l old runs is)

acting_leads : (run : Trace) (t : ℕ) (m : Move) → Does run t m → Allowed run.setup (at run t) m → LeadsSo run t (who m) ((at run t).replicas (who m))
    → LeadsSo run (suc t) (who m) (replica_after run.setup ((at run t).replicas (who m)) m)
unfolding LeadsSo
acting_leads run t (First r) e a h l lead is f = let g = ap (λ (k : Life). k.leading) (some-is _ l is) in absurd cc
acting_leads run t (Return r mark) e a h l lead is f = let g = ap (λ (k : Life). k.leading) (some-is _ l is) in absurd cc
acting_leads run t (Crash r) e a h l lead is f = absurd cc
acting_leads run t (Act r d) e a h l lead is f =
    let k = a.meets.life in
    let runs = a.meets.running in
    let g : life_after run.setup r k d ≡ l = some-is _ l (sym (ap (λ (x : Replica). x.running) (act-is run.setup r ((at run t).replicas r) d k runs)) ∙ is) in
    let n : k.number ≡ l.number = sym ((grows-at run t r d k e runs).number) ∙ ap (λ (x : Life). x.number) g in
    let b = leads-after run.setup (at run t) r _ _ (tops_of (at run t)) k d lead (life_sound-at run t r k runs) a.meets.can (ap (λ (x : Life). x.leading) g ∙ f) in
    let v : k.view ≡ l.view = sym b.0 ∙ ap (λ (x : Life). x.view) g in
    let done = leads-by run t r d k lead e runs h b.1 in
    subst (λ (y : ℕ). WasPrepared run (suc t) r y lead l.number) v (subst (λ (y : ℕ). WasPrepared run (suc t) r k.view lead y) n done)

pub was_prepared : (run : Trace) (t q : ℕ) (l : Life) (lead : Lead) → Runs run t q l → l.leading ≡ Leads lead → WasPrepared run t q l.view lead l.number
unfolding LeadsSo
was_prepared run t q l lead = always run (λ u w. LeadsSo run u q (w.replicas q)) (λ k j e f. absurd cc) (λ u w h. later_leads run u q (w.replicas q) h)
    (λ u m e a h. with_at-cases (λ b. LeadsSo run (suc u) q b) (at run u).replicas (who m) (replica_after run.setup ((at run u).replicas (who m)) m) q
    (λ is. subst (λ k. LeadsSo run (suc u) k (replica_after run.setup ((at run u).replicas (who m)) m)) (sym is) (acting_leads run u m e a (subst (λ k. LeadsSo run u k ((at run u).replicas k)) is h)))
    (λ ne. later_leads run u q ((at run u).replicas q) h)) t l lead

-- a Launch and the Prepared step before it
pub record LaunchStep (run : Trace) (t q v i : ℕ) (batch : Batch) (l : Life) : Type 0 where
  pub can : CanLaunch l v i batch
  pub was : WasPrepared run t q v can.lead l.number

pub launch-step : (run : Trace) (t q v i : ℕ) (batch : Batch) (l : Life) → Does run t (Act q (Launch v i batch)) → Runs run t q l → LaunchStep run t q v i batch l
launch-step run t q v i batch l e a =
    let can = can-at run t q (Launch v i batch) l e a in
    record { can = can; was = subst (λ (y : ℕ). WasPrepared run t q y can.lead l.number) can.in_view (was_prepared run t q l can.lead a can.leads) }

-- two launches in one view are by one life
pub one_leader : (run : Trace) (t q t' q' v : ℕ) (lead lead' : Lead) (number number' : ℕ) → WasPrepared run t q v lead number → WasPrepared run t' q' v lead' number' → (q' ≡ q) × (number' ≡ number)
one_leader run t q t' q' v lead lead' number number' a b =
    let s = one_prepared run a.s q a.life a.x b.s q' b.life b.x v a.prepared b.prepared in
    let r : q' ≡ q = sym (prepared-leads run b.s q' b.life v b.x b.prepared) ∙ prepared-leads run a.s q a.life v a.x a.prepared in
    let at_a : Runs run a.s q b.life = subst (λ (y : ℕ). Runs run y q b.life) (sym s) (subst (λ (y : ℕ). Runs run b.s y b.life) r b.prepared.runs) in
    let e : a.life ≡ b.life = some-is a.life b.life (sym a.prepared.runs ∙ at_a) in
    (r, sym b.same ∙ sym (ap (λ (k : Life). k.number) e) ∙ a.same)

once_launched : (run : Trace) (t q t' v i : ℕ) (batch batch' : Batch) (l l' : Life) → Does run t (Act q (Launch v i batch)) → Runs run t q l → CanLaunch l' v i batch' → Runs run t' q l' → l.number ≡ l'.number → t < t' → ⊥
once_launched run t q t' v i batch batch' l l' e a can b n lt =
    let y : Launched = record { view = v; instance = i; batch = batch } in
    let g = same_life run (suc t) t' q (life_after run.setup q l (Launch v i batch)) l' lt (runs-after run t q (Launch v i batch) l e a) b n in
    can.once batch (g.launched y (inl refl))

-- a view has at most one batch for an instance
pub one_batch : (run : Trace) → OneBatch run
one_batch run t r t' r' v i batch batch' e e' =
    let k = does-runs run t r (Launch v i batch) e in
    let k' = does-runs run t' r' (Launch v i batch') e' in
    let a = launch-step run t r v i batch k.0 e k.1 in
    let b = launch-step run t' r' v i batch' k'.0 e' k'.1 in
    let o = one_leader run t r t' r' v a.can.lead b.can.lead k.0.number k'.0.number a.was b.was in
    let there : Runs run t' r k'.0 = subst (λ (y : ℕ). Runs run t' y k'.0) o.0 k'.1 in
    let does' : Does run t' (Act r (Launch v i batch')) = subst (λ (y : ℕ). Does run t' (Act y (Launch v i batch'))) o.0 e' in
    elim (lt_or_le t t') [
      | inl lt ↦ absurd (once_launched run t r t' v i batch batch' k.0 k'.0 e k.1 b.can there (sym o.1) lt)
      | inr ge ↦ elim (lt_or_le t' t) [
        | inl lt ↦ absurd (once_launched run t' r t v i batch' batch k'.0 k.0 does' there a.can k.1 o.1 lt)
        | inr le ↦
            let s : t' ≡ t = omega arith in
            let f : Does run t (Act r (Launch v i batch')) = subst (λ (y : ℕ). Does run y (Act r (Launch v i batch'))) s does' in
            let g : Some (Act r (Launch v i batch)) ≡ Some (Act r (Launch v i batch')) = sym e ∙ f in
            cc
      ]
    ]

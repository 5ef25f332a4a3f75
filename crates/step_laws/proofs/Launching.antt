-- What the launches of settling show, and what they leave of the stage.
use Rattle.std.proofs.Common.{◌≡◌, ℕ, zero, suc, ◌+◌, ◌-◌, max, min, Bool, true, false, ◌&&◌, not, List, [], ◌∷◌, ◌++◌, Option, Some, None, nat_lt, ◌==◌, if◌then◌else◌, inl, inr, refl, sym, ap, subst, ◌∙◌, arith, append-nil, append_assoc}
use Rattle.std.proofs.lemmas.Bool.Decides.{nat_tests, leb_tells}
use Rattle.jp_types.specs.declared.message.Message.{Message}
use Rattle.jp_types.specs.Instances.{Batch, span}
use Rattle.jp_types.specs.Reports.{decided_below}
use Rattle.jp_types.specs.Views.{number_if, number_limit}
use Rattle.paxos_world.specs.declared.step.Step.{Step}
use Rattle.paxos_world.specs.Adoption.{counted_report, adopted_by}
use Rattle.paxos_world.specs.Life.{Lead, Leading, No, Preparing, Leads}
use Rattle.paxos_world.specs.World.{Deed, lead_after, lead_of}
use Rattle.paxos_world.specs.Stage.{Config, setup_of, Stage, Turned}
use Rattle.paxos_world.specs.Writing.{◌▹◌, when, when_some, for_each, for_range, with_stage, shows, sends, others, sends_to_all}
use Rattle.paxos_world.specs.Logs.{first_undecided, span_end, is_known}
use Rattle.paxos_world.specs.Retransmitting.{arms_propose, cancels_prepare}
use Rattle.paxos_world.specs.Learning.{notes, learns, votes_for, propose_of, launches}
use Rattle.paxos_world.specs.Settling.{is_prepared, adoption_end, adopts, becomes_prepared, settles_leading, place_in, open_place, launches_waiting}
use Rattle.step_laws.specs.Kinds.{shown_where, is_launch}
use Rattle.step_laws.specs.Settled.{adopted_launches, launches_at_prepared, placed_from, launches_of_waiting}
use Rattle.step_laws.proofs.Quieting.{Calmly, Calm, ◌⊳◌, calm-when, calm-shows, calm-sends_all, calm-votes, shows-adds}
use Rattle.step_laws.proofs.QuietItems.{calm-adopted}

-- the constants, the view, what is known, the base and the leading are as they were
pub record Beside (t u : Turned) : Type 0 where
  pub config : u.stage.config ≡ t.stage.config
  pub view : u.stage.life.view ≡ t.stage.life.view
  pub known : u.stage.life.known ≡ t.stage.life.known
  pub base : u.stage.base ≡ t.stage.base
  pub leading : u.stage.life.leading ≡ t.stage.life.leading

-- one thing and then another
pub beside-both : (t u v : Turned) → Beside t u → Beside u v → Beside t v
beside-both t u v a b =
    record { config = b.config ∙ a.config; view = b.view ∙ a.view; known = b.known ∙ a.known; base = b.base ∙ a.base; leading = b.leading ∙ a.leading }

-- sends leave the stage as it is
pub each-leaves : (qs : List ℕ) (m : Message) (t : Turned) → (for_each qs (λ q. sends q m) t).stage ≡ t.stage
each-leaves [] m t = refl
each-leaves (q ∷ qs) m t = each-leaves qs m (sends q m t)

-- sends to all others leave it
pub beside-sends : (m : Message) (t : Turned) → Beside t (sends_to_all m t)
beside-sends m t =
    let e = each-leaves (others t.stage.config) m t in
    record {
      config = ap (λ (s : Stage). s.config) e;
      view = ap (λ (s : Stage). s.life.view) e;
      known = ap (λ (s : Stage). s.life.known) e;
      base = ap (λ (s : Stage). s.base) e;
      leading = ap (λ (s : Stage). s.life.leading) e;
    }

-- arming leaves it
pub beside-arms : (b : Bool) (i : ℕ) (m : Message) (t : Turned) → Beside t (when b (arms_propose i m) t)
beside-arms true i m t = record { config = refl; view = refl; known = refl; base = refl; leading = refl }
beside-arms false i m t = record { config = refl; view = refl; known = refl; base = refl; leading = refl }

-- a turn launched a batch: it shows that launch and no other, and `next` rose
pub record Launched (i : ℕ) (batch : Batch) (t u : Turned) : Type 0 where
  pub shown : shown_where is_launch u.acts ≡ shown_where is_launch t.acts ++ Step.Launch t.stage.config.me t.stage.life.view i batch ∷ []
  pub config : u.stage.config ≡ t.stage.config
  pub view : u.stage.life.view ≡ t.stage.life.view
  pub known : u.stage.life.known ≡ t.stage.life.known
  pub base : u.stage.base ≡ t.stage.base
  pub leading : u.stage.life.leading ≡ lead_after t.stage.life.leading i

-- the test of launches is one that each step fails which an item may show
pub launch-calm : Calm is_launch
launch-calm = record { enter = λ r v. refl; promise = λ r v. refl; vote = λ r v i. refl; learn = λ r i. refl; answer = λ r to v n. refl; install = λ r u. refl }

-- a launch shows itself
pub launches-adds : (i : ℕ) (batch : Batch) (t : Turned) → Launched i batch t (launches i batch t)
launches-adds i batch t =
    let s = t.stage in
    let view = s.life.view in
    let m = propose_of view i batch in
    let a = t ▹ shows (Step.Launch s.config.me view i batch) (Deed.Launch view i batch) in
    let c = a ▹ votes_for view i batch ▹ notes i view s.config.me (Some batch) in
    let d = c ▹ sends_to_all m in
    let e = d ▹ when (not (is_known s i)) (arms_propose i m) in
    let x : Calmly is_launch a c = record { shown = (calm-votes is_launch launch-calm view i batch a).shown; config = refl } in
    let q : Calmly is_launch a e = x ⊳ calm-sends_all is_launch m c ⊳ calm-when is_launch (not (is_known s i)) (arms_propose i m) d (λ u. record { shown = refl; config = refl }) in
    let y : Beside a c = record { config = refl; view = refl; known = refl; base = refl; leading = refl } in
    let k = beside-both a c e y (beside-both c d e (beside-sends m c) (beside-arms (not (is_known s i)) i m d)) in
    record {
      shown = q.shown ∙ shows-adds is_launch (Step.Launch s.config.me view i batch) (Deed.Launch view i batch) t refl;
      config = k.config;
      view = k.view;
      known = k.known;
      base = k.base;
      leading = k.leading;
    }

-- ---- Adopted batches

-- learning leaves the view
pub learnt-view : (b : Bool) (o : Option Batch) (i : ℕ) (t : Turned) → (when b (when_some o (learns i)) t).stage.life.view ≡ t.stage.life.view
learnt-view true (Some batch) i t = refl
learnt-view true None i t = refl
learnt-view false o i t = refl

-- a list, one element, and what is behind it, where the element is told in other words
pub joined : (xs ys zs : List Step) (x y : Step) (rest : List Step) → ys ≡ xs ++ x ∷ [] → x ≡ y → zs ≡ ys ++ rest → zs ≡ xs ++ y ∷ rest
joined xs ys zs x y rest a b c =
    c ∙ ap (λ (ws : List Step). ws ++ rest) a ∙ append_assoc xs (x ∷ []) rest ∙ ap (λ (w : Step). xs ++ w ∷ rest) b

-- the launch of a view, of a replica, and of a batch that are told in other words
pub same-launch : (r q v w i : ℕ) (b d : Batch) → r ≡ q → v ≡ w → b ≡ d → Step.Launch r v i b ≡ Step.Launch q w i d
same-launch r q v w i b d x y z = cc

-- a range of adopted batches is launched
pub adopts-adds : (s : Stage) (lead : Lead) (k i : ℕ) (t : Turned) → t.stage.config ≡ s.config → t.stage.life.view ≡ s.life.view
    → ((j : ℕ) → lead.adopted j ≡ adopted_by s.config.n (counted_report (setup_of s.config) s.config.me s.life) s.life j)
    → shown_where is_launch (for_range k i (adopts lead) t).acts ≡ shown_where is_launch t.acts ++ adopted_launches k s i
adopts-adds s lead zero i t config view told = sym (append-nil (shown_where is_launch t.acts))
adopts-adds s lead (suc k) i t config view told =
    let a = t ▹ when (not (is_known t.stage i)) (when_some (decided_below t.stage.config.n lead.reports i) (learns i)) in
    let c = calm-adopted is_launch launch-calm lead i t in
    let v = learnt-view (not (is_known t.stage i)) (decided_below t.stage.config.n lead.reports i) i t in
    let u = launches i (lead.adopted i) a in
    let h = launches-adds i (lead.adopted i) a in
    let own = adopted_by s.config.n (counted_report (setup_of s.config) s.config.me s.life) s.life i in
    joined (shown_where is_launch t.acts) (shown_where is_launch u.acts) (shown_where is_launch (for_range k (suc i) (adopts lead) u).acts)
    (Step.Launch a.stage.config.me a.stage.life.view i (lead.adopted i)) (Step.Launch s.config.me s.life.view i own) (adopted_launches k s (suc i))
    (h.shown ∙ ap (λ (xs : List Step). xs ++ Step.Launch a.stage.config.me a.stage.life.view i (lead.adopted i) ∷ []) c.shown)
    (same-launch a.stage.config.me s.config.me a.stage.life.view s.life.view i (lead.adopted i) own (ap (λ (x : Config). x.me) (c.config ∙ config)) (v ∙ view) (told i))
    (adopts-adds s lead k (suc i) u (h.config ∙ c.config ∙ config) (h.view ∙ v ∙ view) told)

-- becoming Prepared launches the adopted batches
pub prepared-launches : (l : Leading) (t : Turned) → shown_where is_launch (settles_leading l t).acts ≡ shown_where is_launch t.acts ++ launches_at_prepared l t.stage
prepared-launches No t = sym (append-nil (shown_where is_launch t.acts))
prepared-launches (Leads lead) t = sym (append-nil (shown_where is_launch t.acts))
prepared-launches (Preparing first) t = go (is_prepared t.stage first)
  where
    go : (b : Bool) → shown_where is_launch (when b (becomes_prepared first) t).acts
        ≡ shown_where is_launch t.acts ++ (if b then adopted_launches (adoption_end t.stage first - max first t.stage.base) t.stage (max first t.stage.base) else [])
    go false = sym (append-nil (shown_where is_launch t.acts))
    go true =
        let s = t.stage in
        let end = adoption_end s first in
        let next = max end (first_undecided s) in
        let a = t ▹ cancels_prepare ▹ shows (Step.Prepared s.config.me s.life.view next) (Deed.Prepared s.life.view next) in
        let lead = lead_of (setup_of s.config) s.config.me s.life next in
        let quiet = calm-shows is_launch (Step.Prepared s.config.me s.life.view next) (Deed.Prepared s.life.view next) (t ▹ cancels_prepare) refl in
        adopts-adds s lead (end - max first s.base) (max first s.base) a refl refl (λ j. refl) ∙ ap (λ (xs : List Step). xs ++ adopted_launches (end - max first s.base) s (max first s.base)) quiet.shown

-- ---- Waiting batches

-- a number below two is below the lower one
pub below-both : (x a b : ℕ) → (nat_lt x a && nat_lt x b) ≡ nat_lt x (min a b)
below-both x a b = elim (leb_tells (suc x) a) [
  | inl p ↦ elim (leb_tells (suc x) b) [
    | inl q ↦ (let t = p.0 in let u = q.0 in let v : nat_lt x (min a b) ≡ true = grind (arith, nat_tests) in sym (v ∙ cc))
    | inr q ↦ (let t = p.0 in let u = q.0 in let ge = q.1 in let v : nat_lt x (min a b) ≡ false = grind (arith, nat_tests) in sym (v ∙ cc))
  ]
  | inr p ↦ (let t = p.0 in let ge = p.1 in let v : nat_lt x (min a b) ≡ false = grind (arith, nat_tests) in sym (v ∙ cc))
]

-- the first undecided instance is that of what is known and of the base
pub undecided-same : (s u : Stage) → u.life.known ≡ s.life.known → u.base ≡ s.base → first_undecided u ≡ first_undecided s
unfolding first_undecided
undecided-same s u known base = cc

-- `next` rises by one where its instance is launched
pub next-up : (i n : ℕ) → n ≡ i → (if i == n then suc i else n) ≡ suc i
next-up i n e = go (i == n) refl
  where
    go : (b : Bool) → (i == n) ≡ b → (if b then suc i else n) ≡ suc i
    go true h = refl
    go false h = absurd (grind (arith, nat_tests))

-- the place for the next batch, in the words of a stage that is alike
pub place-same : (s u : Stage) (lead : Lead) (next : ℕ) → u.config ≡ s.config → u.life.known ≡ s.life.known → u.base ≡ s.base → u.life.leading ≡ Leads lead → lead.next ≡ next
    → open_place u ≡ number_if (nat_lt next (min (first_undecided s + s.config.window) (span_end s))) next
place-same s u lead next config known base leading same =
    let e = undecided-same s u known base in
    let w = ap (λ (c : Config). c.window) config in
    ap (λ (l : Leading). place_in l u) leading
    ∙ ap (λ (b : Bool). number_if b lead.next) (below-both lead.next (first_undecided u + u.config.window) (span_end u))
    ∙ ap (λ (n : ℕ). number_if (nat_lt n (min (first_undecided u + u.config.window) (span_end u))) n) same
    ∙ ap (λ (f : ℕ). number_if (nat_lt next (min (f + u.config.window) (span_end u))) next) e
    ∙ ap (λ (f : ℕ). number_if (nat_lt next (min (first_undecided s + f) (span_end u))) next) w
    ∙ ap (λ (f : ℕ). number_if (nat_lt next (min (first_undecided s + s.config.window) (min (f + span) number_limit))) next) base

-- waiting batches of a Prepared leader are launched from `next` on
pub waiting-adds : (s : Stage) (lead : Lead) (next : ℕ) (batches : List Batch) (t : Turned) → t.stage.config ≡ s.config → t.stage.life.view ≡ s.life.view → t.stage.life.known ≡ s.life.known
    → t.stage.base ≡ s.base → t.stage.life.leading ≡ Leads lead → lead.next ≡ next
    → shown_where is_launch (launches_waiting batches t).acts
    ≡ shown_where is_launch t.acts ++ placed_from s.config.me s.life.view next (min (first_undecided s + s.config.window) (span_end s)) batches
waiting-adds s lead next [] t config view known base leading same = sym (append-nil (shown_where is_launch t.acts))
waiting-adds s lead next (batch ∷ batches) t config view known base leading same =
    let a = t ▹ with_stage (λ s. record s { waiting = batches }) in
    let h = launches-adds next batch a in
    let u = launches next batch a in
    let up : Lead = record lead { next = if next == lead.next then suc next else lead.next } in
    let led : u.stage.life.leading ≡ Leads up = h.leading ∙ ap (λ (l : Leading). lead_after l next) leading in
    let rest = waiting-adds s up (suc next) batches u (h.config ∙ config) (h.view ∙ view) (h.known ∙ known) (h.base ∙ base) led (next-up next lead.next same) in
    let limit = min (first_undecided s + s.config.window) (span_end s) in
    let placed = joined (shown_where is_launch t.acts) (shown_where is_launch u.acts) (shown_where is_launch (launches_waiting batches u).acts)
    (Step.Launch t.stage.config.me t.stage.life.view next batch) (Step.Launch s.config.me s.life.view next batch) (placed_from s.config.me s.life.view (suc next) limit batches)
    h.shown
    (same-launch t.stage.config.me s.config.me t.stage.life.view s.life.view next batch batch (ap (λ (x : Config). x.me) config) view refl)
    rest in
    subst (λ (o : Option ℕ). shown_where is_launch (when_some o (λ i t. launches_waiting batches (t ▹ with_stage (λ s. record s { waiting = batches }) ▹ launches i batch)) t).acts
    ≡ shown_where is_launch t.acts ++ (if nat_lt next limit then Step.Launch s.config.me s.life.view next batch ∷ placed_from s.config.me s.life.view (suc next) limit batches else []))
    (sym (place-same s t.stage lead next config known base leading same)) (go placed (nat_lt next limit))
  where
    go : shown_where is_launch (launches_waiting batches (t ▹ with_stage (λ s. record s { waiting = batches }) ▹ launches next batch)).acts
        ≡ shown_where is_launch t.acts ++ Step.Launch s.config.me s.life.view next batch ∷ placed_from s.config.me s.life.view (suc next) (min (first_undecided s + s.config.window) (span_end s)) batches
        → (b : Bool) → shown_where is_launch (when_some (number_if b next) (λ i t. launches_waiting batches (t ▹ with_stage (λ s. record s { waiting = batches }) ▹ launches i batch)) t).acts
        ≡ shown_where is_launch t.acts ++ (if b then Step.Launch s.config.me s.life.view next batch ∷ placed_from s.config.me s.life.view (suc next) (min (first_undecided s + s.config.window) (span_end s)) batches else [])
    go one true = one
    go one false = sym (append-nil (shown_where is_launch t.acts))

-- without a place nothing is launched
pub waiting-none : (batches : List Batch) (t : Turned) → open_place t.stage ≡ None → launches_waiting batches t ≡ t
waiting-none [] t e = refl
waiting-none (batch ∷ batches) t e = ap (λ (o : Option ℕ). when_some o (λ i t. launches_waiting batches (t ▹ with_stage (λ s. record s { waiting = batches }) ▹ launches i batch)) t) e

-- the waiting batches are launched by how the stage leads
pub waiting-launches : (l : Leading) (t : Turned) → t.stage.life.leading ≡ l → shown_where is_launch (launches_waiting t.stage.waiting t).acts ≡ shown_where is_launch t.acts ++ launches_of_waiting l t.stage
waiting-launches No t e =
    ap (λ (u : Turned). shown_where is_launch u.acts) (waiting-none t.stage.waiting t (ap (λ (l : Leading). place_in l t.stage) e)) ∙ sym (append-nil (shown_where is_launch t.acts))
waiting-launches (Preparing first) t e =
    ap (λ (u : Turned). shown_where is_launch u.acts) (waiting-none t.stage.waiting t (ap (λ (l : Leading). place_in l t.stage) e)) ∙ sym (append-nil (shown_where is_launch t.acts))
waiting-launches (Leads lead) t e = waiting-adds t.stage lead lead.next t.stage.waiting t refl refl refl refl e refl

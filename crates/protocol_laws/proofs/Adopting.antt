-- A life that becomes Prepared launches what it adopted as the model does, one instance after another.
use Rattle.std.proofs.Common.{◌≡◌, ℕ, zero, suc, ◌+◌, ◌≤◌, ◌<◌, Bool, true, false, ◌&&◌, not, nat_le, nat_lt, ◌==◌, Some, is_some, if◌then◌else◌, refl, sym, ap, subst, ◌∙◌, arith}
use Rattle.std.proofs.lemmas.Bool.Decides.{nat_tests}
use Rattle.jp_types.specs.declared.message.Message.{Message}
use Rattle.jp_types.specs.Instances.{Batch}
use Rattle.paxos_world.specs.declared.step.Step.{Step}
use Rattle.paxos_world.specs.Life.{Lead, Leading, Leads}
use Rattle.paxos_world.specs.Adoption.{counted_report, adopted_by}
use Rattle.jp_types.specs.Reports.{decided_below}
use Rattle.paxos_world.specs.World.{Deed, lead_after}
use Rattle.paxos_world.specs.Stage.{setup_of, Stage}
use Rattle.paxos_world.specs.Stage as model
use Rattle.paxos_world.specs.Writing.{◌▹◌, when, for_each, shows, sends_to_all}
use Rattle.paxos_world.specs.Logs as logs
use Rattle.paxos_world.specs.Learning.{learns, launches, votes_for, notes, propose_of}
use Rattle.paxos_world.specs.Retransmitting.{arms_propose}
use Rattle.paxos_world.proofs.Basics.{with_at-other}
use Rattle.proposer_core.specs.declared.adoption.Launch.{Launch}
use Rattle.core_laws.specs.LaunchLaws.{made, GoesOnFrom}
use Rattle.core_laws.specs.PrepareLaws.{leading_as, launches_of}
use Rattle.core_laws.proofs.AcceptLemmas.{all-sent}
use Rattle.protocol_core.specs.declared.life.Life.{Life}
use Rattle.protocol_core.specs.Launching as launching
use Rattle.protocol_core.specs.Settling as settles
use Rattle.protocol_core.specs.Turned.{stay}
use Rattle.protocol_laws.specs.Following.{Follows}
use Rattle.protocol_laws.specs.Keeping.{Cores, life_in}
use Rattle.protocol_laws.proofs.Goes.{GoesLearnOpen, GoesLaunch}
use Rattle.protocol_laws.proofs.Steps.{stays, and-then, chooses}

-- what of a stage stays as instance i is learned and launched, and how it leads then
pub record Onward (i : ℕ) (s t : Stage) : Type 0 where
  pub config : t.config ≡ s.config
  pub base : t.base ≡ s.base
  pub known : (j : ℕ) → i < j → t.life.known j ≡ s.life.known j
  pub leading : (lead : Lead) → s.life.leading ≡ Leads lead → i < lead.next → t.life.leading ≡ Leads lead

-- a launch below `next` leaves the lead as it is
pub lead-stays : (leading : Leading) (lead : Lead) (i : ℕ) → leading ≡ Leads lead → i < lead.next → lead_after leading i ≡ Leads lead
lead-stays leading lead i e lt =
    let other : (i == lead.next) ≡ false = grind (arith, nat_tests) in
    ap (λ (l : Leading). lead_after l i) e ∙ ap (λ (b : Bool). Leads (record lead { next = if b then suc i else lead.next })) other

-- learning an instance keeps what is known of those above it
pub learns-onward : (i : ℕ) (batch : Batch) (t : model.Turned) → Onward i t.stage (learns i batch t).stage
learns-onward i batch t =
    record { config = refl; base = refl; known = λ j lt. with_at-other t.stage.life.known i (Some batch) j (λ e. absurd (omega arith)); leading = λ lead e lt. e }

-- arming a Propose changes nothing of it
pub arms-onward : (i : ℕ) (b : Bool) (m : Message) (s : Stage) (t : model.Turned) → Onward i s t.stage → Onward i s (when b (arms_propose i m) t).stage
arms-onward i true m s t h = record { config = h.config; base = h.base; known = h.known; leading = h.leading }
arms-onward i false m s t h = h

-- the turn before a launch's sends
abbrev pub unsent : ℕ → Batch → model.Turned → model.Turned
unsent i batch t =
    let s = t.stage in
    t ▹ shows (Step.Launch s.config.me s.life.view i batch) (Deed.Launch s.life.view i batch)
    ▹ votes_for s.life.view i batch
    ▹ notes i s.life.view s.config.me (Some batch)

-- launching an instance below `next` keeps what is known, and the lead
pub launches-onward : (i : ℕ) (batch : Batch) (t : model.Turned) → Onward i t.stage (launches i batch t).stage
launches-onward i batch t =
    let m = propose_of t.stage.life.view i batch in
    arms-onward i (not (logs.is_known t.stage i)) m t.stage (sends_to_all m (unsent i batch t))
    (subst (Onward i t.stage) (sym (all-sent m (unsent i batch t)))
    (record { config = refl; base = refl; known = λ j lt. refl; leading = λ lead e lt. lead-stays t.stage.life.leading lead i e lt }))

-- learning where a test passes
pub when-learns-onward : (b : Bool) (i : ℕ) (batch : Batch) (t : model.Turned) → Onward i t.stage (when b (learns i batch) t).stage
when-learns-onward true i batch t = learns-onward i batch t
when-learns-onward false i batch t = record { config = refl; base = refl; known = λ j lt. refl; leading = λ lead e lt. e }

-- a launch that was adopted keeps what is known of the instances above it, and the lead
pub made-onward : (l : Launch) (t : model.Turned) → Onward l.instance t.stage (made l t).stage
made-onward l t =
    let a = when-learns-onward l.decided l.instance l.batch t in
    let b = launches-onward l.instance l.batch (when l.decided (learns l.instance l.batch) t) in
    record {
      config = b.config ∙ a.config;
      base = b.base ∙ a.base;
      known = λ j lt. b.known j lt ∙ a.known j lt;
      leading = λ lead e lt. b.leading lead (a.leading lead e lt) lt;
    }

-- a turn is about to launch k instances from i on, as the stage s became Prepared with this lead
pub record Launching (s : Stage) (lead : Lead) (k i : ℕ) (t : model.Turned) : Type 0 where
  pub goes : GoesOnFrom s i t
  pub leads : t.stage.life.leading ≡ Leads lead
  pub below_next : 0 < k → i + k ≤ lead.next
  pub from_base : s.base ≤ i
  pub in_span : 0 < k → i + k ≤ logs.span_end s

-- the launch of instance i that s adopts
abbrev pub launch-at : Stage → ℕ → Launch
launch-at s i =
    let reports = counted_report (setup_of s.config) s.config.me s.life in
    record { instance = i; batch = adopted_by s.config.n reports s.life i; decided = not (logs.is_known s i) && is_some (decided_below s.config.n reports i) }

-- the span of a turn that went on from s ends where that of s does
pub end-same : (s : Stage) (i : ℕ) (t : model.Turned) → GoesOnFrom s i t → logs.span_end t.stage ≡ logs.span_end s
end-same s i t h = let b = h.base in cc

-- an instance whose batch a promise told as decided is in span and not known
pub told-open : (s : Stage) (i : ℕ) (t : model.Turned) → GoesOnFrom s i t → s.base ≤ i → i < logs.span_end s → (launch-at s i).decided ≡ true
    → (logs.is_in_span t.stage i && not (logs.is_known t.stage i)) ≡ true
told-open s i t h le lt e =
    let base = h.base in
    let known = h.known i (omega arith) in
    let a : nat_le s.base i ≡ true = grind (arith, nat_tests) in
    let b : nat_lt i (logs.span_end s) ≡ true = grind (arith, nat_tests) in
    let span : logs.is_in_span t.stage i ≡ true = cc in
    let same : logs.is_known t.stage i ≡ logs.is_known s i = cc in
    both (logs.is_in_span t.stage i) (logs.is_known t.stage i) (logs.is_known s i) (is_some (decided_below s.config.n (counted_report (setup_of s.config) s.config.me s.life) i)) span same e
  where
    both : (x y z w : Bool) → x ≡ true → y ≡ z → (not z && w) ≡ true → (x && not y) ≡ true
    both x y true w e f g = absurd cc
    both x y false w e f g = cc

module _ (learn-open : GoesLearnOpen) (launch : GoesLaunch) where
  -- a batch is learned where a promise told it as decided
  pub learned-goes : (l : Launch) (t : model.Turned) (c : Cores t.stage) → (l.decided ≡ true → (logs.is_in_span t.stage l.instance && not (logs.is_known t.stage l.instance)) ≡ true)
      → Follows t (when l.decided (learns l.instance l.batch) t) (settles.learned_as_told (life_in t.stage c) l)
  learned-goes l t c may =
      let done = launching.learned_if_open (life_in t.stage c) l.instance l.batch in
      chooses l.decided (learns l.instance l.batch) t done (stay (life_in t.stage c))
      (λ e. subst (λ (b : Bool). Follows t (when b (learns l.instance l.batch) t) done) (may e) (learn-open l.instance l.batch t c))
      (λ e. stays t c)

  -- an instance below `next` is launched, which leaves the lead as it is
  pub launch-goes : (i : ℕ) (batch : Batch) (lead : Lead) (t : model.Turned) (c : Cores t.stage) → t.stage.life.leading ≡ Leads lead → i < lead.next → i < logs.span_end t.stage
      → Follows t (launches i batch t) (launching.launched (life_in t.stage c) i batch)
  launch-goes i batch lead t c leads lt end =
      let below : nat_lt i (logs.span_end t.stage) ≡ true = grind (arith, nat_tests) in
      let same : lead_after t.stage.life.leading i ≡ t.stage.life.leading = lead-stays t.stage.life.leading lead i leads lt ∙ sym leads in
      subst (λ (l : Leading). Follows t (launches i batch t) (launching.launched (with-lead l) i batch)) same (launch i batch t c below)
    where
      with-lead : Leading → Life
      with-lead l = let life = life_in t.stage c in record life { proposer = record life.proposer { leading = leading_as l t.stage.life.view t.stage.life.mark } }

  -- an adopted instance is learned where that was told, and launched
  pub made-goes : (l : Launch) (lead : Lead) (t : model.Turned) (c : Cores t.stage) → (l.decided ≡ true → (logs.is_in_span t.stage l.instance && not (logs.is_known t.stage l.instance)) ≡ true)
      → t.stage.life.leading ≡ Leads lead → l.instance < lead.next → l.instance < logs.span_end t.stage → Follows t (made l t) (settles.launched_as_adopted (life_in t.stage c) l)
  made-goes l lead t c may leads lt end =
      let t1 = when l.decided (learns l.instance l.batch) t in
      let h1 = learned-goes l t c may in
      let on = when-learns-onward l.decided l.instance l.batch t in
      let base = on.base in
      let end1 : logs.span_end t1.stage ≡ logs.span_end t.stage = cc in
      let h2 = launch-goes l.instance l.batch lead t1 h1.keeps.cores (on.leading lead leads lt) lt (subst (λ (e : ℕ). l.instance < e) (sym end1) end) in
      and-then t t1 (made l t) (settles.learned_as_told (life_in t.stage c) l) (λ (learned : Life). launching.launched learned l.instance l.batch) h1 h2

  -- the first of the instances that are about to be launched is launched
  pub first-goes : (s : Stage) (lead : Lead) (k i : ℕ) (t : model.Turned) (c : Cores t.stage) → Launching s lead (suc k) i t
      → Follows t (made (launch-at s i) t) (settles.launched_as_adopted (life_in t.stage c) (launch-at s i))
  first-goes s lead k i t c h =
      let next = h.below_next (omega arith) in
      let span = h.in_span (omega arith) in
      let same = end-same s i t h.goes in
      made-goes (launch-at s i) lead t c (told-open s i t h.goes h.from_base (omega arith)) h.leads (omega arith) (omega arith)

  -- and then the others are about to be
  pub still-launching : (s : Stage) (lead : Lead) (k i : ℕ) (t : model.Turned) → Launching s lead (suc k) i t → Launching s lead k (suc i) (made (launch-at s i) t)
  still-launching s lead k i t h =
      let on = made-onward (launch-at s i) t in
      let goes = h.goes in
      let next = h.below_next (omega arith) in
      let span = h.in_span (omega arith) in
      let from = h.from_base in
      let goes1 : GoesOnFrom s (suc i) (made (launch-at s i) t) =
      record { config = on.config ∙ goes.config; base = on.base ∙ goes.base; known = λ j le. on.known j (omega arith) ∙ goes.known j (omega arith) } in
      record { goes = goes1; leads = on.leading lead h.leads (omega arith); below_next = λ lt. omega arith; from_base = omega arith; in_span = λ lt. omega arith }

  -- the adopted instances are launched, one after another
  pub each-goes : (s : Stage) (lead : Lead) (k i : ℕ) (t : model.Turned) (c : Cores t.stage) → Launching s lead k i t
      → Follows t (for_each (launches_of k s i) made t) (settles.launched_each (launches_of k s i) (life_in t.stage c))
  each-goes s lead zero i t c h = stays t c
  each-goes s lead (suc k) i t c h =
      let l = launch-at s i in
      let t1 = made l t in
      let h1 = first-goes s lead k i t c h in
      and-then t t1 (for_each (launches_of k s (suc i)) made t1) (settles.launched_as_adopted (life_in t.stage c) l) (settles.launched_each (launches_of k s (suc i))) h1
      (each-goes s lead k (suc i) t1 h1.keeps.cores (still-launching s lead k i t h))

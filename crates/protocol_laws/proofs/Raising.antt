-- Raising the view, and phase 1, go as the model's.
use Rattle.std.proofs.Common.{◌≡◌, ℕ, ◌+◌, ◌-◌, ◌%◌, ◌<◌, Bool, true, false, ◌&&◌, not, List, [], ◌∷◌, nat_le, nat_lt, if◌then◌else◌, Option, Some, None, refl, sym, ap, subst, le_refl, arith}
use Rattle.std.proofs.lemmas.Bool.Decides.{nat_tests}
use Rattle.jp_types.specs.declared.message.Message.{Message}
use Rattle.jp_types.specs.Views.{leader, number_limit, number_if, within_limit, next_led}
use Rattle.paxos_world.specs.declared.step.Step.{Step}
use Rattle.jp_types.specs.Lists.{In}
use Rattle.paxos_world.specs.Life.{Taken, No, Preparing}
use Rattle.paxos_world.specs.Counting.{is_view}
use Rattle.paxos_world.specs.World.{Deed}
use Rattle.paxos_world.specs.Stage.{setup_of, Stage}
use Rattle.paxos_world.specs.Stage as model
use Rattle.paxos_world.specs.Writing.{◌▹◌, when, when_some, with_stage, shows, saves, says_to_all, others}
use Rattle.paxos_world.specs.Logs as logs
use Rattle.paxos_world.specs.Messages.{vector_of}
use Rattle.paxos_world.specs.Retransmitting.{arms_prepare, cancels_prepare, cancels_proposes}
use Rattle.paxos_world.specs.Leading as leading
use Rattle.core_laws.proofs.KeptPromises.{promises_are_kept}
use Rattle.core_laws.proofs.LogLemmas.{logs_are_read}
use Rattle.protocol_core.specs.declared.act.Act.{Act}
use Rattle.protocol_core.specs.declared.act.Topic.{Topic}
use Rattle.protocol_core.specs.declared.life.Life.{Life}
use Rattle.protocol_core.specs.Leading as raising
use Rattle.protocol_core.specs.Sending as sending
use Rattle.protocol_core.specs.Sending.{shown, to_all, armed_for_all, sent_and_armed}
use Rattle.protocol_core.specs.Turned.{Turned, stay, followed_by}
use Rattle.protocol_laws.specs.Arming.{Arming, arming_of, armed_for, armed_after}
use Rattle.protocol_laws.specs.Keeping.{Cores, life_in}
use Rattle.protocol_laws.specs.Coming.{IsSendable}
use Rattle.protocol_laws.specs.Following.{Follows}
use Rattle.protocol_laws.proofs.Goes.{MayBegin, GoesPhase1, GoesRaise, GoesRaiseUp, GoesSuspect}
use Rattle.protocol_laws.proofs.Others.{others-alike, armed-fits}
use Rattle.protocol_laws.proofs.Steps.{append-nil, stays, changes, and-then, chooses, said-to-all}
use Rattle.protocol_laws.proofs.Changing.{Changed, unchanged, changed, re-led, same-led}

-- ---- Phase 1

-- the stage is in phase 1 of its view, from an instance on
abbrev pub preparing_from : Stage → ℕ → Changed
preparing_from s first = record (unchanged s) { leading = Preparing first }

-- the cores as phase 1 begins: no promise is held
abbrev preparing-cores : (s : Stage) (c : Cores s) (first : ℕ) → MayBegin s → Cores (changed s (preparing_from s first))
preparing-cores s c first may = re-led s c (preparing_from s first) may.works (le_refl _) (λ f e. (promises_are_kept.started (setup_of s.config) s.config.me s.life (vector_of s) first may.untaken refl).held)

-- phase 1 begins
goes-opens : (t : model.Turned) (c : Cores t.stage) (first : ℕ) → MayBegin t.stage
    → Follows t (shows (Step.Promise t.stage.config.me t.stage.life.view) (Deed.Open t.stage.life.view first) t)
    (shown (Step.Promise t.stage.config.me t.stage.life.view) (raising.preparing (life_in t.stage c) first))
goes-opens t c first may = record { config = refl; keeps = record { cores = preparing-cores t.stage c first may; is = refl }; acts = refl; arming = refl; sends = tt; handed = le_refl _; hands = tt; service = refl }

-- a Prepare is armed for all others
goes-arms_prepare : (t : model.Turned) (c : Cores t.stage) (m : Message) → IsSendable t.stage.config.mode m
    → Follows t (arms_prepare m t) (record { life = life_in t.stage c; acts = armed_for_all t.stage.config.n t.stage.config.me Topic.Prepare m })
goes-arms_prepare t c m may =
    record {
      config = refl;
      keeps = record { cores = same-led s c s.stable s.horizon s.quiet s.queries s.waiting armed; is = refl };
      acts = sym (append-nil t.acts);
      arming = ap (λ (to : List ℕ). armed_for Topic.Prepare (record { message = m; to = to }) (arming_of s)) (sym (others-alike s.config.n s.config.me c.within.1));
      sends = (armed-fits s.config m c.within.1 may, tt);
      handed = le_refl _;
      hands = tt;
      service = refl;
    }
  where
    s : Stage
    s = t.stage

    armed : Arming
    armed = armed_for Topic.Prepare (record { message = m; to = others s.config }) (arming_of s)

-- phase 1, from an instance on
goes-from : (t : model.Turned) (c : Cores t.stage) (first : ℕ) → MayBegin t.stage → Follows t (leading.begin_from first t) (raising.begun_from (life_in t.stage c) first)
goes-from t c first may =
    let s = t.stage in
    let m = leading.prepare_of s first in
    let t1 = shows (Step.Promise s.config.me s.life.view) (Deed.Open s.life.view first) t in
    let t2 = says_to_all m t1 in
    let t3 = arms_prepare m t2 in
    let h1 = goes-opens t c first may in
    let c1 = h1.keeps.cores in
    let h2 = said-to-all t1 c1 m tt in
    let h3 = goes-arms_prepare t2 h2.keeps.cores m tt in
    let arms : Life → Turned = λ l. record { life = l; acts = armed_for_all l.config.n l.config.me Topic.Prepare m } in
    let next = and-then t1 t2 t3 (record { life = life_in t1.stage c1; acts = to_all s.config.n s.config.me m }) arms h2 h3 in
    and-then t t1 t3 (shown (Step.Promise s.config.me s.life.view) (raising.preparing (life_in s c) first)) (sent_and_armed Topic.Prepare m) h1 next

-- phase 1 in the own view
pub goes-phase-1 : GoesPhase1
goes-phase-1 t c may =
    let read = logs_are_read t.stage c.log c.kept in
    subst (λ (first : ℕ). Follows t (leading.begin_phase_1 t) (raising.begun_from (life_in t.stage c) first)) (sym read.first_undecided) (goes-from t c (logs.first_undecided t.stage) may)

-- ---- Raising

-- the view is saved first, where the test passes
saves-first : (b : Bool) (view : ℕ) (t : model.Turned) (c : Cores t.stage)
    → Follows t (when b (saves view) t) (if b then sending.does (Act.Save view) (record (life_in t.stage c) { stable = view }) else stay (life_in t.stage c))
saves-first b view t c = chooses b (saves view) t (sending.does (Act.Save view) (record (life_in t.stage c) { stable = view })) (stay (life_in t.stage c)) (λ e. saved) (λ e. stays t c)
  where
    s : Stage
    s = t.stage

    saved : Follows t (saves view t) (sending.does (Act.Save view) (record (life_in t.stage c) { stable = view }))
    saved =
        record {
          config = refl;
          keeps = record { cores = same-led s c view s.horizon s.quiet s.queries s.waiting (arming_of s); is = refl };
          acts = refl;
          arming = refl;
          sends = tt;
          handed = le_refl _;
          hands = tt;
          service = refl;
        }

-- the model's stage enters a view, and cancels what was armed in the one before
abbrev enters : ℕ → model.Turned → model.Turned
enters view t = t ▹ shows (Step.Enter t.stage.config.me view) (Deed.Enter view) ▹ cancels_prepare ▹ cancels_proposes ▹ with_stage (λ s. record s { quiet = 0 })

-- a stage after it entered a view
abbrev entered_at : Stage → ℕ → Changed
entered_at s view =
    record (unchanged s) {
      view = view;
      leading = No;
      quiet = 0;
      arming = armed_after (arming_of s) (Act.Cancel Topic.Prepare ∷ Act.CancelProposes ∷ []);
    }

-- a Working life enters a higher view
goes-enters : (view : ℕ) (t : model.Turned) (c : Cores t.stage) → leading.works t.stage ≡ true → t.stage.life.view < view → Follows t (enters view t) (raising.entered (life_in t.stage c) view)
goes-enters view t c works up =
    record {
      config = refl;
      keeps = record { cores = re-led t.stage c (entered_at t.stage view) works (omega arith) (λ f e. absurd cc); is = refl };
      acts = refl;
      arming = refl;
      sends = tt;
      handed = le_refl _;
      hands = tt;
      service = refl;
    }

-- nothing was taken in phase 1 of a view above the own one
none-taken : (s : Stage) (c : Cores s) (view : ℕ) → s.life.view < view → (x : Taken) → In x s.life.taken → is_view x.preparing view ≡ false
none-taken s c view up x m = go x.preparing refl
  where
    go : (o : Option ℕ) → x.preparing ≡ o → is_view o view ≡ false
    go None e = refl
    go (Some v) e = let le = c.fit.below x v m e in grind (arith, nat_tests)

-- a leader begins phase 1, and any other drops what waits
goes-led : (t : model.Turned) (c : Cores t.stage) → MayBegin t.stage
    → Follows t (t ▹ when (leading.leads_own t.stage) leading.begin_phase_1 ▹ when (not (leading.leads_own t.stage)) leading.drop_waiting) (raising.led_or_dropped (life_in t.stage c))
goes-led t c may = go (leading.leads_own t.stage)
  where
    s : Stage
    s = t.stage

    go : (b : Bool) → Follows t (t ▹ when b leading.begin_phase_1 ▹ when (not b) leading.drop_waiting) (if b then raising.phase_1_begun (life_in s c) else stay (record (life_in s c) { waiting = [] }))
    go true = goes-phase-1 t c may
    go false = changes t (leading.drop_waiting t) (record (life_in s c) { waiting = [] }) refl (record { cores = same-led s c s.stable s.horizon s.quiet s.queries [] (arming_of s); is = refl }) refl refl refl refl

-- after a save: the view is entered, and then a leader begins phase 1
goes-entered : (view : ℕ) (t : model.Turned) (c : Cores t.stage) → leading.works t.stage ≡ true → t.stage.life.view < view
    → Follows t
    (enters view t ▹ when (leading.leads t.stage t.stage.config.me view) leading.begin_phase_1 ▹ when (not (leading.leads t.stage t.stage.config.me view)) leading.drop_waiting)
    (followed_by (raising.entered (life_in t.stage c) view) raising.led_or_dropped)
goes-entered view t c works up =
    let t1 = enters view t in
    let h1 = goes-enters view t c works up in
    let may : MayBegin t1.stage = record { works = works; untaken = none-taken t.stage c view up } in
    let h2 = goes-led t1 h1.keeps.cores may in
    and-then t t1 (t1 ▹ when (leading.leads_own t1.stage) leading.begin_phase_1 ▹ when (not (leading.leads_own t1.stage)) leading.drop_waiting) (raising.entered (life_in t.stage c) view) raising.led_or_dropped h1 h2

-- the view is raised to this one, which is above it
pub goes-raise : GoesRaise
goes-raise view t c may = go (leading.is_view_ss t.stage.config.mode && nat_lt t.stage.stable view)
  where
    s : Stage
    s = t.stage

    rest : model.Turned → model.Turned
    rest u =
        u ▹ shows (Step.Enter s.config.me view) (Deed.Enter view) ▹ cancels_prepare ▹ cancels_proposes ▹ with_stage (λ x. record x { quiet = 0 })
        ▹ when (leading.leads s s.config.me view) leading.begin_phase_1
        ▹ when (not (leading.leads s s.config.me view)) leading.drop_waiting

    after : Life → Turned
    after saved = followed_by (raising.entered saved view) raising.led_or_dropped

    save : Bool → Turned
    save b = if b then sending.does (Act.Save view) (record (life_in s c) { stable = view }) else stay (life_in s c)

    go : (b : Bool) → Follows t (rest (when b (saves view) t)) (followed_by (save b) after)
    go true = let h = saves-first true view t c in and-then t (saves view t) (rest (saves view t)) (save true) after h (goes-entered view (saves view t) h.keeps.cores may.0 may.1)
    go false = let h = saves-first false view t c in and-then t t (rest t) (save false) after h (goes-entered view t h.keeps.cores may.0 may.1)

-- a test on two numbers tells their order
less-of : (a b : ℕ) → nat_lt a b ≡ true → a < b
less-of a b e = grind (arith, nat_tests)

-- two tests that pass together both pass
both-of : (a b : Bool) → (a && b) ≡ true → (a ≡ true) × (b ≡ true)
both-of true true e = (refl, refl)
both-of true false e = absurd cc
both-of false b e = absurd cc

-- a Working life whose view is below this one raises its view to it
pub goes-raise-up : GoesRaiseUp
goes-raise-up view t c =
    chooses (leading.works t.stage && nat_lt t.stage.life.view view) (leading.raise_to view) t (raising.raised_to (life_in t.stage c) view) (stay (life_in t.stage c))
    (λ e. let both = both-of (leading.works t.stage) (nat_lt t.stage.life.view view) e in goes-raise view t c (both.0, less-of t.stage.life.view view both.1)) (λ e. stays t c)

-- a view within the limit is the number that was tested
limit-of : (k view : ℕ) → within_limit k ≡ Some view → k ≡ view
limit-of k view e = go (nat_le k number_limit) e
  where
    go : (b : Bool) → number_if b k ≡ Some view → k ≡ view
    go true g = cc
    go false g = absurd cc

-- the next view that a replica leads is above this one
next-above : (n p view v : ℕ) → next_led n p view ≡ Some v → view < v
next-above n p view v e = let is = limit-of (view + 1 + (p + n - leader n (view + 1)) % n) v e in omega arith

-- the view is raised to the next one that the replica leads, if there is one
goes-raise-if : (o : Option ℕ) (t : model.Turned) (c : Cores t.stage) → leading.works t.stage ≡ true → ((view : ℕ) → o ≡ Some view → t.stage.life.view < view)
    → Follows t (when_some o leading.raise_to t) (raising.raised_if (life_in t.stage c) o)
goes-raise-if None t c works up = stays t c
goes-raise-if (Some view) t c works up = goes-raise view t c (works, up view refl)

-- suspecting the leader
pub goes-suspect : GoesSuspect
goes-suspect t c =
    let s = t.stage in
    let next = next_led s.config.n s.config.me s.life.view in
    chooses (leading.works s) (when_some next leading.raise_to) t (raising.raised_if (life_in s c) next) (stay (life_in s c))
    (λ works. goes-raise-if next t c works (next-above s.config.n s.config.me s.life.view)) (λ e. stays t c)

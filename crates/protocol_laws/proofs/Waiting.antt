-- The waiting batches are launched as the model launches them.
use Rattle.std.proofs.Common.{◌≡◌, ℕ, ◌+◌, Bool, true, false, ◌&&◌, List, [], ◌∷◌, nat_lt, Option, Some, None, Ok, Err, if◌then◌else◌, refl, sym, ap, subst, ◌∙◌}
use Rattle.jp_types.specs.Instances.{Batch}
use Rattle.jp_types.specs.Views.{number_if}
use Rattle.paxos_world.specs.Life.{Leading, No, Preparing, Leads}
use Rattle.paxos_world.specs.Stage.{Stage}
use Rattle.paxos_world.specs.Stage as model
use Rattle.paxos_world.specs.Writing.{with_stage, when_some}
use Rattle.paxos_world.specs.Logs as logs
use Rattle.paxos_world.specs.Learning as learning
use Rattle.paxos_world.specs.Settling as settling
use Rattle.proposer_core.specs.declared.leading.Leading as proposer
use Rattle.proposer_core.specs.declared.leading.Leading.TheVariants as leads
use Rattle.proposer_core.specs.declared.not_now.NotNow.{NotNow}
use Rattle.proposer_core.specs.declared.not_now.NotNow.TheVariants.{Waiting}
use Rattle.proposer_core.specs.Window.{limit, offered_below, place_below}
use Rattle.core_laws.specs.PrepareLaws.{KeepsProposer, ok_of}
use Rattle.core_laws.proofs.KeptLemmas.{proposers_are_kept}
use Rattle.core_laws.proofs.PrepareLemmas.{offers_alike}
use Rattle.protocol_core.specs.declared.life.Life.{Life}
use Rattle.protocol_core.specs.Launching as launching
use Rattle.protocol_core.specs.Settling as settles
use Rattle.protocol_laws.specs.Keeping.{Cores, life_in}
use Rattle.protocol_laws.specs.Following.{Follows}
use Rattle.protocol_laws.proofs.Goes.{Goes, GoesWaiting, leading_after}
use Rattle.protocol_laws.proofs.Steps.{stays, and-then}
use Rattle.protocol_laws.proofs.Launching.{goes-launch}

-- ---- The place

-- the place of an offered batch is the place below the limit
offered-is : (leading : proposer.Leading) (end : ℕ) (batch : Batch) → place_below leading end ≡ ok_of (offered_below leading end batch)
offered-is leads.No end batch = refl
offered-is (leads.Preparing view first mark) end batch = refl
offered-is (leads.Prepared view next) end batch = by (nat_lt next end)
  where
    by : (b : Bool) → (if b then Some next else None) ≡ ok_of {E = NotNow × Batch} (if b then Ok next else Err (Waiting end, batch))
    by true = refl
    by false = refl

-- the proposer of a stage's life is that of the stage
proposer-kept : (s : Stage) (c : Cores s) → KeepsProposer s (life_in s c).proposer
proposer-kept s c = record { n = refl; me = refl; window = refl; leading = refl }

-- the place of the next waiting batch is the model's
place-alike : (s : Stage) (c : Cores s) (batch : Batch) → settles.open_place (life_in s c) ≡ settling.open_place s
place-alike s c batch =
    let q = (life_in s c).proposer in
    offered-is q.leading (limit q c.log) batch ∙ offers_alike s c.log q batch c.kept (proposer-kept s c)

-- that place lies below the span's end
place-below : (leading : Leading) (s : Stage) (i : ℕ) → settling.place_in leading s ≡ Some i → nat_lt i (logs.span_end s) ≡ true
place-below No s i e = absurd cc
place-below (Preparing first) s i e = absurd cc
place-below (Leads lead) s i e = by (nat_lt lead.next (logs.first_undecided s + s.config.window)) (nat_lt lead.next (logs.span_end s)) refl e
  where
    by : (a b : Bool) → nat_lt lead.next (logs.span_end s) ≡ b → number_if (a && b) lead.next ≡ Some i → nat_lt i (logs.span_end s) ≡ true
    by true true t f = let same : lead.next ≡ i = cc in subst (λ (k : ℕ). nat_lt k (logs.span_end s) ≡ true) same t
    by true false t f = absurd cc
    by false b t f = absurd cc

-- ---- Launching

-- the stage for which these batches wait
abbrev waiting-for : List Batch → Stage → Stage
waiting-for batches s = record s { waiting = batches }

-- what waits is not kept by the cores
abbrev waiting-cores : (s : Stage) (c : Cores s) (batches : List Batch) → Cores (waiting-for batches s)
waiting-cores s c batches =
    let k = c.kept in
    let fit = c.fit in
    let sane = fit.sane in
    record {
      within = c.within;
      log = c.log;
      promises = c.promises;
      answers = c.answers;
      kept = record { n = k.n; base = k.base; votes = k.votes; known = k.known; tallies = k.tallies };
      promise_places = c.promise_places;
      answer_places = c.answer_places;
      promised = c.promised;
      answered = λ r. let a = c.answered r in record { none = a.none; held = a.held };
      fit =
          record {
            sane = record { most = sane.most; me = sane.me; notes = sane.notes };
            led = fit.led;
            untaken = fit.untaken;
            below = fit.below;
            base = fit.base;
            newest = λ snapshot e. let x = fit.newest snapshot e in record { size = x.size; own = x.own };
            joiner = fit.joiner;
          };
    }

-- the life whose next place is given up leads as after a launch at that place
placed : (s : Stage) (c : Cores s) (i : ℕ) (batch : Batch) (batches : List Batch) → settling.open_place s ≡ Some i
    → settles.with_waiting (life_in s c) batches ≡ leading_after (waiting-for batches s) (waiting-cores s c batches) i
placed s c i batch batches e =
    let l = life_in (waiting-for batches s) (waiting-cores s c batches) in
    let kept = proposers_are_kept.placed s c.log (life_in s c).proposer i batch c.kept (proposer-kept s c) e in
    ap (λ (x : proposer.Leading). record l { proposer = record l.proposer { leading = x } }) kept.leading

-- a waiting batch is launched at its place as the model launches it
launch-waiting : (i : ℕ) (batch : Batch) (batches : List Batch) (t : model.Turned) (c : Cores t.stage) → settling.open_place t.stage ≡ Some i
    → Follows t (learning.launches i batch (with_stage (waiting-for batches) t)) (launching.launched (settles.with_waiting (life_in t.stage c) batches) i batch)
launch-waiting i batch batches t c e =
    let t1 = with_stage (waiting-for batches) t in
    let c1 = waiting-cores t.stage c batches in
    let h = goes-launch i batch t1 c1 (place-below t.stage.life.leading t.stage i e) in
    let moved : Follows t1 (learning.launches i batch t1) (launching.launched (settles.with_waiting (life_in t.stage c) batches) i batch) =
    subst (λ (l : Life). Follows t1 (learning.launches i batch t1) (launching.launched l i batch)) (sym (placed t.stage c i batch batches e)) h in
    record { config = moved.config; keeps = moved.keeps; acts = moved.acts; arming = moved.arming; sends = moved.sends; handed = moved.handed; hands = moved.hands; service = moved.service }

-- a batch is launched where it has a place, and then the others are
waiting-then : (batch : Batch) (batches : List Batch) → Goes (settling.launches_waiting batches) (settles.launched_waiting batches)
    → Goes (settling.launches_waiting (batch ∷ batches)) (settles.launched_waiting (batch ∷ batches))
waiting-then batch batches rest t c =
    subst (λ (o : Option ℕ). Follows t (settling.launches_waiting (batch ∷ batches) t) (settles.launched_then o batch batches (life_in t.stage c) (settles.launched_waiting batches)))
    (sym (place-alike t.stage c batch)) (go (settling.open_place t.stage) refl)
  where
    then-model : ℕ → model.Turned → model.Turned
    then-model i u = settling.launches_waiting batches (learning.launches i batch (with_stage (waiting-for batches) u))

    go : (o : Option ℕ) → settling.open_place t.stage ≡ o
        → Follows t (when_some o then-model t) (settles.launched_then o batch batches (life_in t.stage c) (settles.launched_waiting batches))
    go None e = stays t c
    go (Some i) e =
        let u = learning.launches i batch (with_stage (waiting-for batches) t) in
        let h = launch-waiting i batch batches t c e in
        and-then t u (settling.launches_waiting batches u) (launching.launched (settles.with_waiting (life_in t.stage c) batches) i batch) (settles.launched_waiting batches) h
        (rest u h.keeps.cores)

-- these waiting batches are launched as the model launches them
waiting : (batches : List Batch) → Goes (settling.launches_waiting batches) (settles.launched_waiting batches)
waiting [] t c = stays t c
waiting (batch ∷ batches) t c = waiting-then batch batches (waiting batches) t c

-- the waiting batches are launched as the model launches them
pub goes-waiting : GoesWaiting
goes-waiting t c = waiting t.stage.waiting t c

-- All that a replica's stage does after a start is lawful.
use Rattle.std.proofs.Common.{◌≡◌, ◌≢◌, ℕ, suc, ◌<◌, true, List, [], ◌∷◌, ◌++◌, Option, Some, None, refl, sym, ap, subst, ◌∙◌, inl, inr, arith}
use Rattle.std.proofs.lemmas.List.{append_cancel_left}
use Rattle.std.specs.Option.{option_map_or}
use Rattle.paxos_world.specs.declared.step.Step.{Step}
use Rattle.jp_types.specs.Lists.{In}
use Rattle.paxos_world.specs.Setup.{Setup}
use Rattle.paxos_world.specs.World.{Replica, World, Sent, CanRejoin, Move, First, Return, Crash, Allowed, who, after, replica_after, ballots, sends}
use Rattle.paxos_world.specs.World as W
use Rattle.paxos_world.specs.Trace.{IsRun, end_of}
use Rattle.paxos_world.specs.Stage.{Config, setup_of, Stage, Decision, Turned}
use Rattle.paxos_world.specs.Turn.{untouched, retransmit, Opened, moves_of, opening_moves}
use Rattle.paxos_world.specs.Shown.{shown_of, sends_along}
use Rattle.paxos_world.proofs.Basics.{with_at-other, In-left}
use Rattle.paxos_world.proofs.Turning.{shown_over, Told, turn-told, serves-told, retransmit-told, told-untouched, along-over, end-sent}
use Rattle.turn_laws.specs.Limits.{StatesRead}
use Rattle.turn_laws.specs.Nodes.{sent_by, DecisionComes, IsLimitedRun, Node, Next, Others, Turns, Serves, Repeats, MayCome, turned_by, moves_by, node_after, IsLawful, MayAllCome, AreLawful, node_of, IsLawfulStart, NodesAreLawful}
use Rattle.turn_laws.proofs.Fitting.{Within, Good}
use Rattle.turn_laws.proofs.Goods.{step_good, opening_good}
use Rattle.turn_laws.proofs.Sane.{Sane, step_sane, life_sane, opening_sane}
use Rattle.turn_laws.proofs.Going.{fits-votes}
use Rattle.turn_laws.proofs.Sitting.{Sits, Placed, Over, frame_of, goes-untouched, over-of, over-turn, over-serves, over-retransmit}
use Rattle.turn_laws.proofs.Opening.{Opens, opens}
use Rattle.turn_laws.proofs.Settled.{turn-settled}
use Rattle.turn_laws.proofs.Rejoinable.{serves-none, none-can}
use Rattle.paxos_world.specs.Settling.{rejoin_view}

-- a stage sits in a world after steps of other replicas
pub sits-frame : (c : Config) (number : ℕ) (w v : World) (s : Stage) → v.replicas s.config.me ≡ w.replicas s.config.me → Within w.votes v.votes → Sits c number w s → Sits c number v s
sits-frame c number w v s same votes h =
    record {
      config = h.config;
      number_is = h.number_is;
      running = ap (λ (a : Replica). a.running) same ∙ h.running;
      stable = ap (λ (a : Replica). a.stable) same ∙ h.stable;
      fresh = h.fresh;
      fits = fits-votes (setup_of s.config) w v s.config.me true s votes h.fits;
      cast = λ i vote e. votes _ (h.cast i vote e);
      served = h.served;
    }

-- ---- Steps within the limits

limited-run : (c : Setup) (w : World) (ms : List Move) → IsLimitedRun c w ms → IsRun c w ms
limited-run c w [] h = tt
limited-run c w (m ∷ ms) h = (h.0, limited-run c (after c w m) ms h.2)

-- a world stays good and sane by a step within the limits
limited-step : (k : Config) (reads : StatesRead) (w : World) (m : Move) (ms : List Move) → IsLimitedRun (setup_of k) w (m ∷ ms) → Good (setup_of k) w → Sane w → Sane (after (setup_of k) w m)
limited-step k reads w (First r) ms h good sane = life_sane (setup_of k) w (First r) tt sane
limited-step k reads w (Return r mark) ms h good sane = life_sane (setup_of k) w (Return r mark) tt sane
limited-step k reads w (Crash r) ms h good sane = life_sane (setup_of k) w (Crash r) tt sane
limited-step k reads w (W.Act r d) ms h good sane =
    let meets = h.0.meets in
    step_sane k reads w r meets.life good.sound sane meets.running d meets.can (h.1 meets.life meets.running)

limited-end : (k : Config) → StatesRead → (w : World) (ms : List Move) → IsLimitedRun (setup_of k) w ms → Good (setup_of k) w → Sane w → Good (setup_of k) (end_of (setup_of k) w ms) × Sane (end_of (setup_of k) w ms)
limited-end k reads w [] h good sane = (good, sane)
limited-end k reads w (m ∷ ms) h good sane =
    limited-end k reads (after (setup_of k) w m) ms h.2 (step_good (setup_of k) w m good h.0.meets) (limited-step k reads w m ms h good sane)

-- what steps of others leave of replica r
record Left (r : ℕ) (w v : World) : Type 0 where
  same : v.replicas r ≡ w.replicas r
  votes : Within w.votes v.votes

others-leave : (c : Setup) (r : ℕ) (w : World) (ms : List Move) → ((m : Move) → In m ms → who m ≢ r) → Left r w (end_of c w ms)
others-leave c r w [] other = record { same = refl; votes = λ x i. i }
others-leave c r w (m ∷ ms) other =
    let k = others-leave c r (after c w m) ms (λ x i. other x (inr i)) in
    record {
      same = k.same ∙ with_at-other w.replicas (who m) (replica_after c (w.replicas (who m)) m) r (λ e. other m (inl refl) (sym e));
      votes = λ x i. k.votes x (In-left x w.votes (ballots w m) i);
    }

-- ---- One thing after another

-- a node whose stage sits in its world
record Holds (c : Config) (number : ℕ) (n : Node) : Type 0 where
  sits : Sits c number n.world n.stage
  good : Good (setup_of c) n.world
  sane : Sane n.world
  settled : rejoin_view n.stage ≡ None

-- what a node comes to
record Comes (c : Config) (number : ℕ) (n : Node) (next : Next) : Type 0 where
  lawful : IsLawful c n next
  holds : Holds c number (node_after c n next)

sits-running : (c : Config) (number : ℕ) (w : World) (s : Stage) → Sits c number w s → (w.replicas c.me).running ≡ Some s.life
sits-running c number w s h = subst (λ (k : Config). (w.replicas k.me).running ≡ Some s.life) h.config h.running

sits-stable : (c : Config) (number : ℕ) (w : World) (s : Stage) → Sits c number w s → (w.replicas c.me).stable ≡ Some s.stable
sits-stable c number w s h = subst (λ (k : Config). (w.replicas k.me).stable ≡ Some s.stable) h.config h.stable

sits-settled : (c : Config) → Placed c → (number : ℕ) (w : World) (s : Stage) → Sits c number w s → rejoin_view s ≡ None → (view : ℕ) → ¬ CanRejoin (setup_of c) c.me s.life view
sits-settled c place number w s h none view can =
    let some : 0 < c.n = let two = place.more in omega arith in
    none-can w s view (subst (λ (k : Config). 0 < k.n) (sym h.config) some) h.fits none (subst (λ (k : Config). CanRejoin (setup_of k) k.me s.life view) (sym h.config) can)

module _ (c : Config) (place : Placed c) (number : ℕ) (n : Node) (h : Holds c number n) where
  -- what the stage does is lawful where it is over and told
  over-comes : (next : Next) → moves_by c n.stage next ≡ moves_of c.me (turned_by n.stage next).deeds → Over c number n.world n.stage.life (turned_by n.stage next) → Told n.stage.config n.stage.life [] (turned_by n.stage next)
      → rejoin_view (turned_by n.stage next).stage ≡ None → Comes c number n next
  over-comes next same o told settled =
      record {
        lawful = record {
          run = subst (λ (ms : List Move). IsRun k w ms) (sym same) o.run;
          running = sits-running c number v t.stage sits;
          stable = sits-stable c number v t.stage sits;
          sends = ap (λ (x : ℕ). sent_by (record { replica = c.me; number = x }) t.acts) h.sits.number_is
              ∙ append_cancel_left w.sent (sent_by (record { replica = c.me; number = number }) t.acts) (sends_along k w (moves_of c.me t.deeds))
              (sym o.sent ∙ ap (λ (x : World). x.sent) (sym o.ends) ∙ end-sent k w (moves_of c.me t.deeds));
          shows = told.shown ∙ ap (λ (x : Config). shown_over x n.stage.life t.deeds) h.sits.config
              ∙ sym (along-over c w n.stage.life t.deeds (sits-running c number w n.stage h.sits));
          handed = o.handed;
          onward = o.onward;
          served = o.sits.served;
          settled = sits-settled c place number v t.stage sits settled;
        };
        holds = record { sits = sits; good = subst (λ (x : World). Good k x) (sym ends) o.good; sane = subst (λ (x : World). Sane x) (sym ends) o.sane; settled = settled };
      }
    where
      k : Setup
      k = setup_of c

      w : World
      w = n.world

      t : Turned
      t = turned_by n.stage next

      v : World
      v = end_of (setup_of c) n.world (moves_by c n.stage next)

      ends : v ≡ o.world
      ends = ap (end_of k w) same ∙ o.ends

      sits : Sits c number v t.stage
      sits = subst (λ (x : World). Sits c number x t.stage) (sym ends) o.sits

  others-come : (ms : List Move) → MayCome c n (Others ms) → Comes c number n (Others ms)
  others-come ms may =
      record {
        lawful = record {
          run = limited-run (setup_of c) n.world ms may.0;
          running = sits-running c number v n.stage sits;
          stable = sits-stable c number v n.stage sits;
          sends = refl;
          shows = refl;
          handed = λ d i. absurd i;
          onward = record { known = λ i batch e. e; states = λ x i. i; installed = λ x i. i };
          served = h.sits.served;
          settled = sits-settled c place number v n.stage sits h.settled;
        };
        holds = record { sits = sits; good = ended.0; sane = ended.1; settled = h.settled };
      }
    where
      v : World
      v = end_of (setup_of c) n.world ms

      ended : Good (setup_of c) v × Sane v
      ended = limited-end c place.reads n.world ms may.0 h.good h.sane

      left : Left c.me n.world v
      left = others-leave (setup_of c) c.me n.world ms may.1

      sits : Sits c number v n.stage
      sits = sits-frame c number n.world v n.stage (subst (λ (k : Config). v.replicas k.me ≡ n.world.replicas k.me) (sym h.sits.config) left.same) left.votes h.sits

  repeats-come : (cursor : ℕ) → Comes c number n (Repeats cursor)
  repeats-come cursor = over-comes (Repeats cursor) refl both.0 both.1 both.2
    where
      s : Stage
      s = n.stage

      by : (o : Option (ℕ × Turned)) → retransmit s cursor ≡ o → Over c number n.world s.life (option_map_or (λ found. found.1) o (untouched s)) × Told s.config s.life [] (option_map_or (λ found. found.1) o (untouched s)) × (rejoin_view (option_map_or (λ found. found.1) o (untouched s)).stage ≡ None)
      by None e = (over-of c number n.world s (frame_of n.world s) s.life.phase (untouched s) h.sits.config h.sits.number_is refl refl refl refl refl (goes-untouched c number n.world s place h.sits h.good h.sane), told-untouched s, h.settled)
      by (Some found) e = let r = over-retransmit c number n.world s cursor found place h.sits h.good h.sane e in (r.0, retransmit-told s cursor found e, ap rejoin_view r.1 ∙ h.settled)

      both : Over c number n.world s.life (turned_by s (Repeats cursor)) × Told s.config s.life [] (turned_by s (Repeats cursor)) × (rejoin_view (turned_by s (Repeats cursor)).stage ≡ None)
      both = by (retransmit s cursor) refl

  comes : (next : Next) → MayCome c n next → Comes c number n next
  comes (Others ms) may = others-come ms may
  comes (Turns item room) may = over-comes (Turns item room) refl (over-turn c number n.world n.stage item room place h.sits h.good h.sane may).0 (turn-told n.stage item room)
      (turn-settled c number n.world n.stage item room place h.sits h.good h.sane may)
  comes (Serves d) may =
      over-comes (Serves d) refl (over-serves c number n.world n.stage d place h.sits h.good h.sane may)
      (serves-told d n.stage (λ i batch e. subst (λ (x : Decision). DecisionComes n.stage.life x) e may)) (serves-none d n.stage h.settled)
  comes (Repeats cursor) may = repeats-come cursor

all-lawful : (c : Config) (number : ℕ) → Placed c → (nexts : List Next) (n : Node) → Holds c number n → MayAllCome c n nexts → AreLawful c n nexts
all-lawful c number place [] n h may = tt
all-lawful c number place (next ∷ more) n h may =
    let k = comes c place number n h next may.0 in
    (k.lawful, all-lawful c number place more (node_after c n next) k.holds may.1)

-- ---- Starts

module _ (c : Config) (place : Placed c) (w : World) (o : Opened) (k : Opens c (suc (w.replicas c.me).starts) w o) where
  abbrev number : ℕ
  number = suc (w.replicas c.me).starts

  start-holds : Holds c number (node_of c w o)
  start-holds = record {
    sits = subst (λ (x : World). Sits c number x o.turned.stage) (sym k.over.ends) k.over.sits;
    good = subst (λ (x : World). Good (setup_of c) x) (sym k.over.ends) k.over.good;
    sane = subst (λ (x : World). Sane x) (sym k.over.ends) k.over.sane;
    settled = k.settled;
  }

  started : IsLawfulStart c w o
  started = record {
    run = (k.allowed, k.over.run);
    running = sits-running c number (node_of c w o).world o.turned.stage start-holds.sits;
    stable = sits-stable c number (node_of c w o).world o.turned.stage start-holds.sits;
    sends = append_cancel_left w.sent (sent_by (record { replica = c.me; number = number }) o.turned.acts) (sends_along (setup_of c) w (opening_moves c.me o))
        (ap (λ (xs : List Sent). xs ++ sent_by (record { replica = c.me; number = number }) o.turned.acts) (sym k.silent) ∙ sym k.over.sent ∙ ap (λ (x : World). x.sent) (sym k.over.ends)
        ∙ end-sent (setup_of c) w (opening_moves c.me o));
    shows = k.told.shown ∙ ap (λ (xs : List Step). shown_of w o.move ++ xs) (sym (along-over c (after (setup_of c) w o.move) k.life o.turned.deeds k.born));
    served = k.over.sits.served;
    settled = sits-settled c place number (node_of c w o).world o.turned.stage start-holds.sits k.settled;
  }

-- what happens after any steps within the limits is lawful
pub nodes_are_lawful : StatesRead → NodesAreLawful
nodes_are_lawful reads c inside two before limited o starts =
    let k = setup_of c in
    let w = end_of k W.opening before in
    let ended = limited-end c reads W.opening before limited (opening_good k) opening_sane in
    let number = suc (w.replicas c.me).starts in
    let place : Placed c = record { me = inside; more = two; reads = reads } in
    let s = opens c number (w.replicas c.me).stable w o place ended.0 ended.1 starts.down refl refl starts.opens in
    (started c place w o s, λ nexts may. all-lawful c number place nexts (node_of c w o) (start-holds c place w o s) may)
